use Rattle.std.proofs.Common.{◌≡◌, ◌%◌}
use Rattle.zone.specs.Cells.{past_end}
use Rattle.zone.specs.Squares.{delayed_square}
use Rattle.zone.proofs.Loops.{Filled}
use Rattle.zone.proofs.zones.Zone.delay.Given as goal

-- the cells below p, where a row begins, are those of the delayed table, and the others are still the zone's own
abbrev pub invariant-loop-p : goal.invariant-loop-p
invariant-loop-p l = record {
  row : l.p % 5 ≡ 0;
  filled : Filled past_end 25 (delayed_square l.fn.self).cells l.fn.self.cells l.p l.self.cells;
}
