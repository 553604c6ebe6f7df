use Rattle.std.proofs.Common.{◌+◌, ◌*◌}
use Rattle.zone.specs.Cells.{past_end}
use Rattle.zone.specs.Squares.{reset_square}
use Rattle.zone.proofs.Loops.{Filled}
use Rattle.zone.proofs.zones.Zone.reset.Given as goal

-- the cells before (i, j) are those of the reset table, the others still the zone's
abbrev pub invariant-loop-j : goal.invariant-loop-j
invariant-loop-j l = Filled past_end 25 (reset_square l.mask l.self).cells l.self.cells (l.i * 5 + l.j) l.out.cells

abbrev pub invariant-loop-i : goal.invariant-loop-i
invariant-loop-i l = Filled past_end 25 (reset_square l.mask l.self).cells l.self.cells (l.i * 5) l.out.cells
