use Rattle.std.proofs.Common.{◌+◌, ◌*◌}
use Rattle.zone.specs.Cells.{past_end}
use Rattle.zone.specs.Squares.{passed}
use Rattle.zone.proofs.Loops.{Filled}
use Rattle.zone.proofs.zones.Zone.passed.Given as goal

-- the cells before (i, j) are the pass's, and the others are still the old table's
abbrev pub invariant-loop-j : goal.invariant-loop-j
invariant-loop-j l = Filled past_end 25 (passed l.m l.self).cells l.self.cells (l.i * 5 + l.j) l.out.cells

abbrev pub invariant-loop-i : goal.invariant-loop-i
invariant-loop-i l = Filled past_end 25 (passed l.m l.self).cells l.self.cells (l.i * 5) l.out.cells
