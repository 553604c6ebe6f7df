use Rattle.zone.specs.Cells.{past_end}
use Rattle.zone.specs.Squares.{met}
use Rattle.zone.proofs.Loops.{Filled}
use Rattle.zone.proofs.zones.Zone.meet.Given as goal

-- the bounds below p are the tighter of the two zones', and the others are still the first zone's
abbrev pub invariant-loop-p : goal.invariant-loop-p
invariant-loop-p l = Filled past_end 25 (met l.fn.self l.fn.other).cells l.fn.self.cells l.p l.bound-items
