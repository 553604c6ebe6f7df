use Rattle.std.proofs.Common.{◌≡◌}
use Rattle.zone.specs.Points.{round_below}
use Rattle.zone.proofs.points.round.Given as goal

-- `least` has what the bounds with the clocks below i ask
abbrev pub invariant-loop-i : goal.invariant-loop-i
invariant-loop-i l = l.least.clocks ≡ round_below l.i l.n l.zone l.fn.reads.clocks
