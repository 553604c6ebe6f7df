use Rattle.std.proofs.Common.{◌≡◌, ◌≤◌, ◌-◌, suc, max}
use Rattle.zone.specs.Points.{rounds_of}
use Rattle.zone.proofs.points.rounds.Given as goal

-- before the round of number `counter`, from 1 on, the clocks read what they do after one round less
abbrev pub invariant-loop : goal.invariant-loop
invariant-loop l = (l.counter ≤ max 1 l.fn.clocks.count) × (l.reads.clocks ≡ rounds_of (suc l.fn.clocks.count) l.zone (l.counter - 1))
