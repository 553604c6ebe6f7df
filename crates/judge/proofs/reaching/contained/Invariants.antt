-- `contained`: the flags of the nodes so far are set.
use Rattle.judge.proofs.ContainedLaws.{FlagsBelow}
use Rattle.judge.proofs.reaching.contained.Given as goal

abbrev pub invariant-loop-n : goal.invariant-loop-n
invariant-loop-n l = FlagsBelow l.invariants l.nodes l.n l.flags
