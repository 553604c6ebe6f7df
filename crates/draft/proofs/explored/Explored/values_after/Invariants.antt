-- The rounds that are left lead from here to where all lead from V; they change none once a round has changed none.
use Rattle.draft.proofs.RoundCode.{RoundsTo}
use Rattle.draft.proofs.explored.Explored.values_after.Given as goal

abbrev pub invariant-loop-n : goal.invariant-loop-n
invariant-loop-n l = RoundsTo l.self.source.model.now l.self.nodes.now l.rounds l.values.0 l._n
