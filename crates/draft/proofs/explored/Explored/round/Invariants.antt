-- The values of the nodes so far are replaced, each by what the old ones give; those that it gives again are left as they are.
use Rattle.draft.proofs.RoundCode.{RoundTo}
use Rattle.draft.proofs.explored.Explored.round.Given as goal

abbrev pub invariant-loop-n : goal.invariant-loop-n
invariant-loop-n l = RoundTo l.self.source.model.now l.self.nodes.now l.values.list l.list l.changed l.n
