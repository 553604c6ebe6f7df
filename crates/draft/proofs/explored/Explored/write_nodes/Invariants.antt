-- The nodes are put but for those that are left.
use Rattle.draft.proofs.WritingLaws.{Put}
use Rattle.draft.proofs.explored.Explored.write_nodes.Given as goal

abbrev pub invariant-loop-node : goal.invariant-loop-node
invariant-loop-node l =
    (goal.iterator-loop-node).can_next l.node-iterator ×
    (goal.iterator-loop-node).is_finite l.node-iterator ×
    Put l.self.nodes.now l.values.list l.words l.at l.node-iterator.a.rest.now l.node-iterator.b.rest.now
