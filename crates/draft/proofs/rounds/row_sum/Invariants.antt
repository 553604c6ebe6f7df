-- What is added up so far and the sum of what is left is the sum of all.
use Rattle.draft.proofs.RoundCode.{SumTo}
use Rattle.draft.proofs.rounds.row_sum.Given as goal

abbrev pub invariant-loop-edge : goal.invariant-loop-edge
invariant-loop-edge l =
    (goal.iterator-loop-edge).can_next l.edge-iterator ×
    (goal.iterator-loop-edge).is_finite l.edge-iterator ×
    SumTo l.values.list l.edges l.codes l.sum l.edge-iterator.a.rest.now l.edge-iterator.b.rest.now
