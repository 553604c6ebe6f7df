-- `rows`: before each row and successor, judging the rest gives what all rows give.
use Rattle.judge.specs.Looking.{rows_of}
use Rattle.judge.specs.declared.judging.Judging.{Judging}
use Rattle.judge.proofs.WalkLaws.{AtRow, AtSuccessor}
use Rattle.judge.proofs.judging.Judging.rows.Given as goal

abbrev pub invariant-loop-a : goal.invariant-loop-a
invariant-loop-a l =
    let j : Judging = l.self in
    AtRow j.words.now j.model.now j.table.now (rows_of j l.n) l.waited l.node.value l.a-iterator.end l.at l.a-iterator.start

abbrev pub invariant-loop-e : goal.invariant-loop-e
invariant-loop-e l =
    let j : Judging = l.self in
    AtSuccessor j.words.now j.model.now j.table.now (rows_of j l.n) l.waited l.node.value l.a-iterator.end l.a l.reach l.limit l.at l.sum l.e
