-- `all`: before each node, judging the rest gives what the whole walk gives.
use Rattle.judge.specs.Looking.{all_of}
use Rattle.judge.specs.declared.judging.Judging.{Judging}
use Rattle.judge.proofs.WalkLaws.{AtNode}
use Rattle.judge.proofs.judging.Judging.all.Given as goal

abbrev pub invariant-loop-n : goal.invariant-loop-n
invariant-loop-n l =
    let j : Judging = l.self in
    AtNode j.words.now j.model.now j.table.now (all_of j) j.table.now.count l.n
