-- 1 less the key of a small bound is in range.
use Rattle.std.proofs.Common.{ap, arith}
use Rattle.std.proofs.lemmas.Int.{ints}
use Rattle.zone.specs.Cells.{negated}
use Rattle.zone.proofs.KeyLaws.{size-mag}
use Rattle.zone.proofs.bounds.Bound.negated.Goals as goal

pub overflow_sub-result : goal.overflow_sub-result
overflow_sub-result c = omega (arith, ints, size-mag c.args.self c.requires)

pub returns : goal.returns
unfolding negated
returns c = ap (λ k. record { key = k }) (omega (arith, ints, size-mag c.args.self c.requires))
