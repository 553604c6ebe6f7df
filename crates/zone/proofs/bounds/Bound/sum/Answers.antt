-- Keys of small bounds add without overflow, and taking off the excess stays in range.
use Rattle.std.proofs.Common.{ap, arith}
use Rattle.std.proofs.lemmas.Int.{ints}
use Rattle.zone.specs.Cells.{sum}
use Rattle.zone.proofs.KeyLaws.{size-mag}
use Rattle.zone.proofs.bounds.Bound.sum.Goals as goal

pub overflow_add-result : goal.overflow_add-result
overflow_add-result c = omega (arith, ints, size-mag c.args.self c.requires.0, size-mag c.args.other c.requires.1)

pub overflow_sub-result : goal.overflow_sub-result
overflow_sub-result c = omega (arith, ints, size-mag c.args.self c.requires.0, size-mag c.args.other c.requires.1, c.excess.ensures)

pub returns : goal.returns
unfolding sum
returns c = ap (λ k. record { key = k }) (omega (arith, ints, size-mag c.args.self c.requires.0, size-mag c.args.other c.requires.1, c.excess.ensures))
