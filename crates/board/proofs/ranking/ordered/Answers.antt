-- Each turn lists one more, and in the end none is left.
use Rattle.std.proofs.Common.{arith, refl}
use Rattle.board.proofs.SlotLaws.{still-good}
use Rattle.board.proofs.RankLaws.{zero-at, begun, less, one-listed, orders}
use Rattle.board.proofs.ranking.ordered.Goals as goal

pub loop-next-init : goal.loop-next-init
loop-next-init c = record { good = c.requires; sofar = begun c.args.slots _ (omega arith) refl (zero-at 16) }

pub bounds-order-count : goal.bounds-order-count
bounds-order-count c = less _ _ _ _ c.in-Some.next c.in-Some.ensures c.loop-next.invariant.sofar

pub loop-next-smaller : goal.loop-next-smaller
loop-next-smaller c = omega (arith, less _ _ _ _ c.in-Some.next c.in-Some.ensures c.loop-next.invariant.sofar)

pub loop-next-preserved : goal.loop-next-preserved
loop-next-preserved c = record {
  good = still-good c.loop-next.left c.in-Some.next.at c.loop-next.invariant.good;
  sofar = one-listed _ _ _ _ c.in-Some.next c.in-Some.ensures c.loop-next.invariant.sofar;
}

pub returns : goal.returns
returns c = orders _ _ _ _ c.loop-next.invariant.sofar c.in_default.ensures
