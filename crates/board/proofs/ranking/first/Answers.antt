-- The fold takes the slots one by one.
use Rattle.std.proofs.Common.{rules, arith, sym, subst, ◌≡◌, ap}
use Rattle.std.specs.Prelude.{None, fold}
use Rattle.std.specs.List.{enumerate_from}
use Rattle.std.proofs.lemmas.Iterator.{YieldsList-from_slice}
use Rattle.std.proofs.lemmas.Iterator.Consumers.{YieldsList-from_enumerate, fold_from_yields_List}
use Rattle.slots.specs.Slots.{slot_at}
use Rattle.board.specs.Ordering.{FirstHeld, better_of}
use Rattle.board.proofs.OrderLaws.{positive_of}
use Rattle.board.proofs.PickLaws.{first_of_all}
use Rattle.board.proofs.ranking.first.Goals as goal

pub returns : goal.returns
returns c =
    let slots = c.args.slots.now in
    let folded : c.fold.result ≡ fold (λ best p. better_of p.1 p.0 best) None (enumerate_from 0 slots) =
    fold_from_yields_List _ (λ best p. better_of p.1 p.0 best) None _ c.fold.ensures.ran
    (YieldsList-from_enumerate (YieldsList-from_slice slots cc) cc) (λ a x b q k. search rules) in
    subst (FirstHeld slots 16) (sym folded)
    (first_of_all slots (positive_of slots c.requires) slots 0 None (λ i. ap (slot_at slots) (omega arith)) (omega arith) (λ m l h. absurd (omega arith)))
