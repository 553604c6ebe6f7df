-- What was found of the slots read is the ranking of the slots lent. Assumes nothing.
use mathlib.Core.Path.{◌≡◌, refl, sym, subst}
use mathlib.Core.Logic.{inl, inr}
use mathlib.Core.Bool.{true, false}
use mathlib.Core.List.{List}
use Rattle.std.specs.Prelude.{ℕ, Result, Ok, Err}
use Rattle.board.specs.Board.{all_good?}
use lib.Dec.{T}
use Rattle.answers.specs.Checks.{refused, accepted}
use Rattle.slots.specs.declared.Slot.{Slot}
use Rattle.board.specs.declared.ranking.Ranking.{Ranking}
use Rattle.board.specs.Ranking.{InRank}
use Rattle.board.specs.Replies.{ranking_of}
use Rattle.board.specs.Deciding.{good_lent?}
use Rattle.board.specs.Ordering.{Orders, RanksLent}
use Rattle.board.proofs.DecisionLaws.{as_good, as_read}

pub not-ranked : (lent : Result (List Slot) ℕ) → (T (good_lent? lent) → ⊥) → RanksLent lent (ranking_of (refused 54 0))
not-ranked lent bad = record {
  ranks = λ ss h. record {
    said = refused 54 0;
    replies = refl;
    ranked = record { says = inr ((λ t. bad (subst T (sym (as_good ss lent h)) t)), refl) };
  };
}

pub not_read : (n : ℕ) → RanksLent (Err n) (ranking_of (refused 54 0))
not_read n = not-ranked (Err n) (λ t. t)

pub not_good : (slots : List Slot) → all_good? slots ≡ false → RanksLent (Ok slots) (ranking_of (refused 54 0))
not_good slots e = not-ranked (Ok slots) (λ t. subst T e t)

pub all_ranked : (slots : List Slot) (r : Ranking) → all_good? slots ≡ true → Orders slots r → RanksLent (Ok slots) r
all_ranked slots r e o =
    let good : T (all_good? slots) = subst T (sym e) tt in
    record {
      ranks = λ ss h. record {
        said = accepted o.order;
        replies = o.fills;
        ranked = record { says = inl (subst T (as_good ss (Ok slots) h) good, subst (λ (x : List Slot). InRank x o.order) (as_read ss (Ok slots) h good) o.in_rank) };
      };
    }
