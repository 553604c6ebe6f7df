-- The first of the held slots, slot by slot. Assumes nothing.
use Prim.Native.Nat.{ℕ, suc, ◌+◌, ◌<◌, ◌≤◌}
use native.Mathlib.Nat.{eq-or-lt_of_le}
use native.Mathlib.Omega.{arith}
use mathlib.Core.Path.{◌≡◌, refl, sym, ap, subst, ◌∙◌}
use mathlib.Core.Logic.{◌⊎◌, inl, inr, ⊎_elim}
use mathlib.Core.Bool.{Bool, true, false, not, cond, ◌&&◌}
use mathlib.Core.List.{List, [], ◌∷◌}
use Rattle.std.specs.Prelude.{Option, None, Some, fold, get_or, length}
use Rattle.std.specs.List.{enumerate_from}
use lib.Dec.{T, eqb, eqb→eq, eqb_refl}
use Rattle.zone.proofs.Bools.{and}
use Rattle.slots.specs.declared.Slot.{Slot}
use Rattle.slots.specs.Slots.{vacant, slot_at}
use Rattle.board.specs.declared.submissions.Placed.{Placed}
use Rattle.board.specs.Ranking.{ahead?, held?}
use Rattle.board.specs.Ordering.{before?, better_of, IsFirst, FirstHeld}
use Rattle.std.proofs.Math.Facts.{T_not}
use Rattle.board.proofs.Tests.{dec, first_of, second-of}
use Rattle.board.proofs.OrderLaws.{ahead-trans, ahead-either}

-- the slots below m + 1 are m and those below m
pub below : {X : Type 0} (k m : ℕ) → k < m + 1 → (k ≡ m → X) → (k < m → X) → X
below k m l f g = ⊎_elim f g (eq-or-lt_of_le (le k m l))
  where
    le : (k m : ℕ) → k < m + 1 → k ≤ m
    le k m l = omega arith

module _ (ss : List Slot) (positive : (n : ℕ) → T (held? ss n) → 0 < (slot_at ss n).whole) (m : ℕ) (m16 : m < 16) where
  abbrev new : Placed
  new = record { at = m; slot = slot_at ss m }

  at_m : {X : Type 0} (k : ℕ) → T (held? ss k) → (T (held? ss m) → X) → k ≡ m → X
  at_m k p f e = f (subst (λ (j : ℕ). T (held? ss j)) e p)

  -- slot m is the first that is held
  begins : ((k : ℕ) → k < m → T (held? ss k) → ⊥) → T (held? ss m) → IsFirst ss (m + 1) new
  begins none h = record { there = m16; slot = refl; held = h; first = λ k l p. below k m l (λ e. inl e) (λ l'. absurd (none k l' p)) }

  module _ (best : Placed) (f : IsFirst ss m best) where
    -- slot m is the first
    new-first : T (held? ss m) → T (ahead? ss m best.at) → IsFirst ss (m + 1) new
    new-first h a = record { there = m16; slot = refl; held = h; first = λ k l p. below k m l (λ e. inl e) (λ l'. over k l' p) }
      where
        over : (k : ℕ) → k < m → T (held? ss k) → (k ≡ m) ⊎ T (ahead? ss m k)
        over k l p =
            inr (⊎_elim (λ e. subst (λ (j : ℕ). T (ahead? ss m j)) (sym e) a) (λ z. ahead-trans ss positive m best.at k h f.held p a z) (f.first k l p))

    -- the first is still the one before
    old-first : T (not (held? ss m && ahead? ss m best.at)) → IsFirst ss (m + 1) best
    old-first c = record {
      there = f.there;
      slot = f.slot;
      held = f.held;
      first = λ k l p. below k m l (λ e. at_m k p (λ h. here h k e) e) (λ l'. f.first k l' p);
    }
      where
        here : T (held? ss m) → (k : ℕ) → k ≡ m → (k ≡ best.at) ⊎ T (ahead? ss best.at k)
        here p k e =
            ⊎_elim (λ q. inl (e ∙ eqb→eq m best.at q))
            (λ q. inr (subst (λ (j : ℕ). T (ahead? ss best.at j)) (sym e)
            (ahead-either ss m best.at (λ z. T_not (eqb m best.at) (subst (λ (j : ℕ). T (eqb m j)) z (eqb_refl m)) q)
            (⊎_elim (λ a. absurd (T_not (held? ss m && ahead? ss m best.at) (and (held? ss m) (ahead? ss m best.at) p a) c)) (λ a. a)
            (dec (ahead? ss m best.at))))))
            (dec (eqb m best.at))

  pub one_more : (best : Option Placed) → FirstHeld ss m best → FirstHeld ss (m + 1) (better_of (slot_at ss m) m best)
  unfolding better_of
  one_more None none = by (held? ss m) (begins none) (λ h k l p. below k m l (at_m k p (λ t. T_not (held? ss m) t h)) (λ l'. none k l' p))
    where
      by : (b : Bool) → (T b → IsFirst ss (m + 1) new) → (T (not b) → (k : ℕ) → k < m + 1 → T (held? ss k) → ⊥) →
          FirstHeld ss (m + 1) (cond (b && true) (Some new) None)
      by true x y = x tt
      by false x y = y tt
  one_more (Some best) f =
      subst (λ (b : Slot). FirstHeld ss (m + 1) (cond (held? ss m && before? (slot_at ss m) m b best.at) (Some new) (Some best))) (sym f.slot)
      (by (held? ss m && ahead? ss m best.at)
      (λ t. new-first best f (first_of (held? ss m) (ahead? ss m best.at) t) (second-of (held? ss m) (ahead? ss m best.at) t)) (old-first best f))
    where
      by : (c : Bool) → (T c → IsFirst ss (m + 1) new) → (T (not c) → IsFirst ss (m + 1) best) → FirstHeld ss (m + 1) (cond c (Some new) (Some best))
      by true x y = x tt
      by false x y = y tt

-- the first of all of them: xs are the slots from m on
pub first_of_all : (ss : List Slot) → ((n : ℕ) → T (held? ss n) → 0 < (slot_at ss n).whole) → (xs : List Slot) (m : ℕ) (best : Option Placed) →
    ((i : ℕ) → get_or xs i vacant ≡ slot_at ss (m + i)) → m + length xs ≡ 16 → FirstHeld ss m best →
    FirstHeld ss 16 (fold (λ best p. better_of p.1 p.0 best) best (enumerate_from m xs))
first_of_all ss positive [] m best same e f = let z : m ≡ 16 = omega (arith, e) in subst (λ (k : ℕ). FirstHeld ss k best) z f
first_of_all ss positive (x ∷ xs) m best same e f =
    let z : m + 0 ≡ m = omega arith in
    let here : x ≡ slot_at ss m = same 0 ∙ ap (slot_at ss) z in
    first_of_all ss positive xs (m + 1) (better_of x m best) (λ i. same (suc i) ∙ ap (slot_at ss) (omega arith)) (omega (arith, e))
    (subst (λ (s : Slot). FirstHeld ss (m + 1) (better_of s m best)) (sym here) (one_more ss positive m (omega (arith, e)) best f))
