-- Loops over arrays: one that fills an array from the front, and one that asks a test at every number. Assumes nothing.
use Prim.Native.Nat.{ℕ, zero, suc, ◌+◌, ◌/◌, ◌%◌, ◌≤◌, ◌<◌}
use mathlib.Core.Path.{◌≡◌, refl, sym, ap, ap₂, subst, ◌∙◌}
use mathlib.Core.Bool.{Bool, true, false, ◌&&◌}
use mathlib.Core.List.{List, ◌∷◌}
use mathlib.Core.Logic.{◌⊎◌, inl, inr}
use native.Mathlib.Nat.{
  add-zero,
  add-suc,
  suc-add,
  zero-add,
  eq-or-lt_of_le,
  le_of_suc-le-suc,
  not-suc-le-zero,
  div-add-mod',
}
use native.Mathlib.Numerals.{add-one}
use native.Mathlib.Omega.{arith}
use lib.ListN.{length, get_or, set, replicate, length-set, get_or-eq_default}
use lib.Seq.{get_or-set_same, get_or-set_other, ext_get_or}
use Rattle.zone.specs.Cells.{past_end}
use Rattle.zone.specs.Squares.{cell, list_of, all?}
use Rattle.zone.specs.declared.bounds.Bound.{Bound as Cell}
use Rattle.zone.specs.declared.zones.Zone.{Zone as Square}
use Rattle.zone.proofs.Bools.{true_false, false_true}
use Rattle.zone.proofs.Integers.{lt-or-ge}

-- the cell at an index is that of the index's two clocks
pub at-clocks : (z : Square) (p : ℕ) → cell z (p / 5) (p % 5) ≡ get_or z.cells p past_end
at-clocks z p = ap (λ (k : ℕ). get_or z.cells k past_end) (div-add-mod' p 5)

-- ---- the list of a function's values
pub list_of-length : {A : Type 0} (f : ℕ → A) (n p : ℕ) → length (list_of f n p) ≡ n
unfolding list_of
list_of-length f zero p = refl
list_of-length f (suc n) p = ap suc (list_of-length f n (suc p))

from : {A : Type 0} (d : A) (f : ℕ → A) (n p k : ℕ) → k < n → get_or (list_of f n p) k d ≡ f (p + k)
unfolding list_of
from d f zero p k h = absurd (not-suc-le-zero h)
from d f (suc n) p zero h = ap f (sym (add-zero p))
from d f (suc n) p (suc k) h = from d f n (suc p) k (le_of_suc-le-suc h) ∙ ap f (suc-add p k ∙ sym (add-suc p k))

pub list_of-at : {A : Type 0} (d : A) (f : ℕ → A) (n k : ℕ) → k < n → get_or (list_of f n 0) k d ≡ f k
list_of-at d f n k h = from d f n 0 k h ∙ ap f (zero-add k)

-- what every value has, and what is read past the end, every read has
pub list_of-all :
    {A : Type 0} (P : A → Type 0) (d : A) (f : ℕ → A) (n : ℕ) → P d → ((k : ℕ) → P (f k)) → (k : ℕ) → P (get_or (list_of f n 0) k d)
list_of-all P d f n p h k = by (lt-or-ge k n)
  where
    by : (k < n) ⊎ (n ≤ k) → P (get_or (list_of f n 0) k d)
    by (inl l) = rw (list_of-at d f n k l) (h k)
    by (inr l) = let e = list_of-length f n 0 in rw (get_or-eq_default (list_of f n 0) d {n = k} (omega arith)) p

-- two functions with the same values have the same list
pub list_of-same : {A : Type 0} (f g : ℕ → A) (n p : ℕ) → ((k : ℕ) → k < p + n → f k ≡ g k) → list_of f n p ≡ list_of g n p
unfolding list_of
list_of-same f g zero p h = refl
list_of-same f g (suc n) p h = ap₂ ◌∷◌ (h p (omega arith)) (list_of-same f g n (suc p) (λ k l. h k (omega arith)))

-- ---- a list of one value alone
pub same_at : {A : Type 0} (n q : ℕ) (a : A) → get_or (replicate n a) q a ≡ a
same_at zero q a = refl
same_at (suc n) zero a = refl
same_at (suc n) (suc q) a = same_at n q a

-- ---- an array of n values that has the goal's below p, and from p on those that it had; d is what it reads past its end
pub record Filled {A : Type 0} (d : A) (n : ℕ) (goal old : List A) (p : ℕ) (xs : List A) : Type 0 where
  pub size : length xs ≡ n
  pub done : (k : ℕ) → k < p → get_or xs k d ≡ get_or goal k d
  pub rest : (k : ℕ) → p ≤ k → get_or xs k d ≡ get_or old k d

module _ {A : Type 0} {d : A} {n : ℕ} {goal old : List A} where
  pub unfilled : length old ≡ n → Filled d n goal old 0 old
  unfilled e = record { size = e; done = λ k h. absurd (not-suc-le-zero h); rest = λ k h. refl }

  module _ {p : ℕ} {xs : List A} (t : Filled d n goal old p xs) where
    -- one value more is stored
    pub stored : (v : A) → p < n → v ≡ get_or goal p d → Filled d n goal old (p + 1) (set xs p v)
    stored v h e = record {
      size = length-set xs p v ∙ t.size;
      done = λ k l. at k (lt-or-ge k p) l;
      rest = λ k l. get_or-set_other xs p k v d (λ q. omega arith) ∙ t.rest k (omega arith);
    }
      where
        at : (k : ℕ) → (k < p) ⊎ (p ≤ k) → k < p + 1 → get_or (set xs p v) k d ≡ get_or goal k d
        at k (inl l) g = get_or-set_other xs p k v d (λ q. omega arith) ∙ t.done k l
        at k (inr l) g =
            let q : k ≡ p = omega arith in
            let s = t.size in
            rw q (get_or-set_same xs p v d (omega arith) ∙ e)

    -- the values up to q are there already
    pub kept : (q : ℕ) → p ≤ q → ((k : ℕ) → p ≤ k → k < q → get_or old k d ≡ get_or goal k d) → Filled d n goal old q xs
    kept q h e = record {
      size = t.size;
      done = λ k l. at k (lt-or-ge k p) l;
      rest = λ k l. t.rest k (omega arith);
    }
      where
        at : (k : ℕ) → (k < p) ⊎ (p ≤ k) → k < q → get_or xs k d ≡ get_or goal k d
        at k (inl l) g = t.done k l
        at k (inr l) g = t.rest k l ∙ e k l g

    pub same_place : {q : ℕ} → p ≡ q → Filled d n goal old q xs
    same_place e = subst (λ k. Filled d n goal old k xs) e t

    pub all-filled : length goal ≡ n → n ≤ p → xs ≡ goal
    all-filled e h = let s = t.size in ext_get_or d xs goal (t.size ∙ sym e) (λ k l. t.done k (omega arith))

-- a square table that is filled
pub filled : {goal old : List Cell} {p : ℕ} {xs : List Cell} → Filled past_end 25 goal old p xs → length goal ≡ 25 → 25 ≤ p →
    ◌≡◌ {A = Square} (record { cells = xs }) (record { cells = goal })
filled t e h = ap (λ (cs : List Cell). record { cells = cs }) (all-filled t e h)

-- ---- a test at every number below n
pub all_pass : (n : ℕ) (f : ℕ → Bool) → ((k : ℕ) → k < n → f k ≡ true) → all? n f ≡ true
unfolding all?
all_pass zero f h = refl
all_pass (suc n) f h = rw (all_pass n f (λ k l. h k (omega arith)), h n (omega arith))

-- and one number more
pub all_more : (n : ℕ) (f : ℕ → Bool) {a b : Bool} → a ≡ all? n f → b ≡ f n → (a && b) ≡ all? (n + 1) f
unfolding all?
all_more n f e g = rw (add-one n, e, g)

-- a test that passes at every number below n passes at each
pub all-at : (n : ℕ) (f : ℕ → Bool) → all? n f ≡ true → (i : ℕ) → i < n → f i ≡ true
unfolding all?
all-at zero f e i h = absurd (omega arith)
all-at (suc n) f e i h = by (all? n f) (f n) (all-at n f) refl e (eq-or-lt_of_le (le_of_suc-le-suc h))
  where
    by : (a b : Bool) → (a ≡ true → (i : ℕ) → i < n → f i ≡ true) → b ≡ f n → a && b ≡ true → (i ≡ n) ⊎ (i < n) → f i ≡ true
    by true b rest e t (inl q) = ap f q ∙ sym e ∙ t
    by true b rest e t (inr l) = rest refl i l
    by false b rest e t q = false_true t

-- a test that does not pass at every number below n fails at one of them
pub all-fails : (n : ℕ) (f : ℕ → Bool) → all? n f ≡ false → (i : ℕ) × (i < n) × (f i ≡ false)
unfolding all?
all-fails zero f e = true_false e
all-fails (suc n) f e = by (all? n f) (f n) (all-fails n f) refl e
  where
    by : (a b : Bool) → (a ≡ false → (i : ℕ) × (i < n) × (f i ≡ false)) → f n ≡ b → a && b ≡ false → (i : ℕ) × (i < suc n) × (f i ≡ false)
    by true true rest q t = true_false t
    by true false rest q t = (n, omega arith, q)
    by false b rest q t = let r = rest refl in (r.0, omega (arith, r.1), r.2)
