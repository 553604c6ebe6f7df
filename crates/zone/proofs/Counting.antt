-- How many of the numbers below n pass a test. Assumes nothing.
use Prim.Native.Nat.{ℕ, zero, suc, ◌+◌, ◌≤◌, ◌<◌}
use mathlib.Core.Path.{◌≡◌, refl, subst, sym}
use mathlib.Core.Bool.{Bool, true, false}
use mathlib.Core.Logic.{◌⊎◌, inl, inr}
use native.Mathlib.Nat as N
use native.Mathlib.Omega.{arith}
use lib.Dec.{T}

-- 1 for a test that passes
abbrev pub bit : Bool → ℕ
bit true = 1
bit false = 0

pub bit-small : (s : Bool) → bit s ≤ 1
bit-small true = omega arith
bit-small false = omega arith

pub bit-one : (s : Bool) → T s → bit s ≡ 1
bit-one true t = refl
bit-one false t = absurd t

pub one_bit : (s : Bool) → 1 ≤ bit s → T s
one_bit true h = tt
one_bit false h = absurd (omega arith)

unfoldable pub count : ℕ → (ℕ → Bool) → ℕ
count zero f = 0
count (suc n) f = count n f + bit (f n)

bit_le : (a b : Bool) → (T a → T b) → bit a ≤ bit b
bit_le true true h = omega arith
bit_le true false h = absurd (h tt)
bit_le false b h = omega arith

bit-lt : (a b : Bool) → (T a → ⊥) → T b → bit a < bit b
bit-lt true b h t = absurd (h tt)
bit-lt false true h t = omega arith
bit-lt false false h t = absurd t

pub count-le : (n : ℕ) (f g : ℕ → Bool) → ((l : ℕ) → l < n → T (f l) → T (g l)) → count n f ≤ count n g
unfolding count
count-le zero f g h = omega arith
count-le (suc n) f g h = omega (arith, count-le n f g (λ l k. h l (omega arith)), bit_le (f n) (g n) (h n (omega arith)))

-- one that passes the second test alone
pub count-lt : (n : ℕ) (f g : ℕ → Bool) → ((l : ℕ) → l < n → T (f l) → T (g l)) → (i : ℕ) → i < n → (T (f i) → ⊥) → T (g i) →
    count n f < count n g
unfolding count
count-lt zero f g h i k out passes = absurd (omega arith)
count-lt (suc n) f g h i k out passes = by (N.eq-or-lt_of_le (N.le_of_suc-le-suc k)) (count-lt n f g (λ l m. h l (omega arith)) i)
  where
    by : (i ≡ n) ⊎ (i < n) → (i < n → (T (f i) → ⊥) → T (g i) → count n f < count n g) → count n f + bit (f n) < count n g + bit (g n)
    by (inl e) r =
        omega (
          arith,
          count-le n f g (λ l m. h l (omega arith)),
          bit-lt (f n) (g n) (λ t. out (subst (λ x. T (f x)) (sym e) t)) (subst (λ x. T (g x)) e passes),
        )
    by (inr l) r = omega (arith, r l out passes, bit_le (f n) (g n) (h n (omega arith)))

count-all : (n : ℕ) → count n (λ l. true) ≡ n
unfolding count
count-all zero = refl
count-all (suc n) = omega (arith, count-all n)

-- one that does not pass
pub count-few : (n : ℕ) (f : ℕ → Bool) (i : ℕ) → i < n → (T (f i) → ⊥) → count n f < n
count-few n f i h out = omega (arith, count-lt n f (λ l. true) (λ l _ _. tt) i h out tt, count-all n)

count_no : (n : ℕ) → count n (λ l. false) ≡ 0
unfolding count
count_no zero = refl
count_no (suc n) = omega (arith, count_no n)

pub count_none : (n : ℕ) (f : ℕ → Bool) → ((l : ℕ) → l < n → T (f l) → ⊥) → count n f ≡ 0
count_none n f h = omega (arith, count-le n f (λ l. false) (λ l k t. absurd (h l k t)), count_no n)
