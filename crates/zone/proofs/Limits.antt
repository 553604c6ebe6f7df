-- Bounds of any size, each given by its key, meet the laws that the theory of zones rests on (`bounds`). Assumes nothing.
use mathlib.Core.Path.{◌≡◌, refl, ap}
use mathlib.Core.Logic.{◌⊎◌, inl, inr}
use mathlib.Core.Bool.{Bool, true, false, not, cond}
use Prim.Native.Nat.{ℕ, zero, suc, ◌+◌, ◌*◌, ◌-◌, ◌≤◌, ◌<◌, max}
use native.Mathlib.Nat as N
use native.Mathlib.Omega.{arith}
use lib.Dec.{T, eqb}
use lib.IntN.{ℤ, pos, negsuc, neg_ℤ, ◌+ℤ◌, ◌-ℤ◌}
use lib.Signed.{lt_z}
use Rattle.zone.specs.Keys.{half, lowest}
use Rattle.zone.specs.Cells.{sum_key}
use Rattle.zone.proofs.Bools.{not-not}
use Rattle.zone.proofs.Integers as I
use Rattle.zone.proofs.Integers.{lt-or-ge, up, dn, lt_z→, nlt_z→, parts_add, parts-less, up_neg, dn-neg}
use Rattle.zone.proofs.Counting.{bit}
use Rattle.zone.proofs.Theory.BoundLaws.{BoundLaws}
use Rattle.zone.proofs.Theory.OneScale.{Chained, Parts}

-- no bound, or the bound with this key
pub data Limit : Type 0 where
  none : Limit
  keyed : ℤ → Limit

-- ---- a key is twice its half, rounded down, and one more if it is odd
pub record Halved (z : ℤ) : Type 0 where
  pub parts : up z + 2 * dn (half z) ≡ 2 * up (half z) + dn z + lowest z
  pub small : lowest z < 2

pub halved : (z : ℤ) → Halved z
halved (pos n) = omega arith
halved (negsuc n) = omega arith

-- ---- the order: that of the keys
abbrev pub Below : Limit → Limit → Type 0
Below a none = Unit
Below none (keyed z) = ⊥
Below (keyed y) (keyed z) = up y + dn z ≤ up z + dn y

infix 50 ◌⊑◌
pub record ◌⊑◌ (a b : Limit) : Type 0 where
  pub at : Below a b

pub ⊑-none : (a : Limit) → a ⊑ none
⊑-none a = record { at = tt }

pub ⊑_refl : (a : Limit) → a ⊑ a
⊑_refl none = ⊑-none none
⊑_refl (keyed z) = omega arith

pub ⊑_trans : {a b c : Limit} → a ⊑ b → b ⊑ c → a ⊑ c
⊑_trans {a = a} {b = b} {c = none} h k = ⊑-none a
⊑_trans {a = a} {b = none} {c = keyed z} h k = absurd k.at
⊑_trans {a = none} {b = keyed y} {c = keyed z} h k = absurd h.at
⊑_trans {a = keyed x} {b = keyed y} {c = keyed z} h k = omega arith

-- its test
abbrev pub as_tight? : Limit → Limit → Bool
as_tight? a none = true
as_tight? none (keyed z) = false
as_tight? (keyed y) (keyed z) = not (lt_z z y)

pub as_tight-⊑ : (a b : Limit) → T (as_tight? a b) → a ⊑ b
as_tight-⊑ a none t = ⊑-none a
as_tight-⊑ none (keyed z) t = absurd t
as_tight-⊑ (keyed y) (keyed z) t = record { at = nlt_z→ z y t }

-- ---- the tighter of two: the second only if its key is smaller
infixl 60 ◌⊓◌
unfoldable pub ◌⊓◌ : Limit → Limit → Limit
a ⊓ none = a
none ⊓ keyed z = keyed z
keyed y ⊓ keyed z = cond (lt_z z y) (keyed z) (keyed y)

pub ⊓-cases : (a b : Limit) (P : Limit → Type 0) → P a → P b → P (a ⊓ b)
unfolding ◌⊓◌
⊓-cases a none P p q = p
⊓-cases none (keyed z) P p q = q
⊓-cases (keyed y) (keyed z) P p q = by (lt_z z y)
  where
    by : (c : Bool) → P (cond c (keyed z) (keyed y))
    by true = q
    by false = p

pub ⊓-left : (a b : Limit) → a ⊓ b ⊑ a
unfolding ◌⊓◌
⊓-left a none = ⊑_refl a
⊓-left none (keyed z) = ⊑-none (keyed z)
⊓-left (keyed y) (keyed z) = by (lt_z z y) (lt_z→ z y)
  where
    by : (c : Bool) → (T c → up z + dn y < up y + dn z) → cond c (keyed z) (keyed y) ⊑ keyed y
    by true f = omega (arith, f tt)
    by false f = ⊑_refl (keyed y)

pub ⊓-right : (a b : Limit) → a ⊓ b ⊑ b
unfolding ◌⊓◌
⊓-right a none = ⊑-none a
⊓-right none (keyed z) = ⊑_refl (keyed z)
⊓-right (keyed y) (keyed z) = by (lt_z z y) (nlt_z→ z y)
  where
    by : (c : Bool) → (T (not c) → up y + dn z ≤ up z + dn y) → cond c (keyed z) (keyed y) ⊑ keyed z
    by true f = ⊑_refl (keyed z)
    by false f = omega (arith, f tt)

pub none-⊓ : none ⊓ none ≡ none
unfolding ◌⊓◌
none-⊓ = refl

-- ---- the sum
infixl 70 ◌⊕◌
unfoldable pub ◌⊕◌ : Limit → Limit → Limit
none ⊕ b = none
keyed y ⊕ none = none
keyed y ⊕ keyed z = keyed (sum_key y z)

pub parts-sum : (y z : ℤ) → up (sum_key y z) + dn y + dn z + max (lowest y) (lowest z) ≡ dn (sum_key y z) + up y + up z
parts-sum y z = omega (arith, parts_add y z, parts-less (y +ℤ z) (max (lowest y) (lowest z)))

-- the half of a sum is the sum of the halves, and the sum is odd exactly where both keys are
record Added (y z r : ℤ) : Type 0 where
  parts : up (half r) + dn (half y) + dn (half z) ≡ dn (half r) + up (half y) + up (half z)
  left : lowest r ≤ lowest y
  right : lowest r ≤ lowest z
  below : lowest y + lowest z < lowest r + 2

added : (y z : ℤ) → Added y z (sum_key y z)
added y z = omega (arith, parts-sum y z, halved y, halved z, halved (sum_key y z))

pub ⊕-mono : (a b c d : Limit) → a ⊑ b → c ⊑ d → a ⊕ c ⊑ b ⊕ d
unfolding ◌⊕◌
⊕-mono a none c d h k = ⊑-none (a ⊕ c)
⊕-mono a (keyed w) c none h k = ⊑-none (a ⊕ c)
⊕-mono none (keyed w) c (keyed z) h k = absurd h.at
⊕-mono (keyed v) (keyed w) none (keyed z) h k = absurd k.at
⊕-mono (keyed v) (keyed w) (keyed y) (keyed z) h k =
    omega (arith, added v y, added w z, halved v, halved w, halved y, halved z, halved (sum_key v y), halved (sum_key w z))

pub ⊕-comm : (a b : Limit) → a ⊕ b ⊑ b ⊕ a
unfolding ◌⊕◌
⊕-comm a none = ⊑-none (a ⊕ none)
⊕-comm none (keyed z) = ⊑-none none
⊕-comm (keyed y) (keyed z) = omega (arith, added y z, added z y, halved y, halved z, halved (sum_key y z), halved (sum_key z y))

pub ⊕-assoc : (a b c : Limit) → (a ⊕ b) ⊕ c ⊑ a ⊕ (b ⊕ c)
unfolding ◌⊕◌
⊕-assoc none b c = ⊑-none none
⊕-assoc (keyed x) none c = ⊑-none none
⊕-assoc (keyed x) (keyed y) none = ⊑-none none
⊕-assoc (keyed x) (keyed y) (keyed z) =
    let l : ℤ = sum_key x y in
    let r : ℤ = sum_key y z in
    omega (arith, added x y, added l z, added y z, added x r, halved x, halved y, halved z, halved (sum_key l z), halved (sum_key x r))

pub ⊕-assoc' : (a b c : Limit) → a ⊕ (b ⊕ c) ⊑ (a ⊕ b) ⊕ c
⊕-assoc' a b c = ⊑_trans (⊕-comm a (b ⊕ c)) (⊑_trans (⊕-assoc b c a) (⊑_trans (⊕-comm b (c ⊕ a)) (⊑_trans (⊕-assoc c a b) (⊕-comm c (a ⊕ b)))))

abbrev pub at_most_zero : Limit
at_most_zero = keyed (pos 1)

pub ⊕-unit : (a : Limit) → a ⊑ at_most_zero ⊕ a
unfolding ◌⊕◌
⊕-unit none = ⊑-none none
⊕-unit (keyed z) = omega (arith, added (pos 1) z, halved z, halved (sum_key (pos 1) z))

pub ⊕-unit' : (a : Limit) → at_most_zero ⊕ a ⊑ a
unfolding ◌⊕◌
⊕-unit' none = ⊑-none none
⊕-unit' (keyed z) = omega (arith, added (pos 1) z, halved z, halved (sum_key (pos 1) z))

-- what is unbounded stays so
pub none-⊕ : (a : Limit) → none ⊕ a ≡ none
unfolding ◌⊕◌
none-⊕ a = refl

pub ⊕-none : (a : Limit) → a ⊕ none ≡ none
unfolding ◌⊕◌
⊕-none none = refl
⊕-none (keyed z) = refl

-- ---- the meaning: at scale k, a clock that reads x minus one that reads y is at most k × d, d being half of the key, or below it if the key
-- is even (o is 1 for an odd key)
abbrev pub Within : ℕ → ℕ → ℕ → ℤ → ℕ → Type 0
Within k x y d o = x + k * dn d < y + k * up d + o

abbrev pub Meant : ℕ → ℕ → ℕ → Limit → Type 0
Meant k x y none = Unit
Meant k x y (keyed z) = Within k x y (half z) (lowest z)

pub record Holds (k x y : ℕ) (b : Limit) : Type 0 where
  pub at : Meant k x y b

pub holds-none : (k x y : ℕ) → Holds k x y none
holds-none k x y = record { at = tt }

-- a difference that is no larger is within too
pub holds_if : (k x y w z : ℕ) → w + y ≤ x + z → (a : Limit) → Holds k x y a → Holds k w z a
holds_if k x y w z h none p = holds-none k w z
holds_if k x y w z h (keyed d) p = omega arith

-- an order at scale 2 is one at every scale
scaled : (k m n o p : ℕ) → 1 ≤ k → o < 2 → p < 2 → 2 * m + o ≤ 2 * n + p → k * m + o ≤ k * n + p
scaled = I.scaled

-- and back, where nothing is added on the left
unscaled : (k m n o : ℕ) → 1 ≤ k → o < 2 → k * m < k * n + o → 2 * m < 2 * n + o
unscaled k m n o k₁ s h = by (lt-or-ge m n) (lt-or-ge n m)
  where
    by : (m < n) ⊎ (n ≤ m) → (n < m) ⊎ (m ≤ n) → 2 * m < 2 * n + o
    by (inl l) g = omega arith
    by (inr l) (inl g) = absurd (omega (arith, N.mul-le-mul_left k g, N.mul-suc k n))
    by (inr l) (inr g) = let e : m ≡ n = omega arith in omega (arith, ap (λ i. k * i) e)

pub holds-⊑ : (k : ℕ) → 1 ≤ k → (x y : ℕ) (a b : Limit) → a ⊑ b → Holds k x y a → Holds k x y b
holds-⊑ k k₁ x y a none h p = holds-none k x y
holds-⊑ k k₁ x y none (keyed z) h p = absurd h.at
holds-⊑ k k₁ x y (keyed w) (keyed z) h p =
    let m : ℕ = up (half w) + dn (half z) in
    let n : ℕ = up (half z) + dn (half w) in
    let l : 2 * m + lowest w ≤ 2 * n + lowest z = omega (arith, halved w, halved z) in
    omega (arith, simp N.mul-add at (scaled k m n (lowest w) (lowest z) k₁ (halved w).small (halved z).small l))

pub holds-⊕ : (k x y z : ℕ) (a b : Limit) → Holds k x y a → Holds k y z b → Holds k x z (a ⊕ b)
unfolding ◌⊕◌
holds-⊕ k x y z none b p q = holds-none k x z
holds-⊕ k x y z (keyed u) none p q = holds-none k x z
holds-⊕ k x y z (keyed u) (keyed v) p q =
    omega (arith, added u v, simp N.mul-add at (ap (λ n. k * n) (added u v).parts))

pub holds-self : (k : ℕ) → 1 ≤ k → (x : ℕ) (a : Limit) → Holds k x x a → at_most_zero ⊑ a
holds-self k k₁ x none h = ⊑-none at_most_zero
holds-self k k₁ x (keyed z) h =
    omega (arith, halved z, unscaled k (dn (half z)) (up (half z)) (lowest z) k₁ (halved z).small (omega arith))

twice : (k : ℕ) (z : ℤ) → (2 * k * up z ≡ 2 * (k * up z)) × (2 * k * dn z ≡ 2 * (k * dn z))
twice k z = (N.mul_assoc 2 k (up z), N.mul_assoc 2 k (dn z))

pub multiply : (m : ℕ) → 1 ≤ m → (k x y : ℕ) (a : Limit) → Holds k x y a → Holds (m * k) (m * x) (m * y) a
multiply m m₁ k x y none h = holds-none (m * k) (m * x) (m * y)
multiply m m₁ k x y (keyed z) h =
    let l : 2 * (x + k * dn (half z)) + 1 ≤ 2 * (y + k * up (half z)) + lowest z = omega (arith, (halved z).small) in
    let s = simp N.mul-add at (scaled m (x + k * dn (half z)) (y + k * up (half z)) 1 (lowest z) m₁ (omega arith) (halved z).small l) in
    omega (arith, N.mul_assoc m k (dn (half z)), N.mul_assoc m k (up (half z)))

pub divide : (m : ℕ) → 1 ≤ m → (k x y : ℕ) (a : Limit) → Holds (m * k) (m * x) (m * y) a → Holds k x y a
divide m m₁ k x y none h = holds-none k x y
divide m m₁ k x y (keyed z) h =
    let e = N.mul-add m x (k * dn (half z)) in
    let f = N.mul-add m y (k * up (half z)) in
    let l : m * (x + k * dn (half z)) < m * (y + k * up (half z)) + lowest z =
    omega (arith, N.mul_assoc m k (dn (half z)), N.mul_assoc m k (up (half z)), e, f) in
    omega (arith, unscaled m (x + k * dn (half z)) (y + k * up (half z)) (lowest z) m₁ (halved z).small l, (halved z).small)

-- ---- the least reading, at twice the scale, of a clock that a bound holds against
abbrev pub low : ℕ → ℕ → Limit → ℕ
low k x none = 0
low k x (keyed z) = 2 * x + 2 * k * dn (half z) + 1 - (2 * k * up (half z) + lowest z)

pub low-holds : (k x z : ℕ) (a : Limit) → low k x a ≤ z → Holds (2 * k) (2 * x) z a
low-holds k x z none h = holds-none (2 * k) (2 * x) z
low-holds k x z (keyed y) h = omega arith

pub low_meets : (k x y : ℕ) (a b : Limit) → Holds k x y (a ⊕ b) → Holds (2 * k) 0 (2 * y) b → Holds (2 * k) (low k x a) (2 * y) b
unfolding ◌⊕◌
low_meets k x y none b h p = p
low_meets k x y (keyed v) none h p = holds-none (2 * k) (low k x (keyed v)) (2 * y)
low_meets k x y (keyed v) (keyed w) h p =
    let e = simp N.mul-add at (ap (λ n. 2 * k * n) (added v w).parts) in
    omega (arith, twice k (half (sum_key v w)), added v w, (halved v).small, (halved w).small)

-- ---- the least reading, at any scale, of a clock that a bound holds against, where the first one reads x
abbrev pub least : ℕ → ℕ → Limit → ℕ
least k x none = 0
least k x (keyed z) = x + k * dn (half z) + 1 - (k * up (half z) + lowest z)

pub least-holds : (k x y : ℕ) (a : Limit) → least k x a ≤ y → Holds k x y a
least-holds k x y none h = holds-none k x y
least-holds k x y (keyed z) h = omega arith

pub holds-least : (k x y : ℕ) (a : Limit) → Holds k x y a → least k x a ≤ y
holds-least k x y none h = omega arith
holds-least k x y (keyed z) h = omega arith

-- ---- the bound that holds, the other way round, where a given one fails
abbrev pub negation : Limit → Limit
negation none = none
negation (keyed z) = keyed (pos 1 -ℤ z)

parts-negation : (z : ℤ) → up (pos 1 -ℤ z) + up z ≡ dn (pos 1 -ℤ z) + dn z + 1
parts-negation z = omega (arith, parts_add (pos 1) (neg_ℤ z), up_neg z, dn-neg z)

-- its half is the half's negative, and it is odd if the key is even
record Negated (z r : ℤ) : Type 0 where
  parts : up (half r) + up (half z) ≡ dn (half r) + dn (half z)
  other : lowest r + lowest z ≡ 1

negated : (z : ℤ) → Negated z (pos 1 -ℤ z)
negated z = omega (arith, parts-negation z, halved z, halved (pos 1 -ℤ z))

pub negation-fails : (k x y : ℕ) (a b : Limit) → T (not (as_tight? a b)) → Holds k x y b → Holds k y x (negation b) → ⊥
negation-fails k x y a none t p q = t
negation-fails k x y a (keyed z) t p q =
    omega (arith, negated z, simp N.mul-add at (ap (λ n. k * n) (negated z).parts))

pub negation-fits : (a b : Limit) → T (not (as_tight? a b)) → at_most_zero ⊑ a ⊕ negation b
unfolding ◌⊕◌
negation-fits a none t = absurd t
negation-fits none (keyed z) t = ⊑-none at_most_zero
negation-fits (keyed y) (keyed z) t =
    let r : ℤ = pos 1 -ℤ z in
    omega (arith, lt_z→ z y (rw (not-not (lt_z z y)) at t), parts-negation z, parts-sum y r, (halved y).small, (halved r).small)

pub at_most_zero-holds : (k x y : ℕ) → x ≤ y → Holds k x y at_most_zero
at_most_zero-holds k x y h = omega (arith, N.mul-zero k)

-- ---- all of the laws
abbrev pub bounds : BoundLaws
bounds = record {
  B = Limit;
  ◌⊑◌ = ◌⊑◌;
  ◌⊕◌ = ◌⊕◌;
  ◌⊓◌ = ◌⊓◌;
  at_most_zero = at_most_zero;
  unbounded = none;
  ⊑_refl = ⊑_refl;
  ⊑_trans = λ {a} {b} {c} h k. ⊑_trans h k;
  ⊓-left = ⊓-left;
  ⊓-right = ⊓-right;
  ⊓-cases = ⊓-cases;
  ⊕-mono = λ {a} {b} {c} {d} h k. ⊕-mono a b c d h k;
  ⊕-comm = ⊕-comm;
  ⊕-assoc = ⊕-assoc;
  ⊕-assoc' = ⊕-assoc';
  ⊕-unit = ⊕-unit;
  ⊕-unit' = ⊕-unit';
  unbounded-⊕ = none-⊕;
  ⊕-unbounded = ⊕-none;
  unbounded-⊓ = none-⊓;
  Holds = Holds;
  holds-⊑ = λ k k₁ x y {a} {b} h p. holds-⊑ k k₁ x y a b h p;
  holds-⊕ = holds-⊕;
  holds-self = holds-self;
  self-holds = λ k k₁ x a h. holds-⊑ k k₁ x x at_most_zero a h (at_most_zero-holds k x x (omega arith));
  holds-at_most_zero = λ k x y h. omega (arith, N.mul-zero k);
  at_most_zero-holds = at_most_zero-holds;
  holds-unbounded = holds-none;
  shift = λ k x y t. holds_if k x y (x + t) (y + t) (omega arith);
  unshift = λ k x y t. holds_if k (x + t) (y + t) x y (omega arith);
  wait = λ k x y t. holds_if k x y x (y + t) (omega arith);
  sooner = λ k x y t. holds_if k (x + t) y x y (omega arith);
  multiply = multiply;
  divide = divide;
  as_tight? = as_tight?;
  as_tight-⊑ = as_tight-⊑;
  low = low;
  low-holds = low-holds;
  low_meets = low_meets;
  negation = negation;
  negation-fails = negation-fails;
  negation-fits = negation-fits;
}

-- ---- the parts of a bound: its number is half of the key, and it is strict if the key is even
bit_even : (n : ℕ) → n < 2 → bit (eqb n 0) + n ≡ 1
bit_even zero h = refl
bit_even (suc zero) h = refl
bit_even (suc (suc n)) h = absurd (omega arith)

bit-strict : (z : ℤ) → bit (eqb (lowest z) 0) + lowest z ≡ 1
bit-strict z = bit_even (lowest z) (halved z).small

abbrev finite? : Limit → Bool
finite? none = false
finite? (keyed z) = true

abbrev strict? : Limit → Bool
strict? none = false
strict? (keyed z) = eqb (lowest z) 0

abbrev up_of : Limit → ℕ
up_of none = 0
up_of (keyed z) = up (half z)

abbrev dn_of : Limit → ℕ
dn_of none = 0
dn_of (keyed z) = dn (half z)

pub least-finite : (k x : ℕ) (a : Limit) → T (finite? a) → least k x a ≡ x + k * dn_of a + bit (strict? a) - k * up_of a
least-finite k x none t = absurd t
least-finite k x (keyed z) t = omega (arith, bit-strict z)

pub least-absent : (k x : ℕ) (a : Limit) → T (not (finite? a)) → least k x a ≡ 0
least-absent k x none t = refl
least-absent k x (keyed z) t = absurd t

pub chained : (a b c : Limit) → a ⊑ b ⊕ c → T (finite? b) → T (finite? c) →
    Chained (finite? a) (up_of a + dn_of b + dn_of c) (dn_of a + up_of b + up_of c) (strict? a) (strict? b) (strict? c)
unfolding ◌⊕◌
chained a none c h f g = absurd f
chained a (keyed y) none h f g = absurd g
chained none (keyed y) (keyed z) h f g = absurd h.at
chained (keyed w) (keyed y) (keyed z) h f g =
    let s : ℤ = sum_key y z in
    let l = h.at in
    let a = added y z in
    let u = halved w in
    let v = halved s in
    let p = bit-strict w in
    let q = bit-strict y in
    let r = bit-strict z in
    record { finite = tt; left = omega arith; right = omega arith }

not-above : (z : ℤ) → up z ≤ dn z → up z ≡ 0
not-above (pos n) h = omega arith
not-above (negsuc n) h = refl

pub at_most : (a : Limit) → a ⊑ at_most_zero → T (finite? a) × (up_of a ≡ 0)
at_most none h = absurd h.at
at_most (keyed z) h = (tt, not-above (half z) (omega (arith, h.at, halved z)))

pub at_least : (a : Limit) → at_most_zero ⊑ a → T (finite? a) → 2 * dn_of a + bit (strict? a) ≤ 2 * up_of a
at_least none h t = absurd t
at_least (keyed z) h t = omega (arith, h.at, halved z, bit-strict z)

abbrev pub parts : Parts bounds
parts = record {
  least = least;
  least-holds = least-holds;
  holds-least = holds-least;
  finite? = finite?;
  strict? = strict?;
  up = up_of;
  dn = dn_of;
  least-finite = least-finite;
  least-absent = least-absent;
  chained = chained;
  at_most = at_most;
  at_least = at_least;
}
