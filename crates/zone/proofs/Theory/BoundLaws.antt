-- The laws of bounds that the theory of zones rests on: all that it knows of them. So another representation of a bound proves these laws
-- again, and nothing of the theory. Assumes nothing.
use Prim.Native.Nat.{ℕ, ◌+◌, ◌*◌, ◌≤◌}
use mathlib.Core.Path.{◌≡◌}
use mathlib.Core.Bool.{Bool, not}
use lib.Dec.{T}

pub record BoundLaws : Type 1 where
  infix 50 ◌⊑◌
  infixl 70 ◌⊕◌
  infixl 60 ◌⊓◌
  pub B : Type 0
  -- at least as tight, the sum along a path, the tighter of two
  pub ◌⊑◌ : B → B → Type 0
  pub ◌⊕◌ : B → B → B
  pub ◌⊓◌ : B → B → B
  pub at_most_zero : B
  pub unbounded : B
  pub ⊑_refl : (a : B) → a ⊑ a
  pub ⊑_trans : {a b c : B} → a ⊑ b → b ⊑ c → a ⊑ c
  pub ⊓-left : (a b : B) → a ⊓ b ⊑ a
  pub ⊓-right : (a b : B) → a ⊓ b ⊑ b
  pub ⊓-cases : (a b : B) (P : B → Type 0) → P a → P b → P (a ⊓ b)
  pub ⊕-mono : {a b c d : B} → a ⊑ b → c ⊑ d → a ⊕ c ⊑ b ⊕ d
  pub ⊕-comm : (a b : B) → a ⊕ b ⊑ b ⊕ a
  pub ⊕-assoc : (a b c : B) → (a ⊕ b) ⊕ c ⊑ a ⊕ (b ⊕ c)
  pub ⊕-assoc' : (a b c : B) → a ⊕ (b ⊕ c) ⊑ (a ⊕ b) ⊕ c
  pub ⊕-unit : (a : B) → a ⊑ at_most_zero ⊕ a
  pub ⊕-unit' : (a : B) → at_most_zero ⊕ a ⊑ a
  -- what is unbounded stays so
  pub unbounded-⊕ : (a : B) → unbounded ⊕ a ≡ unbounded
  pub ⊕-unbounded : (a : B) → a ⊕ unbounded ≡ unbounded
  pub unbounded-⊓ : unbounded ⊓ unbounded ≡ unbounded
  -- Holds k x y b: at scale k, a clock that reads x minus one that reads y is within b
  pub Holds : ℕ → ℕ → ℕ → B → Type 0
  pub holds-⊑ : (k : ℕ) → 1 ≤ k → (x y : ℕ) {a b : B} → a ⊑ b → Holds k x y a → Holds k x y b
  pub holds-⊕ : (k x y z : ℕ) (a b : B) → Holds k x y a → Holds k y z b → Holds k x z (a ⊕ b)
  pub holds-self : (k : ℕ) → 1 ≤ k → (x : ℕ) (a : B) → Holds k x x a → at_most_zero ⊑ a
  pub self-holds : (k : ℕ) → 1 ≤ k → (x : ℕ) (a : B) → at_most_zero ⊑ a → Holds k x x a
  pub holds-at_most_zero : (k x y : ℕ) → Holds k x y at_most_zero → x ≤ y
  pub at_most_zero-holds : (k x y : ℕ) → x ≤ y → Holds k x y at_most_zero
  pub holds-unbounded : (k x y : ℕ) → Holds k x y unbounded
  -- only the difference counts; a later second clock keeps a bound, and so does an earlier first one
  pub shift : (k x y t : ℕ) (a : B) → Holds k x y a → Holds k (x + t) (y + t) a
  pub unshift : (k x y t : ℕ) (a : B) → Holds k (x + t) (y + t) a → Holds k x y a
  pub wait : (k x y t : ℕ) (a : B) → Holds k x y a → Holds k x (y + t) a
  pub sooner : (k x y t : ℕ) (a : B) → Holds k (x + t) y a → Holds k x y a
  -- at a multiple of the scale
  pub multiply : (m : ℕ) → 1 ≤ m → (k x y : ℕ) (a : B) → Holds k x y a → Holds (m * k) (m * x) (m * y) a
  pub divide : (m : ℕ) → 1 ≤ m → (k x y : ℕ) (a : B) → Holds (m * k) (m * x) (m * y) a → Holds k x y a
  -- the test of the order
  pub as_tight? : B → B → Bool
  pub as_tight-⊑ : (a b : B) → T (as_tight? a b) → a ⊑ b
  -- at twice the scale, the least reading z of a clock such that a clock that reads 2x minus it is within a. A clock that reads so is also
  -- within b of one that reads 2y, if a and b allow it of x and y at the scale itself
  pub low : ℕ → ℕ → B → ℕ
  pub low-holds : (k x z : ℕ) (a : B) → low k x a ≤ z → Holds (2 * k) (2 * x) z a
  pub low_meets : (k x y : ℕ) (a b : B) → Holds k x y (a ⊕ b) → Holds (2 * k) 0 (2 * y) b → Holds (2 * k) (low k x a) (2 * y) b
  -- the bound that holds, the other way round, where a given one fails
  pub negation : B → B
  pub negation-fails : (k x y : ℕ) (a b : B) → T (not (as_tight? a b)) → Holds k x y b → Holds k y x (negation b) → ⊥
  pub negation-fits : (a b : B) → T (not (as_tight? a b)) → at_most_zero ⊑ a ⊕ negation b
