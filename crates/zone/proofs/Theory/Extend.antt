-- One more clock placed among r clocks that have their places: at the greatest of its lower bounds, at twice the scale, so that a strict
-- bound leaves room. Assumes nothing.
use Prim.Native.Nat.{ℕ, zero, suc, max, ◌*◌, ◌≤◌, ◌<◌}
use mathlib.Core.Path.{◌≡◌, subst, ap}
use mathlib.Core.Logic.{◌⊎◌, inl, inr}
use native.Mathlib.Nat as N
use native.Mathlib.Omega.{arith}
use Rattle.zone.proofs.Integers.{lt-or-ge}
use Rattle.zone.proofs.Theory.BoundLaws.{BoundLaws}

-- ---- the greatest of the first m values of f
unfoldable pub most : ℕ → (ℕ → ℕ) → ℕ
most zero f = 0
most (suc m) f = max (most m f) (f m)

max_cases : (P : ℕ → Type 0) (a b : ℕ) → P a → P b → P (max a b)
max_cases P a b p q = by (lt-or-ge a b)
  where
    by : (a < b) ⊎ (b ≤ a) → P (max a b)
    by (inl h) = subst P (omega arith) q
    by (inr h) = subst P (omega arith) p

pub most-cases : (P : ℕ → Type 0) (m : ℕ) (f : ℕ → ℕ) → P 0 → ((i : ℕ) → i < m → P (f i)) → P (most m f)
unfolding most
most-cases P zero f p q = p
most-cases P (suc m) f p q = max_cases P (most m f) (f m) (most-cases P m f p (λ i h. q i (omega arith))) (q m (omega arith))

pub most-ge : (m : ℕ) (f : ℕ → ℕ) (i : ℕ) → i < m → f i ≤ most m f
unfolding most
most-ge zero f i h = absurd (omega arith)
most-ge (suc m) f i h = by (most-ge m f i) (N.eq-or-lt_of_le (N.le_of_suc-le-suc h))
  where
    by : (i < m → f i ≤ most m f) → (i ≡ m) ⊎ (i < m) → f i ≤ max (most m f) (f m)
    by r (inl e) = omega (arith, ap f e)
    by r (inr k) = omega (arith, r k)

-- the clocks read w at scale k; a i bounds clock i minus the new one, b i the new one minus clock i
module _ (𝓑 : BoundLaws) (r k : ℕ) (w : ℕ → ℕ) (a b : ℕ → 𝓑.B) where
  open 𝓑 use {◌⊕◌, Holds, low, low-holds, low_meets, multiply}

  infixl 70 ◌⊕◌
  -- what the new clock reads, at twice the scale
  unfoldable pub reading : ℕ
  reading = most r (λ i. low k (w i) (a i))

  pub above : (i : ℕ) → i < r → Holds (2 * k) (2 * w i) reading (a i)
  unfolding reading
  above i h = low-holds k (w i) reading (a i) (most-ge r (λ i. low k (w i) (a i)) i h)

  -- where each lower bound leaves room below each upper bound, and 0 is below each upper bound, the new clock keeps the upper bounds too
  module _ (meets : (i j : ℕ) → i < r → j < r → Holds k (w i) (w j) (a i ⊕ b j)) (room : (j : ℕ) → j < r → Holds k 0 (w j) (b j)) where
    pub below : (j : ℕ) → j < r → Holds (2 * k) reading (2 * w j) (b j)
    unfolding reading
    below j h = most-cases (λ z. Holds (2 * k) z (2 * w j) (b j)) r (λ i. low k (w i) (a i)) room₂
        (λ i hi. low_meets k (w i) (w j) (a i) (b j) (meets i j hi h) room₂)
      where
        room₂ : Holds (2 * k) 0 (2 * w j) (b j)
        room₂ = multiply 2 (omega arith) k 0 (w j) (b j) (room j h)
