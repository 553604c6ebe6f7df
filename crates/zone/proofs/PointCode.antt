-- What the code of the earliest point comes to: the key as a number that is not negative, the least reading that a bound asks for, and how far
-- a round raises a clock. Assumes nothing.
use Prim.Native.Nat.{ℕ, zero, suc, ◌+◌, ◌-◌, ◌*◌, ◌/◌, ◌%◌, ◌^◌, ◌≤◌, ◌<◌, max}
use mathlib.Core.Path.{◌≡◌, ap, ◌∙◌}
use mathlib.Core.Logic.{◌⊎◌, inl, inr}
use mathlib.Core.List.{List}
use native.Mathlib.Nat as N
use native.Mathlib.Numerals.{add-one}
use native.Mathlib.Omega.{arith}
use lib.IntN.{ℤ, pos, negsuc, neg_ℤ, ◌+ℤ◌, ◌-ℤ◌, ◌*ℤ◌}
use lib.ListN.{length, get_or, replicate}
use Rattle.zone.specs.Keys.{half, lowest}
use Rattle.zone.specs.Cells.{size}
use Rattle.zone.specs.Points.{not_below_zero, least_second, raised_by, round_below, round_of, rounds_of, Below}
use Rattle.zone.specs.Squares.{cell, Tightens}
use Rattle.zone.specs.declared.bounds.Bound.{Bound as Cell}
use Rattle.zone.specs.declared.zones.Zone.{Zone as Square}
use Rattle.zone.proofs.Integers.{up, dn, parts_add, up_neg, dn-neg, up-mul, dn-mul}
use Rattle.zone.proofs.Limits.{halved}
use Rattle.zone.proofs.KeyLaws.{Finite, Absent, kind}
use Rattle.zone.proofs.Loops.{list_of-length, list_of-at, list_of-all, same_at}
use Rattle.zone.proofs.Theory.Extend.{most}

-- ---- 2^24 more than the key of a small bound is twice 2^23 more than the key's half, and its lowest bit
pub record Field (z : ℤ) (f : ℕ) : Type 0 where
  pub parts : f / 2 + dn (half z) ≡ up (half z) + 2 ^ 23
  pub bit : f % 2 ≡ lowest z
  pub small : f < 2 ^ 30

module _ (a : Cell) (s : size a < 2 ^ 23) where
  -- it is not negative, finite or absent
  pub key_range : (dn a.key < up a.key + 2 ^ 23) × (up a.key < dn a.key + 2 ^ 29 + 2 ^ 23)
  key_range = by (kind a)
    where
      by : Finite a ⊎ Absent a → (dn a.key < up a.key + 2 ^ 23) × (up a.key < dn a.key + 2 ^ 29 + 2 ^ 23)
      by (inl f) = omega (arith, f.parts)
      by (inr f) = omega (arith, f.above, f.below)

  pub is_field : {f : ℕ} → f + dn a.key ≡ up a.key + 2 ^ 24 → Field a.key f
  is_field e = omega (arith, key_range, halved a.key)

-- ---- what a bound asks for
parts-least : (x b k : ℕ) (d : ℤ) → not_below_zero (pos x +ℤ pos b -ℤ pos k *ℤ d) ≡ x + b + k * dn d - k * up d
unfolding not_below_zero
parts-least x b k d =
    let y : ℤ = pos k *ℤ d in
    by (pos x +ℤ pos b -ℤ y) (omega (arith, parts_add (pos (x + b)) (neg_ℤ y), up_neg y, dn-neg y, up-mul k d, dn-mul k d))
  where
    by : (z : ℤ) → up z + k * up d ≡ dn z + (x + b + k * dn d) → not_below_zero z ≡ x + b + k * dn d - k * up d
    by (pos n) e = omega arith
    by (negsuc n) e = omega arith

module _ (k : ℕ) (a : Cell) (x : ℕ) where
  pub least-finite : Finite a → least_second k a x ≡ x + (1 - lowest a.key) + k * dn (half a.key) - k * up (half a.key)
  unfolding least_second
  least-finite f = rw f.test (parts-least x (1 - lowest a.key) k (half a.key))

  pub least-absent : Absent a → least_second k a x ≡ 0
  unfolding least_second
  least-absent f = rw f.test

  -- by the field, as the code works it out: an absent bound's key is so large that nothing is left
  pub least_by : {f : ℕ} → Field a.key f → size a < 2 ^ 23 → 1 ≤ k → x < 2 ^ 27 → least_second k a x ≡ x + k * 2 ^ 23 + (1 - f % 2) - k * (f / 2)
  least_by {f} e s k₁ l = by (kind a)
    where
      by : Finite a ⊎ Absent a → least_second k a x ≡ x + k * 2 ^ 23 + (1 - f % 2) - k * (f / 2)
      by (inl g) = least-finite g ∙ omega (arith, simp N.mul-add at (ap (λ m. k * m) e.parts))
      by (inr g) =
          let m : 2 ^ 27 + 2 ^ 23 ≤ f / 2 = omega (arith, halved a.key, g.above, g.below) in
          least-absent g ∙ omega (arith, N.mul-le-mul_left k m)

  least-grows : size a < 2 ^ 23 → k ≤ 5 → least_second k a x ≤ x + 5 * 2 ^ 22 + 1
  least-grows s k₅ = by (kind a)
    where
      by : Finite a ⊎ Absent a → least_second k a x ≤ x + 5 * 2 ^ 22 + 1
      by (inl g) =
          let m : dn (half a.key) ≤ 2 ^ 22 + up (half a.key) = omega (arith, halved a.key, g.parts) in
          rw (least-finite g) (omega (arith, simp N.mul-add at (N.mul-le-mul_left k m)))
      by (inr g) = rw (least-absent g) (omega arith)

-- ---- how far a round raises the clocks
module _ (k : ℕ) (z : Square) (i x : ℕ) (reads : List ℕ) where
  pub raised-length : length (raised_by k z i x reads) ≡ 5
  unfolding raised_by
  raised-length = list_of-length _ 5 0

  pub raised_at : (j : ℕ) → j < 5 → get_or (raised_by k z i x reads) j 0 ≡ max (get_or reads j 0) (least_second k (cell z i j) x)
  unfolding raised_by
  raised_at j h = list_of-at {A = ℕ} 0 _ 5 j h

  raised_below : {b : ℕ} → Tightens 1 z → k ≤ 5 → x + 2 ^ 25 ≤ b → Below b reads → Below b (raised_by k z i x reads)
  unfolding raised_by
  raised_below {b} s k₅ l h = record {
    at = list_of-all (λ m. m < b) 0 _ 5 (omega (arith, h.at 0))
        (λ j. omega (arith, h.at j, least-grows k (cell z i j) x (s.at (i * 5 + j)) k₅));
  }

pub zeros-below : {b : ℕ} → 0 < b → Below b (replicate 5 0)
zeros-below h = record { at = λ i. omega (arith, same_at {A = ℕ} 5 i 0) }

-- a clock after a round: the most that the bounds with the clocks below m ask
pub round-at : (m k : ℕ) (z : Square) (reads : List ℕ) (j : ℕ) → j < 5 →
    get_or (round_below m k z reads) j 0 ≡ most m (λ i. least_second k (cell z i j) (get_or reads i 0))
unfolding round_below most
round-at zero k z reads j h = same_at {A = ℕ} 5 j 0
round-at (suc m) k z reads j h =
    raised_at k z m (get_or reads m 0) (round_below m k z reads) j h
    ∙ ap (λ y. max y (least_second k (cell z m j) (get_or reads m 0))) (round-at m k z reads j h)

round-below : (m k : ℕ) (z : Square) (reads : List ℕ) {b : ℕ} → Tightens 1 z → k ≤ 5 → Below b reads → Below (b + 2 ^ 25) (round_below m k z reads)
unfolding round_below
round-below zero k z reads s k₅ h = zeros-below (omega arith)
round-below (suc m) k z reads s k₅ h =
    raised_below k z m (get_or reads m 0) (round_below m k z reads) s k₅ (omega (arith, h.at m)) (round-below m k z reads s k₅ h)

-- a turn of the code's round
module _ (m k : ℕ) (z : Square) (reads : List ℕ) {least : List ℕ} (e : least ≡ round_below m k z reads) where
  pub round-low : Tightens 1 z → k ≤ 5 → Below (2 ^ 27) reads → Below (2 ^ 28) least
  round-low s k₅ h = rw e (record { at = λ i. omega (arith, (round-below m k z reads s k₅ h).at i) })

  pub round-more : {next : List ℕ} → next ≡ raised_by k z m (get_or reads m 0) least → next ≡ round_below (m + 1) k z reads
  unfolding round_below
  round-more g = g ∙ rw (add-one m, e)

-- after r rounds no clock reads more than (r + 1) * 2^25
rounds-below : (n : ℕ) (z : Square) → Tightens 1 z → n ≤ 5 → (r : ℕ) → Below (suc (suc r * 2 ^ 25)) (rounds_of n z r)
unfolding rounds_of round_of
rounds-below n z s n₅ zero = raised_below n z 0 0 (replicate 5 0) s n₅ (omega arith) (zeros-below (omega arith))
rounds-below n z s n₅ (suc r) =
    let h = round-below n n z (rounds_of n z r) s n₅ (rounds-below n z s n₅ r) in
    record { at = λ i. omega (arith, h.at i) }

pub rounds_begin : (m : ℕ) (z : Square) {reads : List ℕ} → reads ≡ raised_by (m + 1) z 0 0 (replicate 5 0) → reads ≡ rounds_of (suc m) z 0
unfolding rounds_of
rounds_begin m z e = e ∙ rw (add-one m)

module _ (m : ℕ) (z : Square) (r : ℕ) {reads : List ℕ} (e : reads ≡ rounds_of (suc m) z (r - 1)) where
  pub rounds-low : Tightens 1 z → m ≤ 4 → 1 ≤ r → r < m → Below (2 ^ 27) reads
  rounds-low s h l k = rw e (record { at = λ i. omega (arith, (rounds-below (suc m) z s (omega arith) (r - 1)).at i) })

  pub rounds-more : 1 ≤ r → {next : List ℕ} → next ≡ round_of (m + 1) z reads → next ≡ rounds_of (suc m) z (r + 1 - 1)
  unfolding rounds_of
  rounds-more l g =
      let f : r + 1 - 1 ≡ suc (r - 1) = omega arith in
      g ∙ rw (f, add-one m, e)
