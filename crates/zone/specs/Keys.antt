-- Document 02, card 2: a bound of clock i minus clock j in one number, its key, and what the pick of the tighter of two means.
-- Assumes nothing.
use Rattle.std.specs.Prelude.{ℕ, ◌%◌, ◌^◌, ◌≤◌, ◌≡◌, ◌↔◌, ◌⊎◌, Bool, cond, [], ◌∷◌, eqb, ℤ, pos, nat_abs, ◌+ℤ◌}
use Rattle.std.specs.Int.Signed.{lt_z, shr_z}
use Rattle.zone.specs.Scale.{Valuation, Zone, within}
use Rattle.zone.specs.declared.bounds.Bound.{Bound as Cell}

-- strictness is carried as an even or odd number: the key is 2 × d, and one more unless the bound is strict
abbrev pub key_of : ℤ → Bool → ℤ
key_of d strict = d +ℤ d +ℤ pos (cond strict 0 1)

-- an absent bound has a large key, from 2^28 up
abbrev pub finite? : Cell → Bool
finite? a = lt_z a.key (pos (2 ^ 28))

-- half of a key, rounded down (`shr_z` divides by its second number), and its lowest bit, 1 for an odd key
abbrev pub half : ℤ → ℤ
half key = shr_z key 2

abbrev pub lowest : ℤ → ℕ
lowest key = nat_abs key % 2

-- what a key says of clock i minus clock j: nothing, if it is an absent bound's; else the bound whose d is half of it and which is strict
-- if it is even
unfoldable pub said_of : Cell → ℕ → ℕ → Zone
said_of a i j = cond (finite? a) (record { i = i; j = j; d = half a.key; strict = eqb (lowest a.key) 0 } ∷ []) []

-- the pick of the tighter of two: it is one of the two and, for every scale and every valuation, holds exactly where both hold
pub record PickOf (a b pick : Cell) : Type 0 where
  pub one : (pick ≡ a) ⊎ (pick ≡ b)
  pub both : (i j k : ℕ) → 1 ≤ k → (v : Valuation) →
      within (said_of pick i j) k v ↔ (within (said_of a i j) k v × within (said_of b i j) k v)
