-- Document 01, "Scale, valuation, zone". A scale is a number k of at least 1; at scale k clocks count k-ths of a time unit.
-- Assumes nothing.
use Rattle.std.specs.Prelude.{ℕ, zero, suc, ◌≤◌, Bool, true, cond, ◌&&◌, List, [], ◌∷◌, T, ℤ, pos, ◌-ℤ◌, ◌*ℤ◌}
use Rattle.std.specs.Int.Signed.{le_z, lt_z}

-- a valuation gives each clock a whole number, 0 or more
abbrev pub Valuation : Type 0
Valuation = ℕ → ℕ

-- clock 0 always reads zero
unfoldable pub read : Valuation → ℕ → ℕ
read v zero = 0
read v (suc i) = v (suc i)

-- a bound (i, j, d, strict); d may be negative
pub record Bound : Type 0 where
  pub i : ℕ
  pub j : ℕ
  pub d : ℤ
  pub strict : Bool

-- it holds when clock i minus clock j is at most k × d, or below it if strict
unfoldable pub holds? : ℕ → Valuation → Bound → Bool
holds? k v b =
    let difference : ℤ = pos (read v b.i) -ℤ pos (read v b.j) in
    let limit : ℤ = pos k *ℤ b.d in
    cond b.strict (lt_z difference limit) (le_z difference limit)

-- a zone is a list of bounds, all of which hold; the empty list holds always
abbrev pub Zone : Type 0
Zone = List Bound

unfoldable pub in? : ℕ → Valuation → Zone → Bool
in? k v [] = true
in? k v (b ∷ z) = holds? k v b && in? k v z

-- a set of valuations at each scale; a zone gives one (`within`)
abbrev pub Region : Type 1
Region = ℕ → Valuation → Type 0

unfoldable pub within : Zone → Region
within z k v = T (in? k v z)

-- "empty" and "inside" mean at every scale
pub record Empty (R : Region) : Type 0 where
  pub at : (k : ℕ) → 1 ≤ k → (v : Valuation) → R k v → ⊥

pub record Inside (R S : Region) : Type 0 where
  pub at : (k : ℕ) → 1 ≤ k → (v : Valuation) → R k v → S k v
