-- Document 02, card 6: the earliest point of a zone. Assumes nothing.
use Rattle.std.specs.Prelude.{ℕ, zero, suc, ◌≤◌, ◌<◌, ◌≡◌, [], ◌∷◌, get_or, Option, Some, None}
use Rattle.zone.specs.Scale.{Valuation, Region, Empty}
use Rattle.zone.specs.declared.points.Point.{Point}

-- the valuation of clocks 1 to C at scale C + 1 in which every clock is as small as any valuation of the region at that scale has it. Of a
-- number that is none of these clocks it reads 0
pub record EarliestPoint (C : ℕ) (R : Region) (v : Valuation) : Type 0 where
  pub holds : R (suc C) v
  pub least : (u : Valuation) → R (suc C) u → (i : ℕ) → 1 ≤ i → i ≤ C → v i ≤ u i
  pub zero : v 0 ≡ 0
  pub above : (i : ℕ) → C < i → v i ≡ 0

-- the region is empty, or it is not and this is its earliest point
pub data PointAnswer : Type 0 where
  no_point : PointAnswer
  point : Valuation → PointAnswer

abbrev pub EarliestAnswer : ℕ → Region → PointAnswer → Type 0
EarliestAnswer C R no_point = Empty R
EarliestAnswer C R (point v) = EarliestPoint C R v

-- what the clocks read in a point
unfoldable pub valuation_of : Point → Valuation
valuation_of p zero = 0
valuation_of p (suc i) = get_or (p.c1 ∷ p.c2 ∷ p.c3 ∷ p.c4 ∷ []) i 0

-- what the code's answer says in the document's values
unfoldable pub point_answer : Option Point → PointAnswer
point_answer None = no_point
point_answer (Some p) = point (valuation_of p)
