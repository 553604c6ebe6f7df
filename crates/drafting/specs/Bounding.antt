-- Document 02, card 5: "the same valuations", the tightened bounds of a zone, and the smallest zone that holds a region. All of it at every scale.
-- Assumes nothing.
use Rattle.std.specs.Prelude.{ℕ, zero, suc, ◌≤◌, ◌≡◌, ◌⊎◌, Bool, false, not, cond, ◌&&◌, ◌||◌, List, [], ◌∷◌, ◌++◌, T, eqb}
use Rattle.std.specs.Int.Signed.{lt_z}
use Rattle.zone.specs.Scale.{Bound, holds?, Zone, Region, within, Empty, Inside}
use Rattle.zone.specs.Words.{bound_of}

-- the same valuations at every scale
pub record Same (R S : Region) : Type 0 where
  pub into : Inside R S
  pub out : Inside S R

-- the bound holds of every valuation of R
abbrev pub Bounds : Region → Bound → Type 0
Bounds R b = Inside R (λ k v. T (holds? k v b))

-- of two bounds of the same clocks the first is tighter: its d is smaller, or both d are equal and it alone is strict
unfoldable pub tighter_bound? : Bound → Bound → Bool
tighter_bound? a b = lt_z a.d b.d || (not (lt_z b.d a.d) && (a.strict && not b.strict))

-- a tightened bound of R: it holds of R, and no tighter one of its two clocks does
pub record Tightened (R : Region) (b : Bound) : Type 0 where
  pub holds : Bounds R b
  pub least : (c : Bound) → c.i ≡ b.i → c.j ≡ b.j → Bounds R c → tighter_bound? c b ≡ false

-- no bound of clock i minus clock j holds of R, so that its tightened one is not finite
pub record Boundless (R : Region) (i j : ℕ) : Type 0 where
  pub none : (b : Bound) → b.i ≡ i → b.j ≡ j → Bounds R b → ⊥

pub record Pair : Type 0 where
  pub i : ℕ
  pub j : ℕ

-- clock i with n clocks from j on, for i other than j
unfoldable pub others : ℕ → ℕ → ℕ → List Pair
others i zero j = []
others i (suc n) j = cond (eqb i j) (others i n (suc j)) (record { i = i; j = j } ∷ others i n (suc j))

unfoldable pub pairs_from : ℕ → ℕ → ℕ → List Pair
pairs_from C zero i = []
pairs_from C (suc n) i = others i (suc C) 0 ++ pairs_from C n (suc i)

-- the pairs of the clocks 0 to C, by i, then j
unfoldable pub pairs : ℕ → List Pair
pairs C = pairs_from C (suc C) 0

-- the finite tightened bounds of these pairs, in their order
abbrev pub AllTightened : Region → List Pair → Zone → Type 0
AllTightened R [] [] = Unit {0}
AllTightened R [] (b ∷ Z) = ⊥
AllTightened R (p ∷ ps) [] = Boundless R p.i p.j × AllTightened R ps []
AllTightened R (p ∷ ps) (b ∷ Z) =
    (Boundless R p.i p.j × AllTightened R ps (b ∷ Z))
    ⊎ ((b.i ≡ p.i) × (b.j ≡ p.j) × Tightened R b × AllTightened R ps Z)

-- an empty zone is the one word 51000FFF
abbrev pub empty_zone : Zone
empty_zone = bound_of 0x51000FFF ∷ []

-- Z has the bounds of R as a node has them: all its finite tightened ones or, where R is empty, the one of that word
abbrev pub BoundsOf : ℕ → Region → Zone → Type 0
BoundsOf C R Z = (Empty R × (Z ≡ empty_zone)) ⊎ ((Empty R → ⊥) × AllTightened R (pairs C) Z)

-- a zone over the clocks 0 to C, which are all that a node's words can name; a valuation gives numbers to others too
abbrev pub Over : ℕ → Zone → Type 0
Over C [] = Unit {0}
Over C (b ∷ Z) = (b.i ≤ C) × (b.j ≤ C) × Over C Z

-- S is the smallest zone, of those over the clocks 0 to C, that holds R
pub record Smallest (C : ℕ) (R : Region) (S : Zone) : Type 0 where
  pub over : Over C S
  pub holds : Inside R (within S)
  pub least : (Y : Zone) → Over C Y → Inside R (within Y) → Inside (within S) (within Y)
