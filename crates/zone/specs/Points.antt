-- Algorithm: the earliest point of a tightened zone, as Bellman and Ford find shortest paths. Every clock begins at its lower bound, and a round
-- raises each clock as far as its bounds with the other clocks ask; of C clocks none is raised after C - 1 rounds. Assumes nothing.
use Rattle.std.specs.Prelude.{ℕ, zero, suc, ◌-◌, ◌<◌, max, cond, List, ℤ, pos, negsuc, ◌+ℤ◌, ◌-ℤ◌, ◌*ℤ◌, get_or, replicate, Option, Some, None}
use Rattle.zone.specs.Keys.{finite?, half, lowest}
use Rattle.zone.specs.Squares.{cell, list_of, empty?}
use Rattle.zone.specs.declared.bounds.Bound.{Bound as Cell}
use Rattle.zone.specs.declared.zones.Zone.{Zone as Square}
use Rattle.zone.specs.declared.points.Point.{Point}

-- the number itself, or 0 if it is negative
unfoldable pub not_below_zero : ℤ → ℕ
not_below_zero (pos n) = n
not_below_zero (negsuc n) = 0

-- at scale k, the least reading of a second clock where a bound of the first minus the second holds and the first reads x: x - k × d, one more if
-- the bound is strict, and not below 0. An absent bound asks for nothing
unfoldable pub least_second : ℕ → Cell → ℕ → ℕ
least_second k a x = cond (finite? a) (not_below_zero (pos x +ℤ pos (1 - lowest a.key) -ℤ pos k *ℤ half a.key)) 0

-- what the five clocks read, each raised as far as its bound with clock i asks where that reads x
unfoldable pub raised_by : ℕ → Square → ℕ → ℕ → List ℕ → List ℕ
raised_by k z i x reads = list_of (λ j. max (get_or reads j 0) (least_second k (cell z i j) x)) 5 0

-- what the bounds with the clocks below m ask, where these read so
unfoldable pub round_below : ℕ → ℕ → Square → List ℕ → List ℕ
round_below zero k z reads = replicate 5 0
round_below (suc i) k z reads = raised_by k z i (get_or reads i 0) (round_below i k z reads)

-- a round over n clocks, clock 0 among them, at scale n. In a tightened table that is not empty the bound of a clock minus itself asks for what the
-- clock reads, so that none falls
unfoldable pub round_of : ℕ → Square → List ℕ → List ℕ
round_of n z reads = round_below n n z reads

-- what the clocks read after r rounds, from their lower bounds
unfoldable pub rounds_of : ℕ → Square → ℕ → List ℕ
rounds_of n z zero = raised_by n z 0 0 (replicate 5 0)
rounds_of n z (suc r) = round_of n z (rounds_of n z r)

abbrev pub point_of : List ℕ → Point
point_of reads = record { c1 = get_or reads 1 0; c2 = get_or reads 2 0; c3 = get_or reads 3 0; c4 = get_or reads 4 0 }

-- of a tightened table over C clocks
unfoldable pub earliest_of : ℕ → Square → Option Point
earliest_of C z = cond (empty? z) None (Some (point_of (rounds_of (suc C) z (C - 1))))

-- every clock reads less than b
pub record Below (b : ℕ) (reads : List ℕ) : Type 0 where
  pub at : (i : ℕ) → get_or reads i 0 < b
