-- The rounds of a draft, over weights, nodes and tests alone: the values that its definition gives, as numbers that are computed. Assumes nothing.
use Prim.Native.Nat.{ℕ, zero, suc, ◌+◌, ◌*◌, max}
use mathlib.Core.Bool.{Bool, true, cond}
use mathlib.Core.List.{List, [], ◌∷◌}
use lib.ListN.{get_or, length, replicate}
use Rattle.drafting.specs.Words.{whole}
use Rattle.drafting.specs.Rounds.{rounded_up}

-- an edge of a row with successors: its weight, the number of its node, and whether it can land outside (card 4)
pub record Share : Type 0 where
  pub weight : ℕ
  pub node : ℕ
  pub outside : Bool

-- the rows of a node that have successors; a target's value is kept
pub record Valued : Type 0 where
  pub target : Bool
  pub rows : List (List Share)

-- what a number that names no node gives
abbrev pub no_valued : Valued
no_valued = record { target = true; rows = [] }

-- the sum of a row: each weight with V where the edge can land outside, else with the value of its node
unfoldable pub sum_of : List ℕ → List Share → ℕ
sum_of vs [] = 0
sum_of vs (s ∷ ss) = s.weight * cond s.outside whole (get_or vs s.node 0) + sum_of vs ss

-- the largest of the sums over D, rounded up; 0 without rows
unfoldable pub largest : ℕ → List ℕ → List (List Share) → ℕ
largest D vs [] = 0
largest D vs (ss ∷ rows) = max (rounded_up (sum_of vs ss) D) (largest D vs rows)

-- the value v of a node, replaced by what the values vs of all nodes give
unfoldable pub round_at : ℕ → List ℕ → Valued → ℕ → ℕ
round_at D vs N v = cond N.target v (largest D vs N.rows)

-- the values us of these nodes, replaced likewise
unfoldable pub round_each : ℕ → List ℕ → List Valued → List ℕ → List ℕ
round_each D vs [] us = []
round_each D vs (N ∷ Ns) [] = []
round_each D vs (N ∷ Ns) (u ∷ us) = round_at D vs N u ∷ round_each D vs Ns us

unfoldable pub round : ℕ → List Valued → List ℕ → List ℕ
round D Ns vs = round_each D vs Ns vs

unfoldable pub rounds : ℕ → List Valued → ℕ → List ℕ → List ℕ
rounds D Ns zero vs = vs
rounds D Ns (suc n) vs = rounds D Ns n (round D Ns vs)

-- every value begins at V
unfoldable pub values_after : ℕ → List Valued → ℕ → List ℕ
values_after D Ns n = rounds D Ns n (replicate (length Ns) whole)
