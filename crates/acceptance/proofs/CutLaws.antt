-- What a wrong definition of a cut's parts would break: every valuation of the node's zone lies in one of them and none in both, and neither has
-- another. Assumes nothing.
use Prim.Native.Nat.{ℕ}
use mathlib.Core.Logic.{◌⊎◌, inl, inr}
use mathlib.Core.Bool.{Bool, true, false, not}
use lib.Dec.{T}
use Rattle.zone.proofs.Bools.{not-both}
use Rattle.zone.specs.Scale.{Valuation, Bound, holds?, within}
use Rattle.table.specs.Table.{Node}
use Rattle.acceptance.specs.Acceptance.{holding_part, rest_part}

module _ (N : Node) (b : Bound) (k : ℕ) (v : Valuation) where
  pub parts-cover : within N.zone k v → holding_part N b k v ⊎ rest_part N b k v
  unfolding holding_part rest_part
  parts-cover z = by (holds? k v b) (λ t. (z, t)) (λ t. (z, t))
    where
      by : {X Y : Type 0} (c : Bool) → (T c → X) → (T (not c) → Y) → X ⊎ Y
      by true f g = inl (f tt)
      by false f g = inr (g tt)

  pub parts-apart : holding_part N b k v → rest_part N b k v → ⊥
  unfolding holding_part rest_part
  parts-apart p q = not-both (holds? k v b) p.1 q.1

  pub parts_within : holding_part N b k v ⊎ rest_part N b k v → within N.zone k v
  unfolding holding_part rest_part
  parts_within (inl p) = p.0
  parts_within (inr p) = p.0
