-- The parts of a node that is cut: their tables decide whether each lies in a zone. Assumes nothing.
use Prim.Native.Nat.{ℕ}
use mathlib.Core.Path.{◌≡◌}
use mathlib.Core.Bool.{true, false, ◌||◌}
use native.Mathlib.Omega.{arith}
use Rattle.zone.specs.Scale.{Zone, Region, within, Inside}
use Rattle.zone.specs.Words.{bound_of}
use Rattle.zone.specs.Squares.{universe, tightened, empty?, inside?, Tightens}
use Rattle.zone.specs.Reading.{with_word}
use Rattle.zone.specs.Parts.{holding_square, rest_square}
use Rattle.zone.specs.declared.zones.Zone.{Zone as Square}
use Rattle.zone.proofs.Sizes.{tightens-fewer, tightens-with_bound}
use Rattle.zone.proofs.Regions.{Stands, in_both, stands_same, stands-with_bound}
use Rattle.zone.proofs.Spans.{Spans, spans, lies-yes, lies-no}
use Rattle.zone.proofs.PartLaws.{stands-rest, tightens-rest}
use Rattle.model.specs.Indexed.{with_bounds}
use Rattle.model.proofs.ZoneLaws.{GoodBound, GoodZone, stands-bounds, tightens-bounds}
use Rattle.table.specs.Table.{Node}
use Rattle.acceptance.specs.Acceptance.{holding_part, rest_part}

-- the table y decides whether the part P lies in a zone
pub record Decides (P : Region) (y : Square) : Type 0 where
  pub pass : (S : Zone) → GoodZone S → (empty? y || inside? y (with_bounds S universe)) ≡ true → Inside P (within S)
  pub fail : (S : Zone) → GoodZone S → (empty? y || inside? y (with_bounds S universe)) ≡ false → Inside P (within S) → ⊥

pub table-decides : {P : Region} {y : Square} → Tightens 1 y → Spans P y → Decides P (tightened y)
table-decides t s = record { pass = λ S g. lies-yes t s (stands-bounds S g); fail = λ S g. lies-no t s (stands-bounds S g) }

-- the same of a table that has a bound more, whose region is said with that bound behind
with_bound_lem : {P Q : Region} {y : Square} → Tightens 3 y → Stands (in_both P Q) y → Decides (in_both Q P) (tightened y)
with_bound_lem {y = y} t s =
    table-decides (tightens-fewer 1 3 y (omega arith) t) (spans (stands_same (λ k v p. (p.1, p.0)) (λ k v p. (p.1, p.0)) s))

-- a node with a good zone, cut by the bound of a word
module _ (N : Node) (z : GoodZone N.zone) (w : ℕ) (g : GoodBound (bound_of w)) where
  abbrev zone : Square
  zone = with_bounds N.zone universe

  pub holding-decides : Decides (holding_part N (bound_of w)) (holding_square w zone)
  unfolding holding_part holding_square with_word
  holding-decides =
      with_bound_lem (tightens-with_bound (bound_of w) zone g.small (tightens-bounds N.zone z))
      (stands-with_bound (bound_of w) g.first g.second g.small (stands-bounds N.zone z))

  pub rest-decides : Decides (rest_part N (bound_of w)) (rest_square w zone)
  unfolding rest_part rest_square
  rest-decides =
      with_bound_lem (tightens-rest (bound_of w) zone g.small (tightens-bounds N.zone z))
      (stands-rest (bound_of w) g.first g.second g.small (stands-bounds N.zone z))
