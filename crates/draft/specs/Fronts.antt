-- Algorithm: the bounds of a square table as a node has them, and the location and the words of bounds that a node has. Assumes nothing.
use Rattle.std.specs.Prelude.{ℕ, suc, ◌≡◌, Bool, true, false, cond, List, [], ◌∷◌, ◌++◌, map, eqb, leb, nat_abs, Option, Some, None}
use Rattle.zone.specs.Scale.{Bound, Zone}
use Rattle.zone.specs.Keys.{half, lowest, said_of}
use Rattle.zone.specs.Squares.{cell, empty?}
use Rattle.zone.specs.declared.bounds.Bound.{Bound as Cell}
use Rattle.zone.specs.declared.zones.Zone.{Zone as Square}
use Rattle.drafting.specs.Bounding.{Pair, pairs, empty_zone}
use Rattle.drafting.specs.Exploring.{narrow?}
use Rattle.drafting.specs.Words.{bound_word}
use Rattle.draft.specs.declared.nodes.Front.{Front}

-- the bound that a cell says of clock i minus clock j
abbrev pub bound_at : ℕ → ℕ → Cell → Bound
bound_at i j c = record { i = i; j = j; d = half c.key; strict = eqb (lowest c.key) 0 }

-- it is not beyond 4,095 either way
unfoldable pub narrow_bound? : Cell → Bool
narrow_bound? c = leb (nat_abs (half c.key)) 4095

-- what a table says of these pairs of clocks, in their order
unfoldable pub collected : Square → List Pair → Zone
collected y [] = []
collected y (p ∷ ps) = said_of (cell y p.i p.j) p.i p.j ++ collected y ps

-- what cells say of clock i minus other clocks, from clock j on
unfoldable pub row_said : ℕ → List Cell → ℕ → Zone
row_said i [] j = []
row_said i (c ∷ cs) j = cond (eqb i j) [] (said_of c i j) ++ row_said i cs (suc j)

-- the words `after` are those before and those of the bounds Z, or one of these is not narrow
abbrev pub RowAdded : Option (Unit {0}) → List ℕ → List ℕ → Zone → Type 0
RowAdded None before after Z = narrow? Z ≡ false
RowAdded (Some u) before after Z = (narrow? Z ≡ true) × (after ≡ before ++ map bound_word Z)

-- the bounds of a tightened table over the clocks 0 to C
unfoldable pub zone_from : ℕ → Square → Zone
zone_from C y = cond (empty? y) empty_zone (collected y (pairs C))

-- the location l and these words of bounds
abbrev pub front : ℕ → List ℕ → Front
front l ws = record { location = l; bounds = record { items = ws } }

-- those of a node at the location l with the bounds Z, where these are narrow
unfoldable pub front_for : ℕ → Zone → Option Front
front_for l Z = cond (narrow? Z) (Some (front l (map bound_word Z))) None
