-- What is kept of an accepted model, and the model that the words hold: the promise that judging rests on. Assumes nothing.
use Rattle.std.specs.Prelude.{ℕ, suc, ◌+◌, ◌≤◌, ◌≡◌, false, List, [], ◌∷◌, Result, Ok, get_or, length}
use Rattle.zone.specs.Scale.{Zone}
use Rattle.zone.specs.Squares.{universe, with_bound}
use Rattle.zone.specs.Reading.{cell_of}
use Rattle.zone.specs.Stores.{zone_at}
use Rattle.zone.specs.declared.zones.Zone.{Zone as Square}
use Rattle.answers.specs.declared.Refusal.{Refusal}
use Rattle.model.specs.Model.{Edge, Action, Location, Model, edge_of, model_of}
use Rattle.model.specs.Scan.{guards_at, start_bounds_at}
use Rattle.model.specs.Index.{start_square}
use Rattle.model.specs.declared.index.IndexedModel.{IndexedModel}
use Rattle.model.specs.declared.read.ModelRead.{ModelRead}

-- P holds of each element with its number, the first having number n
unfoldable pub Each : {A : Type 0} → (ℕ → A → Type 0) → ℕ → List A → Type 0
Each P n [] = Unit {0}
Each P n (x ∷ xs) = P n x × Each P (suc n) xs

-- the square table of a zone, on top of another
unfoldable pub with_bounds : Zone → Square → Square
with_bounds [] z = z
with_bounds (b ∷ bs) z = with_bounds bs (with_bound b.i b.j (cell_of b) z)

pub record EdgeAt (k : IndexedModel) (e : ℕ) (E : Edge) : Type 0 where
  pub reads : edge_of (get_or k.edges e 0) ≡ E

pub record ActionAt (k : IndexedModel) (a : ℕ) (A : Action) : Type 0 where
  pub guard : zone_at k.zones (guards_at + a) ≡ with_bounds A.guard universe
  pub edges : Each (EdgeAt k) (get_or k.index.edges a 0) A.edges
  pub ends : get_or k.index.edges (suc a) 0 ≡ get_or k.index.edges a 0 + length A.edges

pub record LocationAt (k : IndexedModel) (l : ℕ) (L : Location) : Type 0 where
  pub target : get_or k.index.targets l false ≡ L.target
  pub invariant : zone_at k.zones l ≡ with_bounds L.invariant universe
  pub actions : Each (ActionAt k) (get_or k.index.actions l 0) L.actions
  pub ends : get_or k.index.actions (suc l) 0 ≡ get_or k.index.actions l 0 + length L.actions
  -- behind those of the locations, the numbers of its actions are slots of the zones
  pub limit : get_or k.index.actions (suc l) 0 ≤ 32

pub record Indexed (M : Model) (k : IndexedModel) : Type 0 where
  pub clocks : k.index.clocks ≡ M.clocks
  pub denominator : k.index.denominator ≡ M.denominator
  pub locations : k.index.locations ≡ length M.locations
  pub each : Each (LocationAt k) 0 M.locations
  pub start : k.index.start ≡ M.start
  pub start_bounds : zone_at k.zones start_bounds_at ≡ with_bounds M.start_bounds universe
  pub limit : k.index.locations ≤ 16
  -- every number in the index's edges is a place in the array of edge words or the end of them
  pub edge_limits : (a : ℕ) → get_or k.index.edges a 0 ≤ 128

-- an accepted model is kept in m, and the call gives the zone of its start valuations
pub record KeptFor (words : List ℕ) (r : ModelRead) (m : IndexedModel) : Type 0 where
  pub indexed : Indexed (model_of words) m
  pub initial : r.initial ≡ start_square m.index.start m.zones

pub record IndexedWhere (words : List ℕ) (result : Result ModelRead Refusal) (m : IndexedModel) : Type 0 where
  pub accepted : (r : ModelRead) → result ≡ Ok r → KeptFor words r m
