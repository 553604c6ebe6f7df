-- What exploring and the rounds ask of what is kept of a model, of the nodes found, and of values. Assumes nothing.
use Rattle.std.specs.Prelude.{ℕ, ◌+◌, ◌≤◌, ◌<◌, List, [], ◌∷◌, get_or, length, slice_range}
use Rattle.zone.specs.Squares.{Tightens}
use Rattle.zone.specs.Stores.{zone_at}
use Rattle.model.specs.Fields.{lands_at, weight_of}
use Rattle.model.specs.Scan.{guards_at}
use Rattle.model.specs.declared.index.IndexedModel.{IndexedModel}
use Rattle.drafting.specs.Words.{whole}
use Rattle.draft.specs.Nodes.{no_node}
use Rattle.draft.specs.declared.nodes.Node.{Node}

-- ---- of the model

-- the words of the edges of the action a
abbrev pub edges_of : IndexedModel → ℕ → List ℕ
edges_of m a = slice_range m.edges (get_or m.index.edges a 0) (get_or m.index.edges (a + 1) 0)

-- the weights of edges, added up
unfoldable pub weights_of : List ℕ → ℕ
weights_of [] = 0
weights_of (w ∷ ws) = weight_of w + weights_of ws

-- the action a is there. Its edges are at most four, their weights come to D at most, and they land at locations that exist; its guard can be tightened
pub record ActionAsked (m : IndexedModel) (a : ℕ) : Type 0 where
  pub there : a < 32
  pub rises : get_or m.index.edges a 0 ≤ get_or m.index.edges (a + 1) 0
  pub limit : get_or m.index.edges (a + 1) 0 ≤ 128
  pub few : length (edges_of m a) ≤ 4
  pub weights : weights_of (edges_of m a) ≤ m.index.denominator
  pub lands : (k : ℕ) → k < length (edges_of m a) → lands_at (get_or (edges_of m a) k 0) < m.index.locations
  pub guard : Tightens 2 (zone_at m.zones (guards_at + a))

-- the model's numbers are within their limits, and so are the actions of its locations
pub record ModelAsked (m : IndexedModel) : Type 0 where
  pub clocks : (1 ≤ m.index.clocks) × (m.index.clocks ≤ 4)
  pub locations : m.index.locations ≤ 16
  pub denominator : 1 ≤ m.index.denominator
  pub start : m.index.start < m.index.locations
  pub invariants : (l : ℕ) → l < m.index.locations → Tightens 3 (zone_at m.zones l)
  pub limits : (l : ℕ) → l < m.index.locations → get_or m.index.actions (l + 1) 0 ≤ 32
  pub actions : (l : ℕ) → l < m.index.locations → (a : ℕ) → get_or m.index.actions l 0 ≤ a → a < get_or m.index.actions (l + 1) 0 → ActionAsked m a

-- ---- of the nodes: their locations are among the first L
pub record Located (L : ℕ) (nodes : List Node) : Type 0 where
  pub at : (n : ℕ) → n < length nodes → (get_or nodes n no_node).front.location < L

-- ---- of values: none is above V
pub record ValuesFit (vs : List ℕ) : Type 0 where
  pub small : (n : ℕ) → get_or vs n 0 ≤ whole
