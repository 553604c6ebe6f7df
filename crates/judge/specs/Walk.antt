-- Algorithm: the checks 15 to 19, node by node, row by row, successor by successor, up to the first that fails; 51 to 53 where a node is cut.
-- Assumes nothing.
use Rattle.std.specs.Prelude.{ℕ, zero, suc, ◌+◌, ◌-◌, ◌*◌, ◌≤◌, ◌<◌, ◌≡◌, true, false, cond, List, get_or, length, eqb, leb, Ok}
use Rattle.zone.specs.Squares.{empty?, Tightens}
use Rattle.zone.specs.Stores.{zone_at}
use Rattle.zone.specs.declared.zones.Zone.{Zone as Square}
use Rattle.answers.specs.declared.Reason.TheVariants as reason
use Rattle.answers.specs.Refusals.{refuse}
use Rattle.model.specs.declared.table_kinds.TableKind.TheVariants.{Blocked as blocked, Cut as cut}
use Rattle.model.specs.TableKinds.{is_table}
use Rattle.model.specs.Fields.{lands_at}
use Rattle.model.specs.Scan.{guards_at}
use Rattle.model.specs.declared.index.IndexedModel.{IndexedModel}
use Rattle.table.specs.Fields.{number_of}
use Rattle.table.specs.Scan.{edges_at, row_size}
use Rattle.table.specs.Nodes.{entry_at}
use Rattle.table.specs.declared.nodes.Node.{Node as Entry}
use Rattle.table.specs.declared.nodes.IndexedTable.{IndexedTable}
use Rattle.judge.specs.Steps.{Checked, and_then}
use Rattle.judge.specs.Reaching.{common, waited_square}
use Rattle.judge.specs.Landing.{successor_share}
use Rattle.judge.specs.Cutting.{cut_checked, CutAsked}

-- the table's words, what is kept of the model, and of the table
module _ (words : List ℕ) (m : IndexedModel) (k : IndexedTable) where
  -- n successors from the edge e and the place `at` on, with the sum so far; `first` is the place of the row's first word
  unfoldable pub successors_from : Square → ℕ → ℕ → ℕ → ℕ → ℕ → ℕ → Checked
  successors_from reach limit first zero e at sum = cond (leb sum limit) (Ok tt) (refuse reason.SumTooLarge first)
  successors_from reach limit first (suc n) e at sum =
      and_then (successor_share m k reach (get_or m.edges e 0) (number_of (get_or words at 0)) at) (λ share.
      successors_from reach limit first n (suc e) (suc at) (sum + share))

  -- n rows from the action a and the place `at` on, of a node of that value
  unfoldable pub rows_from : Square → ℕ → ℕ → ℕ → ℕ → Checked
  rows_from waited value zero a at = Ok tt
  rows_from waited value (suc n) a at =
      let reach : Square = common waited (zone_at m.zones (guards_at + a)) in
      let edges : ℕ = edges_at m.index a in
      cond (is_table blocked (get_or words at 0))
      (cond (empty? reach) (rows_from waited value n (suc a) (suc at)) (refuse reason.NotBlocked at))
      (and_then (successors_from reach (m.index.denominator * value) at edges (get_or m.index.edges a 0) at 0) (λ _.
      rows_from waited value n (suc a) (at + edges)))

  -- the rows of the node N
  unfoldable pub rows_checked : Entry → Checked
  rows_checked N =
      let l : ℕ = N.location in
      let first : ℕ = get_or m.index.actions l 0 in
      rows_from (waited_square N.zone (zone_at m.zones l)) N.value (get_or m.index.actions (l + 1) 0 - first) first (suc N.place)

  -- the node n
  unfoldable pub node_checked : ℕ → Checked
  node_checked n =
      let N : Entry = entry_at k.nodes n in
      cond (get_or m.index.targets N.location false)
      (cond (eqb N.value k.whole) (Ok tt) (refuse reason.BadTargetValue N.place))
      (cond (is_table cut (get_or words (suc N.place) 0)) (cut_checked words k n N) (rows_checked N))

  -- so many nodes from number n on
  unfoldable pub nodes_from : ℕ → ℕ → Checked
  nodes_from zero n = Ok tt
  nodes_from (suc c) n = and_then (node_checked n) (λ _. nodes_from c (suc n))

  -- all of them
  abbrev pub walked : Checked
  walked = nodes_from k.count 0

-- ---- what the walk asks: every word, zone and number that it looks at is there and within its range
module _ (words : List ℕ) (m : IndexedModel) where
  -- the guard of the action a and the invariants that its edges land at
  pub record ActionAsked (a : ℕ) : Type 0 where
    pub guard : Tightens 2 (zone_at m.zones (guards_at + a))
    pub ordered : get_or m.index.edges a 0 ≤ get_or m.index.edges (suc a) 0
    pub limit : get_or m.index.edges (suc a) 0 ≤ 128
    pub lands : (e : ℕ) → get_or m.index.edges a 0 ≤ e → e < get_or m.index.edges (suc a) 0 →
        Tightens 1 (zone_at m.zones (lands_at (get_or m.edges e 0)))

  -- n rows from the action a and the place `at` on
  unfoldable pub RowsInRange : ℕ → ℕ → ℕ → Type 0
  RowsInRange zero a at = Unit {0}
  RowsInRange (suc n) a at =
      let size : ℕ = row_size (is_table blocked (get_or words at 0)) (edges_at m.index a) in
      ActionAsked a × (at < length words) × (at + size ≤ length words) × RowsInRange n (suc a) (at + size)

  -- the rows of the node N
  pub record RowsAsked (N : Entry) : Type 0 where
    pub location : N.location < 16
    pub zone : Tightens 3 N.zone
    pub invariant : Tightens 3 (zone_at m.zones N.location)
    pub place : suc N.place ≤ length words
    pub actions : get_or m.index.actions (N.location + 1) 0 ≤ 32
    pub rows :
        let l : ℕ = N.location in
        let first : ℕ = get_or m.index.actions l 0 in
        RowsInRange (get_or m.index.actions (l + 1) 0 - first) first (suc N.place)

  -- its rows or its cut: behind its value a word stands, and a D word is that of a cut
  pub record BodyAsked (N : Entry) : Type 0 where
    pub there : suc N.place < length words
    pub parts : is_table cut (get_or words (suc N.place) 0) ≡ true → CutAsked words N
    pub rows : is_table cut (get_or words (suc N.place) 0) ≡ false → RowsAsked N

  -- a node; its rows or its cut are read where its location is no target
  pub record NodeAsked (N : Entry) : Type 0 where
    pub location : N.location < 16
    pub body : get_or m.index.targets N.location false ≡ false → BodyAsked N

  -- all nodes
  pub record WalkAsked (k : IndexedTable) : Type 0 where
    pub count : k.count ≤ 64
    pub nodes : (n : ℕ) → n < k.count → NodeAsked (entry_at k.nodes n)
