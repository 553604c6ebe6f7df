-- What the walk asks of the model and the table holds: every word, zone and number that it looks at is there and within its range. Assumes
-- nothing.
use Prim.Native.Nat.{ℕ, suc, ◌+◌, ◌-◌, ◌≤◌, ◌<◌}
use mathlib.Core.Path.{◌≡◌, refl, sym, ap, ◌∙◌}
use mathlib.Core.Logic.{◌⊎◌, inl, inr}
use mathlib.Core.Bool.{Bool, true, false}
use mathlib.Core.List.{List, [], ◌∷◌}
use native.Mathlib.Nat.{eq-or-lt_of_le}
use native.Mathlib.Omega.{arith}
use lib.ListN.{get_or, length, drop, length-drop}
use Rattle.zone.specs.Squares.{Tightens}
use Rattle.zone.specs.Stores.{zone_at}
use Rattle.model.specs.declared.table_kinds.TableKind.TheVariants.{Blocked as blocked, Cut as cut}
use Rattle.model.specs.TableKinds.{is_table}
use Rattle.model.specs.Fields.{lands_at}
use Rattle.model.specs.Model.{Edge, Action, Location, Model}
use Rattle.model.specs.States.{location_at}
use Rattle.model.specs.declared.index.IndexedModel.{IndexedModel}
use Rattle.model.specs.Indexed.{Each, EdgeAt, LocationAt, Indexed}
use Rattle.zone.proofs.Sizes.{tightens-fewer}
use Rattle.model.proofs.ZoneLaws.{All, empty, more, tightens-bounds}
use Rattle.model.proofs.GoodModel.{GoodModel}
use Rattle.model.proofs.WellFormed.{FormedEdge, WellFormed}
use Rattle.model.proofs.IndexLaws.{location-at}
use Rattle.table.specs.Table.{Node, Table, node_at, row_actions, table_of}
use Rattle.table.specs.Nodes.{entry_at}
use Rattle.table.specs.declared.nodes.Node.{Node as Entry}
use Rattle.table.specs.declared.nodes.IndexedTable.{IndexedTable}
use Rattle.table.specs.Indexed.{NodeIs, TableIndexed}
use Rattle.table.specs.Scan.{row_size}
use Rattle.table.proofs.Shape.{RowStands, RowsStand, CutStands, BodyStands, NodeShaped, Shaped}
use Rattle.judge.specs.Cutting.{CutAsked}
use Rattle.judge.specs.Walk.{ActionAsked, RowsInRange, RowsAsked, NodeAsked, WalkAsked}
use Rattle.judge.proofs.RowLaws.{front, behind, node_at_lem, shaped-at, ActionIs, actions-at, actions-count, edges-at}

-- the words of a row that stands are there
row-there : (b : Bool) (nodes edges at : ℕ) (words ws : List ℕ) → drop at words ≡ ws → RowStands nodes b edges ws →
    (at < length words) × (at + row_size b edges ≤ length words)
unfolding RowStands row_size
row-there true nodes edges at words ws d s =
    let size : length ws ≡ length words - at = sym (ap length d) ∙ length-drop at words in
    (omega arith, omega arith)
row-there false nodes edges at words ws d s =
    let size : length ws ≡ length words - at = sym (ap length d) ∙ length-drop at words in
    let some = s.0 in
    let there = s.1 in
    (omega (arith, some, there), omega (arith, some, there))

module _ (M : Model) (words : List ℕ) (m : IndexedModel) (x : Indexed M m) (good : GoodModel M) (formed : WellFormed M) where
  -- an edge lands at the invariant of a location
  lands-in-range : (Es : List Edge) (e : ℕ) → Each (EdgeAt m) e Es → All (FormedEdge M) Es → (j : ℕ) → e ≤ j → j < e + length Es →
      Tightens 3 (zone_at m.zones (lands_at (get_or m.edges j 0)))
  unfolding Each
  lands-in-range [] e y empty j from to = absurd (omega arith)
  lands-in-range (E ∷ Es) e y (more f fs) j from to =
      by (eq-or-lt_of_le from) (λ later. lands-in-range Es (suc e) y.1 fs j later (omega arith))
    where
      lands : lands_at (get_or m.edges e 0) ≡ E.to
      lands = ap (λ (F : Edge). F.to) y.0.reads

      by : (e ≡ j) ⊎ (e < j) → (e < j → Tightens 3 (zone_at m.zones (lands_at (get_or m.edges j 0)))) →
          Tightens 3 (zone_at m.zones (lands_at (get_or m.edges j 0)))
      by (inl q) rest =
          rw (← q, lands, (location-at x E.to f.to).invariant)
          (tightens-bounds (location_at M E.to).invariant (good.invariants E.to))
      by (inr l) rest = rest l

  action-asked : (a : ℕ) (A : Action) → ActionIs M m a A → ActionAsked words m a
  action-asked a A y = record {
    guard = rw y.at.guard (tightens-fewer 2 3 _ (omega arith) (tightens-bounds A.guard y.good.guard));
    ordered = let ends = y.at.ends in omega arith;
    limit = x.edge_limits (suc a);
    lands = λ j from to.
        tightens-fewer 1 3 _ (omega arith) (lands-in-range A.edges (get_or m.index.edges a 0) y.at.edges y.formed.edges j from
        (rw y.at.ends at to));
  }

  rows-in-range :
      (nodes : ℕ) (As : List Action) (a at : ℕ) (ws : List ℕ) → Each (ActionIs M m) a As → drop at words ≡ ws → RowsStand nodes As ws →
      RowsInRange words m (length As) a at
  unfolding Each RowsStand RowsInRange
  rows-in-range nodes [] a at ws y d s = tt
  rows-in-range nodes (A ∷ As) a at ws y d s =
      let b : Bool = is_table blocked (get_or ws 0 0) in
      let n : ℕ = length A.edges in
      let there = row-there b nodes n at words ws d s.0 in
      let rest : RowsInRange words m (length As) (suc a) (at + row_size b n) =
      rows-in-range nodes As (suc a) (at + row_size b n) (drop (row_size b n) ws) y.1 (behind (row_size b n) at words ws d) s.1 in
      rw (front at words ws d, edges-at y.0.at)
      (action-asked a A y.0, there.0, there.1, rest)

  module _ (W : Table) (n : ℕ) (ns : List Entry) (N : Node) (i : NodeIs ns n N) (g : NodeShaped M W words N) where
    abbrev L : Location
    L = location_at M N.location

    location-is : LocationAt m N.location L
    location-is = location-at x N.location g.exists

    in-slots : (entry_at ns n).location < 16
    in-slots = rw i.location (omega (arith, g.exists, x.locations, x.limit))

    -- the words behind the value
    abbrev ws : List ℕ
    ws = drop (suc N.place) words

    rows-asked : RowsStand (length W.nodes) L.actions ws → RowsAsked words m (entry_at ns n)
    rows-asked stands =
        let next : N.location + 1 ≡ suc N.location = omega arith in
        let rows : RowsInRange words m (length L.actions) (get_or m.index.actions N.location 0) (suc N.place) =
        rows-in-range (length W.nodes) L.actions _ (suc N.place) _ (actions-at M m x good formed N.location g.exists) refl stands in
        record {
          location = in-slots;
          zone = rw i.zone (tightens-bounds N.zone g.zone);
          invariant = rw (i.location, location-is.invariant) (tightens-bounds L.invariant (good.invariants N.location));
          place = rw i.place (omega (arith, g.place));
          actions = rw (i.location, next) location-is.limit;
          rows = rw (i.location, i.place, actions-count M m x good formed N.location g.exists) rows;
        }

    cut-asked : CutStands (length W.nodes) L ws → CutAsked words (entry_at ns n)
    cut-asked c =
        let size : length ws ≡ length words - suc N.place = length-drop (suc N.place) words in
        let b = c.bound in
        record {
          there = rw i.place (omega (arith, size, c.there));
          cuts = rw (i.place, front (suc N.place) words ws refl) (record {
            first = b.first;
            second = b.second;
            number = b.small;
            zone = rw i.zone (tightens-bounds N.zone g.zone);
          });
        }

    node-asked : NodeAsked words m (entry_at ns n)
    unfolding row_actions BodyStands
    node-asked = record {
      location = in-slots;
      body = λ un.
          let other : L.target ≡ false = sym location-is.target ∙ (rw i.location at un) in
          let here = front (suc N.place) words ws refl in
          record {
            there = rw i.place g.place;
            parts = λ c.
                let cuts : is_table cut (get_or ws 0 0) ≡ true = rw (i.place, here) at c in
                cut-asked (rw cuts at g.stands);
            rows = λ c.
                let uncut : is_table cut (get_or ws 0 0) ≡ false = rw (i.place, here) at c in
                rows-asked (rw (uncut, other) at g.stands);
          };
    }

  module _ (k : IndexedTable) (i : TableIndexed (table_of M words) k) (sh : Shaped M words (table_of M words)) where
    pub walk-asked : WalkAsked words m k
    walk-asked = record {
      count = i.limit;
      nodes = λ n l.
          let below : n < length (table_of M words).nodes = omega (arith, i.count) in
          node-asked (table_of M words) n k.nodes (node_at (table_of M words) n) (node_at_lem i n below) (shaped-at sh n below);
    }
