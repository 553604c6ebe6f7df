-- What a pass that refuses nothing keeps of a table's words describes the table that they hold. Assumes nothing.
use Prim.Native.Nat.{ℕ, suc, ◌+◌, ◌-◌, ◌≤◌}
use mathlib.Core.Path.{◌≡◌, refl, sym, ap, ◌∙◌}
use mathlib.Core.Logic.{◌≢◌}
use mathlib.Core.Bool.{false}
use mathlib.Core.List.{List, [], ◌∷◌}
use native.Mathlib.Nat.{add-zero, zero-add}
use native.Mathlib.Numerals.{add-one}
use native.Mathlib.Omega.{arith}
use Rattle.std.proofs.Common.{Ok}
use lib.ListN.{length, get_or}
use Rattle.zone.specs.Words.{kind, zone_of}
use Rattle.model.specs.declared.table_kinds.TableKind.{TableKind}
use Rattle.model.specs.declared.table_kinds.TableKind.TheVariants.{None as no_kind, Head as table_head, Node as node, Bound as node_bound, Value as value, Blocked as blocked, Successor as successor, StartNode as start_node, Cut as cut}
use Rattle.model.specs.TableKinds.{table_number, is_table, table_kind_of}
use Rattle.model.specs.Before.{index_of}
use Rattle.model.specs.Model.{Model}
use Rattle.model.specs.Indexed.{Each, with_bounds}
use Rattle.model.specs.declared.index.Index.{Index}
use Rattle.table.specs.Fields.{whole_of, number_of}
use Rattle.table.specs.Table.{Node, leading_bounds, node_of, nodes_of, table_of}
use Rattle.table.specs.Nodes.{node_count, entry_at, begun}
use Rattle.table.specs.Scan.{nothing, seen_with, seen_with_kind, with_number}
use Rattle.table.specs.Index.{kept_with_kind, kept_with, steps, scanned}
use Rattle.table.specs.Indexed.{NodeIs, TableIndexed}
use Rattle.table.specs.declared.seen.Seen.{Seen}
use Rattle.table.proofs.ScanLaws.{in_row}
use Rattle.pass.proofs.Run.{Run, seen_end, kept_end, run_of, end_of}
use Rattle.table.proofs.Walk.{Step, a-head, a-node, a-bound, a-value, a-blocked, a-successor, a-start, a-cut, Walk, walk_of}
use Rattle.table.proofs.Slots.{Good, good_with, KeptAt, kept-end, good-end}
use Rattle.table.specs.declared.nodes.Node.{Node as Entry}
use Rattle.table.specs.declared.nodes.IndexedTable.{IndexedTable}
use Rattle.table.proofs.NodeLaws.{entry_here}

-- ---- the nodes of the words to come

-- the table describes the nodes that follow the first n; there are `count` in all
record Describes (count : ℕ) (end : IndexedTable) (n : ℕ) (Ns : List Node) : Type 0 where
  total : count ≡ n + length Ns
  limit : count ≤ node_count
  each : Each (NodeIs end.nodes) n Ns

module _ (M : Model) (x : Index) (count : ℕ) (end : IndexedTable) (s : Seen) (w p : ℕ) (kept : IndexedTable) (ws : List ℕ) where
  describes-with :
      (k : TableKind) → kind w ≡ table_number k → Step s w k → Good s kept →
      ((table_number (seen_with_kind k x s w).opener) ≡ table_number node →
      KeptAt ((seen_with_kind k x s w).nodes - 1) (seen_with_kind k x s w).location (suc p) ws
      (entry_at (kept_with_kind k s w p kept).nodes ((seen_with_kind k x s w).nodes - 1)).zone end) →
      Describes count end (seen_with_kind k x s w).nodes (nodes_of M (suc p) ws) → Describes count end s.nodes (nodes_of M p (w ∷ ws))
  unfolding seen_with_kind kept_with_kind nodes_of node_of Each
  describes-with table_head i (a-head e) g h d = rw i d
  describes-with node i (a-node a l) g h d =
      let r = h refl in
      let last : s.nodes + 1 - 1 ≡ s.nodes = omega arith in
      let room : node_count ≤ length kept.nodes = g.room in
      let this : NodeIs end.nodes s.nodes (node_of M p w ws) = record {
        location = rw last at r.location;
        value = rw last at r.value;
        place = rw last at r.place;
        zone = (rw last at r.zone) ∙ ap (λ (N : Entry). with_bounds (zone_of (leading_bounds ws)) N.zone) (entry_here _ s.nodes kept.nodes (omega arith));
      } in
      rw i (record { total = omega (arith, d.total); limit = d.limit; each = (this, rw add-one at d.each) })
  describes-with node_bound i (a-bound e f j) g h d = rw i d
  describes-with value i (a-value e) g h d = rw i d
  describes-with blocked i (a-blocked a) g h d = rw i d
  describes-with successor i (a-successor a) g h d = rw i (rw (in_row x (with_number s w)).nodes at d)
  describes-with start_node i (a-start a) g h d = rw i d
  describes-with cut i (a-cut a) g h d = rw i d
  describes-with no_kind i x6 g h d = elim x6 [ ]

describes :
    (M : Model) (x : Index) (s : Seen) (kept : IndexedTable) (p : ℕ) (ws : List ℕ) → Walk x s p ws → Good s kept →
    Describes (seen_end (steps x) s p ws).nodes (kept_end (steps x) s kept p ws) s.nodes (nodes_of M p ws)
unfolding seen_end kept_end seen_with kept_with nodes_of Each
describes M x s kept p [] r g = record { total = omega arith; limit = g.limit; each = tt }
describes M x s kept p (w ∷ ws) r g =
    let k : TableKind = table_kind_of w in
    let more : IndexedTable = kept_with_kind k s w p kept in
    let next : Seen = seen_with x s w in
    let good : Good next more = good_with x s w p kept k r.1 g in
    describes-with M x (seen_end (steps x) next (suc p) ws).nodes (kept_end (steps x) next more (suc p) ws) s w p kept ws k r.0 r.1 g
    (kept-end x next (suc p) more ws r.2 good)
    (describes M x next more (suc p) ws r.2 good)

-- ---- the head and the start node

-- with the word w, behind words that come to s, they come to `next`: the first word is the head, and V stays as it gives it
record Headed (s : Seen) (w : ℕ) (next : Seen) : Type 0 where
  begun : (table_number next.opener) ≢ table_number no_kind
  first : (table_number s.opener) ≡ table_number no_kind → next.whole ≡ whole_of w
  stays : (table_number s.opener) ≢ table_number no_kind → next.whole ≡ s.whole

module _ (x : Index) where
  headed-with : (k : TableKind) (s : Seen) (w : ℕ) → Step s w k → Headed s w (seen_with_kind k x s w)
  unfolding seen_with_kind
  headed-with table_head s w (a-head e) = record { begun = λ o. omega arith; first = λ o. refl; stays = λ n. absurd (n e) }
  headed-with node s w (a-node a l) = record { begun = λ o. omega arith; first = λ o. absurd (a.not_first o); stays = λ n. refl }
  headed-with node_bound s w (a-bound e i j) = record { begun = λ o. omega arith; first = λ o. absurd (omega arith); stays = λ n. refl }
  headed-with value s w (a-value e) = record { begun = λ o. omega arith; first = λ o. absurd (omega arith); stays = λ n. refl }
  headed-with blocked s w (a-blocked a) = record { begun = λ o. omega arith; first = λ o. absurd (a.not_first o); stays = λ n. refl }
  headed-with successor s w (a-successor a) =
      let r = in_row x (with_number s w) in
      record { begun = λ o. omega (arith, r.opener); first = λ o. absurd (a.not_first o); stays = λ n. r.whole }
  headed-with start_node s w (a-start a) = record { begun = λ o. omega arith; first = λ o. absurd (a.not_first o); stays = λ n. refl }
  headed-with cut s w (a-cut a) = record { begun = λ o. omega arith; first = λ o. absurd (a.not_first o); stays = λ n. refl }
  headed-with no_kind s w x'' = elim x'' [ ]

  whole-stays : (s : Seen) (p : ℕ) (ws : List ℕ) → Walk x s p ws → (table_number s.opener) ≢ table_number no_kind → (seen_end (steps x) s p ws).whole ≡ s.whole
  unfolding seen_end seen_with
  whole-stays s p [] r n = refl
  whole-stays s p (w ∷ ws) r n =
      let h = headed-with (table_kind_of w) s w r.1 in
      whole-stays (seen_with x s w) (suc p) ws r.2 h.begun ∙ h.stays n

  whole-end : (s : Seen) (p : ℕ) (ws : List ℕ) → Walk x s p ws → (table_number s.opener) ≡ table_number no_kind → (seen_end (steps x) s p ws).whole ≡ whole_of (get_or ws 0 0)
  unfolding seen_end seen_with
  whole-end s p [] r o = absurd (omega arith)
  whole-end s p (w ∷ ws) r o =
      let h = headed-with (table_kind_of w) s w r.1 in
      whole-stays (seen_with x s w) (suc p) ws r.2 h.begun ∙ h.first o

-- no word follows the start node
none-follows : (k : TableKind) (s : Seen) (w : ℕ) → Step s w k → (table_number s.opener) ≢ table_number start_node
none-follows table_head s w (a-head e) o = omega arith
none-follows node s w (a-node a l) o = a.not_last o
none-follows node_bound s w (a-bound e i j) o = omega arith
none-follows value s w (a-value e) o = omega arith
none-follows blocked s w (a-blocked a) o = a.not_last o
none-follows successor s w (a-successor a) o = a.not_last o
none-follows start_node s w (a-start a) o = a.not_last o
none-follows cut s w (a-cut a) o = a.not_last o
none-follows no_kind s w x'' o = elim x'' [ ]

last-stays : (x : Index) (s : Seen) (kept : IndexedTable) (p : ℕ) (ws : List ℕ) → Walk x s p ws → (table_number s.opener) ≡ table_number start_node →
    kept_end (steps x) s kept p ws ≡ kept
unfolding kept_end
last-stays x s kept p [] r o = refl
last-stays x s kept p (w ∷ ws) r o = absurd (none-follows (table_kind_of w) s w r.1 o)

-- what is kept of the start node, where its word is among the words from the index p on
record Starts (k : IndexedTable) (p : ℕ) (ws : List ℕ) : Type 0 where
  start : k.start ≡ number_of (get_or ws (index_of (table_number start_node) ws) 0)
  place : k.place ≡ p + index_of (table_number start_node) ws

later : (k : IndexedTable) (w p : ℕ) (ws : List ℕ) → is_table start_node w ≡ false → Starts k (suc p) ws → Starts k p (w ∷ ws)
unfolding index_of
later k w p ws e h =
    let place : k.place ≡ suc p + index_of (table_number start_node) ws = h.place in
    record { start = rw e h.start; place = rw e (omega arith) }

module _ (x : Index) (s : Seen) (w p : ℕ) (kept end : IndexedTable) (ws : List ℕ) where
  starts_with :
      (k : TableKind) → kind w ≡ table_number k → Step s w k →
      ((table_number (seen_with_kind k x s w).opener) ≡ table_number start_node → end ≡ kept_with_kind k s w p kept) →
      ((table_number (seen_with_kind k x s w).opener) ≢ table_number start_node → Starts end (suc p) ws) → Starts end p (w ∷ ws)
  unfolding seen_with_kind kept_with_kind index_of
  starts_with table_head i (a-head e) last h = later end w p ws (rw i) (h (λ o. omega arith))
  starts_with node i (a-node a l) last h = later end w p ws (rw i) (h (λ o. omega arith))
  starts_with node_bound i (a-bound e f j) last h = later end w p ws (rw i) (h (λ o. omega arith))
  starts_with value i (a-value e) last h = later end w p ws (rw i) (h (λ o. omega arith))
  starts_with blocked i (a-blocked a) last h = later end w p ws (rw i) (h (λ o. omega arith))
  starts_with successor i (a-successor a) last h = later end w p ws (rw i) (h (λ o. omega (arith, (in_row x (with_number s w)).opener)))
  starts_with start_node i (a-start a) last h =
      record { start = rw i (ap (λ (k : IndexedTable). k.start) (last refl)); place = rw i (ap (λ (k : IndexedTable). k.place) (last refl) ∙ sym (add-zero p)) }
  starts_with cut i (a-cut a) last h = later end w p ws (rw i) (h (λ o. omega arith))
  starts_with no_kind i x5 last h = elim x5 [ ]

starts : (x : Index) (s : Seen) (kept : IndexedTable) (p : ℕ) (ws : List ℕ) → Walk x s p ws → (table_number s.opener) ≢ table_number start_node →
    Starts (kept_end (steps x) s kept p ws) p ws
unfolding kept_end seen_with kept_with
starts x s kept p [] r n = absurd (n r)
starts x s kept p (w ∷ ws) r n =
    let next : Seen = seen_with x s w in
    let more : IndexedTable = kept_with s w p kept in
    starts_with x s w p kept (kept_end (steps x) next more (suc p) ws) ws (table_kind_of w) r.0 r.1 (last-stays x next more (suc p) ws r.2)
    (starts x next more (suc p) ws r.2)

-- ---- from the first word

good-nothing : (k : IndexedTable) → node_count ≤ length k.nodes → Good nothing (begun k)
good-nothing k f = record { room = f; whole = refl; count = refl; limit = omega arith; begun = λ o. absurd (omega arith) }

pub read-indexed :
    (M : Model) (x : Index) (words : List ℕ) (k : IndexedTable) → x.clocks ≤ 4 → node_count ≤ length k.nodes → (t : Seen) →
    (scanned x words k).outcome ≡ Ok t → TableIndexed (table_of M words) (scanned x words k).kept
unfolding scanned table_of
read-indexed M x words k c f t h =
    let r : Run (steps x) nothing 0 words = run_of (steps x) nothing (begun k) 0 words t h in
    let walk : Walk x nothing 0 words = walk_of x nothing 0 words c r in
    let good = good-nothing k f in
    let end = good-end x nothing 0 (begun k) words walk good in
    let d = describes M x nothing (begun k) 0 words walk good in
    let b = starts x nothing (begun k) 0 words walk (λ o. omega arith) in
    rw (end_of (steps x) nothing (begun k) 0 words r) (record {
      whole = end.whole ∙ whole-end x nothing 0 words walk refl;
      count = end.count ∙ d.total ∙ zero-add (length (nodes_of M 0 words));
      limit = rw end.count d.limit;
      each = d.each;
      start = b.start;
      place = b.place ∙ zero-add (index_of (table_number start_node) words);
    })
