-- What a pass over a table keeps of its nodes and their zones: what a node's words leave, and that no later word changes it. Assumes nothing.
use Prim.Native.Nat.{ℕ, suc, ◌+◌, ◌-◌, ◌≤◌, ◌<◌}
use mathlib.Core.Path.{◌≡◌, refl, sym, ap, ◌∙◌}
use mathlib.Core.List.{List, [], ◌∷◌}
use native.Mathlib.Nat.{add-zero}
use native.Mathlib.Omega.{arith}
use lib.ListN.{length, get_or, drop}
use Rattle.zone.specs.Words.{kind, zone_of}
use Rattle.zone.specs.Reading.{with_word}
use Rattle.zone.specs.declared.zones.Zone.{Zone as Square}
use Rattle.model.specs.declared.table_kinds.TableKind.{TableKind}
use Rattle.model.specs.declared.table_kinds.TableKind.TheVariants.{Head as table_head, Node as node, Bound as node_bound, Value as value, Blocked as blocked, Successor as successor, StartNode as start_node, Cut as cut, None as no_kind}
use Rattle.model.specs.TableKinds.{table_number, table_kind_of}
use Rattle.model.specs.Indexed.{with_bounds}
use Rattle.model.specs.declared.index.Index.{Index}
use Rattle.table.specs.Fields.{value_of}
use Rattle.table.specs.Table.{leading_bounds}
use Rattle.table.specs.Nodes.{node_count, entry_at}
use Rattle.table.specs.Scan.{seen_with, seen_with_kind, with_number}
use Rattle.table.specs.Index.{kept_with_kind, kept_with, steps}
use Rattle.table.specs.declared.seen.Seen.{Seen}
use Rattle.table.specs.declared.nodes.Node.{Node as Entry}
use Rattle.table.specs.declared.nodes.IndexedTable.{IndexedTable}
use Rattle.table.proofs.NodeLaws.{entry_here, entry-apart}
use Rattle.table.proofs.ScanLaws.{in_row, as_long}
use Rattle.pass.proofs.Run.{seen_end, kept_end}
use Rattle.table.proofs.Walk.{Step, a-head, a-node, a-bound, a-value, a-blocked, a-successor, a-start, a-cut, Walk}

-- what holds while no check has failed: the table has room, V and its number of nodes, and behind a node word there is a node
pub record Good (s : Seen) (k : IndexedTable) : Type 0 where
  pub room : node_count ≤ length k.nodes
  pub whole : k.whole ≡ s.whole
  pub count : k.count ≡ s.nodes
  pub limit : s.nodes ≤ node_count
  pub begun : (table_number s.opener) ≡ table_number node → 1 ≤ s.nodes

module _ (x : Index) (s : Seen) (w p : ℕ) (kept : IndexedTable) where
  pub good_with : (k : TableKind) → Step s w k → Good s kept → Good (seen_with_kind k x s w) (kept_with_kind k s w p kept)
  unfolding seen_with_kind kept_with_kind
  good_with k d g = record { room = room k; whole = whole k; count = count k; limit = limit k d; begun = begun k d }
    where
      room : (k : TableKind) → node_count ≤ length (kept_with_kind k s w p kept).nodes
      room k = rw (as_long k s w p kept) g.room

      whole : (k : TableKind) → (kept_with_kind k s w p kept).whole ≡ (seen_with_kind k x s w).whole
      whole no_kind = g.whole
      whole table_head = refl
      whole node = g.whole
      whole node_bound = g.whole
      whole value = g.whole
      whole blocked = g.whole
      whole successor = g.whole ∙ sym (in_row x (with_number s w)).whole
      whole start_node = g.whole
      whole cut = g.whole

      count : (k : TableKind) → (kept_with_kind k s w p kept).count ≡ (seen_with_kind k x s w).nodes
      count no_kind = g.count
      count table_head = g.count
      count node = refl
      count node_bound = g.count
      count value = g.count
      count blocked = g.count
      count successor = g.count ∙ sym (in_row x (with_number s w)).nodes
      count start_node = g.count
      count cut = g.count

      limit : (k : TableKind) → Step s w k → (seen_with_kind k x s w).nodes ≤ node_count
      limit table_head (a-head e) = g.limit
      limit node (a-node a l) = omega arith
      limit node_bound (a-bound e i j) = g.limit
      limit value (a-value e) = g.limit
      limit blocked (a-blocked a) = g.limit
      limit successor (a-successor a) = rw (in_row x (with_number s w)).nodes g.limit
      limit start_node (a-start a) = g.limit
      limit cut (a-cut a) = g.limit
      limit no_kind x'' = elim x'' [ ]

      begun : (k : TableKind) → Step s w k → (table_number (seen_with_kind k x s w).opener) ≡ table_number node → 1 ≤ (seen_with_kind k x s w).nodes
      begun table_head (a-head e) o = absurd (omega arith)
      begun node (a-node a l) o = omega arith
      begun node_bound (a-bound e i j) o = g.begun o
      begun value (a-value e) o = absurd (omega arith)
      begun blocked (a-blocked a) o = absurd (omega arith)
      begun successor (a-successor a) o = absurd (omega (arith, (in_row x (with_number s w)).opener))
      begun start_node (a-start a) o = absurd (omega arith)
      begun cut (a-cut a) o = absurd (omega arith)
      begun no_kind x3 o = elim x3 [ ]

-- ---- no later word changes what is kept of a node whose value was read

-- the node q was read: it is not the last one, or the last one's value was read
record Settled (s : Seen) (q : ℕ) : Type 0 where
  below : q < s.nodes
  apart : (table_number s.opener) ≡ table_number node → suc q < s.nodes

-- the same is kept of the node q
abbrev Same : ℕ → IndexedTable → IndexedTable → Type 0
Same q old new = entry_at new.nodes q ≡ entry_at old.nodes q

module _ (x : Index) (s : Seen) (w p q : ℕ) (kept : IndexedTable) where
  settled_with : (k : TableKind) → Step s w k → Settled s q → Settled (seen_with_kind k x s w) q
  unfolding seen_with_kind
  settled_with table_head (a-head e) h = record { below = h.below; apart = λ o. absurd (omega arith) }
  settled_with node (a-node a l) h = let i : q < s.nodes = h.below in record { below = omega arith; apart = λ o. omega arith }
  settled_with node_bound (a-bound e i j) h = h
  settled_with value (a-value e) h = record { below = h.below; apart = λ o. absurd (omega arith) }
  settled_with blocked (a-blocked a) h = record { below = h.below; apart = λ o. absurd (omega arith) }
  settled_with successor (a-successor a) h =
      let r = in_row x (with_number s w) in record { below = rw r.nodes h.below; apart = λ o. absurd (omega (arith, r.opener)) }
  settled_with start_node (a-start a) h = record { below = h.below; apart = λ o. absurd (omega arith) }
  settled_with cut (a-cut a) h = record { below = h.below; apart = λ o. absurd (omega arith) }
  settled_with no_kind x3 h = elim x3 [ ]

  same_with : (k : TableKind) → Step s w k → Settled s q → Same q kept (kept_with_kind k s w p kept)
  unfolding kept_with_kind
  same_with table_head (a-head e) h = refl
  same_with node (a-node a l) h = let i : q < s.nodes = h.below in entry-apart _ s.nodes kept.nodes q (λ e. omega arith)
  same_with node_bound (a-bound e i j) h = let l : suc q < s.nodes = h.apart e in entry-apart _ (s.nodes - 1) kept.nodes q (λ e. omega arith)
  same_with value (a-value e) h = let l : suc q < s.nodes = h.apart e in entry-apart _ (s.nodes - 1) kept.nodes q (λ e. omega arith)
  same_with blocked (a-blocked a) h = refl
  same_with successor (a-successor a) h = refl
  same_with start_node (a-start a) h = refl
  same_with cut (a-cut a) h = refl
  same_with no_kind x3 h = elim x3 [ ]

module _ (x : Index) where
  settled-end : (s : Seen) (p q : ℕ) (kept : IndexedTable) (ws : List ℕ) → Walk x s p ws → Settled s q → Same q kept (kept_end (steps x) s kept p ws)
  unfolding kept_end kept_with seen_with
  settled-end s p q kept [] r h = refl
  settled-end s p q kept (w ∷ ws) r h =
      let k : TableKind = table_kind_of w in
      settled-end (seen_with x s w) (suc p) q (kept_with_kind k s w p kept) ws r.2 (settled_with x s w p q kept k r.1 h)
      ∙ same_with x s w p q kept k r.1 h

-- ---- the node whose word was the last that is no bound, once its value is read

bound-leads : (w : ℕ) (ws : List ℕ) → kind w ≡ table_number node_bound → leading_bounds (w ∷ ws) ≡ w ∷ leading_bounds ws
unfolding leading_bounds
bound-leads w ws e = rw e

value-ends : (w : ℕ) (ws : List ℕ) → kind w ≡ table_number value → leading_bounds (w ∷ ws) ≡ []
unfolding leading_bounds
value-ends w ws e = rw e

-- what is kept at n of a node of the location l, whose bounds and value are at the front of the words from the index p on; z is its zone so far
pub record KeptAt (n l p : ℕ) (ws : List ℕ) (z : Square) (k : IndexedTable) : Type 0 where
  pub location : (entry_at k.nodes n).location ≡ l
  pub value : (entry_at k.nodes n).value ≡ value_of (get_or (drop (length (leading_bounds ws)) ws) 0 0)
  pub place : (entry_at k.nodes n).place ≡ p + length (leading_bounds ws)
  pub zone : (entry_at k.nodes n).zone ≡ with_bounds (zone_of (leading_bounds ws)) z

module _ (x : Index) (s : Seen) (w p : ℕ) (kept : IndexedTable) (ws : List ℕ) (end : IndexedTable) (g : Good s kept) (o : (table_number s.opener) ≡ table_number node) where
  kept-with :
      (k : TableKind) → kind w ≡ table_number k → Step s w k →
      (Settled (seen_with_kind k x s w) (s.nodes - 1) → Same (s.nodes - 1) (kept_with_kind k s w p kept) end) →
      ((table_number (seen_with_kind k x s w).opener) ≡ table_number node →
      KeptAt ((seen_with_kind k x s w).nodes - 1) (seen_with_kind k x s w).location (suc p) ws
      (entry_at (kept_with_kind k s w p kept).nodes ((seen_with_kind k x s w).nodes - 1)).zone end) →
      KeptAt (s.nodes - 1) s.location p (w ∷ ws) (entry_at kept.nodes (s.nodes - 1)).zone end
  unfolding seen_with_kind kept_with_kind zone_of with_bounds with_word
  kept-with table_head n (a-head e) f h = absurd (omega arith)
  kept-with node n (a-node a l) f h = absurd (a.not-node o)
  kept-with node_bound n (a-bound e i j) f h =
      let r = h e in
      let one : 1 ≤ s.nodes = g.begun o in
      let limit : s.nodes ≤ node_count = g.limit in
      let room : node_count ≤ length kept.nodes = g.room in
      let place : (entry_at end.nodes (s.nodes - 1)).place ≡ suc p + length (leading_bounds ws) = r.place in
      record {
        location = r.location;
        value = rw (bound-leads w ws n) r.value;
        place = rw (bound-leads w ws n) (omega arith);
        zone = rw (bound-leads w ws n)
            (r.zone ∙ ap (λ (N : Entry). with_bounds (zone_of (leading_bounds ws)) N.zone) (entry_here _ (s.nodes - 1) kept.nodes (omega arith)));
      }
  kept-with value n (a-value e) f h =
      let one : 1 ≤ s.nodes = g.begun o in
      let limit : s.nodes ≤ node_count = g.limit in
      let room : node_count ≤ length kept.nodes = g.room in
      let entry = f (record { below = omega arith; apart = λ o. absurd (omega arith) }) ∙ entry_here _ (s.nodes - 1) kept.nodes (omega arith) in
      record {
        location = ap (λ (N : Entry). N.location) entry;
        value = rw (value-ends w ws n) (ap (λ (N : Entry). N.value) entry);
        place = rw (value-ends w ws n) (ap (λ (N : Entry). N.place) entry ∙ sym (add-zero p));
        zone = rw (value-ends w ws n) (ap (λ (N : Entry). N.zone) entry);
      }
  kept-with blocked n (a-blocked a) f h = absurd (a.not-node o)
  kept-with successor n (a-successor a) f h = absurd (a.not-node o)
  kept-with start_node n (a-start a) f h = absurd (a.not-node o)
  kept-with cut n (a-cut a) f h = absurd (a.not-node o)
  kept-with no_kind n x5 f h = elim x5 [ ]

module _ (x : Index) where
  pub kept-end :
      (s : Seen) (p : ℕ) (kept : IndexedTable) (ws : List ℕ) → Walk x s p ws → Good s kept → (table_number s.opener) ≡ table_number node →
      KeptAt (s.nodes - 1) s.location p ws (entry_at kept.nodes (s.nodes - 1)).zone (kept_end (steps x) s kept p ws)
  unfolding kept_end kept_with seen_with
  kept-end s p kept [] r g o = absurd (omega arith)
  kept-end s p kept (w ∷ ws) r g o =
      let k : TableKind = table_kind_of w in
      let more : IndexedTable = kept_with_kind k s w p kept in
      let t : Seen = seen_with x s w in
      kept-with x s w p kept ws (kept_end (steps x) t more (suc p) ws) g o k r.0 r.1 (settled-end x t (suc p) (s.nodes - 1) more ws r.2)
      (kept-end t (suc p) more ws r.2 (good_with x s w p kept k r.1 g))

  pub good-end : (s : Seen) (p : ℕ) (kept : IndexedTable) (ws : List ℕ) → Walk x s p ws → Good s kept →
      Good (seen_end (steps x) s p ws) (kept_end (steps x) s kept p ws)
  unfolding seen_end kept_end kept_with seen_with
  good-end s p kept [] r g = g
  good-end s p kept (w ∷ ws) r g =
      good-end (seen_with x s w) (suc p) (kept_with s w p kept) ws r.2 (good_with x s w p kept (table_kind_of w) r.1 g)
