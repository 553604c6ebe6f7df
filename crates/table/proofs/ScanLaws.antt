-- Laws of what a table's word adds, by its kind. Assumes nothing.
use Prim.Native.Nat.{ℕ, ◌+◌, ◌-◌}
use mathlib.Core.Path.{◌≡◌, refl}
use lib.Dec.{eqb}
use lib.ListN.{length}
use Rattle.zone.proofs.Bools.{by-test}
use Rattle.model.specs.declared.table_kinds.TableKind.{TableKind}
use Rattle.model.specs.declared.table_kinds.TableKind.TheVariants.{None as no_kind, Head as table_head, Node as node, Bound as node_bound, Value as value, Blocked as blocked, Successor as successor, StartNode as start_node, Cut as cut}
use Rattle.model.specs.TableKinds.{table_number}
use Rattle.model.specs.declared.index.Index.{Index}
use Rattle.table.specs.Scan.{with_row, with_begun, with_successor}
use Rattle.table.specs.Index.{kept_with_kind}
use Rattle.table.specs.declared.nodes.IndexedTable.{IndexedTable}
use Rattle.table.specs.declared.seen.Seen.{Seen}
use Rattle.table.proofs.NodeLaws.{entry_length}

-- with a successor: it is the last word that is no bound, and what tells nothing of rows stays
pub record InRow (new old : Seen) : Type 0 where
  pub opener : table_number new.opener ≡ table_number successor
  pub whole : new.whole ≡ old.whole
  pub nodes : new.nodes ≡ old.nodes
  pub location : new.location ≡ old.location
  pub target : new.target ≡ old.target
  pub furthest : new.furthest ≡ old.furthest

pub in_row : (x : Index) (s : Seen) → InRow (with_successor x s) s
in_row x s =
    by-test (λ (t : Seen). InRow t s) (eqb (s.begun + 1) s.size) (with_row x s successor) (with_begun s)
    (λ e. record { opener = refl; whole = refl; nodes = refl; location = refl; target = refl; furthest = refl })
    λ e. record { opener = refl; whole = refl; nodes = refl; location = refl; target = refl; furthest = refl }

-- the table keeps its room for nodes
pub as_long : (k : TableKind) (s : Seen) (w p : ℕ) (kept : IndexedTable) → length (kept_with_kind k s w p kept).nodes ≡ length kept.nodes
unfolding kept_with_kind
as_long no_kind s w p kept = refl
as_long table_head s w p kept = refl
as_long node s w p kept = entry_length _ s.nodes kept.nodes
as_long node_bound s w p kept = entry_length _ (s.nodes - 1) kept.nodes
as_long value s w p kept = entry_length _ (s.nodes - 1) kept.nodes
as_long blocked s w p kept = refl
as_long successor s w p kept = refl
as_long start_node s w p kept = refl
as_long cut s w p kept = refl
