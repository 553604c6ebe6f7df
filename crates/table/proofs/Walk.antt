-- A pass over a table that refuses nothing, word by word: what each word may stand behind. Assumes nothing.
use Prim.Native.Nat.{ℕ, suc, ◌≤◌, ◌<◌}
use mathlib.Core.Path.{◌≡◌, refl, sym, ap, ◌∙◌}
use mathlib.Core.Logic.{◌≢◌}
use mathlib.Core.Bool.{true, false}
use mathlib.Core.List.{List, [], ◌∷◌}
use borrow.Author.Tests.{eqb-true, ltb-true}
use lib.Dec.{eqb}
use Rattle.zone.specs.Words.{kind, bound_of}
use Rattle.zone.proofs.Bools.{false_true}
use Rattle.model.specs.declared.table_kinds.TableKind.{TableKind}
use Rattle.model.specs.declared.table_kinds.TableKind.TheVariants.{None as no_kind, Head as table_head, Node as node, Bound as node_bound, Value as value, Blocked as blocked, Successor as successor, StartNode as start_node, Cut as cut}
use Rattle.model.specs.TableKinds.{table_number, table_kind_of}
use Rattle.model.specs.Grammar.{table_follows, numbered?, may_follow?, table_follows?}
use Rattle.model.specs.declared.index.Index.{Index}
use Rattle.table.specs.Nodes.{node_count}
use Rattle.table.specs.Scan.{checked_end, seen_with}
use Rattle.table.specs.Index.{steps}
use Rattle.table.specs.declared.seen.Seen.{Seen}
use Rattle.std.proofs.Common.{Ok}
use Rattle.pass.proofs.Run.{Run}
use Rattle.table.proofs.Passing.{Passes, passes, all_pass, bound-clocks, behind-only, before-bound, before-value}

-- the opener is no node word and no start node, and there is one
pub record Inside (s : Seen) : Type 0 where
  pub not-node : (table_number s.opener) ≢ table_number node
  pub not_last : (table_number s.opener) ≢ table_number start_node
  pub not_first : (table_number s.opener) ≢ table_number no_kind

-- what a word that fails no check says of what was seen before it and, if it is a bound, of its clocks, by its kind
pub data Step (s : Seen) (w : ℕ) : TableKind → Type 0 where
  a-head : (table_number s.opener) ≡ table_number no_kind → Step s w table_head
  a-node : Inside s → s.nodes < node_count → Step s w node
  a-bound : (table_number s.opener) ≡ table_number node → (bound_of w).i < 5 → (bound_of w).j < 5 → Step s w node_bound
  a-value : (table_number s.opener) ≡ table_number node → Step s w value
  a-blocked : Inside s → Step s w blocked
  a-successor : Inside s → Step s w successor
  a-start : Inside s → Step s w start_node
  a-cut : Inside s → Step s w cut

-- an opener behind which a kind may not stand
never : (o n m : ℕ) → table_follows? o n ≡ true → table_follows? m n ≡ false → o ≢ m
never o n m h e q = false_true (sym e ∙ ap (λ (o : ℕ). table_follows? o n) (sym q) ∙ h)

inside :
    (s : Seen) (k : TableKind) → table_follows? (table_number s.opener) (table_number k) ≡ true → table_follows? (table_number node) (table_number k) ≡ false →
    table_follows? (table_number start_node) (table_number k) ≡ false → table_follows? (table_number no_kind) (table_number k) ≡ false → Inside s
inside s k h a b c =
    record {
      not-node = never (table_number s.opener) (table_number k) (table_number node) h a;
      not_last = never (table_number s.opener) (table_number k) (table_number start_node) h b;
      not_first = never (table_number s.opener) (table_number k) (table_number no_kind) h c;
    }

step_of : (k : TableKind) (x : Index) (s : Seen) (w : ℕ) → x.clocks ≤ 4 → Passes k x s w → Step s w k
unfolding table_follows? may_follow? numbered? table_follows
step_of no_kind x s w c g = false_true g.fields
step_of table_head x s w c g = a-head (behind-only table_head (table_number s.opener) g.follows no_kind tt)
step_of node x s w c g = a-node (inside s node g.follows refl refl refl) (ltb-true _ _ g.limit)
step_of node_bound x s w c g = let clocks = bound-clocks x s w c g in a-bound (before-bound (table_number s.opener) g.follows) clocks.0 clocks.1
step_of value x s w c g = a-value (before-value (table_number s.opener) g.follows)
step_of blocked x s w c g = a-blocked (inside s blocked g.follows refl refl refl)
step_of successor x s w c g = a-successor (inside s successor g.follows refl refl refl)
step_of start_node x s w c g = a-start (inside s start_node g.follows refl refl refl)
step_of cut x s w c g = a-cut (inside s cut g.follows refl refl refl)

-- a pass that refuses nothing ends behind the start node
ends : (s : Seen) → checked_end s ≡ Ok tt → (table_number s.opener) ≡ table_number start_node
unfolding checked_end
ends s h = eqb-true (table_number s.opener) (table_number start_node) (all_pass (eqb (table_number s.opener) (table_number start_node)) true true h).0

-- no word fails a check, and none is missing at the end
abbrev pub Walk : Index → Seen → ℕ → List ℕ → Type 0
Walk x s p [] = (table_number s.opener) ≡ table_number start_node
Walk x s p (w ∷ ws) = (kind w ≡ table_number (table_kind_of w)) × Step s w (table_kind_of w) × Walk x (seen_with x s w) (suc p) ws

pub walk_of : (x : Index) (s : Seen) (p : ℕ) (ws : List ℕ) → x.clocks ≤ 4 → Run (steps x) s p ws → Walk x s p ws
walk_of x s p [] c r = ends s r
walk_of x s p (w ∷ ws) c r =
    let g = passes x s w r.0 in
    (g.named, step_of (table_kind_of w) x s w c g, walk_of x (seen_with x s w) (suc p) ws c r.1)
