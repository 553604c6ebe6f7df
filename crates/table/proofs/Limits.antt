-- What holds of a table's words read so far while no check has failed. Assumes nothing.
use Prim.Native.Nat.{ℕ, suc, ◌+◌, ◌-◌, ◌≤◌, ◌<◌}
use mathlib.Core.Path.{◌≡◌, refl}
use mathlib.Core.Logic.{◌≢◌}
use mathlib.Core.Bool.{Bool, true, false, not, cond, ◌||◌}
use native.Mathlib.Omega.{arith}
use Rattle.std.proofs.Common.{Ok}
use borrow.Author.Tests.{ltb-true, eqb-true, eqb-false}
use lib.Dec.{T, eqb}
use lib.ListN.{get_or}
use Rattle.zone.specs.Words.{bits, bound_of}
use Rattle.zone.proofs.Bools.{by-test, false_true, left_true, right_true}
use Rattle.model.specs.declared.table_kinds.TableKind.{TableKind}
use Rattle.model.specs.declared.table_kinds.TableKind.TheVariants.{None as no_kind, Head as table_head, Node as node, Bound as node_bound, Value as value, Blocked as blocked, Successor as successor, StartNode as start_node, Cut as cut}
use Rattle.model.specs.TableKinds.{table_number, table_kinds, table_kind_of}
use Rattle.model.specs.Grammar.{table_follows, numbered?, table_follows?}
use Rattle.model.specs.Openers.{table_opener?}
use Rattle.model.specs.declared.index.Index.{Index}
use Rattle.model.proofs.KindLaws.{each?, row?}
use Rattle.table.specs.Fields.{location_of}
use Rattle.table.specs.Nodes.{node_count}
use Rattle.table.specs.Scan.{nothing, checked, node_openers, one_of?}
use Rattle.table.specs.Scan.{first_row, end_row, rows_at, edges_at, size_at, with_value, with_row, with_begun, with_number, seen_with_kind, seen_with}
use Rattle.table.specs.Scan.{IndexFits, WithinLimits}
use Rattle.table.specs.declared.seen.Seen.{Seen}
use Rattle.table.proofs.Passing.{Passes, passes, passes_as, bound-clocks, behind, behind-only, not-one}

-- every kind but a bound is an opener
opens : (k : TableKind) → table_number k ≢ table_number node_bound → table_opener? (table_number k) ≡ true
unfolding numbered?
opens no_kind n = refl
opens table_head n = refl
opens node n = refl
opens node_bound n = absurd (n refl)
opens value n = refl
opens blocked n = refl
opens successor n = refl
opens start_node n = refl
opens cut n = refl

-- ---- a word more

-- none of no rows is due
none-due : {X : Type 0} {n rows : ℕ} → rows ≡ 0 → suc n ≤ rows → X
none-due e r = absurd (omega arith)

-- there are so many rows, and they are those of actions of the location l from a on
abbrev RowsOf : Index → ℕ → ℕ → ℕ → Type 0
RowsOf x l a rows = 1 ≤ rows → (first_row x l ≤ a) × (a + rows ≤ end_row x l)

module _ (x : Index) (fits : IndexFits x) (l : ℕ) (h : l < x.locations) where
  size-limit : (a rows : ℕ) → RowsOf x l a rows → (size_at x a rows ≤ 128) × (1 ≤ rows → 1 ≤ size_at x a rows)
  unfolding size_at edges_at first_row end_row
  size-limit a rows at = by (eqb rows 0) (λ e. eqb-true rows 0 e) (λ e. eqb-false rows 0 e)
    where
      by : (c : Bool) → (c ≡ true → rows ≡ 0) → (c ≡ false → rows ≢ 0) →
          (cond c 0 (edges_at x a) ≤ 128) × (1 ≤ rows → 1 ≤ cond c 0 (edges_at x a))
      by true e n = (omega arith, λ r. none-due (e refl) r)
      by false e n =
          let some : rows ≢ 0 = n refl in
          let r : 1 ≤ rows = omega arith in
          let there = at r in
          let edges = fits.edges l a h there.0 (omega arith) in
          (omega arith, λ r. omega arith)

  -- behind a value
  rows_few : first_row x l + rows_at x l ≤ end_row x l
  unfolding first_row end_row rows_at
  rows_few = let actions = fits.actions l h in by (get_or x.targets l false) actions.0
    where
      by : (c : Bool) {m n : ℕ} → m ≤ n → m + cond c 0 (n - m) ≤ n
      by true e = omega arith
      by false e = omega arith

  all-rows : RowsOf x l (first_row x l) (rows_at x l)
  all-rows r = let few = rows_few in (omega arith, few)

  pub rows-limit : first_row x l + rows_at x l ≤ 32
  unfolding end_row
  rows-limit = let few = rows_few in let actions = fits.actions l h in omega arith

-- where such rows are due and none is begun
first-limits :
    (x : Index) (s : Seen) → IndexFits x → table_opener? (table_number s.opener) ≡ true → one_of? node_openers (table_number s.opener) ≡ true → s.nodes ≤ node_count →
    (1 ≤ s.nodes) × (s.location < x.locations) → s.action + s.rows ≤ 32 → RowsOf x s.location s.action s.rows →
    s.size ≡ size_at x s.action s.rows → s.begun ≡ 0 → WithinLimits x s
first-limits x s fits o on most there few at es eb =
    let size = size-limit x fits s.location there.1 s.action s.rows at in
    record {
      opener = o;
      nodes = most;
      node = λ a. there;
      begun = λ r. (on, rw (es, eb) (size.1 r));
      size = rw es size.0;
      action = few;
      rows = λ r. at (omega arith);
    }

module _ (x : Index) (s : Seen) (fits : IndexFits x) (h : WithinLimits x s) where
  -- behind a kind that stands behind a node's words alone, the last node is there, and its location exists
  node-behind :
      (k : TableKind) → T (each? (row? table_number table_follows (λ o n. not (eqb n (table_number k)) || one_of? node_openers o)) table_kinds) →
      table_follows? (table_number s.opener) (table_number k) ≡ true → (1 ≤ s.nodes) × (s.location < x.locations)
  node-behind k t g = h.node (behind k (table_number s.opener) g node_openers t)

  -- behind the first row
  module _ (r : 1 ≤ s.rows) where
    there : (1 ≤ s.nodes) × (s.location < x.locations)
    there = h.node (h.begun r).0

    few : s.action + 1 + (s.rows - 1) ≤ 32
    few = let action = h.action in omega arith

    rows_behind : RowsOf x s.location (s.action + 1) (s.rows - 1)
    rows_behind q = let rows = h.rows (omega arith) in (omega arith, omega arith)

    row-limits : (o : TableKind) → table_opener? (table_number o) ≡ true → one_of? node_openers (table_number o) ≡ true → WithinLimits x (with_row x s o)
    row-limits o opened on = first-limits x (with_row x s o) fits opened on h.nodes there few rows_behind refl refl

  module _ (w : ℕ) where
    head-limits : Passes table_head x s w → WithinLimits x (seen_with_kind table_head x s w)
    unfolding seen_with_kind table_follows numbered?
    head-limits g =
        let first : (table_number s.opener) ≡ table_number no_kind = behind-only table_head (table_number s.opener) g.follows no_kind tt in
        let none : 1 ≤ s.rows → ⊥ = λ r. not-one node_openers (table_number s.opener) (table_number no_kind) (h.begun r).0 refl first in
        record {
          opener = opens table_head (λ e. omega arith);
          nodes = h.nodes;
          node = λ a. false_true a;
          begun = λ r. absurd (none r);
          size = h.size;
          action = h.action;
          rows = h.rows;
        }

    node-limits : Passes node x s w → WithinLimits x (seen_with_kind node x s w)
    unfolding seen_with_kind
    node-limits g =
        let few : s.nodes < node_count = ltb-true _ _ g.limit in
        let there : location_of w < x.locations = ltb-true _ _ (right_true (eqb (bits 23 0 w) 0) _ g.fields) in
        let done : s.rows ≡ 0 = eqb-true _ _ g.rows in
        record {
          opener = opens node (λ e. omega arith);
          nodes = omega arith;
          node = λ a. (omega arith, there);
          begun = λ r. none-due done r;
          size = h.size;
          action = h.action;
          rows = λ r. none-due done r;
        }

    value-limits : Passes value x s w → WithinLimits x (seen_with_kind value x s w)
    unfolding seen_with_kind table_follows numbered?
    value-limits g =
        let there : (1 ≤ s.nodes) × (s.location < x.locations) = node-behind value tt g.follows in
        first-limits x (with_value x s) fits (opens value (λ e. omega arith)) refl h.nodes there
        (rows-limit x fits s.location there.1) (all-rows x fits s.location there.1) refl refl

    blocked-limits : Passes blocked x s w → WithinLimits x (seen_with_kind blocked x s w)
    unfolding seen_with_kind numbered?
    blocked-limits g =
        row-limits (ltb-true _ _ (left_true _ _ g.rows)) blocked (opens blocked (λ e. omega arith)) refl

    successor-limits : Passes successor x s w → WithinLimits x (seen_with_kind successor x s w)
    unfolding seen_with_kind numbered?
    successor-limits g =
        let r : 1 ≤ s.rows = ltb-true _ _ g.rows in
        let opened = opens successor (λ e. omega arith) in
        let t : Seen = with_number s w in
        by-test (λ (t : Seen). WithinLimits x t) (eqb (s.begun + 1) s.size) (with_row x t successor) (with_begun t)
        (λ e. first-limits x (with_row x t successor) fits opened refl h.nodes (there r) (few r) (rows_behind r) refl refl)
        (λ e.
        let begun = (h.begun r).1 in
        let more = eqb-false (s.begun + 1) s.size e in
        record {
          opener = opened;
          nodes = h.nodes;
          node = λ a. there r;
          begun = λ q. (refl, omega arith);
          size = h.size;
          action = h.action;
          rows = h.rows;
        })

    start-limits : Passes start_node x s w → WithinLimits x (seen_with_kind start_node x s w)
    unfolding seen_with_kind table_follows numbered?
    start-limits g =
        let done : s.rows ≡ 0 = eqb-true _ _ g.rows in
        record {
          opener = opens start_node (λ e. omega arith);
          nodes = h.nodes;
          node = λ a. node-behind start_node tt g.follows;
          begun = λ r. none-due done r;
          size = h.size;
          action = h.action;
          rows = λ r. none-due done r;
        }

    cut-limits : Passes cut x s w → WithinLimits x (seen_with_kind cut x s w)
    unfolding seen_with_kind table_follows numbered?
    cut-limits g = record {
      opener = opens cut (λ e. omega arith);
      nodes = h.nodes;
      node = λ a. node-behind cut tt g.follows;
      begun = λ r. (refl, omega arith);
      size = omega arith;
      action = omega arith;
      rows = λ r. absurd (omega arith);
    }

    limits-kind : (k : TableKind) → Passes k x s w → WithinLimits x (seen_with_kind k x s w)
    unfolding seen_with_kind
    limits-kind no_kind g = false_true g.fields
    limits-kind table_head g = head-limits g
    limits-kind node g = node-limits g
    limits-kind node_bound g = h
    limits-kind value g = value-limits g
    limits-kind blocked g = blocked-limits g
    limits-kind successor g = successor-limits g
    limits-kind start_node g = start-limits g
    limits-kind cut g = cut-limits g

pub limits-nothing : (x : Index) → WithinLimits x nothing
unfolding numbered?
limits-nothing x = record {
  opener = opens no_kind (λ e. omega arith);
  nodes = omega arith;
  node = λ a. false_true a;
  begun = λ r. absurd (omega arith);
  size = omega arith;
  action = omega arith;
  rows = λ r. absurd (omega arith);
}

module _ (x : Index) (s : Seen) (w : ℕ) (fits : IndexFits x) (h : WithinLimits x s) (f : checked x s w ≡ Ok tt) where
  pub limits_with : WithinLimits x (seen_with x s w)
  unfolding seen_with
  limits_with = limits-kind x s fits h w (table_kind_of w) (passes x s w f)

  -- behind a word of a kind
  pub limits-behind : (k : TableKind) → table_kind_of w ≡ k → {t : Seen} → t ≡ seen_with_kind k x s w → WithinLimits x t
  unfolding seen_with
  limits-behind k e f = rw (f, ← e) limits_with

  -- ---- what a word that fails no check says

  -- a value stands behind a node, whose location exists
  pub value-node : table_kind_of w ≡ value → (1 ≤ s.nodes) × (s.location < x.locations)
  unfolding table_follows numbered?
  value-node e = node-behind x s fits h value tt (passes_as value x s w e f).follows

  -- there is room for a node
  pub node-room : table_kind_of w ≡ node → s.nodes < node_count
  node-room e = ltb-true _ _ (passes_as node x s w e f).limit

  -- a bound stands behind a node and has two of five clocks
  pub bound-asks : table_kind_of w ≡ node_bound → (1 ≤ s.nodes) × (((bound_of w).i < 5) × ((bound_of w).j < 5))
  unfolding table_follows numbered?
  bound-asks e =
      let g = passes_as node_bound x s w e f in
      let clocks = bound-clocks x s w fits.clocks g in
      ((node-behind x s fits h node_bound tt g.follows).0, clocks)

  -- a word of a row stands where one is due
  pub blocked-asks : table_kind_of w ≡ blocked → (1 ≤ s.rows) × (s.action + s.rows ≤ 32)
  blocked-asks e = (ltb-true _ _ (left_true _ _ (passes_as blocked x s w e f).rows), h.action)

  pub successor-asks : table_kind_of w ≡ successor → (1 ≤ s.rows) × (s.action + s.rows ≤ 32) × (s.begun < s.size) × (s.size ≤ 128)
  successor-asks e = let r = ltb-true _ _ (passes_as successor x s w e f).rows in (r, h.action, (h.begun r).1, h.size)
