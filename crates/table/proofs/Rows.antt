-- The rows that are due behind some words, and the numbers by which the pass knows them. Assumes nothing.
use Prim.Native.Nat.{ℕ, suc, ◌+◌, ◌-◌}
use mathlib.Core.Path.{◌≡◌, refl, sym, ap, subst, ◌∙◌}
use mathlib.Core.Bool.{Bool, true, false, not, cond}
use mathlib.Core.List.{List, [], ◌∷◌}
use native.Mathlib.Numerals.{add-one}
use native.Mathlib.Omega.{arith}
use borrow.Author.Tests.{ne_eqb, ltb-true, lt-ltb}
use lib.Dec.{eqb, ltb}
use lib.ListN.{get_or, length}
use Rattle.model.specs.declared.table_kinds.TableKind.{TableKind}
use Rattle.model.specs.declared.table_kinds.TableKind.TheVariants.{None as no_kind, Head as table_head, Node as node, Bound as node_bound, Value as value, Blocked as blocked, Successor as successor, StartNode as start_node, Cut as cut}
use Rattle.model.specs.TableKinds.{table_number}
use Rattle.model.specs.Model.{Action, Location, Model}
use Rattle.model.specs.States.{location_at}
use Rattle.model.specs.Indexed.{Each, ActionAt, LocationAt}
use Rattle.model.specs.declared.index.IndexedModel.{IndexedModel}
use Rattle.table.specs.Table.{row_actions}
use Rattle.table.specs.Reading.{Due, edge_counts, all_due, due_after_row, due_after_successor, two_due, rows_allow?}
use Rattle.table.specs.Scan.{rows_allow_kind?, with_value, with_row, with_begun, with_number, with_successor, with_cut, first_row, end_row, rows_at, edges_at, size_at}
use Rattle.table.specs.declared.seen.Seen.{Seen}

-- the rows that are due, each by the number of its B words, and the pass's numbers for them: none, or a first one and behind it those of the
-- actions As. How many B words stand tells nothing where no row is due
pub data Left (m : IndexedModel) (rows : List ℕ) (begun : ℕ) (s : Seen) : Type 0 where
  none_left : rows ≡ [] → s.rows ≡ 0 → Left m rows begun s
  row-left :
      (As : List Action) → Each (ActionAt m) (s.action + 1) As → rows ≡ s.size ∷ edge_counts As → s.rows ≡ suc (length As) →
      s.begun ≡ begun → Left m rows begun s

abbrev pub LeftDue : IndexedModel → Due → Seen → Type 0
LeftDue m d s = Left m d.rows d.begun s

-- the number of a node is none of them
pub left-number : (m : IndexedModel) (d : Due) (s : Seen) (w : ℕ) → LeftDue m d s → LeftDue m d (with_number s w)
left-number m d s w (none_left e f) = none_left e f
left-number m d s w (row-left As a e f b) = row-left As a e f b

-- the tests of a row
some-rows : (n : ℕ) → (eqb (suc n) 0 ≡ false) × (ltb 0 (suc n) ≡ true)
some-rows n = (ne_eqb (suc n) 0 (λ e. omega arith), lt-ltb 0 (suc n) (omega arith))

-- a cut asks whether the location is a target, the other kinds ask for rows
pub same_rows : (m : IndexedModel) (d : Due) (s : Seen) → LeftDue m d s → (k : TableKind) → (table_number k ≡ table_number cut → s.target ≡ d.target) →
    rows_allow_kind? k s ≡ rows_allow? k d
unfolding rows_allow?
same_rows m d s h no_kind t = refl
same_rows m d s h table_head t = refl
same_rows m d s (none_left e f) node t = rw (e, f)
same_rows m d s (row-left As a e f b) node t = rw (e, f, (some-rows (length As)).0)
same_rows m d s h node_bound t = refl
same_rows m d s h value t = refl
same_rows m d s (none_left e f) blocked t = rw (e, f)
same_rows m d s (row-left As a e f b) blocked t = rw (e, f, b, (some-rows (length As)).1)
same_rows m d s (none_left e f) successor t = rw (e, f)
same_rows m d s (row-left As a e f b) successor t = rw (e, f, (some-rows (length As)).1)
same_rows m d s (none_left e f) start_node t = rw (e, f)
same_rows m d s (row-left As a e f b) start_node t = rw (e, f, (some-rows (length As)).0)
same_rows m d s h cut t = ap not (t refl)

-- ---- a word more

-- the rows of some actions are due, and none of them is begun
first-left :
    (m : IndexedModel) (s : Seen) (As : List Action) → Each (ActionAt m) s.action As → s.rows ≡ length As →
    s.size ≡ size_at m.index s.action s.rows → s.begun ≡ 0 → Left m (edge_counts As) 0 s
unfolding Each edge_counts size_at edges_at
first-left m s [] a e f b = none_left refl e
first-left m s (A ∷ As) a e f b =
    let size : s.size ≡ length A.edges = f ∙ rw (e, (some-rows (length As)).0, add-one s.action, a.0.ends) (omega arith) in
    row-left As (subst (λ (n : ℕ). Each (ActionAt m) n As) (sym (add-one s.action)) a.1) (rw size) e b

module _ (m : IndexedModel) (d : Due) (s : Seen) where
  -- a row is complete; o is the opener behind it
  row_done : (o : TableKind) (As : List Action) → Each (ActionAt m) (s.action + 1) As → s.rows ≡ suc (length As) →
      Left m (edge_counts As) 0 (with_row m.index s o)
  row_done o As a f = first-left m (with_row m.index s o) As a (omega arith) refl refl

  pub left-row : (o : TableKind) → LeftDue m d s → ltb 0 s.rows ≡ true → LeftDue m (due_after_row d) (with_row m.index s o)
  unfolding due_after_row
  left-row o (none_left e f) t = let r = ltb-true 0 s.rows t in absurd (omega arith)
  left-row o (row-left As a e f b) t = rw e (row_done o As a f)

  pub left-successor : LeftDue m d s → ltb 0 s.rows ≡ true → LeftDue m (due_after_successor d) (with_successor m.index s)
  unfolding due_after_successor
  left-successor (none_left e f) t = let r = ltb-true 0 s.rows t in absurd (omega arith)
  left-successor (row-left As a e f b) t =
      let same : eqb (suc d.begun) (get_or d.rows 0 0) ≡ eqb (s.begun + 1) s.size = rw (e, b, add-one d.begun) in
      rw same (by (eqb (s.begun + 1) s.size))
    where
      by :
          (c : Bool) → LeftDue m (cond c (due_after_row d) (record { rows = d.rows; begun = suc d.begun; target = d.target }))
          (cond c (with_row m.index s successor) (with_begun s))
      by true = left-row successor (row-left As a e f b) t
      by false = row-left As a e f (add-one s.begun ∙ ap suc b)

-- behind a cut, two B words
pub left_cut : (m : IndexedModel) (d : Due) (s : Seen) → LeftDue m (two_due d) (with_cut s)
unfolding two_due edge_counts Each
left_cut m d s = row-left [] tt refl refl refl

-- the actions of a location that have a row
rows-each : (m : IndexedModel) (n : ℕ) (c : Bool) (As : List Action) → Each (ActionAt m) n As → Each (ActionAt m) n (cond c [] As)
unfolding Each
rows-each m n true As h = tt
rows-each m n false As h = h

rows-count : (first end : ℕ) (c : Bool) (As : List Action) → end ≡ first + length As → cond c 0 (end - first) ≡ length (cond c [] As)
rows-count first end true As e = refl
rows-count first end false As e = omega arith

pub left-value : (M : Model) (m : IndexedModel) (s : Seen) → LocationAt m s.location (location_at M s.location) →
    LeftDue m (all_due M s.location) (with_value m.index s)
unfolding all_due row_actions rows_at first_row end_row
left-value M m s h =
    let L : Location = location_at M s.location in
    first-left m (with_value m.index s) (row_actions L) (rows-each m _ L.target L.actions h.actions)
    (rw (h.target, add-one s.location) (rows-count _ _ L.target L.actions h.ends)) refl refl
