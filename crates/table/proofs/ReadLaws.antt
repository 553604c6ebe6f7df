-- Laws of what the checks of a table's words are made of: the rows that are due, the opener and the location, the count of nodes. Assumes nothing.
use Prim.Native.Nat.{ℕ, suc, ◌+◌, ◌<◌}
use mathlib.Core.Path.{◌≡◌, refl, sym, ap, ◌∙◌}
use mathlib.Core.Logic.{◌≢◌}
use mathlib.Core.Bool.{Bool, true, false, cond}
use mathlib.Core.List.{List, [], ◌∷◌}
use native.Mathlib.Omega.{arith}
use borrow.Author.Tests.{eqb-false}
use lib.Dec.{T, eqb}
use lib.ListN.{get_or, length, drop}
use lib.Seq.{drop-drop}
use Rattle.zone.specs.Words.{kind}
use Rattle.zone.proofs.Bools.{by-test}
use Rattle.model.specs.declared.table_kinds.TableKind.{TableKind}
use Rattle.model.specs.declared.table_kinds.TableKind.TheVariants.{None as no_kind, Head as table_head, Node as node, Bound as node_bound, Value as value, Blocked as blocked, Successor as successor, StartNode as start_node, Cut as cut}
use Rattle.model.specs.TableKinds.{table_number, is_table, table_kind_of}
use Rattle.model.specs.Before.{opener_from, count_of}
use Rattle.model.specs.Model.{Action, Model}
use Rattle.model.specs.States.{location_at}
use Rattle.model.proofs.ZoneLaws.{All, empty, more}
use Rattle.model.proofs.WellFormed.{FormedAction, WellFormed}
use Rattle.table.specs.Fields.{location_of, fields?}
use Rattle.table.specs.Table.{row_actions, node_of, nodes_of}
use Rattle.table.specs.Reading.{last_location, Due, edge_counts, all_due, due_after_row, due_after_successor, two_due, due_with, due}
use Rattle.model.proofs.TableKindLaws.{kind-is, by_kind}

-- ---- the rows that are due

-- a row that is begun lacks some word, and every row has one
abbrev pub Lacking : ℕ → List ℕ → Type 0
Lacking begun [] = Unit {0}
Lacking begun (n ∷ ns) = (begun < n) × Lacking 0 ns

abbrev pub LackingDue : Due → Type 0
LackingDue d = Lacking d.begun d.rows

lacking_row : (begun : ℕ) (ns : List ℕ) → Lacking begun ns → Lacking 0 (drop 1 ns)
lacking_row begun [] h = tt
lacking_row begun (n ∷ ns) h = h.1

lacking_successor : (d : Due) → LackingDue d → LackingDue (due_after_successor d)
unfolding due_after_successor due_after_row
lacking_successor d h =
    by-test LackingDue (eqb (suc d.begun) (get_or d.rows 0 0)) (due_after_row d) _ (λ e. lacking_row d.begun d.rows h)
    λ e. more_left d.begun d.rows h (eqb-false _ _ e)
  where
    more_left : (begun : ℕ) (ns : List ℕ) → Lacking begun ns → suc begun ≢ get_or ns 0 0 → Lacking (suc begun) ns
    more_left begun [] h e = tt
    more_left begun (n ∷ ns) h e = (less h.0 e, h.1)
      where
        less : begun < n → suc begun ≢ n → suc begun < n
        less l m = omega arith

-- a B keeps whether the location is a target
pub target-stays : (d : Due) → (due_after_successor d).target ≡ d.target
unfolding due_after_successor due_after_row
target-stays d =
    by-test (λ (e : Due). e.target ≡ d.target) (eqb (suc d.begun) (get_or d.rows 0 0)) (due_after_row d) _ (λ e. refl) λ e. refl

lacking_counts : (M : Model) (As : List Action) → All (FormedAction M) As → Lacking 0 (edge_counts As)
unfolding edge_counts
lacking_counts M [] empty = tt
lacking_counts M (A ∷ As) (more g gs) = (g.some, lacking_counts M As gs)

lacking_all : (M : Model) (l : ℕ) → WellFormed M → LackingDue (all_due M l)
unfolding all_due row_actions edge_counts
lacking_all M l h =
    by-test (λ (As : List Action). Lacking 0 (edge_counts As)) (location_at M l).target [] (location_at M l).actions (λ e. tt)
    λ e. lacking_counts M (location_at M l).actions (h.actions l)

pub lacking_with : (k : TableKind) (M : Model) (l : ℕ) (d : Due) → WellFormed M → LackingDue d → LackingDue (due_with k M l d)
unfolding due_with due_after_row two_due
lacking_with no_kind M l d h g = tt
lacking_with table_head M l d h g = tt
lacking_with node M l d h g = tt
lacking_with node_bound M l d h g = tt
lacking_with value M l d h g = lacking_all M l h
lacking_with blocked M l d h g = lacking_row d.begun d.rows g
lacking_with successor M l d h g = lacking_successor d g
lacking_with start_node M l d h g = tt
lacking_with cut M l d h g = (omega arith, tt)

-- ---- a word more

pub next : (p : ℕ) (words : List ℕ) (w : ℕ) (ws : List ℕ) → drop p words ≡ w ∷ ws → drop (suc p) words ≡ ws
next p words w ws e =
    let behind : drop (p + 1) words ≡ ws = sym (drop-drop 1 p words) ∙ ap (drop 1) e in
    let f : p + 1 ≡ suc p = omega arith in
    rw (← f) behind

-- what the opener and the last node's location are with a word of a kind more
abbrev pub opener_with : TableKind → ℕ → ℕ
opener_with k o = cond (eqb (table_number k) (table_number node_bound)) o (table_number k)

abbrev pub location_with : TableKind → ℕ → ℕ → ℕ
location_with k w l = cond (eqb (table_number k) (table_number node)) (location_of w) l

pub opener_with_lem :
    (before : List ℕ) (w : ℕ) (k : TableKind) → kind w ≡ table_number k → opener_from (table_number no_kind) (w ∷ before) ≡ opener_with k (opener_from (table_number no_kind) before)
unfolding opener_from
opener_with_lem before w k e = rw e

pub location_with_lem :
    (before : List ℕ) (w : ℕ) (k : TableKind) → kind w ≡ table_number k → last_location (w ∷ before) ≡ location_with k w (last_location before)
unfolding last_location
location_with_lem before w k e = rw e

pub due_with_lem :
    (M : Model) (before : List ℕ) (w : ℕ) (k : TableKind) → kind w ≡ table_number k →
    due M (w ∷ before) ≡ due_with k M (last_location before) (due M before)
unfolding due
due_with_lem M before w k e = ap (λ (k : TableKind). due_with k M (last_location before) (due M before)) (kind-is k w e)

-- a word with good fields is of a table's kind
pub named : (w C locations whole : ℕ) → T (fields? (table_kind_of w) C locations whole w) → kind w ≡ table_number (table_kind_of w)
named w C locations whole =
    by_kind (λ (k : TableKind). T (fields? k C locations whole w) → kind w ≡ table_number k) w (λ t. absurd t) (λ k e t. e)

-- ---- nodes

-- one node for each node word
pub counted : (M : Model) (p : ℕ) (ws : List ℕ) → length (nodes_of M p ws) ≡ count_of (table_number node) ws
unfolding nodes_of count_of
counted M p [] = refl
counted M p (w ∷ ws) = by (is_table node w) (counted M (suc p) ws)
  where
    by : (c : Bool) → length (nodes_of M (suc p) ws) ≡ count_of (table_number node) ws →
        length (cond c (node_of M p w ws ∷ nodes_of M (suc p) ws) (nodes_of M (suc p) ws)) ≡ cond c 1 0 + count_of (table_number node) ws
    by true e = omega arith
    by false e = omega arith
