-- Document 01, "The four calls and their refusals", and document 02, card 1: the refusals of a table's words, 11 to 14. Assumes nothing.
use Rattle.std.specs.Prelude.{ℕ, suc, Bool, true, false, not, cond, ◌&&◌, ◌||◌, List, [], ◌∷◌, ◌++◌, get_or, length, drop, eqb, ltb}
use Rattle.zone.specs.Words.{kind}
use Rattle.answers.specs.Checks.{Check, test}
use Rattle.model.specs.declared.table_kinds.TableKind.{TableKind}
use Rattle.model.specs.declared.table_kinds.TableKind.TheVariants.{None as no_kind, Head as table_head, Node as node, Bound as node_bound, Value as value, Blocked as blocked, Successor as successor, StartNode as start_node, Cut as cut}
use Rattle.model.specs.TableKinds.{table_number, is_table, table_kind_of}
use Rattle.model.specs.Before.{opener_from, count_of}
use Rattle.model.specs.Grammar.{table_follows?}
use Rattle.model.specs.Model.{Action, Model}
use Rattle.model.specs.States.{location_at}
use Rattle.table.specs.Fields.{whole_of, location_of, number_of, fields?}
use Rattle.table.specs.Table.{row_actions}

-- ---- what stands before a word; `before` lists those words, the last one first

-- the location of the last node
unfoldable pub last_location : List ℕ → ℕ
last_location [] = 0
last_location (w ∷ ws) = cond (is_table node w) (location_of w) (last_location ws)

-- the rows of the last node that are not complete, each by the number of its B words, how many of those stand in the first such row, and
-- behind a value whether the node's location is a target
pub record Due : Type 0 where
  pub rows : List ℕ
  pub begun : ℕ
  pub target : Bool

abbrev pub none_due : Due
none_due = record { rows = []; begun = 0; target = false }

unfoldable pub edge_counts : List Action → List ℕ
edge_counts [] = []
edge_counts (A ∷ As) = length A.edges ∷ edge_counts As

-- behind a value all rows of the node's location are due
unfoldable pub all_due : Model → ℕ → Due
all_due M l = record { rows = edge_counts (row_actions (location_at M l)); begun = 0; target = (location_at M l).target }

-- an A completes a row
unfoldable pub due_after_row : Due → Due
due_after_row d = record { rows = drop 1 d.rows; begun = 0; target = d.target }

-- a B completes a row where it is the last of its B words
unfoldable pub due_after_successor : Due → Due
due_after_successor d =
    cond (eqb (suc d.begun) (get_or d.rows 0 0)) (due_after_row d) (record { rows = d.rows; begun = suc d.begun; target = d.target })

-- behind a cut two B words are due, in place of all rows
unfoldable pub two_due : Due → Due
two_due d = record { rows = 2 ∷ []; begun = 0; target = d.target }

-- with a word of a kind more, behind a node of the location l
unfoldable pub due_with : TableKind → Model → ℕ → Due → Due
due_with no_kind M l d = none_due
due_with table_head M l d = none_due
due_with node M l d = none_due
due_with node_bound M l d = none_due
due_with value M l d = all_due M l
due_with blocked M l d = due_after_row d
due_with successor M l d = due_after_successor d
due_with start_node M l d = none_due
due_with cut M l d = two_due d

unfoldable pub due : Model → List ℕ → Due
due M [] = none_due
due M (w ∷ ws) = due_with (table_kind_of w) M (last_location ws) (due M ws)

-- ---- word by word

abbrev pub none? : List ℕ → Bool
none? [] = true
none? (n ∷ ns) = false

-- one A, or one B per edge, for each action in order: an A stands where a row begins, a B where a row is due, and the next node or the start
-- node where none is. A cut stands where the node's location is no target
unfoldable pub rows_allow? : TableKind → Due → Bool
rows_allow? no_kind d = true
rows_allow? table_head d = true
rows_allow? node d = none? d.rows
rows_allow? node_bound d = true
rows_allow? value d = true
rows_allow? blocked d = not (none? d.rows) && eqb d.begun 0
rows_allow? successor d = not (none? d.rows)
rows_allow? start_node d = none? d.rows
rows_allow? cut d = not d.target

-- 13: at most 64 nodes; so many stand before
abbrev pub limit? : TableKind → ℕ → Bool
limit? no_kind nodes = true
limit? table_head nodes = true
limit? node nodes = ltb nodes 64
limit? node_bound nodes = true
limit? value nodes = true
limit? blocked nodes = true
limit? successor nodes = true
limit? start_node nodes = true
limit? cut nodes = true

-- at one word the lowest number wins. 11: its kind is allowed here, rows included. 12: its fields are in their ranges, its spare bits zero, and
-- a node's location exists
unfoldable pub word_checks : Model → ℕ → List ℕ → ℕ → List Check
word_checks M whole before w =
    test 11 (length before) (table_follows? (opener_from (table_number no_kind) before) (kind w) && rows_allow? (table_kind_of w) (due M before)) ∷
    test 12 (length before) (fields? (table_kind_of w) M.clocks (length M.locations) whole w) ∷
    test 13 (length before) (limit? (table_kind_of w) (count_of (table_number node) before)) ∷ []

-- 11: the words end behind the start node alone; elsewhere a word is missing, at the length
unfoldable pub words_checks : Model → ℕ → List ℕ → List ℕ → List Check
words_checks M whole before [] = test 11 (length before) (eqb (opener_from (table_number no_kind) before) (table_number start_node)) ∷ []
words_checks M whole before (w ∷ ws) = word_checks M whole before w ++ words_checks M whole (w ∷ before) ws

-- ---- on the whole file

-- 14: the node of a B or C word is there; p is the index of the first word
unfoldable pub number_checks : ℕ → ℕ → List ℕ → List Check
number_checks nodes p [] = []
number_checks nodes p (w ∷ ws) =
    test 14 p (not (is_table successor w || is_table start_node w) || ltb (number_of w) nodes) ∷ number_checks nodes (suc p) ws

-- 11 to 13 word by word, then on the whole file 14
unfoldable pub read_checks : Model → List ℕ → List Check
read_checks M words = words_checks M (whole_of (get_or words 0 0)) [] words ++ number_checks (count_of (table_number node) words) 0 words
