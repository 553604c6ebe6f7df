-- Algorithm: what the words read so far come to, and the checks of the next word. Assumes nothing.
use Rattle.std.specs.Prelude.{ℕ, ◌+◌, ◌-◌, max, ◌≤◌, ◌<◌, ◌≡◌, Bool, true, false, not, cond, ◌&&◌, List, [], ◌∷◌, get_or, eqb, ltb}
use Rattle.std.specs.Prelude.{Result, Ok, Err}
use Rattle.answers.specs.declared.Reason.{Reason}
use Rattle.answers.specs.declared.Reason.TheVariants as reason
use Rattle.zone.specs.Words.{kind}
use Rattle.model.specs.declared.table_kinds.TableKind.{TableKind}
use Rattle.model.specs.declared.table_kinds.TableKind.TheVariants.{None as no_kind, Head as table_head, Node as node, Bound as node_bound, Value as value, Blocked as blocked, Successor as successor, StartNode as start_node, Cut as cut}
use Rattle.model.specs.TableKinds.{table_number, table_kind_of}
use Rattle.model.specs.Grammar.{numbered?, table_follows?}
use Rattle.model.specs.Openers.{table_opener?}
use Rattle.model.specs.declared.index.Index.{Index}
use Rattle.table.specs.Fields.{whole_of, location_of, number_of, fields?}
use Rattle.table.specs.Reading.{limit?}
use Rattle.table.specs.Nodes.{node_count}
use Rattle.table.specs.declared.seen.Seen.{Seen}

abbrev pub nothing : Seen
nothing =
    record {
      opener = no_kind;
      whole = 0;
      nodes = 0;
      location = 0;
      target = false;
      action = 0;
      rows = 0;
      size = 0;
      begun = 0;
      furthest = 0;
    }

-- ---- the checks of the next word

abbrev pub rows_allow_kind? : TableKind → Seen → Bool
rows_allow_kind? no_kind s = true
rows_allow_kind? table_head s = true
rows_allow_kind? node s = eqb s.rows 0
rows_allow_kind? node_bound s = true
rows_allow_kind? value s = true
rows_allow_kind? blocked s = ltb 0 s.rows && eqb s.begun 0
rows_allow_kind? successor s = ltb 0 s.rows
rows_allow_kind? start_node s = eqb s.rows 0
rows_allow_kind? cut s = not s.target

abbrev pub rows_allow_at? : Seen → ℕ → Bool
rows_allow_at? s w = rows_allow_kind? (table_kind_of w) s

abbrev pub fields_at? : Index → Seen → ℕ → Bool
fields_at? x s w = fields? (table_kind_of w) x.clocks x.locations s.whole w

abbrev pub limit_at? : Seen → ℕ → Bool
limit_at? s w = limit? (table_kind_of w) s.nodes

-- at one word the lowest number wins
unfoldable pub checked : Index → Seen → ℕ → Result (Unit {0}) Reason
checked x s w =
    cond (table_follows? (table_number s.opener) (kind w) && rows_allow_at? s w)
    (cond (fields_at? x s w)
    (cond (limit_at? s w) (Ok tt) (Err reason.OverTableLimit))
    (Err reason.BadTableField))
    (Err reason.BadTableKind)

-- the words may end behind the start node alone; elsewhere a word is missing where they end
unfoldable pub checked_end : Seen → Result (Unit {0}) Reason
checked_end s = cond (eqb (table_number s.opener) (table_number start_node)) (Ok tt) (Err reason.BadTableKind)

-- ---- rows, by a model's index

-- the actions of a location
unfoldable pub first_row : Index → ℕ → ℕ
first_row x l = get_or x.actions l 0

unfoldable pub end_row : Index → ℕ → ℕ
end_row x l = get_or x.actions (l + 1) 0

-- how many rows a node of a location has: one per action, none at a target
unfoldable pub rows_at : Index → ℕ → ℕ
rows_at x l = cond (get_or x.targets l false) 0 (end_row x l - first_row x l)

-- how many edges an action has
unfoldable pub edges_at : Index → ℕ → ℕ
edges_at x a = get_or x.edges (a + 1) 0 - get_or x.edges a 0

-- how many words its row has: one A, or one B per edge
unfoldable pub row_size : Bool → ℕ → ℕ
row_size true edges = 1
row_size false edges = edges

-- how many B words the first of so many rows has, if it is that of the action a; 0 where none is due
unfoldable pub size_at : Index → ℕ → ℕ → ℕ
size_at x a rows = cond (eqb rows 0) 0 (edges_at x a)

-- ---- what the words come to with a word more

abbrev pub with_head : Seen → ℕ → Seen
with_head s w = record s { opener = table_head; whole = whole_of w }

abbrev pub with_node : Seen → ℕ → Seen
with_node s w = record s { opener = node; nodes = s.nodes + 1; location = location_of w }

-- the rows of the node's location are due
abbrev pub with_value : Index → Seen → Seen
with_value x s =
    record s {
      opener = value;
      target = get_or x.targets s.location false;
      action = first_row x s.location;
      rows = rows_at x s.location;
      size = size_at x (first_row x s.location) (rows_at x s.location);
      begun = 0;
    }

-- a row is complete with a word of the kind o, and the next action's is due, if any
abbrev pub with_row : Index → Seen → TableKind → Seen
with_row x s o = record s { opener = o; action = s.action + 1; rows = s.rows - 1; size = size_at x (s.action + 1) (s.rows - 1); begun = 0 }

-- a successor that is not the last of its row
abbrev pub with_begun : Seen → Seen
with_begun s = record s { opener = successor; begun = s.begun + 1 }

-- the number of a node that a word gives
abbrev pub with_number : Seen → ℕ → Seen
with_number s w = record s { furthest = max s.furthest (number_of w) }

-- a successor completes a row where it is the last of its B words
abbrev pub with_successor : Index → Seen → Seen
with_successor x s = cond (eqb (s.begun + 1) s.size) (with_row x s successor) (with_begun s)

-- two successors are due, as if they were the one row that the node has
abbrev pub with_cut : Seen → Seen
with_cut s = record s { opener = cut; action = 0; rows = 1; size = 2; begun = 0 }

abbrev pub with_start : Seen → ℕ → Seen
with_start s w = record (with_number s w) { opener = start_node }

unfoldable pub seen_with_kind : TableKind → Index → Seen → ℕ → Seen
seen_with_kind no_kind x s w = s
seen_with_kind table_head x s w = with_head s w
seen_with_kind node x s w = with_node s w
seen_with_kind node_bound x s w = s
seen_with_kind value x s w = with_value x s
seen_with_kind blocked x s w = with_row x s blocked
seen_with_kind successor x s w = with_successor x (with_number s w)
seen_with_kind start_node x s w = with_start s w
seen_with_kind cut x s w = with_cut s

unfoldable pub seen_with : Index → Seen → ℕ → Seen
seen_with x s w = seen_with_kind (table_kind_of w) x s w

-- ---- what the pass asks of a model's index, and what holds of the words read so far while no check has failed

pub record IndexFits (x : Index) : Type 0 where
  pub clocks : x.clocks ≤ 4
  pub locations : x.locations ≤ 16
  pub actions : (l : ℕ) → l < x.locations → (get_or x.actions l 0 ≤ get_or x.actions (l + 1) 0) × (get_or x.actions (l + 1) 0 ≤ 32)
  pub edges : (l a : ℕ) → l < x.locations → get_or x.actions l 0 ≤ a → a < get_or x.actions (l + 1) 0 →
      (get_or x.edges a 0 < get_or x.edges (a + 1) 0) × (get_or x.edges (a + 1) 0 ≤ 128)

-- the openers behind which rows may be due, and those behind which there is a node
abbrev pub row_openers : List TableKind
row_openers = value ∷ blocked ∷ successor ∷ cut ∷ []

abbrev pub node_openers : List TableKind
node_openers = node ∷ start_node ∷ row_openers

-- a number is that of one of these kinds
abbrev pub one_of? : List TableKind → ℕ → Bool
one_of? ks n = numbered? table_number n ks

pub record WithinLimits (x : Index) (s : Seen) : Type 0 where
  pub opener : table_opener? (table_number s.opener) ≡ true
  pub nodes : s.nodes ≤ node_count
  -- where there is a node, its location exists
  pub node : one_of? node_openers (table_number s.opener) ≡ true → (1 ≤ s.nodes) × (s.location < x.locations)
  -- where a row is due there is a node, and the row lacks some word
  pub begun : 1 ≤ s.rows → (one_of? node_openers (table_number s.opener) ≡ true) × (s.begun < s.size)
  pub size : s.size ≤ 128
  pub action : s.action + s.rows ≤ 32
  -- the rows behind the first that is due are those of actions of the last node's location
  pub rows : 2 ≤ s.rows → (first_row x s.location ≤ s.action) × (s.action + s.rows ≤ end_row x s.location)
