-- Document 01, "Words", and document 02, card 1: the fields of a table's words, their ranges and spare bits. Assumes nothing.
use Rattle.std.specs.Prelude.{ℕ, Bool, false, ◌&&◌, eqb, leb, ltb}
use Rattle.zone.specs.Words.{bits, bound_fields?}
use Rattle.model.specs.declared.table_kinds.TableKind.{TableKind}
use Rattle.model.specs.declared.table_kinds.TableKind.TheVariants.{None as no_kind, Head as table_head, Node as node, Bound as node_bound, Value as value, Blocked as blocked, Successor as successor, StartNode as start_node, Cut as cut}

-- 7 table head: V (27-0, at least 1)
abbrev pub whole_of : ℕ → ℕ
whole_of w = bits 27 0 w

abbrev pub table_head_fields? : ℕ → Bool
table_head_fields? w = leb 1 (whole_of w)

-- 8 node: location (27-24)
abbrev pub location_of : ℕ → ℕ
location_of w = bits 27 24 w

-- the node's location is one of so many
abbrev pub node_fields? : ℕ → ℕ → Bool
node_fields? locations w = eqb (bits 23 0 w) 0 && ltb (location_of w) locations

-- 9 value (27-0, at most V)
abbrev pub value_of : ℕ → ℕ
value_of w = bits 27 0 w

abbrev pub value_fields? : ℕ → ℕ → Bool
value_fields? whole w = leb (value_of w) whole

-- A blocked row
abbrev pub blocked_fields? : ℕ → Bool
blocked_fields? w = eqb (bits 27 0 w) 0

-- B successor: node number (5-0). C start node: node number (5-0)
abbrev pub number_of : ℕ → ℕ
number_of w = bits 5 0 w

abbrev pub number_fields? : ℕ → Bool
number_fields? w = eqb (bits 27 6 w) 0

-- D cut (document 02, card 1): the fields of a bound, j always 0
abbrev pub cut_fields? : ℕ → ℕ → Bool
cut_fields? C w = bound_fields? C w && eqb (bits 23 20 w) 0

-- the fields of a word of a kind are in their ranges and its spare bits zero. The model has C clocks and so many locations, and the table's
-- head gives V
abbrev pub fields? : TableKind → ℕ → ℕ → ℕ → ℕ → Bool
fields? no_kind C locations whole w = false
fields? table_head C locations whole w = table_head_fields? w
fields? node C locations whole w = node_fields? locations w
fields? node_bound C locations whole w = bound_fields? C w
fields? value C locations whole w = value_fields? whole w
fields? blocked C locations whole w = blocked_fields? w
fields? successor C locations whole w = number_fields? w
fields? start_node C locations whole w = number_fields? w
fields? cut C locations whole w = cut_fields? C w
