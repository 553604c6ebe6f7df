-- Document 01, "Words", and document 02, card 1: the kinds of a table's words. Assumes nothing.
use Rattle.std.specs.Prelude.{ℕ, Bool, List, [], ◌∷◌, eqb}
use Rattle.zone.specs.Words.{kind}
use Rattle.model.specs.Kinds.{among}
-- `no_kind` stands before the first word, and for a kind that is not a table's
pub use Rattle.model.specs.declared.table_kinds.TableKind.{TableKind}
pub use Rattle.model.specs.declared.table_kinds.TableKind.TheVariants.{None as no_kind, Head as table_head, Node as node, Bound as node_bound, Value as value, Blocked as blocked, Successor as successor, StartNode as start_node, Cut as cut}

-- the number of a kind. Document 01 has one constant table for both files, so what stands before a table has a number of its own; 16 is the
-- kind of no word
abbrev pub table_number : TableKind → ℕ
table_number no_kind = 16
table_number node_bound = 5
table_number table_head = 7
table_number node = 8
table_number value = 9
table_number blocked = 10
table_number successor = 11
table_number start_node = 12
table_number cut = 13

abbrev pub table_kinds : List TableKind
table_kinds = no_kind ∷ node_bound ∷ table_head ∷ node ∷ value ∷ blocked ∷ successor ∷ start_node ∷ cut ∷ []

-- a word of a kind
abbrev pub is_table : TableKind → ℕ → Bool
is_table k w = eqb (kind w) (table_number k)

unfoldable pub table_kind_of : ℕ → TableKind
table_kind_of w = among table_number no_kind table_kinds w
