-- Document 01, "Words", and document 02, card 1: the constant table of kinds, which says what may follow what. Assumes nothing.
use Rattle.std.specs.Prelude.{ℕ, Bool, false, ◌&&◌, ◌||◌, List, [], ◌∷◌, eqb}
use Rattle.model.specs.Kinds.{Kind, none, head, location, action, edge, bound, start, number, kinds}
use Rattle.model.specs.TableKinds.{TableKind, no_kind, table_head, node, node_bound, value, blocked, successor, start_node, cut}
use Rattle.model.specs.TableKinds.{table_number, table_kinds}

-- what may follow what. A bound opens nothing: after it come bounds and what its opener allows
unfoldable pub follows : Kind → List Kind
follows none = head ∷ []
follows head = location ∷ []
follows location = location ∷ action ∷ bound ∷ start ∷ []
follows action = edge ∷ bound ∷ []
follows edge = location ∷ action ∷ edge ∷ start ∷ []
follows bound = []
follows start = bound ∷ []

-- behind a value, a word of a row or a cut's B words: a row's word, the next node or the start node
abbrev pub rows_or_more : List TableKind
rows_or_more = node ∷ blocked ∷ successor ∷ start_node ∷ []

-- a table's words: 7, then one node or more, then C, then the end. A node is 8, its bounds, 9, and rows of A and B words or, in their place, D
-- and two B words
unfoldable pub table_follows : TableKind → List TableKind
table_follows no_kind = table_head ∷ []
table_follows table_head = node ∷ []
table_follows node = node_bound ∷ value ∷ []
table_follows node_bound = []
table_follows value = cut ∷ rows_or_more
table_follows blocked = rows_or_more
table_follows successor = rows_or_more
table_follows start_node = []
table_follows cut = successor ∷ []

-- the number n is that of one of these kinds
unfoldable pub numbered? : {K : Type 0} → (K → ℕ) → ℕ → List K → Bool
numbered? number_of n [] = false
numbered? number_of n (k ∷ ks) = eqb n (number_of k) || numbered? number_of n ks

-- the same by numbers, for every two numbers: o is that of an opener, n that of a kind that may follow it
unfoldable pub may_follow? : {K : Type 0} → (K → ℕ) → (K → List K) → List K → ℕ → ℕ → Bool
may_follow? number_of after [] o n = false
may_follow? number_of after (k ∷ ks) o n = (eqb o (number_of k) && numbered? number_of n (after k)) || may_follow? number_of after ks o n

unfoldable pub follows? : ℕ → ℕ → Bool
follows? o n = may_follow? number follows kinds o n

unfoldable pub table_follows? : ℕ → ℕ → Bool
table_follows? o n = may_follow? table_number table_follows table_kinds o n
