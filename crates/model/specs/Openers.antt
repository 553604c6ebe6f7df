-- Algorithm: the kinds that a reader tells apart by sets, each a list of kinds with a test by number. Assumes nothing.
use Rattle.std.specs.Prelude.{ℕ, Bool, List, [], ◌∷◌}
use Rattle.model.specs.Kinds.{Kind, none, head, location, action, edge, start, number}
use Rattle.model.specs.TableKinds.{TableKind, no_kind, table_head, node, value, blocked, successor, start_node, cut, table_number}
use Rattle.model.specs.Grammar.{numbered?}

-- what the opener of a model's word may be: any kind but a bound; none where nothing stands before the word
abbrev pub openers : List Kind
openers = none ∷ head ∷ location ∷ action ∷ edge ∷ start ∷ []

abbrev pub opener? : ℕ → Bool
opener? o = numbered? number o openers

-- the same of a table's word
abbrev pub table_openers : List TableKind
table_openers = no_kind ∷ table_head ∷ node ∷ value ∷ blocked ∷ successor ∷ start_node ∷ cut ∷ []

abbrev pub table_opener? : ℕ → Bool
table_opener? o = numbered? table_number o table_openers

-- the openers behind which an edge may follow
abbrev pub before_edges : List Kind
before_edges = action ∷ edge ∷ []

abbrev pub edge_may_follow? : ℕ → Bool
edge_may_follow? o = numbered? number o before_edges
