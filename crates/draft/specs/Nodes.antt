-- Algorithm: the nodes found, by their locations and bounds; and the node that a zone gets. Assumes nothing.
use Rattle.std.specs.Prelude.{ℕ, ◌≡◌, Bool, cond, ◌&&◌, List, [], ◌∷◌, ◌++◌, map, eqb, ltb, length, take, Option, Some, None, Result, Ok, Err, bytes_eq}
use Rattle.std.specs.List.{position_from}
use Rattle.answers.specs.declared.Reason.{Reason}
use Rattle.answers.specs.declared.Reason.TheVariants as reason
use Rattle.draft.specs.Fronts.{front}
use Rattle.draft.specs.declared.nodes.Front.{Front}
use Rattle.draft.specs.declared.nodes.Node.{Node}

-- a node with these rows
abbrev pub node : Front → List ℕ → Node
node f cs = record { front = f; rows = record { items = cs } }

-- past the end a node without bounds is read; no index of the code reaches it
abbrev pub no_node : Node
no_node = node (front 0 []) []

abbrev pub fronts_of : List Node → List Front
fronts_of = map (λ (n : Node). n.front)

abbrev pub rows_of : List Node → List (List ℕ)
rows_of = map (λ (n : Node). n.rows.items)

-- the nodes found before stand first
abbrev pub Keeps : List Node → List Node → Type 0
Keeps before after = take (length before) after ≡ before

-- ---- the node that a zone gets: a known one or, unless it is a 65th (58) or its bounds are not narrow (59), a new one

-- the same location and, since the bounds are tightened ones, the same valuations
abbrev pub same_front? : Front → Front → Bool
same_front? f g = eqb f.location g.location && bytes_eq f.bounds.items g.bounds.items

-- the first of the nodes with this front
abbrev pub known_in : Front → List Front → Option ℕ
known_in f fs = position_from (λ g. same_front? g f) 0 fs

pub record Placing : Type 0 where
  pub number : ℕ
  pub fronts : List Front

-- a new one; no front is that of bounds that are not narrow
abbrev pub new_node : Option Front → List Front → Result Placing Reason
new_node None fs = Err reason.BoundTooFar
new_node (Some f) fs = Ok (record { number = length fs; fronts = fs ++ (f ∷ []) })

unfoldable pub added_to : Option Front → List Front → Result Placing Reason
added_to front fs = cond (ltb (length fs) 64) (new_node front fs) (Err reason.TooManyNodes)

unfoldable pub known_or : Option ℕ → Front → List Front → Result Placing Reason
known_or (Some n) f fs = Ok (record { number = n; fronts = fs })
known_or None f fs = added_to (Some f) fs

-- bounds that are not narrow are no known node's
unfoldable pub placed_in : Option Front → List Front → Result Placing Reason
placed_in None fs = added_to None fs
placed_in (Some f) fs = known_or (known_in f fs) f fs

-- what the code returns, with the nodes that it leaves
abbrev pub placing_of : Result ℕ Reason → List Node → Result Placing Reason
placing_of (Ok n) nodes = Ok (record { number = n; fronts = fronts_of nodes })
placing_of (Err r) nodes = Err r
