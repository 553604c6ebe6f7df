-- Algorithm: the words of a draft, from the nodes and their values. Assumes nothing.
use Rattle.std.specs.Prelude.{ℕ, min, ◌+◌, ◌*◌, ◌^◌, ◌%◌, cond, List, [], ◌∷◌, ◌++◌, map, eqb, leb, length}
use Rattle.std.specs.List.{sum_by}
use Rattle.answers.specs.Checks.{Answer, refused, accepted}
use Rattle.drafting.specs.Words.{whole, word}
use Rattle.model.specs.declared.index.IndexedModel.{IndexedModel}
use Rattle.draft.specs.Values.{values_of}
use Rattle.draft.specs.declared.nodes.Front.{Front}
use Rattle.draft.specs.declared.nodes.Node.{Node}

-- the word of a code
unfoldable pub row_word : ℕ → ℕ
row_word code = cond (eqb code 255) (word 10 0) (word 11 (code % 64))

-- the word of a node's location, and those of its bounds
abbrev pub front_text : Front → List ℕ
front_text f = word 8 (f.location * 2 ^ 24) ∷ f.bounds.items

-- a node with its value
unfoldable pub node_text : Node → ℕ → List ℕ
node_text n v = front_text n.front ++ (word 9 v ∷ map row_word n.rows.items)

-- nodes with their values
unfoldable pub nodes_text : List Node → List ℕ → List ℕ
nodes_text [] vs = []
nodes_text (n ∷ ns) [] = []
nodes_text (n ∷ ns) (v ∷ vs) = node_text n v ++ nodes_text ns vs

-- the draft of them
unfoldable pub draft_text : List Node → List ℕ → List ℕ
draft_text nodes vs = word 7 whole ∷ (nodes_text nodes vs ++ (word 12 0 ∷ []))

-- that with the values after so many rounds; rounds above 1,000 count as 1,000
abbrev pub drafted_in : IndexedModel → List Node → ℕ → List ℕ
drafted_in m nodes rounds = draft_text nodes (values_of m nodes (min rounds 1000))

-- how many words a node has
abbrev pub node_size : Node → ℕ
node_size n = length n.front.bounds.items + 2 + length n.rows.items

-- how many words nodes have
abbrev pub nodes_size : List Node → ℕ
nodes_size = sum_by node_size

-- 60 at the end
unfoldable pub last_answer : ℕ → List ℕ → Answer (List ℕ)
last_answer room words = cond (leb (length words) room) (accepted words) (refused 60 0)
