-- Document 02, card 5, and document 01, "Words": the words of a drafted table. Assumes nothing.
use Rattle.std.specs.Prelude.{ℕ, ◌+◌, ◌*◌, ◌^◌, cond, List, [], ◌∷◌, ◌++◌, map, pos, ◌+ℤ◌, nat_abs}
use Rattle.zone.specs.Scale.{Bound}
use Rattle.drafting.specs.Exploring.{Found, FoundRow, blocked, to_nodes}

-- V is 1,000,000
abbrev pub whole : ℕ
whole = 1000000

-- a word of a kind
abbrev pub word : ℕ → ℕ → ℕ
word kind fields = kind * 2 ^ 28 + fields

-- 5 bound: i (27-24), j (23-20), strict (19), d + 4,096 (12-0)
abbrev pub bound_word : Bound → ℕ
bound_word b = word 5 (b.i * 2 ^ 24 + b.j * 2 ^ 20 + cond b.strict (2 ^ 19) 0 + nat_abs (b.d +ℤ pos 4096))

-- 8 node: location (27-24), and its bounds
unfoldable pub front_words : Found → List ℕ
front_words F = word 8 (F.location * 2 ^ 24) ∷ map bound_word F.zone

-- a row: A, or B with the number of its node for each edge
unfoldable pub row_words : FoundRow → List ℕ
row_words blocked = word 10 0 ∷ []
row_words (to_nodes ns) = map (word 11) ns

unfoldable pub rows_words : List FoundRow → List ℕ
rows_words [] = []
rows_words (r ∷ rs) = row_words r ++ rows_words rs

-- a node is 8, its bounds, 9 with its value, and its rows
unfoldable pub node_words : Found → ℕ → List FoundRow → List ℕ
node_words F v rs = front_words F ++ (word 9 v ∷ rows_words rs)

-- the nodes found, with their values and rows; there is one of each for a node
unfoldable pub nodes_words : List Found → List ℕ → List (List FoundRow) → List ℕ
nodes_words [] vs rows = []
nodes_words (F ∷ Fs) [] rows = []
nodes_words (F ∷ Fs) (v ∷ vs) [] = []
nodes_words (F ∷ Fs) (v ∷ vs) (rs ∷ rows) = node_words F v rs ++ nodes_words Fs vs rows

-- 7 with V, the nodes, and C with the start node, the first
unfoldable pub words_of : List Found → List ℕ → List (List FoundRow) → List ℕ
words_of Fs vs rows = word 7 whole ∷ (nodes_words Fs vs rows ++ (word 12 0 ∷ []))
