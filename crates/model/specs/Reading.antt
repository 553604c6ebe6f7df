-- Document 01, "The four calls and their refusals": reading a model, 1 to 6. Assumes nothing.
use Rattle.std.specs.Prelude.{ℕ, suc, ◌+◌, ◌≡◌, Bool, true, not, cond, ◌||◌, List, [], ◌∷◌, ◌++◌, get_or, length, eqb, ltb}
use Rattle.zone.specs.Words.{kind}
use Rattle.answers.specs.Checks.{Answer, Check, check, test, First}
use Rattle.model.specs.Kinds.{Kind, none, head, location, action, edge, bound, start, number, is, kind_of}
use Rattle.model.specs.Before.{opener_from, count_of, index_of}
use Rattle.model.specs.Grammar.{follows?}
use Rattle.model.specs.Fields.{clocks_of, denominator_of, lands_at, weight_of, fields?}
use Rattle.model.specs.Model.{model_of}
use Rattle.model.specs.States.{HasStart}
use Rattle.model.specs.declared.read.Counts.{Counts}

-- ---- what stands before a word; `before` lists those words, the last one first

-- the edges of the last action, where the last word is one of them
unfoldable pub last_edges : List ℕ → List ℕ
last_edges [] = []
last_edges (w ∷ ws) = cond (is edge w) (w ∷ last_edges ws) []

unfoldable pub weights : List ℕ → ℕ
weights [] = 0
weights (w ∷ ws) = weight_of w + weights ws

-- ---- word by word; a file has C clocks and the denominator D

-- 3: at most 16 locations, 32 actions in the model, 4 edges in an action; so many stand before
abbrev pub limit? : Kind → ℕ → ℕ → ℕ → Bool
limit? none locations actions edges = true
limit? head locations actions edges = true
limit? location locations actions edges = ltb locations 16
limit? action locations actions edges = ltb actions 32
limit? edge locations actions edges = ltb edges 4
limit? bound locations actions edges = true
limit? start locations actions edges = true

-- 4: at the word after the last edge, the weights add to D
abbrev pub adds? : ℕ → ℕ → ℕ → ℕ → Bool
adds? D opener sum w = not (eqb opener (number edge)) || is edge w || eqb sum D

-- at one word the lowest number wins. 1: its kind is allowed here. 2: its fields are in their ranges, its spare bits zero, and the start's
-- location exists
unfoldable pub word_checks : ℕ → ℕ → List ℕ → ℕ → List Check
word_checks C D before w =
    test 1 (length before) (follows? (opener_from (number none) before) (kind w)) ∷
    test 2 (length before) (fields? (kind_of w) C D (count_of (number location) before) (opener_from (number none) before) w) ∷
    test 3 (length before) (limit? (kind_of w) (count_of (number location) before) (count_of (number action) before) (length (last_edges before))) ∷
    test 4 (length before) (adds? D (opener_from (number none) before) (weights (last_edges before)) w) ∷ []

-- 1: the words end behind the start and its bounds alone; elsewhere a word is missing, at the length
unfoldable pub words_checks : ℕ → ℕ → List ℕ → List ℕ → List Check
words_checks C D before [] = test 1 (length before) (eqb (opener_from (number none) before) (number start)) ∷ []
words_checks C D before (w ∷ ws) = word_checks C D before w ++ words_checks C D (w ∷ before) ws

-- ---- on the whole file

-- 5: an edge's location exists; p is the index of the first word
unfoldable pub edge_checks : ℕ → ℕ → List ℕ → List Check
edge_checks locations p [] = []
edge_checks locations p (w ∷ ws) = test 5 p (not (is edge w) || ltb (lands_at w) locations) ∷ edge_checks locations (suc p) ws

-- 1 to 4 word by word, then on the whole file 5 and, at the start word, 6: there is a start state at some scale
unfoldable pub model_checks : List ℕ → List Check
model_checks words =
    words_checks (clocks_of (get_or words 0 0)) (denominator_of (get_or words 0 0)) [] words ++
    (edge_checks (count_of (number location) words) 0 words ++
    (check 6 (index_of (number start) words) (HasStart (model_of words)) ∷ []))

-- ---- the call

abbrev pub counts_of : List ℕ → Counts
counts_of words = record { locations = count_of (number location) words; actions = count_of (number action) words; edges = count_of (number edge) words }

-- Reading a model accepts with the counts of locations, actions and edges
pub record ReadModel (words : List ℕ) (answer : Answer Counts) : Type 0 where
  pub says : First (model_checks words) (λ counts. counts ≡ counts_of words) answer
