-- How the nodes of an exploration stand for what is found: the front of each node, and codes for each row, and for the weights, nodes and tests of its
-- edges. Assumes nothing.
use Prim.Native.Nat.{ℕ}
use mathlib.Core.Path.{◌≡◌}
use mathlib.Core.List.{List, [], ◌∷◌, ◌++◌, map}
use Rattle.answers.specs.Checks.{refused, accepted}
use Rattle.answers.specs.Refusals.{number}
use Rattle.answers.specs.declared.Reason.{Reason}
use Rattle.std.specs.Prelude.{Result, Ok, Err}
use Rattle.model.specs.Model.{Model}
use Rattle.drafting.specs.Exploring.{Found, FoundRow, blocked, to_nodes, exploring}
use Rattle.drafting.specs.Words.{bound_word}
use Rattle.drafting.proofs.Shares.{Share, Valued}
use Rattle.drafting.proofs.ValuedRows.{ValuedAll}
use Rattle.draft.specs.Fronts.{front}
use Rattle.draft.specs.Nodes.{fronts_of, rows_of}
use Rattle.draft.specs.Exploration.{code_of, Explored}
use Rattle.draft.specs.declared.nodes.Front.{Front}
use Rattle.draft.specs.declared.nodes.Node.{Node}

-- that of a node found
abbrev pub front_of : Found → Front
front_of F = front F.location (map bound_word F.zone)

-- the codes of a row with successors
unfoldable pub share_codes : List Share → List ℕ
share_codes [] = []
share_codes (s ∷ ss) = code_of s.node s.outside ∷ share_codes ss

-- those of a node's rows; the second list has an element for each row with successors
unfoldable pub rows_codes : List FoundRow → List (List Share) → List ℕ
rows_codes [] sss = []
rows_codes (blocked ∷ rs) sss = 255 ∷ rows_codes rs sss
rows_codes (to_nodes ns ∷ rs) [] = []
rows_codes (to_nodes ns ∷ rs) (ss ∷ sss) = share_codes ss ++ rows_codes rs sss

-- those of each node
unfoldable pub all_rows : List (List FoundRow) → List Valued → List (List ℕ)
all_rows [] qs = []
all_rows (rs ∷ rows) [] = []
all_rows (rs ∷ rows) (q ∷ qs) = rows_codes rs q.rows ∷ all_rows rows qs

-- the nodes are those found, with their rows
pub record Stored (Fs : List Found) (rows : List (List FoundRow)) (qs : List Valued) (nodes : List Node) : Type 0 where
  pub fronts : fronts_of nodes ≡ map front_of Fs
  pub rows_are : rows_of nodes ≡ all_rows rows qs

-- ---- what is explored is what is found, with its rows
pub record AllExplored (M : Model) (X : Explored) : Type 0 where
  pub found : List Found
  pub rows : List (List FoundRow)
  pub valued : List Valued
  pub explores : exploring M [] (accepted (record { found = found; result = rows }))
  pub fronts : X.fronts ≡ map front_of found
  pub values : ValuedAll M found rows valued
  pub coded : X.rows ≡ all_rows rows valued

-- or the definition refuses
abbrev pub ExploredRight : Model → Result Explored Reason → Type 0
ExploredRight M (Ok X) = AllExplored M X
ExploredRight M (Err r) = exploring M [] (refused (number r) 0)
