-- Document 02, card 5: the values of a draft, round by round. Assumes nothing.
use Rattle.std.specs.Prelude.{ℕ, zero, suc, ◌+◌, ◌-◌, ◌/◌, max, ◌≡◌, not, List, [], ◌∷◌, T}
use Rattle.model.specs.Model.{Action, Location, Model}
use Rattle.model.specs.States.{location_at}
use Rattle.table.specs.Table.{Row, blocked_row, successor_row, Body, rows_body, cut_body, Node, Table, table_of}
use Rattle.acceptance.specs.Acceptance.{Pairwise, SumOf}
use Rattle.drafting.specs.Exploring.{Found, FoundRow}
use Rattle.drafting.specs.Words.{words_of}

-- x over D, rounded up
abbrev pub rounded_up : ℕ → ℕ → ℕ
rounded_up x D = (x + (D - 1)) / D

-- the largest, over rows with successors, of the judge's sum over D, rounded up; without such rows it is 0
abbrev pub Largest : Model → Table → Node → List Action → List Row → ℕ → Type 0
Largest M W N [] rs v = v ≡ 0
Largest M W N (A ∷ As) [] v = v ≡ 0
Largest M W N (A ∷ As) (blocked_row p ∷ rs) v = Largest M W N As rs v
Largest M W N (A ∷ As) (successor_row p ss ∷ rs) v =
    (x : ℕ) × (y : ℕ) × SumOf M W N A A.edges ss x × Largest M W N As rs y × (v ≡ max (rounded_up x M.denominator) y)

-- of what a node carries; a draft has no cut, and a cut no row
abbrev pub LargestOf : Model → Table → Node → List Action → Body → ℕ → Type 0
LargestOf M W N As (rows_body rs) v = Largest M W N As rs v
LargestOf M W N As (cut_body c) v = v ≡ 0

-- the value of a node after a round: a target keeps its own
abbrev pub Replaces : Model → Table → Node → ℕ → Type 0
Replaces M W N v =
    let L : Location = location_at M N.location in
    (T L.target → v ≡ N.value) × (T (not L.target) → LargestOf M W N L.actions N.body v)

-- n rounds from the values vs lead to the values us. A round replaces all values together: it reads the table that the present ones make
abbrev pub Rounds : Model → List Found → List (List FoundRow) → ℕ → List ℕ → List ℕ → Type 0
Rounds M Fs rows zero vs us = us ≡ vs
Rounds M Fs rows (suc n) vs us =
    let W : Table = table_of M (words_of Fs vs rows) in
    (ws : List ℕ) × Pairwise (Replaces M W) W.nodes ws × Rounds M Fs rows n ws us
