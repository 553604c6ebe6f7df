-- Document 02, card 5: exploring forward from the start zone. What is found goes in, and comes out with more; 58 and 59 end it. Assumes nothing.
use Rattle.std.specs.Prelude.{ℕ, zero, suc, ◌≤◌, ◌<◌, ◌≡◌, ◌⊎◌, Bool, true, ◌&&◌, List, [], ◌∷◌, ◌++◌, leb, ltb, nat_abs, get_or, length}
use Rattle.zone.specs.Scale.{Zone, within, Empty}
use Rattle.answers.specs.Checks.{Answer, refused, accepted, Check, test, First}
use Rattle.model.specs.Model.{Edge, Action, Model}
use Rattle.model.specs.States.{location_at}
use Rattle.table.specs.Table.{rows_body, Node, row_actions}
use Rattle.acceptance.specs.Acceptance.{Reach, landings_inside}
use Rattle.drafting.specs.Bounding.{Same, BoundsOf, Smallest}

-- a node that is found: its location and its bounds
pub record Found : Type 0 where
  pub location : ℕ
  pub zone : Zone

-- a row that is found: one A, or one B per edge with the number of its node
pub data FoundRow : Type 0 where
  blocked : FoundRow
  to_nodes : List ℕ → FoundRow

-- ---- one after the other: the nodes found so far go in; out come those found then and a result, or a refusal

pub record Progress (A : Type 0) : Type 0 where
  pub found : List Found
  pub result : A

abbrev pub Explores : Type 0 → Type 1
Explores A = List Found → Answer (Progress A) → Type 0

-- nothing more is found
abbrev pub done : {A : Type 0} → A → Explores A
done a found answer = answer ≡ accepted (record { found = found; result = a })

-- an answer that goes on from the value of another, or hands its refusal on
abbrev pub on_from : {A B : Type 0} → (Answer A → Type 0) → (A → Answer B → Type 0) → Answer B → Type 0
on_from {A} {B} first next answer =
    ((a : A) × first (accepted a) × next a answer)
    ⊎ ((number : ℕ) × (place : ℕ) × first (refused number place) × (answer ≡ refused number place))

abbrev pub and_then : {A B : Type 0} → Explores A → (A → Explores B) → Explores B
and_then {A} {B} first next found = on_from {A = Progress A} {B = Progress B} (first found) (λ s. next s.result s.found)

-- ---- the node of a zone

-- what a number that names no node found gives
abbrev pub no_found : Found
no_found = record { location = 0; zone = [] }

-- the node number n has the same location and the same valuations
pub record Known (found : List Found) (l : ℕ) (S : Zone) (n : ℕ) : Type 0 where
  pub there : n < length found
  pub location : (get_or found n no_found).location ≡ l
  pub same : Same (within (get_or found n no_found).zone) (within S)

-- no bound beyond 4,095 either way
unfoldable pub narrow? : Zone → Bool
narrow? [] = true
narrow? (b ∷ Z) = leb (nat_abs b.d) 4095 && narrow? Z

-- at each new node, with the bounds Z, 58: a 65th, then 59: a tightened bound beyond 4,095 either way; both with place 0
unfoldable pub new_checks : List Found → Zone → List Check
new_checks found Z = test 58 0 (ltb (length found) 64) ∷ test 59 0 (narrow? Z) ∷ []

-- the number of the node for the zone S at the location l: a node with the same location and the same valuations is reused, the first such; else
-- there is a new one behind those found, with the bounds of S
abbrev pub node_for : ℕ → ℕ → Zone → Explores ℕ
node_for C l S found answer =
    ((n : ℕ) × Known found l S n × ((m : ℕ) → m < n → Known found l S m → ⊥) × done n found answer)
    ⊎ (((n : ℕ) → Known found l S n → ⊥) ×
    ((Z : Zone) × BoundsOf C (within S) Z ×
    First (new_checks found Z) (λ s. s ≡ record { found = found ++ (record { location = l; zone = Z } ∷ []); result = length found }) answer))

-- ---- nodes in order of discovery, then by action and edge

-- a node found, as the judge knows a node; a reach reads its location and its zone alone
abbrev pub as_node : Found → Node
as_node F = record { location = F.location; zone = F.zone; value = 0; place = 0; body = rows_body [] }

-- a successor zone is the smallest that holds the reset reach within the invariant
abbrev pub successor_for : Model → Found → Action → Edge → Explores ℕ
successor_for M F A e found answer =
    (S : Zone) × Smallest M.clocks (landings_inside M (as_node F) A e) S × node_for M.clocks e.to S found answer

abbrev pub successors_for : Model → Found → Action → List Edge → Explores (List ℕ)
successors_for M F A [] = done []
successors_for M F A (e ∷ es) = and_then (successor_for M F A e) (λ n. and_then (successors_for M F A es) (λ ns. done (n ∷ ns)))

-- an empty reach gets an A word
abbrev pub row_for : Model → Found → Action → Explores FoundRow
row_for M F A found answer =
    (Empty (Reach M (as_node F) A) × done blocked found answer)
    ⊎ ((Empty (Reach M (as_node F) A) → ⊥) × and_then (successors_for M F A A.edges) (λ ns. done (to_nodes ns)) found answer)

abbrev pub rows_for : Model → Found → List Action → Explores (List FoundRow)
rows_for M F [] = done []
rows_for M F (A ∷ As) = and_then (row_for M F A) (λ r. and_then (rows_for M F As) (λ rs. done (r ∷ rs)))

-- of the nodes from number n on, m of them at most, the rows that a table has: one for each action of the location, none at a target
abbrev pub nodes_from : Model → ℕ → ℕ → Explores (List (List FoundRow))
nodes_from M zero n found answer = done [] found answer
nodes_from M (suc m) n found answer =
    ((length found ≤ n) × done [] found answer)
    ⊎ ((n < length found) ×
    and_then (rows_for M (get_or found n no_found) (row_actions (location_at M (get_or found n no_found).location)))
    (λ rs. and_then (nodes_from M m (suc n)) (λ rest. done (rs ∷ rest))) found answer)

-- the start zone: its bounds and the invariant
unfoldable pub start_zone : Model → Zone
start_zone M = M.start_bounds ++ (location_at M M.start).invariant

-- forward from the start zone. There are never more than 64 nodes (58)
abbrev pub exploring : Model → Explores (List (List FoundRow))
exploring M = and_then (node_for M.clocks M.start (start_zone M)) (λ n. nodes_from M 64 0)
