-- Algorithm: exploring by square tables, fronts and codes. A row has a code for each of its words: 255 for an A, and for a B the number of its node,
-- with 64 more where its edge can land outside. Assumes nothing.
use Rattle.std.specs.Prelude.{ℕ, zero, suc, ◌+◌, ◌-◌, Bool, false, not, cond, List, [], ◌∷◌, ◌++◌, ltb, get_or, length, Result, Ok, Err}
use Rattle.arrayvec.specs.ArrayVec.{ArrayVec}
use Rattle.answers.specs.declared.Reason.{Reason}
use Rattle.zone.specs.Squares.{reset_square, empty?, inside?}
use Rattle.zone.specs.Stores.{zone_at}
use Rattle.zone.specs.Reading.{zone_read}
use Rattle.zone.specs.declared.zones.Zone.{Zone as Square}
use Rattle.model.specs.Fields.{mask_of, lands_at}
use Rattle.model.specs.Scan.{guards_at}
use Rattle.model.specs.declared.index.IndexedModel.{IndexedModel}
use Rattle.judge.specs.Reaching.{common, waited_square}
use Rattle.draft.specs.Fronts.{front, zone_from, front_for}
use Rattle.draft.specs.Nodes.{Placing, placed_in, fronts_of, rows_of}
use Rattle.draft.specs.Asked.{edges_of}
use Rattle.draft.specs.declared.nodes.Front.{Front}
use Rattle.draft.specs.declared.nodes.Node.{Node}

-- the nodes found so far, and the codes of the rows of the one that is explored
pub record Graph : Type 0 where
  pub fronts : List Front
  pub codes : List ℕ

abbrev pub graph : List Front → List ℕ → Graph
graph fs cs = record { fronts = fs; codes = cs }

-- it, or why exploring is refused
abbrev pub Progress : Type 0
Progress = Result Graph Reason

-- what the code returns, with the nodes and the codes that it leaves
abbrev pub progress_of : Result (Unit {0}) Reason → List Node → List ℕ → Progress
progress_of (Ok u) nodes codes = Ok (graph (fronts_of nodes) codes)
progress_of (Err r) nodes codes = Err r

-- what it returns where the codes are its result
abbrev pub coded_of : Result (ArrayVec ℕ) Reason → List Node → Progress
coded_of (Ok rows) nodes = Ok (graph (fronts_of nodes) rows.items)
coded_of (Err r) nodes = Err r

-- goes on, unless exploring is refused
abbrev pub go_on : {A B : Type 0} → Result A Reason → (A → Result B Reason) → Result B Reason
go_on (Ok d) next = next d
go_on (Err r) next = Err r

-- ---- an edge: its landings and, where some are outside the invariant of its location, those that are inside

-- the zone y of the landings and the invariant i
abbrev pub outside? : Square → Square → Bool
outside? y i = not (inside? y i)

unfoldable pub landed_square : Square → Square → Square
landed_square y i = cond (outside? y i) (common y i) y

-- the code of a B word
abbrev pub code_of : ℕ → Bool → ℕ
code_of n outside = cond outside (n + 64) n

-- the code of the node placed for an edge
abbrev pub coded : Bool → Placing → Result Placing Reason
coded outside p = Ok (record { number = code_of p.number outside; fronts = p.fronts })

-- the nodes found, and the codes of the rows of each that is explored
pub record Explored : Type 0 where
  pub fronts : List Front
  pub rows : List (List ℕ)

abbrev pub explored_as : List Front → List (List ℕ) → Explored
explored_as fs rows = record { fronts = fs; rows = rows }

-- what the code returns, with the nodes that it leaves
abbrev pub explored_of : Result (Unit {0}) Reason → List Node → Result Explored Reason
explored_of (Ok u) nodes = Ok (explored_as (fronts_of nodes) (rows_of nodes))
explored_of (Err r) nodes = Err r

-- what is kept of the model
module _ (m : IndexedModel) where
  -- the code of the edge of the word w and the node of its successor, from a reach that is not empty
  unfoldable pub with_successor : Square → ℕ → List Front → Result Placing Reason
  with_successor reach w fs =
      let y : Square = reset_square (mask_of w) reach in
      let i : Square = zone_at m.zones (lands_at w) in
      go_on (placed_in (front_for (lands_at w) (zone_from m.index.clocks (landed_square y i))) fs) (coded (outside? y i))

  -- with those of these edges
  unfoldable pub successors_from : Square → List ℕ → Graph → Progress
  successors_from reach [] d = Ok d
  successors_from reach (w ∷ ws) d =
      go_on (with_successor reach w d.fronts) (λ p. successors_from reach ws (graph p.fronts (d.codes ++ (p.number ∷ []))))

  -- with the row of the action a, where waiting attains `waited`: one A word if its reach is empty
  unfoldable pub with_row : Square → ℕ → Graph → Progress
  with_row waited a d =
      let reach : Square = common waited (zone_at m.zones (guards_at + a)) in
      cond (empty? reach) (Ok (graph d.fronts (d.codes ++ (255 ∷ [])))) (successors_from reach (edges_of m a) d)

  -- with those of n actions, from number a on
  unfoldable pub rows_from : Square → ℕ → ℕ → Graph → Progress
  rows_from waited zero a d = Ok d
  rows_from waited (suc n) a d = go_on (with_row waited a d) (rows_from waited n (suc a))

  -- with those of the location l
  abbrev pub rows_at : Square → ℕ → List Front → Progress
  rows_at waited l fs =
      let first : ℕ = get_or m.index.actions l 0 in
      rows_from waited (get_or m.index.actions (l + 1) 0 - first) first (graph fs [])

  -- with those of a node; a target has none
  unfoldable pub with_node : Front → List Front → Progress
  with_node f fs =
      cond (get_or m.index.targets f.location false) (Ok (graph fs []))
      (rows_at (waited_square (zone_read m.index.clocks f.bounds.items) (zone_at m.zones f.location)) f.location fs)

  -- with n nodes more, from number k on, as far as there are nodes
  unfoldable pub nodes_from : ℕ → ℕ → List (List ℕ) → List Front → Result Explored Reason
  nodes_from zero k rows fs = Ok (explored_as fs rows)
  nodes_from (suc n) k rows fs =
      cond (ltb k (length fs))
      (go_on (with_node (get_or fs k (front 0 [])) fs) (λ d. nodes_from n (suc k) (rows ++ (d.codes ∷ [])) d.fronts))
      (Ok (explored_as fs rows))

  -- the start node, of the zone y of the start valuations
  unfoldable pub start_from : Square → Result Placing Reason
  start_from y = placed_in (front_for m.index.start (zone_from m.index.clocks y)) []

  -- all of it, from that zone
  unfoldable pub explored_from : Square → Result Explored Reason
  explored_from y = go_on (start_from y) (λ p. nodes_from 64 0 [] p.fronts)
