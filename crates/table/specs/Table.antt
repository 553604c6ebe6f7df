-- Document 01, "Words", and document 02, card 1: the table that a list of words holds for a model. Places are word indexes; they are kept for
-- the refusals, and acceptance does not read them. Assumes nothing.
use Rattle.std.specs.Prelude.{ℕ, zero, suc, ◌+◌, cond, List, [], ◌∷◌, get_or, length, drop}
use Rattle.zone.specs.Scale.{Bound, Zone}
use Rattle.zone.specs.Words.{bound_of, zone_of}
use Rattle.model.specs.declared.table_kinds.TableKind.TheVariants.{Node as node, Bound as node_bound, Blocked as blocked, StartNode as start_node, Cut as cut}
use Rattle.model.specs.TableKinds.{table_number, is_table}
use Rattle.model.specs.Before.{index_of}
use Rattle.model.specs.Model.{Action, Location, Model}
use Rattle.model.specs.States.{location_at}
use Rattle.table.specs.Fields.{whole_of, location_of, value_of, number_of}

-- a B word: the number of a node
pub record Successor : Type 0 where
  pub node : ℕ
  pub place : ℕ

-- a row of an action, with the place of its first word: one A, or one B per edge
pub data Row : Type 0 where
  blocked_row : ℕ → Row
  successor_row : ℕ → List Successor → Row

-- a cut, as card 1 calls it: a bound, a successor for the part of the node's zone where it holds, and one for the rest
pub record Cut : Type 0 where
  pub bound : Bound
  pub holding : Successor
  pub rest : Successor

-- what a node carries behind its value: rows, none at a target, or in their place a cut
pub data Body : Type 0 where
  rows_body : List Row → Body
  cut_body : Cut → Body

-- nodes are numbered from 0; the place is that of the word of kind 9
pub record Node : Type 0 where
  pub location : ℕ
  pub zone : Zone
  pub value : ℕ
  pub place : ℕ
  pub body : Body

-- V, the nodes, and the number of the start node; the place is that of the word of kind C
pub record Table : Type 0 where
  pub whole : ℕ
  pub nodes : List Node
  pub start : ℕ
  pub place : ℕ

-- what a number that names no node gives
abbrev pub no_node : Node
no_node = record { location = 0; zone = []; value = 0; place = 0; body = rows_body [] }

unfoldable pub node_at : Table → ℕ → Node
node_at W n = get_or W.nodes n no_node

-- ---- the words; p is the index of the first

-- the word of a successor
abbrev pub successor_of : ℕ → ℕ → Successor
successor_of p w = record { node = number_of w; place = p }

-- n successors
unfoldable pub successors_of : ℕ → ℕ → List ℕ → List Successor
successors_of zero p ws = []
successors_of (suc n) p ws = successor_of p (get_or ws 0 0) ∷ successors_of n (suc p) (drop 1 ws)

-- one row for each action in order: one A, or one B per edge
unfoldable pub rows_of : List Action → ℕ → List ℕ → List Row
rows_of [] p ws = []
rows_of (A ∷ As) p ws =
    let edges : ℕ = length A.edges in
    cond (is_table blocked (get_or ws 0 0))
    (blocked_row p ∷ rows_of As (suc p) (drop 1 ws))
    (successor_row p (successors_of edges p ws) ∷ rows_of As (p + edges) (drop edges ws))

-- a cut: D, then two B words
unfoldable pub cut_of : ℕ → List ℕ → Cut
cut_of p ws =
    record { bound = bound_of (get_or ws 0 0); holding = successor_of (p + 1) (get_or ws 1 0); rest = successor_of (p + 2) (get_or ws 2 0) }

-- the bounds at the front
unfoldable pub leading_bounds : List ℕ → List ℕ
leading_bounds [] = []
leading_bounds (w ∷ ws) = cond (is_table node_bound w) (w ∷ leading_bounds ws) []

-- the actions of a location that have a row: none at a target
unfoldable pub row_actions : Location → List Action
row_actions L = cond L.target [] L.actions

-- where the location is no target, one row for each action in order; or in their place a cut
unfoldable pub body_of : Location → ℕ → List ℕ → Body
body_of L p ws = cond (is_table cut (get_or ws 0 0)) (cut_body (cut_of p ws)) (rows_body (rows_of (row_actions L) p ws))

-- a node is 8, its bounds, 9, and its rows or cut. Here w is the word of kind 8 and ws are the words behind it
unfoldable pub node_of : Model → ℕ → ℕ → List ℕ → Node
node_of M p w ws =
    let bounds : List ℕ = leading_bounds ws in
    let place : ℕ = suc p + length bounds in
    let rest : List ℕ = drop (length bounds) ws in
    record {
      location = location_of w;
      zone = zone_of bounds;
      value = value_of (get_or rest 0 0);
      place = place;
      body = body_of (location_at M (location_of w)) (suc place) (drop 1 rest);
    }

unfoldable pub nodes_of : Model → ℕ → List ℕ → List Node
nodes_of M p [] = []
nodes_of M p (w ∷ ws) = cond (is_table node w) (node_of M p w ws ∷ nodes_of M (suc p) ws) (nodes_of M (suc p) ws)

-- V stands in the first word, the start node's number in the word of kind C
unfoldable pub table_of : Model → List ℕ → Table
table_of M words =
    let place : ℕ = index_of (table_number start_node) words in
    record { whole = whole_of (get_or words 0 0); nodes = nodes_of M 0 words; start = number_of (get_or words place 0); place = place }
