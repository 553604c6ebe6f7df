-- Document 01, "When a table is accepted", and document 02, cards 1 and 4. Assumes nothing.
use Rattle.std.specs.Prelude.{ℕ, ◌+◌, ◌*◌, ◌≤◌, ◌<◌, ◌≡◌, ◌⊎◌, not, List, [], ◌∷◌, length, T}
use Rattle.zone.specs.Scale.{Valuation, Bound, holds?, in?, Region, within, Empty, Inside}
use Rattle.zone.specs.Moves.{ResetOf}
use Rattle.model.specs.Model.{Edge, Action, Model}
use Rattle.model.specs.States.{State, location_at, IsState, IsStart}
use Rattle.table.specs.Table.{Successor, Row, blocked_row, successor_row, Cut, Body, rows_body, cut_body, Node, Table, node_at, row_actions}
use Rattle.acceptance.specs.Choices.{later, allowed?}

-- a row's reach: every valuation, before resets, that an allowed choice of its action attains from a state in the node's zone
pub record Reach (M : Model) (N : Node) (A : Action) (k : ℕ) (v : Valuation) : Type 0 where
  pub state : State
  pub location : state.location ≡ N.location
  pub is_state : IsState M k state
  pub zone : within N.zone k state.valuation
  pub delay : ℕ
  pub allowed : T (allowed? M k state A delay)
  pub attains : (later state delay).valuation ≡ v

-- one element of the second list for each of the first, in order, and P of each two
abbrev pub Pairwise : {A B : Type 0} → (A → B → Type 0) → List A → List B → Type 0
Pairwise P [] [] = Unit {0}
Pairwise P [] (y ∷ ys) = ⊥
Pairwise P (x ∷ xs) [] = ⊥
Pairwise P (x ∷ xs) (y ∷ ys) = P x y × Pairwise P xs ys

-- the successor has the edge's location
abbrev pub HasLocation : Table → Edge → Successor → Type 0
HasLocation W e s = (node_at W s.node).location ≡ e.to

-- where an edge lands: the reset reach, the reach with the edge's masked clocks set to 0
abbrev pub landings : Model → Node → Action → Edge → Region
landings M N A e = ResetOf e.mask (Reach M N A)

-- the landings inside: those in the invariant of the edge's location (card 4)
unfoldable pub landings_inside : Model → Node → Action → Edge → Region
landings_inside M N A e k v = landings M N A e k v × within (location_at M e.to).invariant k v

-- the successor's zone holds them
abbrev pub HoldsLandings : Model → Table → Node → Action → Edge → Successor → Type 0
HoldsLandings M W N A e s = Inside (landings_inside M N A e) (within (node_at W s.node).zone)

-- the edge can land outside: some landing of it, at some scale, is not in that invariant (card 4)
pub record CanLandOutside (M : Model) (N : Node) (A : Action) (e : Edge) : Type 0 where
  pub scale : ℕ
  pub positive : 1 ≤ scale
  pub valuation : Valuation
  pub lands : landings M N A e scale valuation
  pub outside : T (not (in? scale valuation (location_at M e.to).invariant))

-- what an edge has in the sum: V if it can land outside, else its successor's value (card 4)
abbrev pub Worth : Model → Table → Node → Action → Edge → Successor → ℕ → Type 0
Worth M W N A e s x =
    (CanLandOutside M N A e × (x ≡ W.whole)) ⊎ ((CanLandOutside M N A e → ⊥) × (x ≡ (node_at W s.node).value))

-- the sum that a row gives: of weight × what the edge has; there is one at most
abbrev pub SumOf : Model → Table → Node → Action → List Edge → List Successor → ℕ → Type 0
SumOf M W N A [] ss x = x ≡ 0
SumOf M W N A (e ∷ es) [] x = x ≡ 0
SumOf M W N A (e ∷ es) (s ∷ ss) x = (y : ℕ) × (z : ℕ) × Worth M W N A e s y × SumOf M W N A es ss z × (x ≡ e.weight * y + z)

-- it is at most D × the node's value
abbrev pub SumFits : Model → Table → Node → Action → List Successor → Type 0
SumFits M W N A ss = (x : ℕ) × SumOf M W N A A.edges ss x × (x ≤ M.denominator * N.value)

-- the number of the successor is that of a node, as "Words" asks
pub record SuccessorFits (M : Model) (W : Table) (N : Node) (A : Action) (e : Edge) (s : Successor) : Type 0 where
  pub exists : s.node < length W.nodes
  pub location : HasLocation W e s
  pub inside : HoldsLandings M W N A e s

-- a successor for each edge, and the sum
pub record SuccessorsFit (M : Model) (W : Table) (N : Node) (A : Action) (ss : List Successor) : Type 0 where
  pub successors : Pairwise (SuccessorFits M W N A) A.edges ss
  pub sum : SumFits M W N A ss

-- blocked: the reach is empty. A row with successors is judged as such even if its reach is empty
abbrev pub RowFits : Model → Table → Node → Action → Row → Type 0
RowFits M W N A (blocked_row p) = Empty (Reach M N A)
RowFits M W N A (successor_row p ss) = SuccessorsFit M W N A ss

-- ---- a cut (document 02, card 1)

-- the part of the node's zone where the bound holds
unfoldable pub holding_part : Node → Bound → Region
holding_part N b k v = within N.zone k v × T (holds? k v b)

-- the rest: the valuations of the zone where it does not hold
unfoldable pub rest_part : Node → Bound → Region
rest_part N b k v = within N.zone k v × T (not (holds? k v b))

-- the successor's number is above the node's own, n: a cut takes no step
abbrev pub IsAbove : ℕ → Successor → Type 0
IsAbove n s = n < s.node

-- the successor has the node's location and a value no larger than the node's own
pub record Matches (W : Table) (N : Node) (s : Successor) : Type 0 where
  pub location : (node_at W s.node).location ≡ N.location
  pub value : (node_at W s.node).value ≤ N.value

-- its zone holds the part
abbrev pub HoldsPart : Table → Region → Successor → Type 0
HoldsPart W P s = Inside P (within (node_at W s.node).zone)

-- the number of the successor is that of a node, as "Words" asks
pub record PartFits (W : Table) (n : ℕ) (N : Node) (P : Region) (s : Successor) : Type 0 where
  pub exists : s.node < length W.nodes
  pub above : IsAbove n s
  pub matching : Matches W N s
  pub inside : HoldsPart W P s

-- a cut of the node numbered n, whose location is no target
pub record CutFits (M : Model) (W : Table) (n : ℕ) (N : Node) (c : Cut) : Type 0 where
  pub elsewhere : T (not (location_at M N.location).target)
  pub holding : PartFits W n N (holding_part N c.bound) c.holding
  pub rest : PartFits W n N (rest_part N c.bound) c.rest

-- ---- nodes, the start, the table

-- a row for each action of the location, none at a target; or a cut in their place
abbrev pub BodyFits : Model → Table → ℕ → Node → Body → Type 0
BodyFits M W n N (rows_body rs) = Pairwise (RowFits M W N) (row_actions (location_at M N.location)) rs
BodyFits M W n N (cut_body c) = CutFits M W n N c

-- a target node has value V
abbrev pub HasWhole : Table → Node → Type 0
HasWhole W N = N.value ≡ W.whole

-- the node numbered n. Its location exists and its value is at most V, as "Words" asks
pub record NodeFits (M : Model) (W : Table) (n : ℕ) (N : Node) : Type 0 where
  pub exists : N.location < length M.locations
  pub value : N.value ≤ W.whole
  pub target : T (location_at M N.location).target → HasWhole W N
  pub body : BodyFits M W n N N.body

-- the start valuations
unfoldable pub start_valuations : Model → Region
start_valuations M k v = IsStart M k (record { location = M.start; valuation = v })

-- the start node has the start location
abbrev pub HasStartLocation : Model → Table → Type 0
HasStartLocation M W = (node_at W W.start).location ≡ M.start

-- its zone holds all start valuations
abbrev pub HoldsStart : Model → Table → Type 0
HoldsStart M W = Inside (start_valuations M) (within (node_at W W.start).zone)

-- its number is that of a node, as "Words" asks
pub record StartFits (M : Model) (W : Table) : Type 0 where
  pub exists : W.start < length W.nodes
  pub location : HasStartLocation M W
  pub inside : HoldsStart M W

-- V is at least 1, as "Words" asks
pub record Accepted (M : Model) (W : Table) : Type 0 where
  pub whole : 1 ≤ W.whole
  pub nodes : (n : ℕ) → n < length W.nodes → NodeFits M W n (node_at W n)
  pub start : StartFits M W

-- the start node's value is b, and b/V is the certified fraction
unfoldable pub certified : Table → ℕ
certified W = (node_at W W.start).value
