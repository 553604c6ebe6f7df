-- Document 01, "Moves and schedulers", and document 02, card 4: schedulers, the weighted count, and what the certified fraction bounds. Assumes
-- nothing.
use Rattle.std.specs.Prelude.{ℕ, zero, suc, ◌+◌, ◌*◌, ◌^◌, ◌≤◌, Bool, cond, List, [], ◌∷◌, ◌++◌}
use Rattle.std.proofs.Math.Option.{Option, none, some}
use Rattle.std.proofs.Math.ListN.{get_elem?}
use Rattle.model.specs.Model.{Edge, Action, Model}
use Rattle.model.specs.States.{State, location_at, IsStart}
use Rattle.acceptance.specs.Choices.{Choice, later, landing, invariant?, allowed?}

-- a choice or stopping
pub data Move : Type 0 where
  stop : Move
  choose : Choice → Move

-- a scheduler maps the list of states so far, the present one last, to a choice or to stopping
abbrev pub Scheduler : Type 0
Scheduler = List State → Move

-- the sum, over edges taken in the state s, of weight × `rest` of the state that the edge lands in
unfoldable pub edges_count : (State → ℕ) → State → List Edge → ℕ
edges_count rest s [] = 0
edges_count rest s (e ∷ es) = e.weight * rest (landing e s) + edges_count rest s es

-- the base of the powers: D
unfoldable pub per_step : Model → ℕ
per_step M = M.denominator

-- the present state is at a target
unfoldable pub at_target? : Model → State → Bool
at_target? M s = (location_at M s.location).target

-- the counts of a model, at the scale k
module _ (M : Model) (k : ℕ) where
  -- a choice that is not allowed in the present state, or of an action that its location does not have, counts as stopping
  unfoldable pub choice_count : State → (State → ℕ) → ℕ → Option Action → ℕ
  choice_count s rest t none = 0
  choice_count s rest t (some A) = cond (allowed? M k s A t) (edges_count rest (later s t) A.edges) 0

  -- what a move comes to
  unfoldable pub move_count : State → (State → ℕ) → Move → ℕ
  move_count s rest stop = 0
  move_count s rest (choose c) = choice_count s rest c.delay (get_elem? (location_at M s.location).actions c.action)

  -- of an edge that lands in its location's invariant, `rest` of the state that it lands in; a run that lands outside has reached the target, and
  -- counts `missed` (card 4)
  unfoldable pub landing_count : ℕ → (State → ℕ) → State → ℕ
  landing_count missed rest s = cond (invariant? M k s) (rest s) missed

  -- the weighted count for n steps, for the list of states that has the present state s last, behind those in `before`: D to the power n if s is at
  -- a target; else 0 if n is 0 or the scheduler stops; else the sum over the edges of the chosen action, each with the list that has the state
  -- landed in added at its end or, where it lands outside, with D to the power of the steps left
  unfoldable pub weighted_count : Scheduler → ℕ → List State → State → ℕ
  weighted_count σ zero before s = cond (at_target? M s) (per_step M ^ zero) 0
  weighted_count σ (suc n) before s =
      let history : List State = before ++ (s ∷ []) in
      cond (at_target? M s) (per_step M ^ suc n) (move_count s (landing_count (per_step M ^ n) (weighted_count σ n history)) (σ history))

-- Demand 3: b/V is never below what a scheduler attains, at every scale, from every start state, for every number of steps. The list of states
-- is the start state alone
pub record BoundsEvery (M : Model) (b whole : ℕ) : Type 0 where
  pub bounds : (k : ℕ) → 1 ≤ k → (s : State) → IsStart M k s → (σ : Scheduler) (n : ℕ) →
      weighted_count M k σ n [] s * whole ≤ b * per_step M ^ n
