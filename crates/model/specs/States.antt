-- Document 01, "Moves and schedulers": states and start states. Assumes nothing.
use Rattle.std.specs.Prelude.{ℕ, ◌≤◌, ◌<◌, ◌≡◌, false, [], get_or, length}
use Rattle.zone.specs.Scale.{Valuation, within}
use Rattle.model.specs.Model.{Location, Model}

-- what a number that names no location gives
abbrev pub nowhere : Location
nowhere = record { target = false; invariant = []; actions = [] }

unfoldable pub location_at : Model → ℕ → Location
location_at M l = get_or M.locations l nowhere

pub record State : Type 0 where
  pub location : ℕ
  pub valuation : Valuation

-- at scale k, a state is a location and a valuation in its invariant
pub record IsState (M : Model) (k : ℕ) (s : State) : Type 0 where
  pub exists : s.location < length M.locations
  pub invariant : within (location_at M s.location).invariant k s.valuation

-- start states: start location, valuation in its invariant and in the start bounds
pub record IsStart (M : Model) (k : ℕ) (s : State) : Type 0 where
  pub location : s.location ≡ M.start
  pub state : IsState M k s
  pub bounds : within M.start_bounds k s.valuation

-- a start state at some scale
pub record HasStart (M : Model) : Type 0 where
  pub scale : ℕ
  pub positive : 1 ≤ scale
  pub state : State
  pub starts : IsStart M scale state
