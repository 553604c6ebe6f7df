-- Document 02, card 3: a slot of the board. Assumes nothing.
use Rattle.std.specs.Prelude.{ℕ, true, false, List, get_or}
use Rattle.slots.specs.declared.Slot.{Slot}

-- a slot is vacant; its other fields then say nothing
abbrev pub vacant : Slot
vacant = record { held = false; team = 0; b = 0; whole = 0 }

-- or it has a team and a certified fraction
abbrev pub holding : (team b whole : ℕ) → Slot
holding team b whole = record { held = true; team = team; b = b; whole = whole }

-- the slot numbered n, from 0
abbrev pub slot_at : List Slot → ℕ → Slot
slot_at ss n = get_or ss n vacant
