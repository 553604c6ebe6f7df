-- Algorithm: slots that a caller lends, taken by value. Assumes nothing.
use Rattle.std.specs.Prelude.{ℕ, ◌≡◌, cond, eqb, List, length, Result, Ok, Err}
use Rattle.slots.specs.declared.Slot.{Slot}

-- the slots or, where they are not 16, how many there are
abbrev pub Loads : List Slot → Result (List Slot) ℕ → Type 0
Loads slots r = r ≡ cond (eqb (length slots) 16) (Ok slots) (Err (length slots))
