-- Document 01, "Moves and schedulers" and "When a table is accepted": what a delay and a reset make of a valuation. Assumes nothing.
use Rattle.std.specs.Prelude.{ℕ, zero, suc, ◌+◌, ◌/◌, ◌%◌, ◌^◌, ◌≡◌, Bool, false, cond, eqb}
use Rattle.zone.specs.Scale.{Valuation, Region}

-- after a delay of t every clock from 1 on reads t more; clock 0 still reads zero, whatever v gives for it
unfoldable pub delayed : Valuation → ℕ → Valuation
delayed v t i = v i + t

-- a mask names clocks, its lowest bit clock 1
unfoldable pub masked? : ℕ → ℕ → Bool
masked? mask zero = false
masked? mask (suc i) = eqb (mask / 2 ^ i % 2) 1

-- the masked clocks set to 0
unfoldable pub reset : ℕ → Valuation → Valuation
reset mask v i = cond (masked? mask i) 0 (v i)

-- R with the masked clocks set to 0, as in "the reset reach"
pub record ResetOf (mask : ℕ) (R : Region) (k : ℕ) (v : Valuation) : Type 0 where
  pub before : Valuation
  pub was : R k before
  pub lands : reset mask before ≡ v
