-- How often the tables of a row's reach can be tightened. Assumes nothing.
use Prim.Native.Nat.{ℕ}
use mathlib.Core.Path.{◌≡◌}
use native.Mathlib.Omega.{arith}
use Rattle.zone.specs.Squares.{Tightens, met, reset_square}
use Rattle.zone.specs.declared.zones.Zone.{Zone as Square}
use Rattle.zone.proofs.Sizes.{small-met, small-delayed, small-reset, tightens-fewer, tightens-less}
use Rattle.judge.specs.Reaching.{common, waited_square}

-- what two zones meet in can be tightened
pub met_small : (y z r : Square) → r ≡ met y z → Tightens 1 y → Tightens 1 z → Tightens 1 r
met_small y z r e s t = rw e (small-met y s z t)

pub waited_tightens : {y i : Square} → Tightens 3 y → Tightens 3 i → Tightens 2 (waited_square y i)
unfolding waited_square common
waited_tightens {y} {i} s t =
    small-met _ (small-delayed _ (tightens-less 2 (met y i) (omega arith) (small-met y s i t))) i (tightens-fewer 2 3 i (omega arith) t)

-- what is left after tightening
pub common-tightens : {y z : Square} → Tightens 2 y → Tightens 2 z → Tightens 1 (common y z)
unfolding common
common-tightens {y} {z} s t = tightens-less 1 (met y z) (omega arith) (small-met y s z t)

pub reset-tightens : (n mask : ℕ) {y r : Square} → r ≡ reset_square mask y → Tightens n y → Tightens n r
reset-tightens n mask {y} e s = rw e (small-reset y s mask)

-- landings, and the invariant that they are met with
pub landings_tighten : (mask : ℕ) (y r : Square) → r ≡ reset_square mask y → Tightens 1 y → Tightens 1 r
landings_tighten mask y r e s = reset-tightens 1 mask e s
