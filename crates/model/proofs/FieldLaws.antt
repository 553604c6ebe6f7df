-- Laws of the fields of a model's words. Assumes nothing.
use Rattle.std.proofs.Common.{◌≡◌, refl}
use mathlib.Core.Bool.{Bool, true, false, not, beq, ◌&&◌, ◌||◌}

-- two truth values differ where one holds and the other does not
pub differ : (a b : Bool) → not (beq a b) ≡ (a && not b) || (not a && b)
differ true true = refl
differ true false = refl
differ false true = refl
differ false false = refl
