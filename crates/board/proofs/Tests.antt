-- Laws of tests, beside those of `zone`. Assumes nothing.
use mathlib.Core.Path.{◌≡◌, refl}
use mathlib.Core.Logic.{◌⊎◌, inl, inr}
use mathlib.Core.Bool.{Bool, true, false, not, cond, ◌&&◌, ◌||◌}
use lib.Dec.{T}
use Rattle.zone.proofs.Bools.{both}

pub dec : (b : Bool) → T b ⊎ T (not b)
dec true = inl tt
dec false = inr tt

-- of two tests
pub first_of : (a b : Bool) → T (a && b) → T a
first_of a b h = (both a b h).0

pub second-of : (a b : Bool) → T (a && b) → T b
second-of a b h = (both a b h).1

pub one_of : (a b : Bool) → T (a || b) → T a ⊎ T b
one_of true b h = inl tt
one_of false b h = inr h

pub or_left : (a b : Bool) → T a → T (a || b)
or_left true b h = tt
or_left false b h = absurd h

pub or_right : (a b : Bool) → T b → T (a || b)
or_right true b h = tt
or_right false b h = h

-- by the outcome of three tests
pub some-fails : {X : Type 0} (a b c : Bool) (x y : X) → (T (a && (b && c)) → ⊥) → y ≡ cond (a && (b && c)) x y
some-fails true true true x y h = absurd (h tt)
some-fails true true false x y h = refl
some-fails true false c x y h = refl
some-fails false b c x y h = refl

pub all_hold : {X : Type 0} (a b c : Bool) (x y : X) → T a → T b → T c → x ≡ cond (a && (b && c)) x y
all_hold true true true x y ta tb tc = refl
all_hold true true false x y ta tb tc = absurd tc
all_hold true false c x y ta tb tc = absurd tb
all_hold false b c x y ta tb tc = absurd ta
