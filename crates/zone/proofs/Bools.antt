-- Laws of tests. Assumes nothing.
use Prim.Native.Nat.{ℕ}
use mathlib.Core.Path.{◌≡◌, refl, sym}
use mathlib.Core.Bool.{Bool, true, false, not, cond, ◌&&◌}
use native.Mathlib.Omega.{arith}
use lib.Dec.{T}
pub use Rattle.std.proofs.Math.Bool.{not-not}

pub true_false : {X : Type 0} → true ≡ false → X
true_false e = let z : ◌≡◌ {A = ℕ} 0 1 = cc in absurd (omega arith)

pub false_true : {X : Type 0} → false ≡ true → X
false_true e = true_false (sym e)

-- by the two outcomes of a test
pub by-test : {A : Type 0} (P : A → Type 0) (c : Bool) (x y : A) → (c ≡ true → P x) → (c ≡ false → P y) → P (cond c x y)
by-test P true x y f g = f refl
by-test P false x y f g = g refl

pub both : (a b : Bool) → T (a && b) → T a × T b
both true b t = (tt, t)
both false b t = absurd t

pub and : (a b : Bool) → T a → T b → T (a && b)
and true b s t = t
and false b s t = s

pub is_true : (c : Bool) → T c → c ≡ true
is_true true t = refl
is_true false t = absurd t

pub is_false : (c : Bool) → (T c → ⊥) → c ≡ false
is_false true f = absurd (f tt)
is_false false f = refl

-- two tests that hold together are the same
pub same_test : (s t : Bool) → (T s → T t) → (T t → T s) → s ≡ t
same_test true true f g = refl
same_test true false f g = absurd (f tt)
same_test false true f g = absurd (g tt)
same_test false false f g = refl

-- both parts of a test that passes
pub left_true : (a b : Bool) → (a && b) ≡ true → a ≡ true
left_true true b e = refl
left_true false b e = e

pub right_true : (a b : Bool) → (a && b) ≡ true → b ≡ true
right_true true b e = e
right_true false b e = false_true e

pub untrue : (c : Bool) → (T c → ⊥) → T (not c)
untrue true f = f tt
untrue false f = tt

pub not-untrue : (c : Bool) → (T (not c) → ⊥) → T c
not-untrue true f = tt
not-untrue false f = f tt

pub not-both : (c : Bool) → T c → T (not c) → ⊥
not-both true s t = t
not-both false s t = s
