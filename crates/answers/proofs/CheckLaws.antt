-- Laws of checks in an order: at most one answer, and how an answer is found check by check. Assumes nothing.
use Prim.Native.Nat.{ℕ}
use mathlib.Core.Path.{◌≡◌, refl, sym, ap, ◌∙◌}
use mathlib.Core.Logic.{◌↔◌, inl, inr}
use mathlib.Core.Bool.{Bool, true, false}
use mathlib.Core.List.{List, [], ◌∷◌, ◌++◌}
use native.Mathlib.Omega.{arith}
use lib.Dec.{T}
use Rattle.answers.specs.Checks.{Answer, refused, accepted, Check, Accepts, First}

accepts-one : {A : Type 0} (P : A → Type 0) → ((x y : A) → P x → P y → x ≡ y) → (a b : Answer A) → Accepts P a → Accepts P b → a ≡ b
accepts-one P one (refused n p) b x y = absurd x
accepts-one P one (accepted a) (refused n p) x y = absurd y
accepts-one P one (accepted a) (accepted b) x y = ap {B = Answer _} accepted (one a b x y)

-- at most one answer, where P leaves at most one value
pub first_one : {A : Type 0} (cs : List Check) (P : A → Type 0) → ((x y : A) → P x → P y → x ≡ y) → (a b : Answer A) → First cs P a →
    First cs P b → a ≡ b
first_one [] P one a b p q = accepts-one P one a b p q
first_one (c ∷ cs) P one a b (inl p) (inl q) = first_one cs P one a b p.1 q.1
first_one (c ∷ cs) P one a b (inl p) (inr q) = absurd (q.0 p.0)
first_one (c ∷ cs) P one a b (inr p) (inl q) = absurd (p.0 q.0)
first_one (c ∷ cs) P one a b (inr p) (inr q) = p.1 ∙ sym q.1

-- an answer of yes or no that says whether X holds is one
pub one_bool : (X : Type 0) (a b : Bool) → T a ↔ X → T b ↔ X → a ≡ b
one_bool X true true p q = refl
one_bool X true false p q = absurd (q.1 (p.0 tt))
one_bool X false true p q = absurd (p.1 (q.0 tt))
one_bool X false false p q = refl

-- a function with a left inverse tells its arguments apart
pub tell : {A B : Type 0} (f : A → B) (g : B → A) → ((a : A) → g (f a) ≡ a) → (a b : A) → f a ≡ f b → a ≡ b
tell f g back a b e = sym (back a) ∙ ap g e ∙ back b

abbrev pub AllHold : List Check → Type 0
AllHold [] = Unit {0}
AllHold (c ∷ cs) = c.holds × AllHold cs

pub all_left : (cs ds : List Check) → AllHold (cs ++ ds) → AllHold cs
all_left [] ds h = tt
all_left (c ∷ cs) ds h = (h.0, all_left cs ds h.1)

pub all_right : (cs ds : List Check) → AllHold (cs ++ ds) → AllHold ds
all_right [] ds h = h
all_right (c ∷ cs) ds h = all_right cs ds h.1

pub all_join : (cs ds : List Check) → AllHold cs → AllHold ds → AllHold (cs ++ ds)
all_join [] ds g h = h
all_join (c ∷ cs) ds g h = (g.0, all_join cs ds g.1 h)

-- checks that hold leave the answer to those behind them
pub first-join : {A : Type 0} (cs ds : List Check) (P : A → Type 0) (a : Answer A) → AllHold cs → First ds P a → First (cs ++ ds) P a
first-join [] ds P a h x = x
first-join (c ∷ cs) ds P a h x = inl (h.0, first-join cs ds P a h.1 x)

-- all hold: an acceptance
pub first-all : {A : Type 0} (cs : List Check) (P : A → Type 0) (x : A) → AllHold cs → P x → First cs P (accepted x)
first-all [] P x h p = p
first-all (c ∷ cs) P x h p = inl (h.0, first-all cs P x h.1 p)

pub first_holds : {A : Type 0} (cs : List Check) (P : A → Type 0) (x : A) → First cs P (accepted x) → AllHold cs × P x
first_holds [] P x f = (tt, f)
first_holds (c ∷ cs) P x (inl f) = let r = first_holds cs P x f.1 in ((f.0, r.0), r.1)
first_holds {A} (c ∷ cs) P x (inr f) = let z : ◌≡◌ {A = ℕ} 0 1 = cc f.1 in absurd (omega arith)

-- a refusal is the same whatever an acceptance would have carried
pub same_refusal : {A B : Type 0} (n p m q : ℕ) → ◌≡◌ {A = Answer A} (refused n p) (refused m q) → ◌≡◌ {A = Answer B} (refused n p) (refused m q)
same_refusal n p m q e =
    let number : n ≡ m = cc in
    let place : p ≡ q = cc in
    rw (number, place)

-- a refusal that the first checks give does not look at those behind them
pub first-before : {A B : Type 0} (cs ds : List Check) (P : A → Type 0) (Q : B → Type 0) (n p : ℕ) → First cs P (refused n p) →
    First (cs ++ ds) Q (refused n p)
first-before [] ds P Q n p x = absurd x
first-before (c ∷ cs) ds P Q n p (inl x) = inl (x.0, first-before cs ds P Q n p x.1)
first-before {A} {B} (c ∷ cs) ds P Q n p (inr x) = inr (x.0, same_refusal n p c.number c.place x.1)

-- where the answer accepts, the first checks hold, and it is that of those behind them
pub first-accepted : {A : Type 0} (cs ds : List Check) (P : A → Type 0) (x : A) → First (cs ++ ds) P (accepted x) →
    AllHold cs × First ds P (accepted x)
first-accepted [] ds P x f = (tt, f)
first-accepted (c ∷ cs) ds P x (inl f) = let r = first-accepted cs ds P x f.1 in ((f.0, r.0), r.1)
first-accepted {A} (c ∷ cs) ds P x (inr f) = let z : ◌≡◌ {A = ℕ} 0 1 = cc f.1 in absurd (omega arith)
