-- At most one answer meets the promise of each question about zones: theorems for a reader, which no proof cites. Assumes nothing.
use Prim.Native.Nat.{ℕ, zero, suc, ◌≤◌, ◌<◌}
use mathlib.Core.Path.{◌≡◌, refl, sym, ap, fun_ext, ◌∙◌}
use mathlib.Core.Bool.{Bool}
use mathlib.Core.Logic.{◌↔◌, ◌⊎◌, inl, inr}
use mathlib.Core.List.{List, ◌∷◌, ◌++◌}
use native.Mathlib.Omega.{arith}
use lib.Dec.{T}
use Rattle.zone.specs.Scale.{Valuation, Region, within, Empty, Inside}
use Rattle.zone.specs.Earliest.{EarliestPoint, PointAnswer, no_point, point, EarliestAnswer}
use Rattle.zone.specs.Words.{zone_of}
use Rattle.answers.specs.Refusals.{answer_of}
use Rattle.answers.specs.declared.Refusal.{Refusal}
use Rattle.std.specs.Prelude.{Result}
use Rattle.zone.specs.Questions.{clock_check, bound_checks, AskedEmpty, AskedInside}
use Rattle.zone.proofs.Integers.{lt-or-ge}
use Rattle.answers.proofs.CheckLaws.{first_one, one_bool}
use Rattle.answers.proofs.RefusalLaws.{answer-one}

pub empty-one : (C : ℕ) (words : List ℕ) (a b : Result Bool Refusal) → AskedEmpty C words (answer_of a) → AskedEmpty C words (answer_of b) → a ≡ b
empty-one C words a b p q =
    answer-one a b
    (first_one (clock_check C ∷ bound_checks 32 C 0 words) (λ yes?. T yes? ↔ Empty (within (zone_of words)))
    (one_bool (Empty (within (zone_of words)))) (answer_of a) (answer_of b) p.says q.says)

pub inside_one : (C : ℕ) (first second : List ℕ) (a b : Result Bool Refusal) → AskedInside C first second (answer_of a) →
    AskedInside C first second (answer_of b) → a ≡ b
inside_one C first second a b p q =
    answer-one a b
    (first_one (clock_check C ∷ (bound_checks 32 C 0 first ++ bound_checks 33 C 0 second))
    (λ yes?. T yes? ↔ Inside (within (zone_of first)) (within (zone_of second)))
    (one_bool (Inside (within (zone_of first)) (within (zone_of second)))) (answer_of a) (answer_of b) p.says q.says)

-- a region has one earliest point at most, and one answer
pub earliest_one : (C : ℕ) (R : Region) (v w : Valuation) → EarliestPoint C R v → EarliestPoint C R w → v ≡ w
earliest_one C R v w p q = fun_ext (λ i. by i (lt-or-ge C i))
  where
    by : (i : ℕ) → (C < i) ⊎ (i ≤ C) → v i ≡ w i
    by i (inl h) = p.above i h ∙ sym (q.above i h)
    by zero (inr h) = p.zero ∙ sym q.zero
    by (suc i) (inr h) = omega (arith, p.least w q.holds (suc i) (omega arith) h, q.least v p.holds (suc i) (omega arith) h)

pub point-one : (C : ℕ) (R : Region) (x y : PointAnswer) → EarliestAnswer C R x → EarliestAnswer C R y → x ≡ y
point-one C R no_point no_point p q = refl
point-one C R no_point (point w) p q = absurd (p.at (suc C) (omega arith) w q.holds)
point-one C R (point v) no_point p q = absurd (q.at (suc C) (omega arith) v p.holds)
point-one C R (point v) (point w) p q = ap {B = PointAnswer} point (earliest_one C R v w p q)
