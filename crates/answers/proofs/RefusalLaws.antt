-- A reason can be told from its number, which is never 0, and so a result from what it says. Assumes nothing.
use Rattle.std.proofs.Common.{ℕ, ◌≡◌, refl, ap, false, List, ◌++◌, Result, Ok, Err, eqb, cond}
use Rattle.answers.specs.Checks.{Answer, refused, accepted, Check, First}
use Rattle.answers.specs.Refusals.{number, answer_of}
use Rattle.answers.specs.declared.Reason.{Reason}
use Rattle.answers.specs.declared.Reason.TheVariants as reason
use Rattle.answers.specs.declared.Refusal.{Refusal}
use Rattle.answers.proofs.CheckLaws.{tell, first-before}

-- the reason of a number; of one that is no reason's it is never asked
pub reason_of : ℕ → Reason
reason_of n =
    cond (eqb n 1) reason.BadModelKind
    (cond (eqb n 2) reason.BadModelField
    (cond (eqb n 3) reason.OverModelLimit
    (cond (eqb n 4) reason.BadWeights
    (cond (eqb n 5) reason.NoLocation
    (cond (eqb n 6) reason.NoStart
    (cond (eqb n 11) reason.BadTableKind
    (cond (eqb n 12) reason.BadTableField
    (cond (eqb n 13) reason.OverTableLimit
    (cond (eqb n 14) reason.NoNode
    (cond (eqb n 15) reason.BadTargetValue
    (cond (eqb n 16) reason.NotBlocked
    (cond (eqb n 17) reason.WrongLocation
    (cond (eqb n 18) reason.NotInside
    (cond (eqb n 19) reason.SumTooLarge
    (cond (eqb n 20) reason.WrongStart
    (cond (eqb n 21) reason.StartNotInside
    (cond (eqb n 31) reason.BadClocks
    (cond (eqb n 32) reason.BadBound
    (cond (eqb n 33) reason.BadSecondBound
    (cond (eqb n 41) reason.NotWords
    (cond (eqb n 42) reason.TooLong
    (cond (eqb n 51) reason.PartNotAbove
    (cond (eqb n 52) reason.PartMismatch
    (cond (eqb n 53) reason.PartNotInside
    (cond (eqb n 54) reason.BoardOutOfRange
    (cond (eqb n 55) reason.AllowanceSpent
    (cond (eqb n 56) reason.SlotHeldByOther
    (cond (eqb n 58) reason.TooManyNodes
    (cond (eqb n 59) reason.BoundTooFar
    reason.TooFewWords)))))))))))))))))))))))))))))

by_case : (r : Reason) → (reason_of (number r) ≡ r) × (eqb (number r) 0 ≡ false)
unfolding reason_of number
by_case reason.BadModelKind = (refl, refl)
by_case reason.BadModelField = (refl, refl)
by_case reason.OverModelLimit = (refl, refl)
by_case reason.BadWeights = (refl, refl)
by_case reason.NoLocation = (refl, refl)
by_case reason.NoStart = (refl, refl)
by_case reason.BadTableKind = (refl, refl)
by_case reason.BadTableField = (refl, refl)
by_case reason.OverTableLimit = (refl, refl)
by_case reason.NoNode = (refl, refl)
by_case reason.BadTargetValue = (refl, refl)
by_case reason.NotBlocked = (refl, refl)
by_case reason.WrongLocation = (refl, refl)
by_case reason.NotInside = (refl, refl)
by_case reason.SumTooLarge = (refl, refl)
by_case reason.WrongStart = (refl, refl)
by_case reason.StartNotInside = (refl, refl)
by_case reason.BadClocks = (refl, refl)
by_case reason.BadBound = (refl, refl)
by_case reason.BadSecondBound = (refl, refl)
by_case reason.NotWords = (refl, refl)
by_case reason.TooLong = (refl, refl)
by_case reason.PartNotAbove = (refl, refl)
by_case reason.PartMismatch = (refl, refl)
by_case reason.PartNotInside = (refl, refl)
by_case reason.BoardOutOfRange = (refl, refl)
by_case reason.AllowanceSpent = (refl, refl)
by_case reason.SlotHeldByOther = (refl, refl)
by_case reason.TooManyNodes = (refl, refl)
by_case reason.BoundTooFar = (refl, refl)
by_case reason.TooFewWords = (refl, refl)

pub told : (r : Reason) → reason_of (number r) ≡ r
told r = (by_case r).0

-- 0 stands for an acceptance
pub not-zero : (r : Reason) → eqb (number r) 0 ≡ false
not-zero r = (by_case r).1

-- the result that says so
pub result_of : {A : Type 0} → Answer A → Result A Refusal
result_of (accepted a) = Ok a
result_of (refused n p) = Err (record { reason = reason_of n; place = p })

pub result_told : {A : Type 0} (r : Result A Refusal) → result_of (answer_of r) ≡ r
unfolding result_of answer_of
result_told (Ok a) = refl
result_told (Err r) = ap (λ x. Err (record { reason = x; place = r.place })) (told r.reason)

-- at most one result says so
pub answer-one : {A : Type 0} (a b : Result A Refusal) → answer_of a ≡ answer_of b → a ≡ b
answer-one a b e = tell answer_of result_of result_told a b e

-- a refusal handed on is that of the checks that gave it, whatever stands behind them
pub handed : {A B : Type 0} (cs ds : List Check) (P : A → Type 0) (Q : B → Type 0) (r : Refusal) → First cs P (answer_of {A = A} (Err r)) →
    First (cs ++ ds) Q (answer_of {A = B} (Err r))
unfolding answer_of
handed cs ds P Q r f = first-before cs ds P Q (number r.reason) r.place f
