-- Document 01, "The four calls and their refusals" and "Which form to use where", and document 02: the number of each refusal, and what a call's
-- result says in the documents' numbers and values. Assumes nothing.
use Rattle.std.specs.Prelude.{ℕ, Result, Ok, Err}
use Rattle.answers.specs.Checks.{Answer, refused, accepted}
use Rattle.answers.specs.declared.Reason.{Reason}
use Rattle.answers.specs.declared.Reason.TheVariants as reason
use Rattle.answers.specs.declared.Refusal.{Refusal}

unfoldable pub number : Reason → ℕ
-- reading a model
number reason.BadModelKind = 1
number reason.BadModelField = 2
number reason.OverModelLimit = 3
number reason.BadWeights = 4
number reason.NoLocation = 5
number reason.NoStart = 6
-- judging a table
number reason.BadTableKind = 11
number reason.BadTableField = 12
number reason.OverTableLimit = 13
number reason.NoNode = 14
number reason.BadTargetValue = 15
number reason.NotBlocked = 16
number reason.WrongLocation = 17
number reason.NotInside = 18
number reason.SumTooLarge = 19
number reason.WrongStart = 20
number reason.StartNotInside = 21
-- the two questions about zones
number reason.BadClocks = 31
number reason.BadBound = 32
number reason.BadSecondBound = 33
-- the program
number reason.NotWords = 41
number reason.TooLong = 42
-- document 02, card 1: a cut
number reason.PartNotAbove = 51
number reason.PartMismatch = 52
number reason.PartNotInside = 53
-- card 3: the board
number reason.BoardOutOfRange = 54
number reason.AllowanceSpent = 55
number reason.SlotHeldByOther = 56
-- card 5: a draft
number reason.TooManyNodes = 58
number reason.BoundTooFar = 59
number reason.TooFewWords = 60

-- a refusal is a number and a place with nothing else, and an acceptance is its value
unfoldable pub answer_of : {A : Type 0} → Result A Refusal → Answer A
answer_of (Ok a) = accepted a
answer_of (Err r) = refused (number r.reason) r.place

-- a refusal at a place, where a value was asked for
abbrev pub refuse : {A : Type 0} → Reason → ℕ → Result A Refusal
refuse r p = Err (record { reason = r; place = p })
