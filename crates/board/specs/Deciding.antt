-- Algorithm: what a submission comes to, decided by value. Assumes nothing.
use Rattle.std.specs.Prelude.{ℕ, ◌≡◌, Bool, false, ◌&&◌, List, [], ◌∷◌, ltb, leb, Option, None, Some, Result, Ok, Err}
use Rattle.answers.specs.Checks.{Answer, Check, test}
use Rattle.acceptance.specs.declared.certificate.Certificate.{Certificate}
use Rattle.acceptance.specs.Judging.{BoundsSchedulers}
use Rattle.slots.specs.declared.Slot.{Slot}
use Rattle.slots.specs.Slots.{slot_at}
use Rattle.slots.specs.Loading.{Loads}
use Rattle.board.specs.declared.submissions.Ledger.{Ledger}
use Rattle.board.specs.declared.submissions.Request.{Request}
use Rattle.board.specs.declared.submissions.Placed.{Placed}
use Rattle.board.specs.declared.submissions.Decision.{Decision}
use Rattle.board.specs.Board.{all_good?, good_ledger?, board}
use Rattle.board.specs.Submissions.{Submission, submitted, Says, Put, leaves, puts, put_of, may_write?, ledger_after}
use Rattle.board.specs.Replies.{submission, reply_of, Accepting}

-- the slots that were read, where there are any
abbrev pub read_slots : Result (List Slot) ℕ → List Slot
read_slots (Err n) = []
read_slots (Ok ss) = ss

-- they are in range
abbrev pub good_lent? : Result (List Slot) ℕ → Bool
good_lent? (Err n) = false
good_lent? (Ok ss) = all_good? ss

-- the test of 54
abbrev pub lent_in_range? : Result (List Slot) ℕ → Ledger → Request → Bool
lent_in_range? lent l q = good_lent? lent && (good_ledger? l && (leb q.team 7 && ltb q.slot 16))

-- 54 to 56
abbrev pub lent_checks : Result (List Slot) ℕ → Ledger → Request → List Check
lent_checks lent l q =
    test 54 0 (lent_in_range? lent l q) ∷
    test 55 0 (ltb 0 l.allowance) ∷
    test 56 0 (may_write? q.team (slot_at (read_slots lent) q.slot)) ∷ []

-- the slot to write and its place, or none
abbrev pub Writes : Put → Option Placed → Type 0
Writes leaves w = w ≡ None
Writes (puts n x) w = w ≡ Some (record { at = n; slot = x })

-- what an acceptance writes
unfoldable pub put_for : Request → Answer Certificate → Put
put_for q answer = put_of (submitted (submission q [] []) answer)

-- what an answer comes to, with what is then left
pub record ComesTo (q : Request) (answer : Answer Certificate) (l : Ledger) (r : Decision) : Type 0 where
  pub reply : r.submitted.answer ≡ reply_of answer
  pub ledger : r.submitted.ledger ≡ l
  pub writes : Writes (put_for q answer) r.write

-- what a submission comes to at every board whose slots were read
pub record Decides (lent : Result (List Slot) ℕ) (l : Ledger) (s : Submission) (r : Decision) : Type 0 where
  pub said : Answer Certificate
  pub replies : r.submitted.answer ≡ reply_of said
  pub accepts : r.submitted.answer.number ≡ 0 → Accepting said
  pub writes : Writes (put_of (submitted s said)) r.write
  pub bounds : BoundsSchedulers s.model said
  pub says : (ss : List Slot) → Loads ss lent → Says (board ss l) (submitted s said)
  pub ledger : (ss : List Slot) → Loads ss lent → r.submitted.ledger ≡ ledger_after (board ss l) (submitted s said)
