-- Document 02, card 3: a submission, its refusals 54 to 56 before the judge, what it writes and what it spends. Assumes nothing.
use Rattle.std.specs.Prelude.{ℕ, ◌≡◌, ◌⊎◌, Bool, not, cond, ◌&&◌, ◌||◌, List, [], ◌∷◌, eqb, ltb, leb, set}
use Rattle.answers.specs.Checks.{Answer, refused, accepted, Check, test}
use Rattle.acceptance.specs.declared.certificate.Certificate.{Certificate}
use Rattle.acceptance.specs.Judging.{Judged}
use Rattle.slots.specs.declared.Slot.{Slot}
use Rattle.slots.specs.Slots.{holding, slot_at}
use Rattle.board.specs.declared.submissions.Ledger.{Ledger}
use Rattle.board.specs.Board.{good_slots?, good_ledger?, spend, Board}

-- a submission names team, slot, model and table
pub record Submission : Type 0 where
  pub team : ℕ
  pub slot : ℕ
  pub model : List ℕ
  pub table : List ℕ

-- what is done at a board, with the answer that it gets
pub data Turn : Type 0 where
  submitted : Submission → Answer Certificate → Turn

-- ---- the answer

-- 54: the lent slice is not 16 slots, a held one has a team above 7 or a fraction that no table could give, or the allowance, team or slot is out of
-- range
abbrev pub in_range? : Board → Submission → Bool
in_range? B s = good_slots? B.slots && (good_ledger? B.ledger && (leb s.team 7 && ltb s.slot 16))

-- 55: allowance spent
abbrev pub unspent? : Board → Bool
unspent? B = ltb 0 B.ledger.allowance

-- a slot that a team may write: it is not held by another team
abbrev pub may_write? : ℕ → Slot → Bool
may_write? team x = not x.held || eqb x.team team

-- 56: slot held by another team
abbrev pub may_take? : Board → Submission → Bool
may_take? B s = may_write? s.team (slot_at B.slots s.slot)

-- place 0, before the judge
abbrev pub board_checks : Board → Submission → List Check
board_checks B s =
    test 54 0 (in_range? B s) ∷
    test 55 0 (unspent? B) ∷
    test 56 0 (may_take? B s) ∷ []

-- the refusal of the first check that does not hold or, where all hold, an answer that satisfies P
abbrev pub Then : {A : Type 0} → List Check → (Answer A → Type 0) → Answer A → Type 0
Then [] P answer = P answer
Then (c ∷ cs) P answer = (c.holds × Then cs P answer) ⊎ ((c.holds → ⊥) × (answer ≡ refused c.number c.place))

-- a submission that gets as far as the judge returns the judge's answer
abbrev pub Says : Board → Turn → Type 0
Says B (submitted s answer) = Then (board_checks B s) (Judged s.model s.table) answer

-- ---- the board then

-- a slot that is written, or none
pub data Put : Type 0 where
  leaves : Put
  puts : ℕ → Slot → Put

-- acceptance writes the slot, and a refusal writes none
unfoldable pub put_of : Turn → Put
put_of (submitted s (refused n p)) = leaves
put_of (submitted s (accepted c)) = puts s.slot (holding s.team c.b c.whole)

unfoldable pub written : List Slot → Put → List Slot
written ss leaves = ss
written ss (puts n x) = set ss n x

-- none of 54 to 56 is given
abbrev pub judged? : Board → Submission → Bool
judged? B s = in_range? B s && (unspent? B && may_take? B s)

-- each submission that gets as far as the judge spends one
unfoldable pub ledger_after : Board → Turn → Ledger
ledger_after B (submitted s answer) = cond (judged? B s) (spend B.ledger) B.ledger

-- a turn at a board, and the board after it
pub record Does (B : Board) (t : Turn) (after : Board) : Type 0 where
  pub says : Says B t
  pub slots : after.slots ≡ written B.slots (put_of t)
  pub ledger : after.ledger ≡ ledger_after B t
