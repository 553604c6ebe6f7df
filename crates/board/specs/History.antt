-- Document 02, card 3: for every list of submissions from a fresh board, a slot shows its last accepted one, or is vacant without one. Assumes nothing.
use Rattle.std.specs.Prelude.{ℕ, ◌<◌, ◌≡◌, false, cond, List, [], ◌∷◌, T, eqb, length}
use Rattle.std.proofs.Math.Option.{Option, none, some}
use Rattle.answers.specs.Checks.{refused, accepted}
use Rattle.model.specs.Model.{model_of}
use Rattle.acceptance.specs.declared.certificate.Certificate.{Certificate}
use Rattle.acceptance.specs.Schedulers.{BoundsEvery}
use Rattle.slots.specs.declared.Slot.{Slot}
use Rattle.slots.specs.Slots.{holding, slot_at}
use Rattle.board.specs.Board.{Board}
use Rattle.board.specs.Submissions.{Submission, Turn, submitted, Does}

-- every slot is vacant, and the allowance is 100
pub record Fresh (B : Board) : Type 0 where
  pub sixteen : length B.slots ≡ 16
  pub vacant : (n : ℕ) → n < 16 → (slot_at B.slots n).held ≡ false
  pub allowance : B.ledger.allowance ≡ 100

-- a board, what is done at it in order, and the board then
pub data History : Board → List Turn → Board → Type 0 where
  start : {B : Board} → History B [] B
  then : {B after last : Board} {t : Turn} {ts : List Turn} → Does B t after → History after ts last → History B (t ∷ ts) last

-- an accepted submission, and what it certified
pub record Grant : Type 0 where
  pub made : Submission
  pub certificate : Certificate

-- the last accepted submission for slot n after a turn, where it was `before`
unfoldable pub last_after : ℕ → Option Grant → Turn → Option Grant
last_after n before (submitted s (refused m p)) = before
last_after n before (submitted s (accepted c)) = cond (eqb s.slot n) (some (record { made = s; certificate = c })) before

-- and after a list of them
unfoldable pub last_of : ℕ → Option Grant → List Turn → Option Grant
last_of n before [] = before
last_of n before (t ∷ ts) = last_of n (last_after n before t) ts

-- a slot shows it, or is vacant without one
abbrev pub Shows : Option Grant → Slot → Type 0
Shows none x = x.held ≡ false
Shows (some g) x = x ≡ holding g.made.team g.certificate.b g.certificate.whole

pub record ShowsLast (ts : List Turn) (B : Board) : Type 0 where
  pub shows : (n : ℕ) → n < 16 → Shows (last_of n none ts) (slot_at B.slots n)

-- the fraction in slot x, numbered n, bounds every scheduler of the model of the last accepted submission for it
pub record Bounded (ts : List Turn) (n : ℕ) (x : Slot) : Type 0 where
  pub grant : Grant
  pub last : last_of n none ts ≡ some grant
  pub bounds : BoundsEvery (model_of grant.made.model) x.b x.whole

-- this holds of every held slot
pub record BoundsHeld (ts : List Turn) (B : Board) : Type 0 where
  pub held : (n : ℕ) → n < 16 → T (slot_at B.slots n).held → Bounded ts n (slot_at B.slots n)
