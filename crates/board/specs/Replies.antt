-- Document 02, card 3: how the answers of the board's two calls stand in structs, without an enum, so that they are the answers for C too. The number 0
-- stands for an acceptance; a refusal is its number and its place with nothing else, so zeros follow. Assumes nothing.
use Rattle.std.specs.Prelude.{ℕ, ◌-◌, ◌≡◌, List, ◌++◌, length, replicate}
use Rattle.answers.specs.Checks.{Answer, refused, accepted}
use Rattle.acceptance.specs.declared.certificate.Certificate.{Certificate}
use Rattle.acceptance.specs.Judging.{BoundsSchedulers}
use Rattle.slots.specs.declared.Slot.{Slot}
use Rattle.board.specs.declared.submissions.Request.{Request}
use Rattle.board.specs.declared.submissions.Reply.{Reply}
use Rattle.board.specs.declared.submissions.Submitted.{Submitted}
use Rattle.board.specs.declared.ranking.Ranking.{Ranking}
use Rattle.board.specs.Board.{Board, board}
use Rattle.board.specs.Submissions.{Submission, submitted, Does}
use Rattle.board.specs.Ranking.{Ranked}

-- what a request and its two files ask for
abbrev pub submission : Request → List ℕ → List ℕ → Submission
submission q model table = record { team = q.team; slot = q.slot; model = model; table = table }

-- b, V and the node count
unfoldable pub reply_of : Answer Certificate → Reply
reply_of (refused n p) = record { number = n; place = p; b = 0; whole = 0; nodes = 0 }
reply_of (accepted c) = record { number = 0; place = 0; b = c.b; whole = c.whole; nodes = c.nodes }

-- an answer that is an acceptance
abbrev pub Accepting : {A : Type 0} → Answer A → Type 0
Accepting (refused n p) = ⊥
Accepting (accepted a) = Unit {0}

-- how many slots are held, and their numbers in rank
unfoldable pub ranking_of : Answer (List ℕ) → Ranking
ranking_of (refused n p) = record { number = n; place = p; count = 0; order = replicate 16 0 }
ranking_of (accepted ns) = record { number = 0; place = 0; count = length ns; order = ns ++ replicate (16 - length ns) 0 }

-- the call that submits: its answer, of which the number 0 says that it is an acceptance, the board then, and demand 3 for what an acceptance certifies
pub record Submits (B : Board) (s : Submission) (r : Submitted) (slots : List Slot) : Type 0 where
  pub said : Answer Certificate
  pub replies : r.answer ≡ reply_of said
  pub accepts : r.answer.number ≡ 0 → Accepting said
  pub does : Does B (submitted s said) (board slots r.ledger)
  pub bounds : BoundsSchedulers s.model said

-- the call that ranks
pub record Ranks (slots : List Slot) (r : Ranking) : Type 0 where
  pub said : Answer (List ℕ)
  pub replies : r ≡ ranking_of said
  pub ranked : Ranked slots said
