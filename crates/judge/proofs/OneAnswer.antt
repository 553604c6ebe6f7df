-- At most one result meets the promise of the judging call. Assumes nothing.
use Rattle.std.proofs.Common.{◌≡◌, ℕ, List, Result}
use Rattle.answers.specs.Refusals.{answer_of}
use Rattle.answers.specs.declared.Refusal.{Refusal}
use Rattle.answers.proofs.RefusalLaws.{answer-one}
use Rattle.acceptance.specs.Judging.{Judged}
use Rattle.acceptance.specs.declared.certificate.Certificate.{Certificate}
use Rattle.acceptance.proofs.Exact.{judged-only}

pub judged-one : (model table : List ℕ) (a b : Result Certificate Refusal) → Judged model table (answer_of a) → Judged model table (answer_of b) →
    a ≡ b
judged-one model table a b p q = answer-one a b (judged-only model table (answer_of a) (answer_of b) p q)
