-- At most one answer meets the promise of reading a model. Assumes nothing.
use Rattle.std.proofs.Common.{ℕ, ◌≡◌, sym, ◌∙◌, List, Result}
use Rattle.answers.specs.Refusals.{answer_of}
use Rattle.answers.specs.declared.Refusal.{Refusal}
use Rattle.answers.proofs.CheckLaws.{first_one}
use Rattle.answers.proofs.RefusalLaws.{answer-one}
use Rattle.model.specs.Reading.{model_checks, counts_of, ReadModel}
use Rattle.model.specs.declared.read.Counts.{Counts}

pub read_one : (words : List ℕ) (a b : Result Counts Refusal) → ReadModel words (answer_of a) → ReadModel words (answer_of b) → a ≡ b
read_one words a b p q =
    answer-one a b
    (first_one (model_checks words) (λ counts. counts ≡ counts_of words) (λ x y e f. e ∙ sym f) (answer_of a) (answer_of b) p.says q.says)
