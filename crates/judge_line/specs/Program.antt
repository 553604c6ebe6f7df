-- Document 01, "The four calls and their refusals": the program, from the bytes that it reads to the line that it prints. Assumes nothing.
use Rattle.std.specs.Prelude.{ℕ, ◌%◌, ◌≡◌, List, ◌∷◌, eqb, leb, length}
use Rattle.answers.specs.Checks.{Answer, Check, test, First}
use Rattle.model.specs.Model.{model_of}
use Rattle.table.specs.Table.{table_of}
use Rattle.acceptance.specs.Judging.{judge_checks, certificate_of, BoundsSchedulers}
use Rattle.acceptance.specs.declared.certificate.Certificate.{Certificate}
use Rattle.judge_line.specs.Bytes.{words_of, table_part, model_part}
use Rattle.judge_line.specs.Text.{line_of}

-- the words of the model, and those of the table
abbrev pub model_in : List ℕ → List ℕ
model_in bytes = model_part (words_of bytes)

abbrev pub table_in : List ℕ → List ℕ
table_in bytes = table_part (words_of bytes)

-- before anything is read as words, 42: over 65,536 bytes; then 41: length not a multiple of 4; both with place 0
unfoldable pub program_checks : List ℕ → List Check
program_checks bytes =
    test 42 0 (leb (length bytes) 65536) ∷
    test 41 0 (eqb (length bytes % 4) 0) ∷
    judge_checks (model_in bytes) (table_in bytes)

-- the program's answer: the first check that does not hold or, where all hold, the acceptance, which bounds every scheduler
pub record ProgramAnswers (bytes : List ℕ) (answer : Answer Certificate) : Type 0 where
  pub says : First (program_checks bytes) (λ c. c ≡ certificate_of (table_of (model_of (model_in bytes)) (table_in bytes))) answer
  pub bounds : BoundsSchedulers (model_in bytes) answer

-- it prints the line of its answer
pub record Prints (bytes line : List ℕ) : Type 0 where
  pub answer : Answer Certificate
  pub answers : ProgramAnswers bytes answer
  pub prints : line ≡ line_of answer
