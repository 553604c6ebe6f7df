-- The line that the program prints, test by test. Assumes nothing.
use Prim.Native.Nat.{ℕ, ◌%◌, ◌<◌, ◌≤◌}
use mathlib.Core.Path.{◌≡◌, refl, sym, ap, subst, ◌∙◌}
use mathlib.Core.Logic.{inl, inr}
use mathlib.Core.List.{List}
use native.Mathlib.Omega.{arith}
use borrow.Author.Tests.{eq-eqb}
use lib.Dec.{T, leb→le, le→leb, eqb→eq}
use lib.ListN.{length}
use Rattle.std.specs.Prelude.{Result, Ok, Err, IsErrAnd}
use Rattle.answers.specs.Checks.{Answer, refused}
use Rattle.answers.specs.Refusals.{number, answer_of}
use Rattle.answers.specs.declared.Refusal.{Refusal}
use Rattle.acceptance.specs.Judging.{Judged, BoundsSchedulers}
use Rattle.acceptance.specs.declared.certificate.Certificate.{Certificate}
use Rattle.judge_line.specs.Bytes.{words_of, table_part, model_part}
use Rattle.judge_line.specs.Words.{FitWords, NoWords}
use Rattle.judge_line.specs.Program.{model_in, table_in, program_checks, ProgramAnswers}

module _ (bytes : List ℕ) where
  -- too long
  pub answers-42 : 65536 < length bytes → ProgramAnswers bytes (refused 42 0)
  unfolding program_checks
  answers-42 h = record { says = inr ((λ t. let l : length bytes ≤ 65536 = leb→le _ _ t in omega arith), refl); bounds = tt }

  module _ (h : length bytes ≤ 65536) where
    -- no list of words
    pub answers-41 : (length bytes % 4 ≡ 0 → ⊥) → ProgramAnswers bytes (refused 41 0)
    unfolding program_checks
    answers-41 n = record { says = inl (le→leb _ _ h, inr ((λ t. n (eqb→eq _ _ t)), refl)); bounds = tt }

    -- the judge's answer is the program's
    pub program-answers : length bytes % 4 ≡ 0 → (answer : Answer Certificate) → Judged (model_in bytes) (table_in bytes) answer →
        BoundsSchedulers (model_in bytes) answer → ProgramAnswers bytes answer
    unfolding program_checks
    program-answers w answer j b = record { says = inl (le→leb _ _ h, inl (subst T (sym (eq-eqb _ _ w)) tt, j.says)); bounds = b }

-- no words are read, and the refusal is handed on
pub answers_refusal : (bytes : List ℕ) (result : Result Certificate Refusal) (r : Refusal) → NoWords 16384 bytes r → IsErrAnd result (λ e. e ≡ r) →
    ProgramAnswers bytes (answer_of result)
unfolding answer_of number
answers_refusal bytes (Ok certificate) r n h = absurd h
answers_refusal bytes (Err e) r (inl (l, w)) h = rw (h, w) (answers-42 bytes l)
answers_refusal bytes (Err e) r (inr (l, (n, w))) h = rw (h, w) (answers-41 bytes l n)

-- what is judged are the two parts of the words
pub answers_verdict : (bytes list model table : List ℕ) (answer : Answer Certificate) → FitWords 16384 bytes → list ≡ words_of bytes →
    model ≡ model_part list → table ≡ table_part list → Judged model table answer → BoundsSchedulers model answer → ProgramAnswers bytes answer
answers_verdict bytes list model table answer h w m t j b =
    let first : model ≡ model_in bytes = m ∙ ap model_part w in
    let second : table ≡ table_in bytes = t ∙ ap table_part w in
    program-answers bytes h.few h.whole answer
    (subst (λ (l : List ℕ). Judged (model_in bytes) l answer) second (subst (λ (l : List ℕ). Judged l table answer) first j))
    (subst (λ (l : List ℕ). BoundsSchedulers l answer) first b)
