-- At most one line meets the promise of the program, and all inputs that are too long have the same. Assumes nothing.
use Prim.Native.Nat.{ℕ, ◌<◌}
use mathlib.Core.Path.{◌≡◌, refl, sym, ap, ◌∙◌}
use mathlib.Core.List.{List}
use lib.ListN.{length}
use Rattle.answers.specs.Checks.{Answer, refused}
use Rattle.answers.proofs.CheckLaws.{first_one}
use Rattle.acceptance.specs.declared.certificate.Certificate.{Certificate}
use Rattle.judge_line.specs.Text.{line_of}
use Rattle.judge_line.proofs.Printing.{answers-42}
use Rattle.judge_line.specs.Program.{program_checks, ProgramAnswers, Prints}

one_answer : (bytes : List ℕ) (a b : Answer Certificate) → ProgramAnswers bytes a → ProgramAnswers bytes b → a ≡ b
one_answer bytes a b p q = first_one (program_checks bytes) _ (λ c d e f. e ∙ sym f) a b p.says q.says

pub one_line : (bytes l m : List ℕ) → Prints bytes l → Prints bytes m → l ≡ m
one_line bytes l m p q = p.prints ∙ ap line_of (one_answer bytes p.answer q.answer p.answers q.answers) ∙ sym q.prints

-- inputs that are too long have one line
too_long : (bytes : List ℕ) → 65536 < length bytes → Prints bytes (line_of (refused 42 0))
too_long bytes h = record { answer = refused 42 0; answers = answers-42 bytes h; prints = refl }

pub line_of_longer : (xs ys line : List ℕ) → 65536 < length xs → 65536 < length ys → Prints xs line → Prints ys line
line_of_longer xs ys line l m p = rw (one_line xs line _ p (too_long xs l)) (too_long ys m)
