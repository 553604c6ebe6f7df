-- The program that drafts, from the bytes that it reads to the draft and its answer. Assumes nothing.
use Rattle.std.specs.Prelude.{ℕ, ◌<◌, ◌≤◌, ◌%◌, ◌≡◌, Bool, List, length, get_or, take, drop, Option}
use Rattle.std.specs.Io.KnownBytes.{Appends}
use Rattle.answers.specs.Checks.{Answer, refused, accepted}
use Rattle.judge_line.specs.Bytes.{words_of}
use Rattle.judge_line.specs.Text.{line_of}
use Rattle.drafting.specs.Drafting.{Drafted}
use Rattle.input.specs.Answering.{Answers as OfInput}
use Rattle.draft_cli.specs.Text.{lines_of}

-- what the program answers to the bytes that it reads, with the words lent for the table before and after. Before anything is read as words, 42: over
-- 65,536 bytes of a model; then 41: length not a multiple of 4; both leave the lent words as they are. Else the first word is the number of rounds, and
-- the model stands behind it
pub record DraftsInput (bytes lent : List ℕ) (answer : Answer ℕ) (after : List ℕ) : Type 0 where
  pub long : 65540 < length bytes → (answer ≡ refused 42 0) × (after ≡ lent)
  pub broken : length bytes ≤ 65540 → (length bytes % 4 ≡ 0 → ⊥) → (answer ≡ refused 41 0) × (after ≡ lent)
  pub words : length bytes ≤ 65540 → length bytes % 4 ≡ 0 → Drafted (drop 1 (words_of bytes)) (get_or (words_of bytes) 0 0) lent answer after

-- what is printed of an answer: the words of the draft, one to a line, or the line of the refusal
abbrev pub printed : Answer ℕ → List ℕ → List ℕ
printed (refused number place) table = line_of (refused number place)
printed (accepted n) table = lines_of (take n table)

-- the answer to some bytes was printed; as many words were lent for the table as the longest draft has
pub record Draft (bytes : List ℕ) (before after : Option (List ℕ)) : Type 0 where
  pub lent : List ℕ
  pub answer : Answer ℕ
  pub table : List ℕ
  pub many : length lent ≡ 9602
  pub drafts : DraftsInput bytes lent answer table
  pub writes : Appends before after (printed answer table)

-- the output before and after: the answer to the whole input more or, where the input could not be read to its end, nothing
abbrev pub Answers : Option (List ℕ) → Bool → Option (List ℕ) → Option (List ℕ) → Type 0
Answers = OfInput Draft
