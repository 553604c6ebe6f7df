-- Document 01, "The four calls and their refusals": the program, from its input to its output. Assumes nothing.
use Rattle.std.specs.Prelude.{ℕ, Bool, List, Option}
use Rattle.std.specs.Io.KnownBytes.{Appends}
use Rattle.judge_line.specs.Program.{Prints}
use Rattle.input.specs.Answering.{Answers as OfInput}

-- one line was written, that of some bytes
pub record Line (bytes : List ℕ) (before after : Option (List ℕ)) : Type 0 where
  pub line : List ℕ
  pub prints : Prints bytes line
  pub writes : Appends before after line

-- the output before and after: a line more, that of the whole input, or, where the input could not be read to its end, nothing
abbrev pub Answers : Option (List ℕ) → Bool → Option (List ℕ) → Option (List ℕ) → Type 0
Answers = OfInput Line
