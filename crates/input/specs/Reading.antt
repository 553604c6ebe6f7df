-- What reading an input into a buffer did to the input and to the buffer. Assumes nothing.
use Rattle.std.specs.Prelude.{ℕ, List, take, Option, Result, Ok, Err}
use Rattle.std.specs.Io.KnownBytes.{Consumes}
use Rattle.std.specs.Counts.{IsPrefixLen}
use Rattle.input.specs.declared.ReadFailed.{ReadFailed}

-- the first `count` bytes of the buffer are what was read
pub record Took (before after : Option (List ℕ)) (buffer : List ℕ) (count : ℕ) : Type 0 where
  pub counts : IsPrefixLen count buffer
  pub reads : Consumes before after (take count buffer)

-- how many bytes were read, also where a read failed
abbrev pub count_of : Result ℕ ReadFailed → ℕ
count_of (Ok count) = count
count_of (Err failed) = failed.count
