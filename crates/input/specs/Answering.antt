-- What a program says of its input, whatever it says: document 01, "The four calls and their refusals", reads it to its end. Assumes nothing.
use Rattle.std.specs.Prelude.{ℕ, ◌≡◌, Bool, true, false, List, Option, IfSome}
use Rattle.std.specs.Io.KnownBytes.{Keeps}

-- it is said of some bytes, which are the whole input where its bytes are known
pub record OfWhole (Says : List ℕ → Option (List ℕ) → Option (List ℕ) → Type 0) (input before after : Option (List ℕ)) : Type 0 where
  pub bytes : List ℕ
  pub whole : IfSome input (λ xs. xs ≡ bytes)
  pub says : Says bytes before after

-- the output before and after: what is said more or, where the input could not be read to its end, nothing
abbrev pub Answers : (List ℕ → Option (List ℕ) → Option (List ℕ) → Type 0) → Option (List ℕ) → Bool → Option (List ℕ) → Option (List ℕ) → Type 0
Answers Says input true before after = OfWhole Says input before after
Answers Says input false before after = Keeps before after
