-- Document 01, "The four calls and their refusals": what the program takes as words, and which of them are the table. Assumes nothing.
use Rattle.std.specs.Prelude.{ℕ, ◌+◌, ◌*◌, cond, List, [], ◌∷◌, eqb}
use Rattle.zone.specs.Words.{kind}

-- four bytes as a word, highest byte first
abbrev pub word : ℕ → ℕ → ℕ → ℕ → ℕ
word a b c d = ((a * 256 + b) * 256 + c) * 256 + d

-- the program takes words, highest byte first; fewer than four bytes at the end are no word
unfoldable pub words_of : List ℕ → List ℕ
words_of [] = []
words_of (a ∷ []) = []
words_of (a ∷ b ∷ []) = []
words_of (a ∷ b ∷ c ∷ []) = []
words_of (a ∷ b ∷ c ∷ d ∷ bytes) = word a b c d ∷ words_of bytes

-- the table is the part that begins with the first word of kind 7, or nothing
unfoldable pub table_part : List ℕ → List ℕ
table_part [] = []
table_part (w ∷ ws) = cond (eqb (kind w) 7) (w ∷ ws) (table_part ws)

-- the model is what stands before it
unfoldable pub model_part : List ℕ → List ℕ
model_part [] = []
model_part (w ∷ ws) = cond (eqb (kind w) 7) [] (w ∷ model_part ws)
