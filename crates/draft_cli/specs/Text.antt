-- The text of a table: the words one below the other, each as eight hex digits in capitals, as ASCII codes. Assumes nothing.
use Rattle.std.specs.Prelude.{ℕ, ◌+◌, ◌/◌, ◌%◌, ◌^◌, cond, List, [], ◌∷◌, ◌++◌, ltb}

-- a digit below 16: `0` to `9`, then `A` to `F`
abbrev pub hex_digit : ℕ → ℕ
hex_digit d = cond (ltb d 10) (48 + d) (55 + d)

-- a word of 32 bits, and a line feed
abbrev pub word_line : ℕ → List ℕ
word_line w =
    hex_digit (w / 2 ^ 28) ∷
    hex_digit (w / 2 ^ 24 % 16) ∷
    hex_digit (w / 2 ^ 20 % 16) ∷
    hex_digit (w / 2 ^ 16 % 16) ∷
    hex_digit (w / 2 ^ 12 % 16) ∷
    hex_digit (w / 2 ^ 8 % 16) ∷
    hex_digit (w / 2 ^ 4 % 16) ∷
    hex_digit (w % 16) ∷
    10 ∷
    []

unfoldable pub lines_of : List ℕ → List ℕ
lines_of [] = []
lines_of (w ∷ ws) = word_line w ++ lines_of ws
