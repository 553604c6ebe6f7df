-- Laws of the words of the bytes: how many they are, and that they are those of the fours of bytes. Assumes nothing.
use Rattle.std.proofs.Common.{◌≡◌, ℕ, suc, ◌/◌, List, [], ◌∷◌, length, map, refl, ap, arith}
use Rattle.std.specs.Int.{w32, from_be_bytes}
use Rattle.std.specs.Simd.{first_chunks}
use Rattle.judge_line.specs.Bytes.{word, words_of}

-- the word of four bytes
four : (a b c d : ℕ) → from_be_bytes w32 (a ∷ b ∷ c ∷ d ∷ []) ≡ word a b c d
four a b c d = omega arith

-- the words are those of the fours
pub words_are : (bytes : List ℕ) → map (from_be_bytes w32) (first_chunks 4 (length bytes / 4) bytes) ≡ words_of bytes
unfolding words_of
words_are [] = refl
words_are (a ∷ []) = refl
words_are (a ∷ b ∷ []) = refl
words_are (a ∷ b ∷ c ∷ []) = refl
words_are (a ∷ b ∷ c ∷ d ∷ bytes) =
    let n : length (a ∷ b ∷ c ∷ d ∷ bytes) / 4 ≡ suc (length bytes / 4) = omega arith in
    rw (n, words_are bytes) (ap (λ w. w ∷ words_of bytes) (four a b c d))
