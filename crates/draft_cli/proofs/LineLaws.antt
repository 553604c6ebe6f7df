-- The lines of words: each from the hex digits of its bytes, then one after the other. Assumes nothing.
use Rattle.std.proofs.Common.{◌≡◌, ℕ, zero, suc, ◌/◌, ◌%◌, ◌^◌, ◌<◌, Bool, true, nat_eq, ◌&&◌, List, [], ◌∷◌, ◌++◌, length, map, take, slice_index, refl, sym, ap, ◌∙◌, arith}
use lib.Seq.{take_all}
use Rattle.std.specs.Char.{to_ascii_uppercase}
use Rattle.std.specs.Int.{w32, to_be_bytes}
use Rattle.std.proofs.lemmas.Bool.Decides.{Decides-below_and, Decides-eqb}
use Rattle.std.specs.List.{flat_map}
use Rattle.hex.specs.Hex.{lower_digits, encode_lower, encode_with}
use Rattle.draft_cli.specs.Text.{hex_digit, word_line, lines_of}

-- the digits of the lower case, in capitals, are those of a line: each of the sixteen computes
abbrev capital : ℕ → ℕ
capital d = to_ascii_uppercase (slice_index lower_digits d)

capitals : ℕ → Bool
capitals zero = true
capitals (suc d) = nat_eq (capital d) (hex_digit d) && capitals d

digit : (d : ℕ) → d < 16 → capital d ≡ hex_digit d
unfolding capitals
digit =
    (Decides-below_and (λ d. nat_eq (capital d) (hex_digit d)) (λ d. capital d ≡ hex_digit d) capitals (λ d. Decides-eqb (capital d) (hex_digit d)) refl
    (λ d. refl) 16).0 refl

-- a digit of a byte of the word
at : (d e : ℕ) → d ≡ e → e < 16 → capital d ≡ hex_digit e
at d e same h = ap capital same ∙ digit e h

-- the digits of a word's bytes
pub word_digits : (w : ℕ) → w < 2 ^ 32 → map to_ascii_uppercase (encode_lower (to_be_bytes w32 w) ++ 10 ∷ []) ≡ word_line w
unfolding encode_with
word_digits w h =
    rw (
      at (w / 2 ^ 24 % 256 / 16) (w / 2 ^ 28) (omega arith) (omega arith),
      at (w / 2 ^ 24 % 256 % 16) (w / 2 ^ 24 % 16) (omega arith) (omega arith),
      at (w / 2 ^ 16 % 256 / 16) (w / 2 ^ 20 % 16) (omega arith) (omega arith),
      at (w / 2 ^ 16 % 256 % 16) (w / 2 ^ 16 % 16) (omega arith) (omega arith),
      at (w / 2 ^ 8 % 256 / 16) (w / 2 ^ 12 % 16) (omega arith) (omega arith),
      at (w / 2 ^ 8 % 256 % 16) (w / 2 ^ 8 % 16) (omega arith) (omega arith),
      at (w % 256 / 16) (w / 2 ^ 4 % 16) (omega arith) (omega arith),
      at (w % 256 % 16) (w % 16) (omega arith) (omega arith),
    ) refl

pub lines_joined : (words : List ℕ) → flat_map (λ l. l) (map word_line words) ≡ lines_of words
unfolding lines_of
lines_joined [] = refl
lines_joined (w ∷ ws) = ap (λ l. word_line w ++ l) (lines_joined ws)

-- the text, when the lines of the first k words have been made, and these are all of them
pub text_is : (words text : List ℕ) (lines : List (List ℕ)) (k : ℕ) → k ≡ length words → take k lines ≡ map word_line (take k words) →
    text ≡ flat_map (λ l. l) (take (length words) lines) → text ≡ lines_of words
text_is words text lines k all made joined =
    let each : take (length words) lines ≡ map word_line words =
    ap (λ n. take n lines) (sym all) ∙ made ∙ ap (map word_line) (take_all k words (omega (arith, all))) in
    joined ∙ ap (flat_map (λ l. l)) each ∙ lines_joined words
