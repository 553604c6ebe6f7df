-- Cases of the definitions of the program, computed: words, parts and lines, and the line of document 01's timeline and table. They are for a reader, and no
-- proof goes by them. Assumes nothing.
use Prim.Native.Nat.{ℕ}
use mathlib.Core.Path.{◌≡◌, refl}
use mathlib.Core.List.{List, [], ◌∷◌}
use lib.Dec.{lit≤}
use Rattle.answers.specs.Checks.{refused, accepted}
use Rattle.judge.proofs.Cases.{cases}
use Rattle.acceptance.proofs.Exact.{promised}
use Rattle.judge_line.specs.Bytes.{words_of, table_part, model_part}
use Rattle.judge_line.specs.Text.{digits_within, line_of}
use Rattle.judge_line.specs.Program.{Prints}
use Rattle.judge_line.proofs.Printing.{program-answers}

-- highest byte first; a byte at the end is no word
pub words_case : words_of (0x12 ∷ 0x34 ∷ 0x56 ∷ 0x78 ∷ 0x9A ∷ 0xBC ∷ 0xDE ∷ 0xF0 ∷ 0x11 ∷ []) ≡ 0x12345678 ∷ 0x9ABCDEF0 ∷ []
unfolding words_of
words_case = refl

-- the table begins with the first word of kind 7, and there may be none
pub part-cases :
    (table_part (0x1110000A ∷ 0x7000000A ∷ 0x80000000 ∷ 0x70000001 ∷ []) ≡ 0x7000000A ∷ 0x80000000 ∷ 0x70000001 ∷ []) ×
    (model_part (0x1110000A ∷ 0x7000000A ∷ 0x80000000 ∷ 0x70000001 ∷ []) ≡ 0x1110000A ∷ []) ×
    (table_part (0x1110000A ∷ 0x80000000 ∷ []) ≡ []) ×
    (model_part (0x1110000A ∷ 0x80000000 ∷ []) ≡ 0x1110000A ∷ 0x80000000 ∷ [])
unfolding table_part model_part
part-cases = (refl, refl, refl, refl)

-- `ACCEPTED 1 10 3` and `REFUSED 42 0`, each with a line feed
abbrev accepted_line : List ℕ
accepted_line = 65 ∷ 67 ∷ 67 ∷ 69 ∷ 80 ∷ 84 ∷ 69 ∷ 68 ∷ 32 ∷ 49 ∷ 32 ∷ 49 ∷ 48 ∷ 32 ∷ 51 ∷ 10 ∷ []

pub line-cases :
    (line_of (accepted (record { b = 1; whole = 10; nodes = 3 })) ≡ accepted_line) ×
    (line_of (refused 42 0) ≡ 82 ∷ 69 ∷ 70 ∷ 85 ∷ 83 ∷ 69 ∷ 68 ∷ 32 ∷ 52 ∷ 50 ∷ 32 ∷ 48 ∷ 10 ∷ [])
unfolding digits_within line_of
line-cases = (refl, refl)

-- the bytes of M and T
abbrev file : List ℕ
file =
    0x11 ∷ 0x10 ∷ 0x00 ∷ 0x0A ∷ 0x20 ∷ 0x00 ∷ 0x00 ∷ 0x00 ∷ 0x51 ∷ 0x00 ∷ 0x10 ∷ 0x03 ∷ 0x30 ∷ 0x00 ∷ 0x00 ∷ 0x00 ∷ 0x50 ∷ 0x10 ∷ 0x0F ∷ 0xFE ∷
    0x40 ∷ 0x01 ∷ 0x00 ∷ 0x09 ∷ 0x40 ∷ 0x02 ∷ 0x00 ∷ 0x01 ∷ 0x20 ∷ 0x00 ∷ 0x00 ∷ 0x00 ∷ 0x20 ∷ 0x00 ∷ 0x00 ∷ 0x01 ∷ 0x60 ∷ 0x00 ∷ 0x00 ∷ 0x00 ∷
    0x51 ∷ 0x00 ∷ 0x10 ∷ 0x00 ∷ 0x70 ∷ 0x00 ∷ 0x00 ∷ 0x0A ∷ 0x80 ∷ 0x00 ∷ 0x00 ∷ 0x00 ∷ 0x51 ∷ 0x00 ∷ 0x10 ∷ 0x00 ∷ 0x90 ∷ 0x00 ∷ 0x00 ∷ 0x01 ∷
    0xB0 ∷ 0x00 ∷ 0x00 ∷ 0x01 ∷ 0xB0 ∷ 0x00 ∷ 0x00 ∷ 0x02 ∷ 0x81 ∷ 0x00 ∷ 0x00 ∷ 0x00 ∷ 0x90 ∷ 0x00 ∷ 0x00 ∷ 0x00 ∷ 0x82 ∷ 0x00 ∷ 0x00 ∷ 0x00 ∷
    0x90 ∷ 0x00 ∷ 0x00 ∷ 0x0A ∷ 0xC0 ∷ 0x00 ∷ 0x00 ∷ 0x00 ∷ []

pub document_case : Prints file accepted_line
unfolding words_of table_part model_part digits_within line_of
document_case = record {
  answer = accepted (record { b = 1; whole = 10; nodes = 3 });
  answers = program-answers file (lit≤ tt) refl _ cases.0 (promised _ _ _ cases.0);
  prints = refl;
}
