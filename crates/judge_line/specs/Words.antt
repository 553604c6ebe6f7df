-- Algorithm: bytes as words, at most so many. Assumes nothing.
use Rattle.std.specs.Prelude.{ℕ, ◌*◌, ◌%◌, ◌<◌, ◌≤◌, ◌≡◌, ◌⊎◌, List, length}
use Rattle.answers.specs.declared.Reason.TheVariants.{TooLong, NotWords}
use Rattle.answers.specs.declared.Refusal.{Refusal}
use Rattle.judge_line.specs.Bytes.{words_of}

-- the bytes are words, at most `most` of them
pub record FitWords (most : ℕ) (bytes : List ℕ) : Type 0 where
  pub few : length bytes ≤ 4 * most
  pub whole : length bytes % 4 ≡ 0

-- the bytes are words, at most `most` of them, and the list has them
pub record AreWords (most : ℕ) (bytes list : List ℕ) : Type 0 where
  pub few : length bytes ≤ 4 * most
  pub whole : length bytes % 4 ≡ 0
  pub same : list ≡ words_of bytes

-- 42: there are more; then 41: they are no words; both with place 0
abbrev pub NoWords : ℕ → List ℕ → Refusal → Type 0
NoWords most bytes refusal =
    (4 * most < length bytes × (refusal ≡ record { reason = TooLong; place = 0 })) ⊎
    (length bytes ≤ 4 * most × ((length bytes % 4 ≡ 0 → ⊥) × (refusal ≡ record { reason = NotWords; place = 0 })))
