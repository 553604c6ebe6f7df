-- What the call that drafts a table replies. Assumes nothing.
use Rattle.std.proofs.Common.{◌≡◌, ℕ, ◌<◌, ◌≤◌, true, false, List, ◌++◌, length, drop, refl, arith}
use Rattle.answers.specs.Checks.{Answer}
use Rattle.drafting.specs.Drafting.{Drafted, CertifiesWritten}
use Rattle.miss_chance.specs.Replies.{answer_words, length_words, RepliesDraft}

-- what the call that drafts a table replies
module _ (model : List ℕ) (rounds : ℕ) (lent before : List ℕ) where
  -- too few words: nothing is written
  pub draft_not_written : length before < 4 → RepliesDraft model rounds lent lent before before false
  draft_not_written h = record {
    replies = record { short = λ _. (refl, refl); long = λ k. absurd (omega arith) };
    untouched = λ _. refl;
  }

  -- enough words
  pub draft_written : {table after : List ℕ} (a : Answer ℕ) → 4 ≤ length before → Drafted model rounds lent a table →
      CertifiesWritten model a table → after ≡ answer_words length_words a ++ drop 4 before → RepliesDraft model rounds lent table before after true
  draft_written a h d k e = record {
    replies = record {
      short = λ l. absurd (omega arith);
      long = λ _. (refl, record { answer = a; says = record { drafted = d; certifies = k }; writes = e });
    };
    untouched = λ l. absurd (omega arith);
  }
