-- Document 01, "The four calls and their refusals", and document 02, card 5, for C and Rust: how an answer stands in four words of a slice that the
-- caller lends. Assumes nothing.
use Rattle.std.specs.Prelude.{ℕ, ◌<◌, ◌≤◌, ◌≡◌, Bool, true, false, List, [], ◌∷◌, ◌++◌, length, drop}
use Rattle.answers.specs.Checks.{Answer, refused, accepted}
use Rattle.model.specs.declared.read.Counts.{Counts}
use Rattle.acceptance.specs.Judging.{Judged, Exactly, BoundsSchedulers}
use Rattle.acceptance.specs.declared.certificate.Certificate.{Certificate}
use Rattle.drafting.specs.Drafting.{Drafted, CertifiesWritten}

-- a refusal is its number and its place with nothing else, so zeros follow; an acceptance is 0, which is no refusal's number, and its values
abbrev pub answer_words : {A : Type 0} → (A → List ℕ) → Answer A → List ℕ
answer_words values (refused n p) = n ∷ p ∷ 0 ∷ 0 ∷ []
answer_words values (accepted a) = 0 ∷ values a

-- b, V and the node count
abbrev pub certificate_words : Certificate → List ℕ
certificate_words c = c.b ∷ c.whole ∷ c.nodes ∷ []

-- the counts of locations, actions and edges
abbrev pub counts_words : Counts → List ℕ
counts_words c = c.locations ∷ c.actions ∷ c.edges ∷ []

-- 1 for yes, 0 for no
abbrev pub yes_words : Bool → List ℕ
yes_words true = 1 ∷ 0 ∷ 0 ∷ []
yes_words false = 0 ∷ 0 ∷ 0 ∷ []

-- the length of a draft
abbrev pub length_words : ℕ → List ℕ
length_words n = n ∷ 0 ∷ 0 ∷ []

-- four words or more: the first four become those of an answer of which `Says` holds, and the others stay
pub record Answered {A : Type 0} (Says : Answer A → Type 0) (values : A → List ℕ) (before after : List ℕ) : Type 0 where
  pub answer : Answer A
  pub says : Says answer
  pub writes : after ≡ answer_words values answer ++ drop 4 before

-- a call, with the words lent to it before and after, and what it returns: fewer than four words stay as they are
pub record Replies {A : Type 0} (Says : Answer A → Type 0) (values : A → List ℕ) (before after : List ℕ) (written : Bool) : Type 0 where
  pub short : length before < 4 → (written ≡ false) × (after ≡ before)
  pub long : 4 ≤ length before → (written ≡ true) × Answered Says values before after

-- what is said of a verdict: demands 2 and 3
pub record Verdicts (model table : List ℕ) (answer : Answer Certificate) : Type 0 where
  pub judged : Judged model table answer
  pub exactly : Exactly model table answer
  pub bounds : BoundsSchedulers model answer

-- what is said of a draft, with the words lent for the table before and after: card 5
pub record Drafting (model : List ℕ) (rounds : ℕ) (lent table : List ℕ) (answer : Answer ℕ) : Type 0 where
  pub drafted : Drafted model rounds lent answer table
  pub certifies : CertifiesWritten model answer table

-- the call that drafts a table: where fewer than four words are lent for the answer, those lent for the table stay as they are too
pub record RepliesDraft (model : List ℕ) (rounds : ℕ) (lent table before after : List ℕ) (written : Bool) : Type 0 where
  pub replies : Replies (Drafting model rounds lent table) length_words before after written
  pub untouched : length before < 4 → table ≡ lent
