-- Document 02, card 5: a table drafted for a model into lent words, with the model's own refusals and 58 to 60. Assumes nothing.
use Rattle.std.specs.Prelude.{ℕ, min, ◌≡◌, List, [], ◌∷◌, ◌++◌, leb, length, take, drop, replicate}
use Rattle.answers.specs.Checks.{Answer, refused, accepted, test, First}
use Rattle.model.specs.Model.{Model, model_of}
use Rattle.model.specs.Reading.{ReadModel}
use Rattle.acceptance.specs.Schedulers.{BoundsEvery}
use Rattle.acceptance.specs.Judging.{Judged}
use Rattle.acceptance.specs.declared.certificate.Certificate.{Certificate}
use Rattle.drafting.specs.Exploring.{Found, FoundRow, Progress, on_from, exploring}
use Rattle.drafting.specs.Words.{whole, words_of}
use Rattle.drafting.specs.Rounds.{Rounds}

-- the words with the values after the rounds, of which every one begins at V; rounds above 1,000 count as 1,000. At the end 60: lent words too few
abbrev pub Ends : Model → ℕ → ℕ → Progress (List (List FoundRow)) → Answer (List ℕ) → Type 0
Ends M rounds room s answer =
    let Fs : List Found = s.found in
    (vs : List ℕ) × Rounds M Fs s.result (min rounds 1000) (replicate (length Fs) whole) vs ×
    First (test 60 0 (leb (length (words_of Fs vs s.result)) room) ∷ []) (λ words. words ≡ words_of Fs vs s.result) answer

-- the words of the draft for a model, where `room` words are lent; the model's own refusals come first
pub record Drafts (model : List ℕ) (rounds room : ℕ) (answer : Answer (List ℕ)) : Type 0 where
  pub says :
      on_from (ReadModel model) (λ counts. on_from (exploring (model_of model) []) (Ends (model_of model) rounds room)) answer

-- the answer is the length of the draft
unfoldable pub length_of : Answer (List ℕ) → Answer ℕ
length_of (refused number place) = refused number place
length_of (accepted words) = accepted (length words)

-- the lent words after the call: a failed draft leaves them untouched, and a good one those past its end
unfoldable pub lent_after : Answer (List ℕ) → List ℕ → List ℕ
lent_after (refused number place) lent = lent
lent_after (accepted words) lent = words ++ drop (length words) lent

-- ---- the call

-- the answer of a call, and the lent words after it
pub record Drafted (model : List ℕ) (rounds : ℕ) (lent : List ℕ) (answer : Answer ℕ) (after : List ℕ) : Type 0 where
  pub draft : Answer (List ℕ)
  pub drafts : Drafts model rounds (length lent) draft
  pub answers : answer ≡ length_of draft
  pub writes : after ≡ lent_after draft lent

-- every table written is accepted: the judge's answer for the words written is an acceptance, whose V is the draft's, and what it certifies bounds
-- every scheduler of the model
pub record CertifiedDraft (model words : List ℕ) : Type 0 where
  pub certificate : Certificate
  pub judged : Judged model words (accepted certificate)
  pub is_whole : certificate.whole ≡ whole
  pub bounds : BoundsEvery (model_of model) certificate.b certificate.whole

-- of an answer: the table written stands at the front of the lent words
abbrev pub CertifiesWritten : List ℕ → Answer ℕ → List ℕ → Type 0
CertifiesWritten model (refused number place) after = Unit {0}
CertifiesWritten model (accepted n) after = CertifiedDraft model (take n after)
