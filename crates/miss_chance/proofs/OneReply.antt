-- At most one outcome meets the promise of each of document 01's four calls and of the draft of document 02, card 5: what it writes and what it returns
-- follow from what it was lent. Of the board's two calls `OneAnswer.antt` of `board` says it. The five theorems at the end are for a reader, and no proof goes
-- by them. Assumes nothing.
use Prim.Native.Nat.{ℕ, ◌<◌, ◌≤◌}
use mathlib.Core.Path.{◌≡◌, sym, ap, ◌∙◌}
use mathlib.Core.Bool.{Bool}
use mathlib.Core.Logic.{◌↔◌, ◌⊎◌, inl, inr}
use mathlib.Core.List.{List, ◌∷◌, ◌++◌}
use lib.Dec.{T}
use lib.ListN.{length, drop}
use Rattle.zone.specs.Scale.{within, Empty, Inside}
use Rattle.zone.specs.Words.{zone_of}
use Rattle.answers.specs.Checks.{Answer}
use Rattle.zone.specs.Questions.{clock_check, bound_checks, AskedEmpty, AskedInside}
use Rattle.zone.proofs.Integers.{lt-or-ge}
use Rattle.answers.proofs.CheckLaws.{first_one, one_bool}
use Rattle.model.specs.Reading.{model_checks, counts_of, ReadModel}
use Rattle.acceptance.proofs.Exact.{judged-only}
use Rattle.drafting.proofs.OneDraft.{drafted-one}
use Rattle.miss_chance.specs.Replies.{
  answer_words,
  certificate_words,
  counts_words,
  yes_words,
  length_words,
  Replies,
  Verdicts,
  Drafting,
  RepliesDraft,
}

-- the same words after the call, and the same value returned
abbrev Same : List ℕ → Bool → List ℕ → Bool → Type 0
Same after written after' written' = (after ≡ after') × (written ≡ written')

-- for any call of which one answer holds at most. What is said of an answer may differ between the two outcomes: that of a draft also says what is written
-- to the table
module _ {A : Type 0} (Says Says' : Answer A → Type 0) (values : A → List ℕ) (one : (a b : Answer A) → Says a → Says' b → a ≡ b) where
  module _ (before x y : List ℕ) (v w : Bool) (p : Replies Says values before x v) (q : Replies Says' values before y w) where
    short : length before < 4 → Same x v y w
    short h = ((p.short h).1 ∙ sym (q.short h).1, (p.short h).0 ∙ sym (q.short h).0)

    long : 4 ≤ length before → Same x v y w
    long h =
        let a = (p.long h).1 in
        let b = (q.long h).1 in
        let e = one a.answer b.answer a.says b.says in
        (a.writes ∙ ap (λ c. answer_words values c ++ drop 4 before) e ∙ sym b.writes, (p.long h).0 ∙ sym (q.long h).0)

    pub outcomes_one : Same x v y w
    outcomes_one = by (lt-or-ge (length before) 4)
      where
        by : (length before < 4) ⊎ (4 ≤ length before) → Same x v y w
        by (inl h) = short h
        by (inr h) = long h

-- the same is said of both
pub replies-one : {A : Type 0} (Says : Answer A → Type 0) (values : A → List ℕ) → ((a b : Answer A) → Says a → Says b → a ≡ b) →
    (before x y : List ℕ) (v w : Bool) → Replies Says values before x v → Replies Says values before y w → Same x v y w
replies-one Says values one = outcomes_one Says Says values one

pub judge_one : (model table before x y : List ℕ) (v w : Bool) → Replies (Verdicts model table) certificate_words before x v →
    Replies (Verdicts model table) certificate_words before y w → Same x v y w
judge_one model table = replies-one (Verdicts model table) certificate_words (λ a b p q. judged-only model table a b p.judged q.judged)

pub read-model-one : (words before x y : List ℕ) (v w : Bool) → Replies (ReadModel words) counts_words before x v →
    Replies (ReadModel words) counts_words before y w → Same x v y w
read-model-one words =
    replies-one (ReadModel words) counts_words
    (λ a b p q. first_one (model_checks words) (λ counts. counts ≡ counts_of words) (λ c d e f. e ∙ sym f) a b p.says q.says)

pub zone-empty-one : (C : ℕ) (words before x y : List ℕ) (v w : Bool) → Replies (AskedEmpty C words) yes_words before x v →
    Replies (AskedEmpty C words) yes_words before y w → Same x v y w
zone-empty-one C words =
    replies-one (AskedEmpty C words) yes_words
    (λ a b p q. first_one (clock_check C ∷ bound_checks 32 C 0 words) (λ yes?. T yes? ↔ Empty (within (zone_of words)))
    (one_bool (Empty (within (zone_of words)))) a b p.says q.says)

pub zone-inside-one : (C : ℕ) (first second before x y : List ℕ) (v w : Bool) → Replies (AskedInside C first second) yes_words before x v →
    Replies (AskedInside C first second) yes_words before y w → Same x v y w
zone-inside-one C first second =
    replies-one (AskedInside C first second) yes_words
    (λ a b p q. first_one (clock_check C ∷ (bound_checks 32 C 0 first ++ bound_checks 33 C 0 second))
    (λ yes?. T yes? ↔ Inside (within (zone_of first)) (within (zone_of second)))
    (one_bool (Inside (within (zone_of first)) (within (zone_of second)))) a b p.says q.says)

-- the words lent for the table too
pub draft-one : (model : List ℕ) (rounds : ℕ) (lent t u before x y : List ℕ) (v w : Bool) → RepliesDraft model rounds lent t before x v →
    RepliesDraft model rounds lent u before y w → (t ≡ u) × Same x v y w
draft-one model rounds lent t u before x y v w p q = (
  tables (lt-or-ge (length before) 4),
  outcomes_one (Drafting model rounds lent t) (Drafting model rounds lent u) length_words (λ a b f g. (drafts a b f g).0) before x y v w p.replies
      q.replies,
)
  where
    drafts : (a b : Answer ℕ) → Drafting model rounds lent t a → Drafting model rounds lent u b → (a ≡ b) × (t ≡ u)
    drafts a b f g = drafted-one model rounds lent a b t u f.drafted g.drafted

    tables : (length before < 4) ⊎ (4 ≤ length before) → t ≡ u
    tables (inl h) = p.untouched h ∙ sym (q.untouched h)
    tables (inr h) = let a = (p.replies.long h).1 in let b = (q.replies.long h).1 in (drafts a.answer b.answer a.says b.says).1
