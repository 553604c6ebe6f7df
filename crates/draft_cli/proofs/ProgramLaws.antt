-- What the input asks for: a refusal of its bytes is handed on, and a draft stands in the words lent for it. Assumes nothing.
use Rattle.std.proofs.Common.{◌≡◌, ℕ, ◌≤◌, List, length, drop, Result, Err, Ok, IfOk, OnOk, IsErrAnd, Option, subst, inl, inr, refl, arith, length-append}
use Rattle.std.specs.Io.KnownBytes.{Appends}
use Rattle.answers.specs.Checks.{Answer, refused, accepted}
use Rattle.answers.specs.Refusals.{number, answer_of}
use Rattle.answers.specs.declared.Refusal.{Refusal}
use Rattle.judge_line.specs.Words.{NoWords}
use Rattle.drafting.specs.Drafting.{Drafted, length_of, lent_after}
use Rattle.draft_cli.specs.Program.{DraftsInput, printed, Draft}

pub refused-input : (bytes lent : List ℕ) (result : Result ℕ Refusal) (r : Refusal) → NoWords 16385 bytes r → IsErrAnd result (λ e. e ≡ r) →
    DraftsInput bytes lent (answer_of result) lent
unfolding number answer_of
refused-input bytes lent (Ok n) r none h = absurd h
refused-input bytes lent (Err e) r (inl (long, is)) h =
    record { long = λ _. (rw (h, is) refl, refl); broken = λ k. absurd (omega arith); words = λ k. absurd (omega arith) }
refused-input bytes lent (Err e) r (inr (few, (broken, is))) h =
    record { long = λ k. absurd (omega arith); broken = λ _ _. (rw (h, is) refl, refl); words = λ _ w. absurd (broken w) }

module _ (lent after : List ℕ) where
  fits : (n : ℕ) (draft : Answer (List ℕ)) → ◌≡◌ {A = Answer ℕ} (accepted n) (length_of draft) → after ≡ lent_after draft lent → n ≤ length after
  unfolding length_of lent_after
  fits n (refused number place) e w = absurd (cc)
  fits n (accepted words) e w =
      let same : n ≡ length words = cc in
      rw (w, same, length-append words (drop (length words) lent)) (omega arith)

  pub drafted-fits : (model : List ℕ) (rounds : ℕ) (result : Result ℕ Refusal) → Drafted model rounds lent (answer_of result) after →
      IfOk result (λ n. n ≤ length after)
  unfolding answer_of
  drafted-fits model rounds (Ok n) d = fits n d.draft d.answers d.writes
  drafted-fits model rounds (Err r) d = tt

-- what was written is printed of the answer
pub says : {E : Type 0} (bytes lent table text : List ℕ) (result : Result ℕ Refusal) (before after : Option (List ℕ)) (written : Result (Unit {0}) E) →
    length lent ≡ 9602 → DraftsInput bytes lent (answer_of result) table → text ≡ printed (answer_of result) table →
    OnOk written (Appends before after text) → OnOk written (Draft bytes before after)
says bytes lent table text result before after (Ok done) m d e w =
    record { lent = lent; answer = answer_of result; table = table; many = m; drafts = d; writes = subst (Appends before after) e w }
says bytes lent table text result before after (Err f) m d e w = tt
