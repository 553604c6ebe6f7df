-- A pass that nothing stops, and what it comes to. Assumes nothing.
use Rattle.std.proofs.Common.{ℕ, suc, ◌≡◌, refl, ap, sym, ◌∙◌, List, [], ◌∷◌, Result, Ok, Err}
use Rattle.answers.specs.Refusals.{refuse}
use Rattle.answers.specs.declared.Reason.{Reason}
use Rattle.answers.specs.declared.Refusal.{Refusal}
use Rattle.pass.specs.Steps.{Steps, Passed, passed_at, unless_refused, pass_end, pass_from}

-- ---- one check
module _ {S K : Type 0} where
  -- what holds of both outcomes
  pub unless : (P : Passed S K → Type 0) (c : Result (Unit {0}) Reason) (p : ℕ) (k : K) (go : Passed S K) →
      ((r : Reason) → P (passed_at (refuse r p) k)) → (c ≡ Ok tt → P go) → P (unless_refused c p k go)
  unfolding unless_refused
  unless P (Ok u) p k go s g = g refl
  unless P (Err r) p k go s g = s r

  -- a check behind which the words are read to the end passes
  pub went : (c : Result (Unit {0}) Reason) (p : ℕ) (k : K) (go : Passed S K) (e : S) → (unless_refused c p k go).outcome ≡ Ok e →
      (c ≡ Ok tt) × (go.outcome ≡ Ok e)
  unfolding unless_refused
  went (Ok u) p k go e h = (refl, h)
  went (Err r) p k go e h = absurd cc

  pub goes : (c : Result (Unit {0}) Reason) (p : ℕ) (k : K) (go : Passed S K) → c ≡ Ok tt → unless_refused c p k go ≡ go
  unfolding unless_refused
  goes c p k go e = rw e

-- ---- all of them
module _ {S K : Type 0} (t : Steps S K) where
  -- no word fails a check, and none is missing at the end
  abbrev pub Run : S → ℕ → List ℕ → Type 0
  Run s p [] = t.checked_end s ≡ Ok tt
  Run s p (w ∷ ws) = (t.checked s w ≡ Ok tt) × Run (t.with_word s w p) (suc p) ws

  -- what the words come to at the end
  unfoldable pub seen_end : S → ℕ → List ℕ → S
  seen_end s p [] = s
  seen_end s p (w ∷ ws) = seen_end (t.with_word s w p) (suc p) ws

  -- what is kept of them
  unfoldable pub kept_end : S → K → ℕ → List ℕ → K
  kept_end s k p [] = t.closed s k
  kept_end s k p (w ∷ ws) = kept_end (t.with_word s w p) (t.kept_with s w p k) (suc p) ws

  pub run_of : (s : S) (k : K) (p : ℕ) (ws : List ℕ) (e : S) → (pass_from t s k p ws).outcome ≡ Ok e → Run s p ws
  unfolding pass_from pass_end
  run_of s k p [] e h = (went (t.checked_end s) p (t.closed s k) _ e h).0
  run_of s k p (w ∷ ws) e h =
      let step = went (t.checked s w) p k (pass_from t (t.with_word s w p) (t.kept_with s w p k) (suc p) ws) e h in
      (step.0, run_of (t.with_word s w p) (t.kept_with s w p k) (suc p) ws e step.1)

  pub end_of : (s : S) (k : K) (p : ℕ) (ws : List ℕ) → Run s p ws → pass_from t s k p ws ≡ passed_at (Ok (seen_end s p ws)) (kept_end s k p ws)
  unfolding pass_from pass_end seen_end kept_end
  end_of s k p [] h = goes (t.checked_end s) p (t.closed s k) _ h
  end_of s k p (w ∷ ws) h =
      goes (t.checked s w) p k _ h.0 ∙ end_of (t.with_word s w p) (t.kept_with s w p k) (suc p) ws h.1

  pub ended : (s : S) (k : K) (p : ℕ) (ws : List ℕ) (e : S) → (pass_from t s k p ws).outcome ≡ Ok e → e ≡ seen_end s p ws
  ended s k p ws e h =
      let all = ap (λ (q : Passed S K). q.outcome) (end_of s k p ws (run_of s k p ws e h)) in
      let both : ◌≡◌ {A = Result S Refusal} (Ok e) (Ok (seen_end s p ws)) = sym h ∙ all in
      cc
