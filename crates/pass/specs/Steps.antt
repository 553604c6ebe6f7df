-- Algorithm: one pass over the words of a file, which stops at the first check that fails. Assumes nothing.
use Rattle.std.specs.Prelude.{ℕ, suc, ◌≡◌, Bool, true, false, List, [], ◌∷◌, Result, Ok, Err}
use Rattle.answers.specs.Refusals.{refuse}
use Rattle.answers.specs.declared.Reason.{Reason}
use Rattle.answers.specs.declared.Refusal.{Refusal}

-- the steps of a pass, where S says what the words read so far come to, and K what is kept of them
pub record Steps (S K : Type 0) : Type 0 where
  -- the checks of the next word: the reason of the first that it fails
  pub checked : S → ℕ → Result (Unit {0}) Reason
  -- with a word more, at a place: what the words come to, and what is kept of them
  pub with_word : S → ℕ → ℕ → S
  pub kept_with : S → ℕ → ℕ → K → K
  -- where the words end: what is kept then, and the check
  pub closed : S → K → K
  pub checked_end : S → Result (Unit {0}) Reason

-- a call takes the word w, and says so: it passes its checks, changes nothing of what was seen, at whatever place it stands, and is kept. Or the
-- call takes nothing
pub record Taken {S K : Type 0} (t : Steps S K) (s : S) (w : ℕ) (k m : K) : Type 0 where
  pub passes : t.checked s w ≡ Ok tt
  pub stays : (p : ℕ) → t.with_word s w p ≡ s
  pub keeps : (p : ℕ) → m ≡ t.kept_with s w p k

abbrev pub Picks : {S K : Type 0} → Steps S K → S → ℕ → K → K → Bool → Type 0
Picks t s w k m true = Taken t s w k m
Picks t s w k m false = m ≡ k

-- what the words come to, or the refusal where the pass stops, and what is kept of them there
pub record Passed (S K : Type 0) : Type 0 where
  pub outcome : Result S Refusal
  pub kept : K

abbrev pub passed_at : {S K : Type 0} → Result S Refusal → K → Passed S K
passed_at r k = record { outcome = r; kept = k }

-- a check at the place p that fails ends the pass there
unfoldable pub unless_refused : {S K : Type 0} → Result (Unit {0}) Reason → ℕ → K → Passed S K → Passed S K
unless_refused (Ok u) p k go = go
unless_refused (Err r) p k go = passed_at (refuse r p) k

-- at the end of the words, whose number is p
unfoldable pub pass_end : {S K : Type 0} → Steps S K → S → K → ℕ → Passed S K
pass_end t s k p = unless_refused (t.checked_end s) p (t.closed s k) (passed_at (Ok s) (t.closed s k))

-- the words, the first of which has index p, up to the first that fails a check or is missing
unfoldable pub pass_from : {S K : Type 0} → Steps S K → S → K → ℕ → List ℕ → Passed S K
pass_from t s k p [] = pass_end t s k p
pass_from t s k p (w ∷ ws) = unless_refused (t.checked s w) p k (pass_from t (t.with_word s w p) (t.kept_with s w p k) (suc p) ws)
