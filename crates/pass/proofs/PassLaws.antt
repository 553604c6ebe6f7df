-- Laws of a pass: what a turn of its loop comes to, and the end of the words. Assumes nothing.
use Rattle.std.proofs.Common.{Bool, true, false, ℕ, ◌+◌, ◌<◌, ◌≡◌, List, Ok, Err, length, drop, get_or, arith}
use native.Mathlib.Numerals.{add-one}
use lib.ListN.{drop_of_length-le}
use lib.Seq.{drop-cons}
use Rattle.answers.specs.declared.Refusal.{Refusal}
use Rattle.pass.specs.Steps.{Steps, Taken, Picks, passed_at, unless_refused, pass_end, pass_from}

-- what `pick` says where it took the word, and where it did not
module _ {S K : Type 0} (t : Steps S K) (s : S) (w : ℕ) {k m : K} {r : Bool} where
  pub picked : Picks t s w k m r → r ≡ true → Taken t s w k m
  picked h e = rw e at h

  pub left : Picks t s w k m r → r ≡ false → m ≡ k
  left h e = rw e at h

module _ {S K : Type 0} (t : Steps S K) (ws : List ℕ) (p : ℕ) (s : S) (k : K) where
  module _ (at-end : p ≡ length ws) where
    -- no word is missing
    pub pass-end : t.checked_end s ≡ Ok tt → pass_from t s k p (drop p ws) ≡ passed_at (Ok s) (t.closed s k)
    unfolding pass_from pass_end unless_refused
    pass-end e = rw (at-end, drop_of_length-le ws {i = length ws} (omega arith), e)

    -- a word is missing
    pub pass-lacks : (f : Refusal) → t.checked_end s ≡ Err f.reason → f.place ≡ length ws →
        pass_from t s k p (drop p ws) ≡ passed_at (Err f) (t.closed s k)
    unfolding pass_from pass_end unless_refused
    pass-lacks f e q = rw (at-end, drop_of_length-le ws {i = length ws} (omega arith), e, ← q)

  module _ (h : p < length ws) where
    -- a word that fails a check
    pub pass-stop : (f : Refusal) → t.checked s (get_or ws p 0) ≡ Err f.reason → f.place ≡ p →
        pass_from t s k p (drop p ws) ≡ passed_at (Err f) k
    unfolding pass_from unless_refused
    pass-stop f e q = rw (drop-cons ws p 0 h, e, ← q)

    -- past a word that is picked
    pub pass-pick : {m : K} → Taken t s (get_or ws p 0) k m → pass_from t s k p (drop p ws) ≡ pass_from t s m (p + 1) (drop (p + 1) ws)
    unfolding pass_from unless_refused
    pass-pick g = rw (drop-cons ws p 0 h, g.passes, g.stays p, ← g.keeps p, add-one p)

    -- past a word that passes them
    pub pass-go : t.checked s (get_or ws p 0) ≡ Ok tt →
        pass_from t s k p (drop p ws) ≡ pass_from t (t.with_word s (get_or ws p 0) p) (t.kept_with s (get_or ws p 0) p k) (p + 1) (drop (p + 1) ws)
    unfolding pass_from unless_refused
    pass-go e = rw (drop-cons ws p 0 h, e, add-one p)
