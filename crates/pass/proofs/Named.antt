-- The numbers that the words of a pass name, where each should be one of so many: the first word that lacks what it names is the one refused, and
-- there is none where the furthest number is one of them. Assumes nothing.
use Rattle.std.proofs.Common.{ℕ, suc, ◌+◌, ◌<◌, ◌≡◌, refl, sym, ◌∙◌, Bool, true, false, not, cond, List, [], ◌∷◌, ◌++◌, Option, Some, None, ltb-true}
use mathlib.Core.Logic.{inl, inr}
use native.Mathlib.Numerals.{add-one}
use lib.Dec.{ltb}
use Rattle.std.specs.List.{position, position_from}
use Rattle.std.proofs.lemmas.Iterator.Adapters.{position_from-zero}
use Rattle.answers.specs.Checks.{Answer, refused, Check, test, First}
use Rattle.pass.specs.Steps.{Steps}
use Rattle.pass.proofs.Run.{seen_end}

-- ---- the check number of every word, which `checks` lists from an index on; f answers with the index of the first word that lacks its own
module _
    {A : Type 0} (P : A → Type 0) (f : Option ℕ → Answer A) (number : ℕ) (refuses : (p : ℕ) → f (Some p) ≡ refused number p)
    (lacks? passes? : ℕ → Bool) (opposite : (w : ℕ) → passes? w ≡ not (lacks? w)) (checks : ℕ → List ℕ → List Check)
    (none : (p : ℕ) → checks p [] ≡ []) (one : (p w : ℕ) (ws : List ℕ) → checks p (w ∷ ws) ≡ test number p (passes? w) ∷ checks (suc p) ws)
    (more : List Check)
  where
    word_first :
        (b : Bool) (m : Option ℕ) (p : ℕ) (cs : List Check) (X : Type 0) → (cond b (Some p) m ≡ None → X) →
        ((m ≡ None → X) → First cs P (f m)) → First (test number p (not b) ∷ cs) P (f (cond b (Some p) m))
    word_first false m p cs X h rest = inl (tt, rest h)
    word_first true m p cs X h rest = inr ((λ t. t), refuses p)

    pub from-first : (p : ℕ) (ws : List ℕ) → (position_from lacks? p ws ≡ None → First more P (f None)) →
        First (checks p ws ++ more) P (f (position_from lacks? p ws))
    from-first p [] h = rw (none p) (h refl)
    from-first p (w ∷ ws) h =
        rw (one p w ws, opposite w, add-one p)
        (word_first (lacks? w) (position_from lacks? (suc p) ws) p (checks (suc p) ws ++ more) (First more P (f None)) (rw (add-one p) at h)
        (from-first (suc p) ws))

    -- of all words
    pub lacking-first : (ws : List ℕ) → (position lacks? ws ≡ None → First more P (f None)) → First (checks 0 ws ++ more) P (f (position lacks? ws))
    lacking-first ws = rw (position_from-zero lacks? ws) (from-first 0 ws)

-- ---- the furthest number f of the words read so far: a word takes none back, and lacks none that f reaches
module _
    {S K : Type 0} (t : Steps S K) (f : S → ℕ) (n : ℕ) (lacks? : ℕ → Bool)
    (named : (s : S) (w p : ℕ) → f (t.with_word s w p) < n → (f s < n) × (lacks? w ≡ false))
  where
    below : (s : S) (p : ℕ) (ws : List ℕ) → f (seen_end t s p ws) < n → f s < n
    unfolding seen_end
    below s p [] h = h
    below s p (w ∷ ws) h = (named s w p (below (t.with_word s w p) (suc p) ws h)).0

    none-from : (s : S) (p i : ℕ) (ws : List ℕ) → f (seen_end t s p ws) < n → position_from lacks? i ws ≡ None
    unfolding seen_end
    none-from s p i [] h = refl
    none-from s p i (w ∷ ws) h =
        rw (named s w p (below (t.with_word s w p) (suc p) ws h)).1 (none-from (t.with_word s w p) (suc p) (i + 1) ws h)

    -- so the words need not be searched where the furthest is below n
    pub searched : (s : S) (p : ℕ) (ws : List ℕ) → cond (ltb (f (seen_end t s p ws)) n) None (position lacks? ws) ≡ position lacks? ws
    searched s p ws =
        by (ltb (f (seen_end t s p ws)) n) λ e. position_from-zero lacks? ws ∙ none-from s p 0 ws (ltb-true (f (seen_end t s p ws)) n e)
      where
        by : (c : Bool) → (c ≡ true → position lacks? ws ≡ None) → cond c None (position lacks? ws) ≡ position lacks? ws
        by true h = sym (h refl)
        by false h = refl
