-- Laws of reading bound words into a table: what a turn of the loop comes to, and what the outcome says of the words' checks. Assumes nothing.
use Rattle.std.proofs.Common.{◌≡◌, refl, ◌⊎◌, inl, inr, ℕ, suc, ◌+◌, ◌<◌, ◌≤◌, Bool, true, false, cond, List, [], ◌∷◌, Ok, Err, T, length, drop, get_or, add-one, drop-cons}
use lib.ListN.{drop_of_length-le}
use Rattle.zone.specs.Words.{good_bound?}
use Rattle.std.specs.Prelude.{Result}
use Rattle.answers.specs.Checks.{Answer, refused, First}
use Rattle.answers.specs.declared.Reason.{Reason}
use Rattle.answers.specs.declared.Refusal.{Refusal}
use Rattle.zone.specs.Questions.{bound_checks}
use Rattle.zone.specs.Reading.{with_word, read_from, outcome_zone, or_refused}
use Rattle.zone.specs.declared.zones.Zone.{Zone as Square}
use Rattle.zone.specs.declared.reading.BadWord.{BadWord}
use Rattle.answers.proofs.CheckLaws.{AllHold}

-- ---- the loop, at the word of index p
module _ (C : ℕ) (ws : List ℕ) (p : ℕ) (z : Square) where
  pub loop-end : length ws ≤ p → Ok z ≡ read_from C (drop p ws) p z
  unfolding read_from
  loop-end h = rw (drop_of_length-le ws {i = p} h)

  module _ (h : p < length ws) where
    pub loop-bad : good_bound? C (get_or ws p 0) ≡ false → Err (record { place = p; zone = z }) ≡ read_from C (drop p ws) p z
    unfolding read_from
    loop-bad e = rw (drop-cons ws p 0 h, e)

    pub loop-good : good_bound? C (get_or ws p 0) ≡ true → read_from C (drop p ws) p z ≡ read_from C (drop (p + 1) ws) (p + 1) (with_word (get_or ws p 0) z)
    unfolding read_from
    loop-good e = rw (drop-cons ws p 0 h, e, add-one p)

-- ---- the outcome
-- where there is a zone, it is the one that was read, and a refusal is that of the word where reading stopped
module _ (r : Reason) (s : Result Square BadWord) where
  pub zone-read : {z : Square} → or_refused r s ≡ Ok z → s ≡ Ok z
  unfolding or_refused
  zone-read {z} e = by s e
    where
      by : (s : Result Square BadWord) → or_refused r s ≡ Ok z → s ≡ Ok z
      by (Ok y) e = cc
      by (Err b) e = absurd (cc)

  pub zone-refused : {f : Refusal} → or_refused r s ≡ Err f → (f.reason ≡ r) × (s ≡ Err (record { place = f.place; zone = outcome_zone s }))
  unfolding or_refused outcome_zone
  zone-refused {f} e = by s e
    where
      by : (s : Result Square BadWord) → or_refused r s ≡ Err f → (f.reason ≡ r) × (s ≡ Err (record { place = f.place; zone = outcome_zone s }))
      by (Ok y) e = absurd (cc)
      by (Err b) e = let g : record { reason = r; place = b.place } ≡ f = cc in rw (← g) (refl, refl)

-- read to the end: the first word is a good bound, and so are the others
pub read_more : (C w : ℕ) (ws : List ℕ) (p : ℕ) (z : Square) {y : Square} → read_from C (w ∷ ws) p z ≡ Ok y →
    (good_bound? C w ≡ true) × (read_from C ws (suc p) (with_word w z) ≡ Ok y)
unfolding read_from
read_more C w ws p z {y} e = by (good_bound? C w) e
  where
    by : (c : Bool) → cond c (read_from C ws (suc p) (with_word w z)) (Err (record { place = p; zone = z })) ≡ Ok y →
        (c ≡ true) × (read_from C ws (suc p) (with_word w z) ≡ Ok y)
    by true e = (refl, e)
    by false e = absurd (cc)

module _ (number C : ℕ) where
  pub read-good : (ws : List ℕ) (p : ℕ) (z : Square) {y : Square} → read_from C ws p z ≡ Ok y → AllHold (bound_checks number C p ws)
  unfolding bound_checks
  read-good [] p z e = tt
  read-good (w ∷ ws) p z e = let m = read_more C w ws p z e in (rw m.0 tt, read-good ws (suc p) (with_word w z) m.1)

  -- read to a word that is no good bound: the refusal, at its place
  pub read-bad : {A : Type 0} (P : A → Type 0) (ws : List ℕ) (p : ℕ) (z : Square) {b : BadWord} → read_from C ws p z ≡ Err b →
      First (bound_checks number C p ws) P (refused number b.place)
  unfolding read_from bound_checks
  read-bad P [] p z e = absurd (cc)
  read-bad {A} P (w ∷ ws) p z {b} e = by (good_bound? C w) (λ f. read-bad P ws (suc p) (with_word w z) f) e
    where
      by : (c : Bool) →
          (read_from C ws (suc p) (with_word w z) ≡ Err b → First (bound_checks number C (suc p) ws) P (refused number b.place)) →
          cond c (read_from C ws (suc p) (with_word w z)) (Err (record { place = p; zone = z })) ≡ Err b →
          (T c × First (bound_checks number C (suc p) ws) P (refused number b.place))
          ⊎ ((T c → ⊥) × (◌≡◌ {A = Answer A} (refused number b.place) (refused number p)))
      by true rest e = inl (tt, rest e)
      by false rest e = let f : record { place = p; zone = z } ≡ b = cc in inr ((λ t. t), rw (← f))
