-- The two questions, decided by square tables, are answered as document 01 says. Assumes nothing.
use Prim.Native.Nat.{ℕ, suc, ◌≤◌}
use mathlib.Core.Path.{◌≡◌, refl}
use mathlib.Core.Logic.{◌↔◌, inl, inr}
use mathlib.Core.Bool.{Bool, true, false, ◌||◌}
use mathlib.Core.List.{List, [], ◌∷◌, ◌++◌}
use native.Mathlib.Omega.{arith}
use borrow.Author.Tests.{leb-true}
use lib.Dec.{T, leb}
use Rattle.std.specs.Prelude.{cond, Result, Ok, Err}
use Rattle.zone.specs.Scale.{holds?, in?, Region, within, Empty, Inside}
use Rattle.zone.specs.Words.{bound_of, good_bound?, zone_of}
use Rattle.answers.specs.Refusals.{number, answer_of, refuse}
use Rattle.answers.specs.declared.Reason.TheVariants as reason
use Rattle.answers.specs.declared.Refusal.{Refusal}
use Rattle.answers.specs.Checks.{Answer, refused, accepted, First}
use Rattle.zone.specs.Questions.{clocks?, clock_check, bound_checks, AskedEmpty, AskedInside}
use Rattle.zone.specs.Squares.{universe, tightened, empty?, inside?}
use Rattle.zone.specs.Reading.{with_word, read_from, read_zone}
use Rattle.zone.specs.declared.zones.Zone.{Zone as Square}
use Rattle.zone.specs.declared.reading.BadWord.{BadWord}
use Rattle.answers.proofs.CheckLaws.{first-join, first-all, first-before}
use Rattle.zone.proofs.ReadLaws.{read_more, read-good, read-bad}
use Rattle.zone.proofs.WordLaws.{good-first, good-second, good-number}
use Rattle.zone.proofs.Sizes.{tightens-read}
use Rattle.zone.proofs.Bools.{both, and, left_true, right_true}
use Rattle.zone.proofs.Regions.{Stands, in_both, holding, stands_same, stands-universe, stands-with_bound}
use Rattle.zone.proofs.Spans.{spans, empty-yes, empty-no, lies-yes, lies-no}
use Rattle.zone.proofs.AtOneScale.{Over, over-same, over-universe, over-holding, good-bound}

-- ---- the table that is read stands for the zone of the words
module _ (C : ℕ) (h : C ≤ 4) where
  word_stands : {R : Region} {z : Square} (w : ℕ) → good_bound? C w ≡ true → Stands R z → Stands (in_both (holding (bound_of w)) R) (with_word w z)
  unfolding with_word
  word_stands w g s =
      stands-with_bound (bound_of w) (omega (arith, good-first C w g)) (omega (arith, good-second C w g)) (good-number C w g) s

  from-stands : {R : Region} (ws : List ℕ) (p : ℕ) {z y : Square} → Stands R z → read_from C ws p z ≡ Ok y → Stands (in_both (within (zone_of ws)) R) y
  unfolding read_from within zone_of in?
  from-stands [] p {z} {y} s e = let f : z ≡ y = cc in rw (← f) (stands_same (λ k v r. (tt, r)) (λ k v r. r.1) s)
  from-stands {R} (w ∷ ws) p {z} {y} s e =
      let m = read_more C w ws p z e in
      stands_same
      (λ k v r. (and (holds? k v (bound_of w)) (in? k v (zone_of ws)) r.1.0 r.0, r.1.1))
      (λ k v r. let (a, b) = both (holds? k v (bound_of w)) (in? k v (zone_of ws)) r.0 in (b, (a, r.1)))
      (from-stands {R = in_both (holding (bound_of w)) R} ws (suc p) (word_stands w m.0 s) m.1)

  pub read-stands : (ws : List ℕ) {z : Square} → read_zone C ws ≡ Ok z → Stands (within (zone_of ws)) z
  unfolding read_zone within in?
  read-stands ws e = stands_same (λ k v r. r.0) (λ k v r. (r, tt)) (from-stands ws 0 stands-universe e)

  -- and it has no bounds of the clocks above C
  word_over : {R : Region} {z : Square} (w : ℕ) → good_bound? C w ≡ true → Over C R z → Over C (in_both (holding (bound_of w)) R) (with_word w z)
  unfolding with_word
  word_over w g o = over-holding C h (bound_of w) (good-bound C w g) o

  from-over : {R : Region} (ws : List ℕ) (p : ℕ) {z y : Square} → Over C R z → read_from C ws p z ≡ Ok y → Over C (in_both (within (zone_of ws)) R) y
  unfolding read_from within zone_of in?
  from-over [] p {z} {y} o e = let f : z ≡ y = cc in rw (← f) (over-same (λ k v r. (tt, r)) (λ k v r. r.1) o)
  from-over {R} (w ∷ ws) p {z} {y} o e =
      let m = read_more C w ws p z e in
      over-same
      (λ k v r. (and (holds? k v (bound_of w)) (in? k v (zone_of ws)) r.1.0 r.0, r.1.1))
      (λ k v r. let (a, b) = both (holds? k v (bound_of w)) (in? k v (zone_of ws)) r.0 in (b, (a, r.1)))
      (from-over {R = in_both (holding (bound_of w)) R} ws (suc p) (word_over w m.0 o) m.1)

  pub read-over : (ws : List ℕ) {z : Square} → read_zone C ws ≡ Ok z → Over C (within (zone_of ws)) z
  unfolding read_zone within in?
  read-over ws e = over-same (λ k v r. r.0) (λ k v r. (r, tt)) (from-over ws 0 (over-universe C) e)

pub clocks-few : (C : ℕ) → clocks? C ≡ true → C ≤ 4
clocks-few C e = leb-true C 4 (right_true (leb 1 C) (leb C 4) e)

pub clocks-some : (C : ℕ) → clocks? C ≡ true → 1 ≤ C
clocks-some C e = leb-true 1 C (left_true (leb 1 C) (leb C 4) e)

-- ---- is a zone empty?
module _ (C : ℕ) (words : List ℕ) where
  abbrev Empties : Bool → Type 0
  Empties yes? = T yes? ↔ Empty (within (zone_of words))

  pub clocks-empty : clocks? C ≡ false → AskedEmpty C words (refused 31 0)
  unfolding clock_check
  clocks-empty e = record { says = inr ((λ t. rw e at t), refl) }

  module _ (h : clocks? C ≡ true) where
    read-empty : (a : Answer Bool) → First (bound_checks 32 C 0 words) Empties a → AskedEmpty C words a
    unfolding clock_check
    read-empty a f = record { says = inl (rw h tt, f) }

    pub bad-empty : {b : BadWord} → read_zone C words ≡ Err b → AskedEmpty C words (refused 32 b.place)
    unfolding read_zone
    bad-empty e = read-empty _ (read-bad 32 C Empties words 0 universe e)

    pub good-empty : {z t : Square} → read_zone C words ≡ Ok z → t ≡ tightened z → AskedEmpty C words (accepted (empty? t))
    unfolding read_zone
    good-empty {z} e f =
        rw f (read-empty _ (first-all (bound_checks 32 C 0 words) Empties _ (read-good 32 C words 0 universe e) (by (empty? (tightened z)) refl)))
      where
        by : (c : Bool) → empty? (tightened z) ≡ c → Empties c
        by true q = ((λ _. empty-yes (tightens-read C words e) (spans (read-stands C (clocks-few C h) words e)) q), λ _. tt)
        by false q = ((λ f. absurd f), λ m. empty-no (tightens-read C words e) (spans (read-stands C (clocks-few C h) words e)) q m)

-- ---- does one zone lie inside another?
module _ (C : ℕ) (first second : List ℕ) where
  abbrev Includes : Bool → Type 0
  Includes yes? = T yes? ↔ Inside (within (zone_of first)) (within (zone_of second))

  pub clocks-inside : clocks? C ≡ false → AskedInside C first second (refused 31 0)
  unfolding clock_check
  clocks-inside e = record { says = inr ((λ t. rw e at t), refl) }

  module _ (h : clocks? C ≡ true) where
    read-inside : (a : Answer Bool) → First (bound_checks 32 C 0 first ++ bound_checks 33 C 0 second) Includes a → AskedInside C first second a
    unfolding clock_check
    read-inside a f = record { says = inl (rw h tt, f) }

    pub bad-first : {b : BadWord} → read_zone C first ≡ Err b → AskedInside C first second (refused 32 b.place)
    unfolding read_zone
    bad-first {b} e =
        read-inside _
        (first-before (bound_checks 32 C 0 first) (bound_checks 33 C 0 second) Includes Includes 32 b.place (read-bad 32 C Includes first 0 universe e))

    module _ {y : Square} (e : read_zone C first ≡ Ok y) where
      read-both : (a : Answer Bool) → First (bound_checks 33 C 0 second) Includes a → AskedInside C first second a
      unfolding read_zone
      read-both a f =
          read-inside a (first-join (bound_checks 32 C 0 first) (bound_checks 33 C 0 second) Includes a (read-good 32 C first 0 universe e) f)

      pub bad-second : {b : BadWord} → read_zone C second ≡ Err b → AskedInside C first second (refused 33 b.place)
      unfolding read_zone
      bad-second f = read-both _ (read-bad 33 C Includes second 0 universe f)

      pub good-inside : {z t : Square} → read_zone C second ≡ Ok z → t ≡ tightened y → AskedInside C first second (accepted (empty? t || inside? t z))
      unfolding read_zone
      good-inside {z} f g =
          rw g (read-both _
          (first-all (bound_checks 33 C 0 second) Includes _ (read-good 33 C second 0 universe f)
          (by (empty? (tightened y) || inside? (tightened y) z) refl)))
        where
          few : C ≤ 4
          few = clocks-few C h

          by : (c : Bool) → (empty? (tightened y) || inside? (tightened y) z) ≡ c → Includes c
          by true q = (
            (λ _. lies-yes (tightens-read C first e) (spans (read-stands C few first e)) (read-stands C few second f) q),
            λ _. tt,
          )
          by false q = (
            (λ f. absurd f),
            λ m. lies-no (tightens-read C first e) (spans (read-stands C few first e)) (read-stands C few second f) q m,
          )

-- ---- the two questions decided, for every C and all lists: theorems for a reader, which no proof cites
unfoldable pub empty_from : Result Square BadWord → Result Bool Refusal
empty_from (Ok z) = Ok (empty? (tightened z))
empty_from (Err b) = refuse reason.BadBound b.place

unfoldable pub decide_empty : ℕ → List ℕ → Result Bool Refusal
decide_empty C words = cond (clocks? C) (empty_from (read_zone C words)) (refuse reason.BadClocks 0)

pub decided-empty : (C : ℕ) (words : List ℕ) → AskedEmpty C words (answer_of (decide_empty C words))
unfolding decide_empty empty_from answer_of number
decided-empty C words = by (clocks? C) refl (read_zone C words) refl
  where
    by : (c : Bool) → clocks? C ≡ c → (r : Result Square BadWord) → read_zone C words ≡ r →
        AskedEmpty C words (answer_of (cond c (empty_from r) (refuse reason.BadClocks 0)))
    by false e r f = clocks-empty C words e
    by true e (Ok z) f = good-empty C words e f refl
    by true e (Err b) f = bad-empty C words e f

unfoldable pub inside_from : Result Square BadWord → Result Square BadWord → Result Bool Refusal
inside_from (Ok y) (Ok z) = Ok (empty? (tightened y) || inside? (tightened y) z)
inside_from (Ok y) (Err b) = refuse reason.BadSecondBound b.place
inside_from (Err b) z = refuse reason.BadBound b.place

unfoldable pub decide_inside : ℕ → List ℕ → List ℕ → Result Bool Refusal
decide_inside C first second = cond (clocks? C) (inside_from (read_zone C first) (read_zone C second)) (refuse reason.BadClocks 0)

pub decided-inside : (C : ℕ) (first second : List ℕ) → AskedInside C first second (answer_of (decide_inside C first second))
unfolding decide_inside inside_from answer_of number
decided-inside C first second = by (clocks? C) refl (read_zone C first) refl (read_zone C second) refl
  where
    by : (c : Bool) → clocks? C ≡ c → (r : Result Square BadWord) → read_zone C first ≡ r → (s : Result Square BadWord) → read_zone C second ≡ s →
        AskedInside C first second (answer_of (cond c (inside_from r s) (refuse reason.BadClocks 0)))
    by false e r f s g = clocks-inside C first second e
    by true e (Ok y) f (Ok z) g = good-inside C first second e f g refl
    by true e (Ok y) f (Err b) g = bad-second C first second e f g
    by true e (Err b) f s g = bad-first C first second e f
