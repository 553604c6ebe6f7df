-- One scale decides, for lists of bound words over C clocks, 1 to 4, as callers hand them over. Assumes nothing.
use Prim.Native.Nat.{ℕ, suc, ◌≤◌}
use mathlib.Core.Path.{◌≡◌, refl}
use mathlib.Core.Logic.{◌↔◌}
use mathlib.Core.Bool.{true}
use mathlib.Core.List.{List, [], ◌∷◌}
use Rattle.std.specs.Prelude.{Ok}
use native.Mathlib.Omega.{arith}
use Rattle.zone.specs.Scale.{Valuation, within, Empty, Inside}
use Rattle.zone.specs.Words.{good_bound?, zone_of}
use Rattle.zone.specs.Earliest.{EarliestPoint, EarliestAnswer, point_answer}
use Rattle.zone.specs.Points.{earliest_of}
use Rattle.zone.specs.Reading.{with_word, read_from, read_zone, outcome_zone, zone_read}
use Rattle.zone.specs.Squares.{universe, tightened}
use Rattle.zone.specs.Questions.{clocks?, bound_checks}
use Rattle.zone.specs.declared.zones.Zone.{Zone as Square}
use Rattle.zone.proofs.Bools.{is_true}
use Rattle.answers.proofs.CheckLaws.{AllHold}
use Rattle.zone.proofs.EarliestLaws.{point_at}
use Rattle.zone.proofs.AtOneScale.{EmptyAt, InsideAt, Over, answered, has_earliest, empty-at-one, good-bound, AllBounds, inside-at-one}
use Rattle.zone.proofs.Decided.{clocks-few, clocks-some, read-over}

-- words that pass 32, or 33, are read to their end
good-read : (number C : ℕ) (ws : List ℕ) (p : ℕ) (z : Square) → AllHold (bound_checks number C p ws) →
    read_from C ws p z ≡ Ok (outcome_zone (read_from C ws p z))
unfolding read_from outcome_zone bound_checks
good-read number C [] p z h = refl
good-read number C (w ∷ ws) p z h = rw (is_true (good_bound? C w) h.0) (good-read number C ws (suc p) (with_word w z) h.1)

good-bounds : (number C : ℕ) (ws : List ℕ) (p : ℕ) → AllHold (bound_checks number C p ws) → AllBounds C (zone_of ws)
unfolding bound_checks zone_of
good-bounds number C [] p h = tt
good-bounds number C (w ∷ ws) p h = (good-bound C w (is_true (good_bound? C w) h.0), good-bounds number C ws (suc p) h.1)

module _ (C : ℕ) (clocks : clocks? C ≡ true) (words : List ℕ) (good : AllHold (bound_checks 32 C 0 words)) where
  -- reading them gives their zone
  pub words_read : read_zone C words ≡ Ok (zone_read C words)
  unfolding read_zone zone_read
  words_read = good-read 32 C words 0 universe good

  over : Over C (within (zone_of words)) (zone_read C words)
  over = read-over C (clocks-few C clocks) words words_read

  -- what `Zone::earliest` answers of the zone that was read and tightened: that it is empty, or its earliest point
  pub words-answered : EarliestAnswer C (within (zone_of words)) (point_answer (earliest_of C (tightened (zone_read C words))))
  words-answered = answered C (clocks-some C clocks) (clocks-few C clocks) over

  -- a zone with a valuation at some scale has an earliest point at scale C + 1
  pub words_earliest : (k : ℕ) → 1 ≤ k → (v : Valuation) → within (zone_of words) k v → (w : Valuation) × EarliestPoint C (within (zone_of words)) w
  words_earliest k k₁ v r = (point_at C (zone_read C words), has_earliest C (clocks-some C clocks) (clocks-few C clocks) over k k₁ v r)

  -- "empty", at every scale, is empty at scale C + 1
  pub words-empty : Empty (within (zone_of words)) ↔ EmptyAt (suc C) (within (zone_of words))
  words-empty = ((λ m v r. m.at (suc C) (omega arith) v r), empty-at-one C (clocks-some C clocks) (clocks-few C clocks) over)

  -- and so is "inside"
  pub words_inside : (others : List ℕ) → AllHold (bound_checks 33 C 0 others) →
      Inside (within (zone_of words)) (within (zone_of others)) ↔ InsideAt (suc C) (within (zone_of words)) (within (zone_of others))
  words_inside others h = (
    (λ m v r. m.at (suc C) (omega arith) v r),
    inside-at-one C (clocks-some C clocks) (clocks-few C clocks) over (zone_of others) (good-bounds 33 C others 0 h),
  )
