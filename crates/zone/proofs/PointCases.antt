-- The earliest points of two zones, computed by square tables, whose answers are proved. Assumes nothing.
use Prim.Native.Nat.{ℕ}
use mathlib.Core.Path.{◌≡◌, refl, subst}
use mathlib.Core.List.{List, [], ◌∷◌}
use Rattle.zone.specs.Scale.{Valuation, within}
use Rattle.zone.specs.Words.{bound_of, bound_fields?, good_bound?, zone_of}
use Rattle.zone.specs.Earliest.{point, EarliestAnswer, valuation_of, point_answer}
use Rattle.zone.specs.Questions.{bound_checks}
use Rattle.zone.specs.Points.{not_below_zero, least_second, raised_by, round_below, round_of, rounds_of, earliest_of}
use Rattle.zone.specs.Cells.{tighter?, tighter_of, sum, negative?}
use Rattle.zone.specs.Squares.{list_of, with_bound, tightened, passed_below, all?, empty?}
use Rattle.zone.specs.Reading.{with_word, read_from, read_zone, outcome_zone, zone_read}
use Rattle.zone.proofs.WordsAtOneScale.{words-answered}
use Rattle.zone.proofs.Cases.{between}

-- at scale 2 the earliest point of clock 1 between 2 and 3 reads 5
abbrev pub five_halves : Valuation
five_halves = valuation_of (record { c1 = 5; c2 = 0; c3 = 0; c4 = 0 })

-- clock 1 above 0 and below clock 2: both lower bounds are above 0, which would give 1 and 1, but at scale 3 the earliest point reads 1 and 2
abbrev pub rising : List ℕ
rising = 0x50181000 ∷ 0x51281000 ∷ []

abbrev pub one_two : Valuation
one_two = valuation_of (record { c1 = 1; c2 = 2; c3 = 0; c4 = 0 })

points :
    (point_answer (earliest_of 1 (tightened (zone_read 1 between))) ≡ point five_halves) ×
    (point_answer (earliest_of 2 (tightened (zone_read 2 rising))) ≡ point one_two)
unfolding
    bound_of bound_fields? good_bound? tighter? tighter_of sum negative? list_of with_bound passed_below all? empty? with_word read_from read_zone outcome_zone
    zone_read not_below_zero least_second raised_by round_below round_of rounds_of earliest_of point_answer
points = (refl, refl)

pub point-cases : EarliestAnswer 1 (within (zone_of between)) (point five_halves) × EarliestAnswer 2 (within (zone_of rising)) (point one_two)
unfolding bound_checks bound_fields? good_bound?
point-cases = (
  subst (EarliestAnswer 1 (within (zone_of between))) points.0 (words-answered 1 refl between (tt, (tt, tt))),
  subst (EarliestAnswer 2 (within (zone_of rising))) points.1 (words-answered 2 refl rising (tt, (tt, tt))),
)
