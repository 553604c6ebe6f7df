-- The cases of document 01 marked * that ask about zones, as statements about the definitions: computed by square tables, whose answers are
-- proved. Assumes nothing.
use Prim.Native.Nat.{ℕ}
use mathlib.Core.Path.{◌≡◌, refl}
use mathlib.Core.Bool.{true, false, ◌||◌}
use Rattle.std.specs.Prelude.{Ok}
use mathlib.Core.List.{List, [], ◌∷◌}
use Rattle.zone.specs.Words.{bound_of, bound_fields?, good_bound?}
use Rattle.answers.specs.Checks.{accepted}
use Rattle.zone.specs.Questions.{AskedEmpty, AskedInside}
use Rattle.zone.specs.Cells.{tighter?, tighter_of, sum, negative?}
use Rattle.zone.specs.Squares.{list_of, with_bound, tightened, passed_below, all?, empty?, inside?}
use Rattle.zone.specs.Reading.{with_word, read_from, read_zone, outcome_zone, zone_read}
use Rattle.zone.proofs.Decided.{good-empty, good-inside}

-- clock 1 at most 3, clock 2 - clock 1 at most 2
abbrev pub inner : List ℕ
inner = 0x51001003 ∷ 0x52101002 ∷ []

-- clock 2 at most 5, and at most 4
abbrev pub five : List ℕ
five = 0x52001005 ∷ []

abbrev pub four : List ℕ
four = 0x52001004 ∷ []

-- clock 1 above 2 and below 3
abbrev pub between : List ℕ
between = 0x50180FFE ∷ 0x51081003 ∷ []

insides : (read_zone 2 inner ≡ Ok (zone_read 2 inner)) × (read_zone 2 five ≡ Ok (zone_read 2 five)) × (read_zone 2 four ≡ Ok (zone_read 2 four)) ×
    ((empty? (tightened (zone_read 2 inner)) || inside? (tightened (zone_read 2 inner)) (zone_read 2 five)) ≡ true) ×
    ((empty? (tightened (zone_read 2 inner)) || inside? (tightened (zone_read 2 inner)) (zone_read 2 four)) ≡ false)
unfolding
    bound_of bound_fields? good_bound? tighter? tighter_of sum negative? list_of with_bound passed_below all? empty? inside? with_word read_from
    read_zone outcome_zone zone_read
insides = (refl, refl, refl, refl, refl)

empties : (read_zone 1 between ≡ Ok (zone_read 1 between)) × (empty? (tightened (zone_read 1 between)) ≡ false)
unfolding
    bound_of bound_fields? good_bound? tighter? tighter_of sum negative? list_of with_bound passed_below all? empty? with_word read_from read_zone outcome_zone
    zone_read
empties = (refl, refl)

pub zone-cases : AskedInside 2 inner five (accepted true) × AskedInside 2 inner four (accepted false) × AskedEmpty 1 between (accepted false)
zone-cases = (
  rw insides.3 at (good-inside 2 inner five refl insides.0 insides.1 refl),
  rw insides.4 at (good-inside 2 inner four refl insides.0 insides.2 refl),
  rw empties.1 at (good-empty 1 between refl empties.0 refl),
)
