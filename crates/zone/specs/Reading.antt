-- Algorithm: bound words read into a square table. Assumes nothing.
use Rattle.std.specs.Prelude.{ℕ, suc, cond, List, [], ◌∷◌, Result, Ok, Err}
use Rattle.answers.specs.Refusals.{refuse}
use Rattle.answers.specs.declared.Reason.{Reason}
use Rattle.answers.specs.declared.Refusal.{Refusal}
use Rattle.zone.specs.Scale.{Bound}
use Rattle.zone.specs.Keys.{key_of}
use Rattle.zone.specs.Words.{bound_of, good_bound?}
use Rattle.zone.specs.Squares.{with_bound, universe}
use Rattle.zone.specs.declared.bounds.Bound.{Bound as Cell}
use Rattle.zone.specs.declared.zones.Zone.{Zone as Square}
use Rattle.zone.specs.declared.reading.BadWord.{BadWord}

abbrev pub cell_of : Bound → Cell
cell_of b = record { key = key_of b.d b.strict }

unfoldable pub with_word : ℕ → Square → Square
with_word w z = with_bound (bound_of w).i (bound_of w).j (cell_of (bound_of w)) z

-- reads the words, the first of which has index p, into z, or gives the place of the first word that is no good bound and the zone of those before it
unfoldable pub read_from : ℕ → List ℕ → ℕ → Square → Result Square BadWord
read_from C [] p z = Ok z
read_from C (w ∷ ws) p z = cond (good_bound? C w) (read_from C ws (suc p) (with_word w z)) (Err (record { place = p; zone = z }))

unfoldable pub read_zone : ℕ → List ℕ → Result Square BadWord
read_zone C words = read_from C words 0 universe

-- the zone of either outcome
unfoldable pub outcome_zone : Result Square BadWord → Square
outcome_zone (Ok z) = z
outcome_zone (Err b) = b.zone

-- the zone of the words, up to the first that is no good bound
unfoldable pub zone_read : ℕ → List ℕ → Square
zone_read C words = outcome_zone (read_zone C words)

-- the refusal for a reason, at the place that stands for a zone where there is none
unfoldable pub or_refused : Reason → Result Square BadWord → Result Square Refusal
or_refused r (Ok z) = Ok z
or_refused r (Err b) = refuse r b.place
