-- Algorithm: zones in an array, one to a slot. Assumes nothing.
use Rattle.std.specs.Prelude.{ℕ, List, [], get_or, set}
use Rattle.zone.specs.Reading.{with_word}
use Rattle.zone.specs.declared.zones.Zone.{Zone as Square}

-- past the end a zone of no bounds is read; no index of the code reaches it
abbrev pub no_zone : Square
no_zone = record { cells = [] }

abbrev pub zone_at : List Square → ℕ → Square
zone_at zs slot = get_or zs slot no_zone

abbrev pub put_at : Square → ℕ → List Square → List Square
put_at z slot zs = set zs slot z

-- the tighter of a word's bound and the one at its cell of a slot
abbrev pub with_word_at : ℕ → ℕ → List Square → List Square
with_word_at w slot zs = set zs slot (with_word w (zone_at zs slot))
