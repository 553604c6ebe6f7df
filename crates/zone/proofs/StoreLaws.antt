-- Laws of zones in a slice: what is put at a slot stands there, the other slots keep theirs, and the slice keeps its length. Assumes nothing.
use Rattle.std.proofs.Common.{ℕ, ◌<◌, ◌≡◌, ◌≢◌, List, length}
use lib.ListN.{length-set}
use lib.Seq.{get_or-set_same, get_or-set_other}
use Rattle.zone.specs.Squares.{universe}
use Rattle.zone.specs.Reading.{with_word}
use Rattle.zone.specs.Stores.{no_zone, zone_at, put_at, with_word_at}
use Rattle.zone.specs.declared.zones.Zone.{Zone as Square}

module _ (z : Square) (slot : ℕ) (zs : List Square) where
  pub put-length : length (put_at z slot zs) ≡ length zs
  put-length = length-set zs slot z

  pub put-here : slot < length zs → zone_at (put_at z slot zs) slot ≡ z
  put-here r = get_or-set_same zs slot z no_zone r

  pub put-apart : (q : ℕ) → q ≢ slot → zone_at (put_at z slot zs) q ≡ zone_at zs q
  put-apart q d = get_or-set_other zs slot q z no_zone d

pub universe-put : (slot : ℕ) (zs : List Square) → slot < length zs → zone_at (put_at universe slot zs) slot ≡ universe
universe-put slot zs r = put-here universe slot zs r

-- ---- a word's bound picked in place
module _ (w slot : ℕ) (zs : List Square) where
  pub word-length : length (with_word_at w slot zs) ≡ length zs
  word-length = put-length (with_word w (zone_at zs slot)) slot zs

  pub word-here : slot < length zs → zone_at (with_word_at w slot zs) slot ≡ with_word w (zone_at zs slot)
  word-here r = put-here (with_word w (zone_at zs slot)) slot zs r

  pub word-apart : (q : ℕ) → q ≢ slot → zone_at (with_word_at w slot zs) q ≡ zone_at zs q
  word-apart q d = put-apart (with_word w (zone_at zs slot)) slot zs q d
