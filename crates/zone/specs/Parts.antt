-- Algorithm: the two parts of a zone that is cut by the bound of a word: where the bound holds, and the rest. Assumes nothing.
use Rattle.std.specs.Prelude.{ℕ, ◌<◌, nat_abs}
use Rattle.zone.specs.Words.{bound_of}
use Rattle.zone.specs.Cells.{negated}
use Rattle.zone.specs.Squares.{with_bound, tightened, Tightens}
use Rattle.zone.specs.Reading.{cell_of, with_word}
use Rattle.zone.specs.declared.zones.Zone.{Zone as Square}

-- the part of z where the bound of a word holds
unfoldable pub holding_square : ℕ → Square → Square
holding_square w z = tightened (with_word w z)

-- the rest: the negated bound, its clocks the other way round
unfoldable pub rest_square : ℕ → Square → Square
rest_square w z = tightened (with_bound (bound_of w).j (bound_of w).i (negated (cell_of (bound_of w))) z)

-- the word has a bound of document 01, and the zone is as it was read from words
pub record CutBy (w : ℕ) (z : Square) : Type 0 where
  pub first : (bound_of w).i < 5
  pub second : (bound_of w).j < 5
  pub number : nat_abs (bound_of w).d < 4096
  pub zone : Tightens 3 z
