-- By definition a bound is negative where it is tighter than "at most 0".
use Rattle.zone.specs.Cells.{negative?}
use Rattle.zone.proofs.bounds.Bound.negative.Goals as goal

pub returns : goal.returns
unfolding negative?
returns c = c.tighter.ensures
