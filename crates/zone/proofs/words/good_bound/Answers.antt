-- The code's tests are those of the definition.
use Rattle.std.proofs.Common.{rules}
use Rattle.zone.specs.Words.{good_bound?}
use Rattle.zone.proofs.words.good_bound.Goals as goal

pub returns : goal.returns
unfolding good_bound?
returns c = search rules
