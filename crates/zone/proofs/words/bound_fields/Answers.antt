-- The code's tests are those of the definition.
use Rattle.std.proofs.Common.{rules}
use Rattle.zone.specs.Words.{bound_of, bound_fields?}
use Rattle.zone.proofs.words.bound_fields.Goals as goal

pub returns : goal.returns
unfolding bound_of bound_fields?
returns c = search rules
