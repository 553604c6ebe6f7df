use Rattle.zone.specs.Words.{bound_of}
use Rattle.model.proofs.FieldLaws.{differ}
use Rattle.model.proofs.fields.one_zero.Goals as goal

pub returns : goal.returns
unfolding bound_of
returns c = rw (c.first_clock-i.ensures, c.second_clock-j.ensures) (differ _ _)
