-- The key reads back as it is, so both tests are those of the definition.
use Rattle.std.proofs.Common.{rules, SFits, w32}
use mir.Facts.{to_z-of_z}
use Rattle.zone.specs.Cells.{tighter?}
use Rattle.zone.proofs.bounds.Bound.tighter.Goals as goal

pub returns : goal.returns
unfolding tighter?
returns c =
    let fits : SFits w32 c.args.self.key = search rules in
    rw (to_z-of_z fits, c.below.ensures)
