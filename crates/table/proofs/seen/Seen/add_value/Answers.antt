-- The calls give how many rows are due and the size of the first.
use Rattle.std.proofs.Common.{arith}
use Rattle.table.specs.Scan.{first_row}
use Rattle.table.proofs.Limits.{rows-limit}
use Rattle.table.proofs.seen.Seen.add_value.Goals as goal

pub of-self-requires : goal.of-self-requires
of-self-requires c = let fits = c.args.rows.fits in let few = fits.locations in omega arith

pub size-self-requires : goal.size-self-requires
unfolding first_row
size-self-requires c = rw (c.of-self.ensures, c.actions_of.ensures) (λ r. let few = rows-limit _ c.args.rows.fits _ c.requires in omega arith)

pub returns : goal.returns
unfolding first_row
returns c = rw (c.size-self.ensures, c.of-self.ensures, c.actions_of.ensures)
