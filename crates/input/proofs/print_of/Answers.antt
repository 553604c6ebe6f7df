-- What is said of the bytes that were read is said of the whole input.
use Rattle.std.proofs.Common.{rules, take}
use Rattle.input.proofs.Whole.{whole}
use Rattle.input.proofs.print_of.Goals as goal

pub returns : goal.returns
returns g c =
    whole g.P.Program.Says g.row.MOST g.met.P.Program.longer _ _ _ _ (take c.in-Ok.count c.read_input.new.bytes) c.in-Ok.ensures.reads.reads
    (λ l. c.in-Ok.ensures.ends (search rules)) (search rules)
