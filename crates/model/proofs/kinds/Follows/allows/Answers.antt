-- A kind is below 16, so that the look-up is of an entry of the table.
use Rattle.std.proofs.Common.{◌<◌, rules}
use Rattle.model.proofs.KindLaws.{looked-up}
use Rattle.model.proofs.kinds.Follows.allows.Goals as goal

pub returns : goal.returns
returns c =
    let below : c.kind_of.result < 16 = search rules in
    rw (c.args.self.now.rule.rule, looked-up c.args.opener c.kind_of.result c.requires below, c.kind_of.ensures)
