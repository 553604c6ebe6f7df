-- By the word's kind: what it adds keeps the limits.
use Rattle.std.proofs.Common.{sym}
use Rattle.model.specs.Kinds.{head, location, action, edge, start}
use Rattle.model.specs.Scan.{seen_with_kind}
use Rattle.model.proofs.Limits.{limits_as}
use Rattle.model.proofs.reader.ReaderPass.take.Goals as goal

pub returns-in-Head-clause-holds : goal.returns-in-Head-clause-holds
unfolding seen_with_kind
returns-in-Head-clause-holds c =
    limits_as c.args.seen.now c.args.word c.requires.holds c.requires.passes head c.args.place (sym c.in-Head.ensures) c.add_head.ensures

pub returns-in-Location-clause-holds : goal.returns-in-Location-clause-holds
unfolding seen_with_kind
returns-in-Location-clause-holds c =
    limits_as c.args.seen.now c.args.word c.requires.holds c.requires.passes location c.args.place (sym c.in-Location.ensures) c.add_location.ensures

pub returns-in-Action-clause-holds : goal.returns-in-Action-clause-holds
unfolding seen_with_kind
returns-in-Action-clause-holds c =
    limits_as c.args.seen.now c.args.word c.requires.holds c.requires.passes action c.args.place (sym c.in-Action.ensures) c.add_action.ensures

pub returns-in-Edge-clause-holds : goal.returns-in-Edge-clause-holds
unfolding seen_with_kind
returns-in-Edge-clause-holds c =
    limits_as c.args.seen.now c.args.word c.requires.holds c.requires.passes edge c.args.place (sym c.in-Edge.ensures) c.add_edge.ensures

pub returns-in-Start-clause-holds : goal.returns-in-Start-clause-holds
unfolding seen_with_kind
returns-in-Start-clause-holds c =
    limits_as c.args.seen.now c.args.word c.requires.holds c.requires.passes start c.args.place (sym c.in-Start.ensures) c.add_start.ensures
