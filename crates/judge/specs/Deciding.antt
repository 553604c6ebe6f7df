-- Algorithm: how the answer comes from those of its parts. Assumes nothing.
use Rattle.std.specs.Prelude.{cond, eqb, Result, Ok}
use Rattle.answers.specs.declared.Reason.TheVariants as reason
use Rattle.answers.specs.declared.Refusal.{Refusal}
use Rattle.answers.specs.Refusals.{refuse}
use Rattle.zone.specs.Squares.{inside?}
use Rattle.zone.specs.declared.zones.Zone.{Zone as Square}
use Rattle.model.specs.declared.index.IndexedModel.{IndexedModel}
use Rattle.table.specs.Nodes.{entry_at}
use Rattle.table.specs.declared.nodes.Node.{Node as Entry}
use Rattle.table.specs.declared.nodes.IndexedTable.{IndexedTable}
use Rattle.acceptance.specs.declared.certificate.Certificate.{Certificate}

-- the last checks, 20 and 21; `initial` is the zone of the start valuations, tightened and not empty
unfoldable pub start_verdict : IndexedModel → IndexedTable → Square → Result Certificate Refusal
start_verdict m k initial =
    let N : Entry = entry_at k.nodes k.start in
    cond (eqb N.location m.index.start)
    (cond (inside? initial N.zone) (Ok (record { b = N.value; whole = k.whole; nodes = k.count })) (refuse reason.StartNotInside k.place))
    (refuse reason.WrongStart k.place)
