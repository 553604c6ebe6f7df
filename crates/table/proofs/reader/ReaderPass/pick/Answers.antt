-- A bound that passes its checks goes to the zone of the last node, and changes nothing else.
use Rattle.model.specs.declared.table_kinds.TableKind.TheVariants.{Bound as node_bound}
use Rattle.model.proofs.TableKindLaws.{kind-is}
use Rattle.table.specs.Scan.{seen_with, seen_with_kind}
use Rattle.table.specs.Index.{kept_with, kept_with_kind}
use Rattle.table.proofs.Limits.{bound-asks}
use Rattle.table.proofs.reader.ReaderPass.pick.Goals as goal

pub overflow_sub-seen : goal.overflow_sub-seen
overflow_sub-seen c =
    let good = c.good_bound.ensures c.if-not-good_bound.false in
    (bound-asks _ _ _ c.args.self.now.rows.fits c.requires good.1 (kind-is node_bound _ good.0)).0

pub add_bound-requires : goal.add_bound-requires
add_bound-requires c =
    let good = c.good_bound.ensures c.if-not-good_bound.false in
    (bound-asks _ _ _ c.args.self.now.rows.fits c.requires good.1 (kind-is node_bound _ good.0)).1

pub returns : goal.returns
unfolding seen_with seen_with_kind kept_with kept_with_kind
returns c =
    let good = c.good_bound.ensures c.if-not-good_bound.false in
    let named = kind-is node_bound _ good.0 in
    record { passes = good.1; stays = λ p. rw named; keeps = λ p. rw (named, c.add_bound.ensures) }
