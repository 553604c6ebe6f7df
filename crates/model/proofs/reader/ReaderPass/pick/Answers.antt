-- A bound that passes its checks has its cell in the table, and changes its zone alone.
use Rattle.model.specs.Scan.{seen_with, seen_with_kind}
use Rattle.model.specs.Index.{kept_with, kept_with_kind}
use Rattle.model.proofs.Limits.{bound_cell}
use Rattle.model.proofs.reader.ReaderPass.pick.Goals as goal

pub add_bound-requires : goal.add_bound-requires
add_bound-requires c =
    let good = c.good_bound.ensures c.if-not-good_bound.false in
    bound_cell c.args.seen.now c.args.word c.requires good.1 good.0

pub returns : goal.returns
unfolding seen_with seen_with_kind kept_with kept_with_kind
returns c =
    let good = c.good_bound.ensures c.if-not-good_bound.false in
    record { passes = good.1; stays = λ p. rw good.0; keeps = λ p. rw (good.0, c.add_bound.ensures) }
