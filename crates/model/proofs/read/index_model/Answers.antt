-- What the pass leaves decides the answer; the start zones of a file that nothing stops can be tightened.
use Rattle.std.proofs.Common.{refl, ap, ◌∙◌, arith, Err}
use Rattle.model.specs.Index.{scanned}
use Rattle.std.proofs.lemmas.Result.{err_from_is_err_and}
use Rattle.model.proofs.Limits.{limits-nothing}
use Rattle.model.proofs.Answering.{start-tightens, returned, read-stopped, read-whole}
use Rattle.model.proofs.read.index_model.Goals as goal

pub returns-in_err-seen : goal.returns-in_err-seen
unfolding scanned
returns-in_err-seen c =
    let handed = err_from_is_err_and c.from_residual.result c.from_residual.ensures.1 in
    let p = returned c.args.list.now c.args.model.now (omega arith) _ c.in_err-seen.ensures.passes c.from_residual.result
    (handed.1 ∙ ap Err handed.2 ∙ read-stopped _ _ _) in
    record { answers = p.0; indexed = p.1.0; leaves = p.1.1 }

pub scan-requires : goal.scan-requires
scan-requires c = limits-nothing

pub bounds-model-seen : goal.bounds-model-seen
unfolding scanned
bounds-model-seen c =
    let limits = c.in_ok-seen.ensures.holds in
    let start = limits.start in
    omega arith

pub tighten-initial-requires : goal.tighten-initial-requires
unfolding scanned
tighten-initial-requires c =
    start-tightens c.args.list.now c.args.model.now (omega arith) _ _ c.in_ok-seen.ensures.passes refl refl c.meet.ensures

pub returns : goal.returns
unfolding scanned
returns c =
    let p = returned c.args.list.now c.args.model.now (omega arith) _ c.in_ok-seen.ensures.passes c.whole_read.result
    (c.whole_read.ensures ∙ read-whole _ _ _ c.meet.ensures c.tighten-initial.ensures) in
    record { answers = p.0; indexed = p.1.0; leaves = p.1.1 }
