use Rattle.std.proofs.Common.{◌+◌, ◌<◌, get_or, refl, ◌∙◌, arith}
use Rattle.std.proofs.lemmas.Result.{err_from_is_err_and}
use Rattle.draft.proofs.ExploreCode.{actions_begin, actions-end, action-room, action-stops, action-next}
use Rattle.draft.proofs.graph.ZoneGraph.rows.Goals as goal

pub loop-a-init : goal.loop-a-init
loop-a-init c =
    rw (c.into_iter-a-iterator.ensures.into_iter_gives, c.actions_of-a-items.ensures) (actions_begin _ _ _ _ _ c.new-rows.ensures, refl)

pub row-requires : goal.row-requires
row-requires c =
    let i = c.loop-a.invariant in
    let s = c.in-Some.ensures.steps in
    let asked = c.args.source.now.asked in
    let below : c.loop-a.a-iterator.start < get_or c.args.source.now.model.now.index.actions (c.args.l + 1) 0 = omega (arith, s.1.0, i.1) in
    let few = asked.limits _ c.requires.1 in
    (rw s.1.1 (asked.actions _ c.requires.1 _ i.0.from below), c.requires.0, action-room i.0 below (omega arith))

pub loop-a-preserved : goal.loop-a-preserved
loop-a-preserved c =
    let i = c.loop-a.invariant in
    let s = c.in-Some.ensures.steps in
    rw s.1.2
    (action-next i.0 (omega (arith, s.1.0, i.1)) c.in_ok-row.ensures.keeps c.in_ok-row.ensures.grows (rw s.1.1 at c.in_ok-row.ensures.finds), s.0 ∙ i.1)

pub returns-in_err-row-clause-finds : goal.returns-in_err-row-clause-finds
returns-in_err-row-clause-finds c =
    let p = err_from_is_err_and c.from_residual.result c.from_residual.ensures.1 in
    let i = c.loop-a.invariant in
    let s = c.in-Some.ensures.steps in
    rw (p.1, p.2) (action-stops i.0 (omega (arith, s.1.0, i.1)) _ (rw s.1.1 at c.in_err-row.ensures.finds))

pub returns-clause-keeps : goal.returns-clause-keeps
returns-clause-keeps c = c.loop-a.invariant.0.keeps

pub returns-clause-finds : goal.returns-clause-finds
returns-clause-finds c =
    let i = c.loop-a.invariant in
    let s = c.in-None.ensures.steps in
    actions-end i.0 (omega (arith, s.1.0, i.1))
