use Rattle.std.proofs.Common.{refl, ◌∙◌}
use Rattle.std.proofs.lemmas.Result.{err_from_is_err_and}
use Rattle.judge.proofs.ReachSizes.{common-tightens}
use Rattle.draft.proofs.ExploreCode.{edges-end, edge-stops, edge-next, row-blocked, row-successors}
use Rattle.draft.proofs.graph.ZoneGraph.row.Goals as goal

pub returns-then-is_empty-clause-finds : goal.returns-then-is_empty-clause-finds
returns-then-is_empty-clause-finds c =
    row-blocked c.args.source.now.model.now c.args.waited c.args.a refl c.common-reach.ensures c.is_empty.ensures _ _ _ c.if-is_empty.true c.push.ensures.items

pub successor-requires : goal.successor-requires
successor-requires c =
    let asked = c.requires.0 in
    let e = c.edges_of-edge-items.ensures in
    (rw c.common-reach.ensures (common-tightens c.requires.1 asked.guard), rw e (asked.lands _ (rw e at c.loop-edge-test.true)))

pub returns-in_err-code-clause-finds : goal.returns-in_err-code-clause-finds
returns-in_err-code-clause-finds c =
    let p = err_from_is_err_and c.from_residual.result c.from_residual.ensures.1 in
    let e = c.edges_of-edge-items.ensures in
    rw (p.1, p.2)
    (edge-stops c.loop-edge.invariant (rw e at c.loop-edge-test.true) _ (rw e at c.in_err-code.ensures.finds)
    ∙ row-successors c.args.source.now.model.now c.args.waited c.args.a refl c.common-reach.ensures c.is_empty.ensures _ c.if-is_empty.false)

pub loop-edge-preserved : goal.loop-edge-preserved
loop-edge-preserved c =
    let e = c.edges_of-edge-items.ensures in
    edge-next c.loop-edge.invariant (rw e at c.loop-edge-test.true) c.in_ok-code.ensures.keeps (rw e at c.in_ok-code.ensures.finds)
    c.push-in-loop-edge.ensures.items

pub returns-clause-finds : goal.returns-clause-finds
returns-clause-finds c =
    let e = c.edges_of-edge-items.ensures in
    edges-end c.loop-edge.invariant (rw e at c.loop-edge-test.false)
    ∙ row-successors c.args.source.now.model.now c.args.waited c.args.a refl c.common-reach.ensures c.is_empty.ensures _ c.if-is_empty.false
