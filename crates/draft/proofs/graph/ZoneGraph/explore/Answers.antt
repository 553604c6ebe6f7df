use Rattle.std.proofs.Common.{◌<◌, length, length-set, ◌∙◌, arith}
use Rattle.std.proofs.Math.Nat.{le_trans}
use Rattle.std.proofs.lemmas.List.{get_or_default}
use Rattle.std.proofs.lemmas.Result.{err_from_is_err_and}
use Rattle.draft.specs.Nodes.{no_node}
use Rattle.draft.proofs.ExploreCode.{keeps-length}
use Rattle.draft.proofs.ExploreNodes.{start-is, start-stops, nodes_begin, nodes-end, node-stops, node-next, refilled}
use Rattle.draft.proofs.graph.ZoneGraph.explore.Goals as goal

pub returns-in_err-place-clause-finds : goal.returns-in_err-place-clause-finds
returns-in_err-place-clause-finds c =
    let p = err_from_is_err_and c.from_residual.result c.from_residual.ensures.1 in
    let m = c.args.source.now.model.now in
    rw (p.1, p.2)
    (start-stops m c.args.source.now.asked c.args.initial _
    (c.in_err-place.ensures.places ∙ start-is m c.args.source.now.asked c.args.initial c.front-front.ensures c.requires))

pub loop-n-init : goal.loop-n-init
loop-n-init c =
    let m = c.args.source.now.model.now in
    nodes_begin m c.args.source.now.asked c.args.initial _ _
    (c.in_ok-place.ensures.places ∙ start-is m c.args.source.now.asked c.args.initial c.front-front.ensures c.requires)

pub returns-then-len-n-clause-finds : goal.returns-then-len-n-clause-finds
returns-then-len-n-clause-finds c = nodes-end _ _ c.loop-n.invariant (omega (arith, c.if-len-n.true, c.len.ensures))

pub returns-in_err-self-clause-finds : goal.returns-in_err-self-clause-finds
returns-in_err-self-clause-finds c =
    let p = err_from_is_err_and c.from_residual-in_err-self.result c.from_residual-in_err-self.ensures.1 in
    rw (p.1, p.2)
    (node-stops _ _ c.loop-n.invariant c.loop-n-test.true (omega (arith, c.if-len-n.false, c.len.ensures)) _ c.in_err-self.ensures.finds)

pub loop-n-preserved : goal.loop-n-preserved
loop-n-preserved c =
    let after = c.explore_node.new.self.nodes.items in
    let put = c.deref_mut.ensures in
    let there : c.loop-n.n < length c.loop-n.self.nodes.items = omega (arith, c.if-len-n.false, c.len.ensures) in
    let same = get_or_default after c.loop-n.n c.index-deref_mut-n.result no_node (le_trans there (keeps-length after c.in_ok-self.ensures.keeps)) in
    node-next _ _ c.loop-n.invariant c.loop-n-test.true there _ _ _ c.in_ok-self.ensures.keeps (rw put.value at put.fits) c.in_ok-self.ensures.finds
    (rw (put.value, same) (refilled after _ (length-set after c.loop-n.n _)))

pub returns-clause-finds : goal.returns-clause-finds
returns-clause-finds c = nodes-end _ _ c.loop-n.invariant (let few = c.loop-n.invariant.few in let all = c.loop-n-test.false in omega arith)
