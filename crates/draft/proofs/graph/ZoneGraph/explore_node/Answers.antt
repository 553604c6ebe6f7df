use Rattle.std.proofs.Common.{refl, ◌∙◌, arith}
use Rattle.std.proofs.lemmas.List.{get_or_default}
use Rattle.zone.proofs.Sizes.{tightens-fewer, read-tightens, tightens-zone_read}
use Rattle.draft.specs.Nodes.{no_node, fronts_of}
use Rattle.judge.proofs.ReachSizes.{waited_tightens}
use Rattle.draft.proofs.ExploreNodes.{node-target, node-rows}
use Rattle.draft.proofs.graph.ZoneGraph.explore_node.Goals as goal

pub returns-then-source-l-clause-finds : goal.returns-then-source-l-clause-finds
returns-then-source-l-clause-finds c =
    let same = rw c.deref.ensures.0 at (get_or_default c.deref.result.now c.args.n c.index-deref-n.result no_node (rw c.deref.ensures.0 c.requires.0)) in
    node-target c.args.source.now.model.now _ (fronts_of c.args.self.now.nodes.items) (rw (c.deref.ensures.0, same) at c.if-source-l.true) c.new.ensures

pub waited-waited-requires : goal.waited-waited-requires
waited-waited-requires c =
    let asked = c.args.source.now.asked in
    let same = rw c.deref.ensures.0 at (get_or_default c.deref.result.now c.args.n c.index-deref-n.result no_node (rw c.deref.ensures.0 c.requires.0)) in (
      rw c.zone.ensures (tightens-zone_read _ _),
      rw (c.deref.ensures.0, same) (tightens-fewer 1 3 _ (omega arith) (asked.invariants _ (c.requires.1.at c.args.n c.requires.0))),
    )

pub rows-requires : goal.rows-requires
rows-requires c =
    let asked = c.args.source.now.asked in
    let same = rw c.deref.ensures.0 at (get_or_default c.deref.result.now c.args.n c.index-deref-n.result no_node (rw c.deref.ensures.0 c.requires.0)) in
    let there = c.requires.1.at c.args.n c.requires.0 in (
      rw (c.waited-waited.ensures, c.zone.ensures, c.deref.ensures.0, same) (waited_tightens (read-tightens _ _) (asked.invariants _ there)),
      rw (c.deref.ensures.0, same) there,
    )

pub returns-clause-finds : goal.returns-clause-finds
returns-clause-finds c =
    let same = rw c.deref.ensures.0 at (get_or_default c.deref.result.now c.args.n c.index-deref-n.result no_node (rw c.deref.ensures.0 c.requires.0)) in
    rw (c.deref.ensures.0, same) at c.rows.ensures.finds
    ∙ node-rows c.args.source.now.model.now _ (fronts_of c.args.self.now.nodes.items) (rw (c.deref.ensures.0, same) at c.if-source-l.false)
    (rw (c.deref.ensures.0, same) at c.zone.ensures) refl (rw (c.deref.ensures.0, same) at c.waited-waited.ensures)
