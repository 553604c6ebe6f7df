use Rattle.std.proofs.Common.{◌≡◌, length, rules, arith}
use Rattle.std.proofs.lemmas.Slice.Zip.{either_empty_from_Zip}
use Rattle.draft.proofs.WritingLaws.{put_none, room_more, put_more, put_all}
use Rattle.draft.proofs.explored.Explored.write_nodes.Goals as goal

pub loop-node-init : goal.loop-node-init
loop-node-init c =
    let nodes : c.into_iter-node-iterator.result.a.rest.now ≡ c.args.self.now.nodes.now = search rules in
    let values : c.into_iter-node-iterator.result.b.rest.now ≡ c.args.values.now.list = search rules in
    let few = c.args.self.now.few in
    let many : length c.args.values.now.list ≡ 256 = search rules in
    rw (nodes, values) ((tt, tt), tt, put_none _ _ c.args.words.now (omega arith))

pub overflow_add-end : goal.overflow_add-end
overflow_add-end c =
    let room = room_more c.args.self.now.nodes.now c.args.values.now.list c.loop-node.invariant.2 c.in-Some.ensures.steps.0 in search rules

pub slice_bounds-write_node-end : goal.slice_bounds-write_node-end
slice_bounds-write_node-end c =
    let room = room_more c.args.self.now.nodes.now c.args.values.now.list c.loop-node.invariant.2 c.in-Some.ensures.steps.0 in search rules

pub loop-node-preserved : goal.loop-node-preserved
loop-node-preserved c =
    let steps = c.in-Some.ensures.steps in
    rw c.size.ensures.is ((tt, tt), tt, put_more _ _ c.loop-node.invariant.2 steps.0 steps.1 (search rules) c.write_node.new.words c.write_node.ensures)

pub returns : goal.returns
returns c = put_all _ _ c.loop-node.invariant.2 (either_empty_from_Zip c.loop-node.node-iterator c.next.new.self c.next.result c.in-None.is c.next.ensures.steps) (search rules)
