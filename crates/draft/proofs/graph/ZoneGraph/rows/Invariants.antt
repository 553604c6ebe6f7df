-- Before each action, the rest of them gives what all actions give.
use Rattle.std.proofs.Common.{◌≡◌, ◌+◌, get_or}
use Rattle.draft.proofs.ExploreCode.{AtAction}
use Rattle.draft.proofs.graph.ZoneGraph.rows.Given as goal

abbrev pub invariant-loop-a : goal.invariant-loop-a
invariant-loop-a l =
    let x = l.source.model.now.index in
    AtAction l.source.model.now l.waited (get_or x.actions l.l 0) (get_or x.actions (l.l + 1) 0) l.initial.self.nodes.items l.self.nodes.items l.rows.items
    l.a-iterator.start
    × (l.a-iterator.end ≡ get_or x.actions (l.l + 1) 0)
