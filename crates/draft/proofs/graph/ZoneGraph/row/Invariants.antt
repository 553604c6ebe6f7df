-- Before each edge, the rest of them gives what all edges give.
use Rattle.draft.specs.Asked.{edges_of}
use Rattle.draft.proofs.ExploreCode.{AtEdge}
use Rattle.draft.proofs.graph.ZoneGraph.row.Given as goal

abbrev pub invariant-loop-edge : goal.invariant-loop-edge
invariant-loop-edge l =
    AtEdge l.source.model.now l.reach (edges_of l.source.model.now l.a) l.initial.self.nodes.items l.initial.rows.items l.self.nodes.items l.rows.items
    l.edge-index
