-- Before each node, exploring the rest gives what exploring all gives.
use Rattle.draft.specs.Exploration.{explored_from}
use Rattle.draft.proofs.ExploreNodes.{AtNode}
use Rattle.draft.proofs.graph.ZoneGraph.explore.Given as goal

abbrev pub invariant-loop-n : goal.invariant-loop-n
invariant-loop-n l = AtNode l.source.model.now l.source.asked (explored_from l.source.model.now l.fn.initial) l.self.nodes.items l.n
