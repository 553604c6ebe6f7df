use Rattle.std.proofs.Common.{refl, ◌∙◌}
use Rattle.draft.specs.Nodes.{placed_in, known_or}
use Rattle.draft.proofs.NodeLaws.{known-is}
use Rattle.draft.proofs.graph.ZoneGraph.place.Goals as goal
use Rattle.draft.proofs.graph.ZoneGraph.place.Goals.{in-Some+in_default-find, in_default}

pub returns-in-Some-find-clause-places : goal.returns-in-Some-find-clause-places
unfolding placed_in known_or
returns-in-Some-find-clause-places c =
    let known = c.in-Some-find.ensures.finds ∙ known-is c.in-Some.front c.args.self.now.nodes.items in
    rw (c.in-Some.is, ← known) refl

pub returns-clause-places : goal.returns-clause-places
unfolding placed_in known_or
returns-clause-places c =
    elim c.match-front.branch [
      | in-Some+in_default-find w ↦
          let known = w.find.ensures.finds ∙ known-is w.in-Some.front c.args.self.now.nodes.items in
          c.add.ensures.adds ∙ rw (w.in-Some.is, ← known, w.in_default-find.is) refl
      | in_default w ↦ c.add.ensures.adds ∙ rw w.in_default.is refl
    ]
