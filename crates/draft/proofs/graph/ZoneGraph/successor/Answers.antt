use Rattle.std.proofs.Common.{◌≡◌, refl, sym, ◌∙◌, arith}
use Rattle.std.proofs.lemmas.Result.{err_from_is_err_and}
use Rattle.zone.specs.Stores.{zone_at}
use Rattle.zone.proofs.Sizes.{tightens-fewer}
use Rattle.judge.proofs.ReachSizes.{reset-tightens}
use Rattle.draft.specs.Nodes.{fronts_of}
use Rattle.draft.specs.Exploration.{landed_square}
use Rattle.draft.proofs.ExploreCode.{successor-placed}
use Rattle.draft.proofs.graph.ZoneGraph.successor.Goals.{After-place, then-inside, else-inside}
use Rattle.draft.proofs.graph.ZoneGraph.successor.Goals as goal

pub common-landed-requires : goal.common-landed-requires
common-landed-requires c = (
  reset-tightens 1 _ c.reset-landings.ensures c.requires.0,
  rw c.lands_at-to.ensures.0 (tightens-fewer 1 3 _ (omega arith) (c.args.source.now.asked.invariants _ c.requires.1)),
)

landed-is : (c : After-place) → c.if-inside.landed ≡ landed_square c.reset-landings.result (zone_at c.args.source.now.model.now.zones c.lands_at-to.result)
unfolding landed_square
landed-is c =
    elim c.if-inside.branch [
      | then-inside w ↦ w.landed-is ∙ rw (sym c.inside-inside.ensures ∙ w.if-inside.true) refl
      | else-inside w ↦ w.landed-is ∙ w.common-landed.ensures ∙ rw (sym c.inside-inside.ensures ∙ w.if-inside.false) refl
    ]

pub returns-in_err-number-clause-finds : goal.returns-in_err-number-clause-finds
returns-in_err-number-clause-finds c =
    let p = err_from_is_err_and c.from_residual.result c.from_residual.ensures.1 in
    rw (p.1, p.2)
    (successor-placed c.args.source.now.model.now c.args.reach c.args.edge (fronts_of c.args.self.now.nodes.items) c.mask_of.ensures c.reset-landings.ensures
    c.lands_at-to.ensures.0 refl c.inside-inside.ensures (landed-is (goal.at.returns-in_err-number-clause-finds c).After-place) c.front-front.ensures _ c.in_err-number.ensures.places)

pub returns-clause-finds : goal.returns-clause-finds
returns-clause-finds c =
    rw c.code_of.ensures
    (successor-placed c.args.source.now.model.now c.args.reach c.args.edge (fronts_of c.args.self.now.nodes.items) c.mask_of.ensures c.reset-landings.ensures
    c.lands_at-to.ensures.0 refl c.inside-inside.ensures (landed-is (goal.at.returns-clause-finds c).After-place) c.front-front.ensures _ c.in_ok-number.ensures.places)
