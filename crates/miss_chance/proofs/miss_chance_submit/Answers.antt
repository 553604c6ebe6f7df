-- What `load`, `decide` and `put` come to together is a submission.
use Rattle.std.proofs.Common.{◌≡◌, ap, sym, ◌∙◌}
use Rattle.board.proofs.DecisionLaws.{placed, submits}
use Rattle.miss_chance.proofs.miss_chance_submit.Goals as goal
use Rattle.miss_chance.proofs.miss_chance_submit.Goals.{in-Some, in_default}

pub returns : goal.returns
returns c =
    let slots = c.args.slots.now in
    let put : c.match-decision.slots ≡ placed slots c.decide-decision.result.write =
    elim c.match-decision.branch [
      | in-Some w ↦ w.slots-is ∙ w.put.ensures ∙ sym (ap (placed slots) w.in-Some.is)
      | in_default w ↦ w.slots-is ∙ sym (ap (placed slots) w.in_default.is)
    ] in
    submits _ _ _ _ _ _ c.load-lent.ensures c.decide-decision.ensures put
