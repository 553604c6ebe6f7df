-- By whether the lent words are enough for the draft.
use Rattle.std.proofs.Common.{◌∙◌}
use Rattle.draft.proofs.FinishLaws.{drafted-length, too_few, enough}
use Rattle.draft.proofs.call.finish.Goals as goal

pub returns-then-lent-length : goal.returns-then-lent-length
returns-then-lent-length c =
    let size = c.draft_length-length.ensures ∙ drafted-length _ c.args.explored.now.nodes.now c.args.explored.now.few c.args.rounds in
    let told = too_few _ c.args.lent.now size c.if-lent-length.true _ c.at.ensures.reason c.at.ensures.place in
    record { answers = told.0; writes = told.1 }

pub returns : goal.returns
returns c =
    let size = c.draft_length-length.ensures ∙ drafted-length _ c.args.explored.now.nodes.now c.args.explored.now.few c.args.rounds in
    let told = enough _ c.args.lent.now size c.if-lent-length.false (rw (c.values_after-values.ensures, c.min.ensures) at c.write_draft.ensures) in
    record { answers = told.0; writes = told.1 }
