-- The model's refusal is handed on, and one that is accepted is drafted.
use Rattle.std.proofs.lemmas.Result.{err_from_is_err_and}
use Rattle.judge.proofs.Answering.{ModelAccepted, model-accepted}
use Rattle.draft.proofs.DraftCall.{refused-model, asked}
use Rattle.draft.proofs.call.draft.Goals.{In_ok-read}
use Rattle.draft.proofs.call.draft.Goals as goal

accepted : (c : In_ok-read) → ModelAccepted c.args.model.now c.in_ok-read.read c.index_model.new.model
accepted c = model-accepted c.args.model.now c.in_ok-read.read c.index_model.new.model c.in_ok-read.ensures.answers c.in_ok-read.ensures.indexed

pub returns-in_err-read : goal.returns-in_err-read
returns-in_err-read c =
    let p = err_from_is_err_and c.from_residual.result c.from_residual.ensures.1 in
    let told = refused-model c.args.model.now c.args.rounds c.args.lent.now _ c.in_err-read.ensures.answers in
    rw (p.1, p.2) (record { drafts = told.0; certifies = told.1 })

pub invariant_of-source : goal.invariant_of-source
invariant_of-source c = record { asked = asked (accepted (goal.at.invariant_of-source c).In_ok-read) }

pub returns : goal.returns
returns c =
    let a = accepted (goal.at.returns c).In_ok-read in
    record { drafts = c.drafted.ensures.drafts _ a.reads a.kept; certifies = c.drafted.ensures.certifies _ a.reads a.kept }
