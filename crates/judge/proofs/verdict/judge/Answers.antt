-- `judge`: the model's refusal is the answer, or that of `judge_kept` is.
use Rattle.judge.proofs.Answering.{model-accepted, with_demands}
use Rattle.judge.proofs.Handing.{model-handed}
use Rattle.judge.proofs.verdict.judge.Goals as goal

pub returns-in_default : goal.returns-in_default
returns-in_default c = with_demands _ _ _ (model-handed _ _ c.unwrap_err.result (rw c.unwrap_err.ensures at c.index_model-answer.ensures.answers))

pub judge_kept-requires : goal.judge_kept-requires
judge_kept-requires c =
    let a = model-accepted _ _ _ c.in-Ok.ensures.answers c.in-Ok.ensures.indexed in
    record { accepts = a.reads; keeps = a.kept }
