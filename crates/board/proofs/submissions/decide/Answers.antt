-- 54 to 56, or the judge's answer.
use Rattle.board.proofs.DecisionLaws.{stops, reaches}
use Rattle.board.proofs.submissions.decide.Goals as goal

pub returns-in-Ok : goal.returns-in-Ok
returns-in-Ok c =
    reaches _ _ _ _ _ c.in-Ok.left c.judge.result _ c.in-Ok.ensures c.judge.ensures.answers c.judge.ensures.bounds c.outcome.ensures

pub returns-in-Err : goal.returns-in-Err
returns-in-Err c = stops _ _ _ _ _ _ c.in-Err.refusal _ c.in-Err.ensures c.outcome-in-Err.ensures
