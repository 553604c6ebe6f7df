-- The refusal of the bytes is handed on.
use Rattle.judge_line.proofs.Printing.{answers_refusal}
use Rattle.judge_line.proofs.program.judged.Goals as goal

pub returns-in_err-check_bytes : goal.returns-in_err-check_bytes
returns-in_err-check_bytes c = answers_refusal _ _ _ c.in_err-check_bytes.ensures c.from_residual.ensures.1
