-- What is printed are the lines of the draft, or the line of the refusal.
use Rattle.std.proofs.Common.{rules, Ok, Err}
use Rattle.answers.specs.Refusals.{answer_of}
use Rattle.draft_cli.proofs.ProgramLaws.{says}
use Rattle.draft_cli.proofs.DraftingProgramASKED_BYTES.print.Goals as goal

pub returns-in-Ok : goal.returns-in-Ok
unfolding answer_of
returns-in-Ok g c = says _ _ _ _ (Ok c.in-Ok.length) _ _ _ (search rules) c.in-Ok.ensures.drafts c.text_of.ensures c.write_all.ensures.bytes

pub returns-in-Err : goal.returns-in-Err
unfolding answer_of
returns-in-Err g c = says _ _ _ c.as_bytes.result.now (Err c.in-Err.refusal) _ _ _ (search rules) c.in-Err.ensures.drafts (search rules) c.write_all-in-Err.ensures.bytes
