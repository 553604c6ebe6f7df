-- A refusal is handed on, and a draft fits.
use Rattle.draft_cli.proofs.ProgramLaws.{refused-input, drafted-fits}
use Rattle.draft_cli.proofs.program.drafted.Goals as goal

pub returns-in_err-check_bytes-clause-drafts : goal.returns-in_err-check_bytes-clause-drafts
returns-in_err-check_bytes-clause-drafts c = refused-input _ _ _ _ c.in_err-check_bytes.ensures c.from_residual.ensures.1

pub returns-clause-fits : goal.returns-clause-fits
returns-clause-fits c = drafted-fits _ _ _ _ _ c.draft.ensures.drafts
