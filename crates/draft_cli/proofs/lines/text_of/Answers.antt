-- The lines of all words have been made.
use Rattle.std.proofs.Common.{arith}
use Rattle.draft_cli.proofs.LineLaws.{text_is}
use Rattle.draft_cli.proofs.lines.text_of.Goals as goal

pub returns : goal.returns
returns c = text_is _ _ c.loop-k.lines c.loop-k.k (omega arith) c.loop-k.invariant c.as_flattened.ensures.value
