-- The parts, one after the other, are the line.
use Rattle.std.proofs.Common.{rules}
use Rattle.judge_line.proofs.Lines.{refused_joined}
use Rattle.judge_line.proofs.text.refused_line.Goals as goal

pub returns : goal.returns
returns c =
    refused_joined _ _ (search rules) (search rules)
    c.new-text.ensures
    c.push_str.ensures.bytes
    (search rules)
    c.push_str-3.ensures.bytes
    (search rules)
    c.push_str-5.ensures.bytes
