-- The parts, one after the other, are the line.
use Rattle.std.proofs.Common.{rules}
use Rattle.judge_line.proofs.Lines.{accepted_joined}
use Rattle.judge_line.proofs.text.accepted_line.Goals as goal

pub returns : goal.returns
returns c =
    accepted_joined _ (search rules) (search rules) (search rules)
    c.new-text.ensures
    c.push_str.ensures.bytes
    (search rules)
    c.push_str-3.ensures.bytes
    (search rules)
    c.push_str-5.ensures.bytes
    (search rules)
    c.push_str-7.ensures.bytes
