-- After k turns the first k cells are the lines of the first k words.
use Rattle.std.proofs.Common.{◌≡◌, map, take}
use Rattle.draft_cli.specs.Text.{word_line}
use Rattle.draft_cli.proofs.lines.text_of.Given as goal

abbrev pub invariant-loop-k : goal.invariant-loop-k
invariant-loop-k l = take l.k l.lines ≡ map word_line (take l.k l.words)
