-- What a line of the program is as text (document 01, The four calls and their refusals): the line of its answer. Assumes nothing.
use Rattle.std.specs.Prelude.{ℕ, List}
use Rattle.answers.specs.Refusals.{answer_of}
use Rattle.judge_line.specs.Text.{line_of}
use Rattle.judge_line.specs.declared.text.Line.{Line}

-- the text of a line is that of its answer
abbrev pub shown : Line → List ℕ
shown line = line_of (answer_of line.0)
