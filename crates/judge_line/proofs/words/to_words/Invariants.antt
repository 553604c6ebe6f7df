-- After k turns the first k cells are the words of the first k fours.
use Rattle.std.proofs.Common.{◌≡◌, map, take}
use Rattle.std.specs.Int.{w32, from_be_bytes}
use Rattle.judge_line.proofs.words.to_words.Given as goal

abbrev pub invariant-loop-k : goal.invariant-loop-k
invariant-loop-k l = take l.k l.words ≡ map (from_be_bytes w32) (take l.k l.fours)
