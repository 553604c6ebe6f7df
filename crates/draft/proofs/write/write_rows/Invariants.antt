-- The words of the first p codes are put.
use Rattle.std.proofs.Common.{◌≡◌, map, take}
use Rattle.draft.specs.Writing.{row_word}
use Rattle.draft.proofs.write.write_rows.Given as goal

abbrev pub invariant-loop-p : goal.invariant-loop-p
invariant-loop-p l = take l.p l.words ≡ map row_word (take l.p l.rows)
