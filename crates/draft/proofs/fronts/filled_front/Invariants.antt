-- The words so far, before those of the rows that are left, are those of all rows.
use Rattle.draft.proofs.FrontLaws.{RowsAt}
use Rattle.draft.proofs.fronts.filled_front.Given as goal

abbrev pub invariant-loop-i : goal.invariant-loop-i
invariant-loop-i l = RowsAt l.fn.clocks.count l.zone l.i l.bounds.items
