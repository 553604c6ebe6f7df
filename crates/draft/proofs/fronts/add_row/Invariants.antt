-- The words so far, before those of the bounds that are left, are those of all bounds of the row.
use Rattle.draft.proofs.FrontLaws.{TakenAt}
use Rattle.draft.proofs.fronts.add_row.Given as goal

abbrev pub invariant-loop-j : goal.invariant-loop-j
invariant-loop-j l = TakenAt l.i l.row l.initial.bounds.items l.j l.bounds.items
