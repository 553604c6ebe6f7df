use Rattle.std.proofs.Common.{sym, ◌∙◌, rules}
use Rattle.draft.proofs.FrontLaws.{row-ended, skipped, put, too_wide}
use Rattle.draft.proofs.fronts.add_row.Goals as goal
use Rattle.draft.proofs.fronts.add_row.Goals.{then-i-j+else-not-is_narrow, else-i-j}

pub returns-then-not-is_narrow-clause-adds : goal.returns-then-not-is_narrow-clause-adds
returns-then-not-is_narrow-clause-adds c =
    too_wide c.loop-j.invariant c.loop-j-test.true (search rules) c.if-i-j.true (sym c.is_narrow.ensures ∙ c.if-not-is_narrow.true)

pub loop-j-preserved : goal.loop-j-preserved
loop-j-preserved c =
    elim c.if-i-j.branch [
      | then-i-j+else-not-is_narrow w ↦
          rw (w.bounds-is, w.push.ensures.items)
          (put c.loop-j.invariant c.loop-j-test.true (search rules) w.if-i-j.true w.bound_word.result w.bound_word.ensures
          (sym w.is_narrow.ensures ∙ w.if-not-is_narrow.false))
      | else-i-j w ↦ rw w.bounds-is (skipped c.loop-j.invariant c.loop-j-test.true (search rules) w.if-i-j.false)
    ]

pub returns-clause-adds : goal.returns-clause-adds
returns-clause-adds c = row-ended c.loop-j.invariant c.loop-j-test.false
