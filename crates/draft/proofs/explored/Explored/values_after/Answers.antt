use Rattle.draft.proofs.RoundCode.{rounds_begin, rounds-next, rounds-still, rounds-end}
use Rattle.draft.proofs.explored.Explored.values_after.Goals as goal

pub loop-n-init : goal.loop-n-init
loop-n-init c = rounds_begin _ _ _

pub returns-in_default : goal.returns-in_default
returns-in_default c = rounds-still _ _ c.loop-n.invariant c.in_default.ensures

pub loop-n-preserved : goal.loop-n-preserved
loop-n-preserved c = rounds-next _ _ c.loop-n.invariant c.loop-n-test.true c.in-Some.next.list c.in-Some.ensures c.in-Some.next.fits

pub returns : goal.returns
returns c = rounds-end _ _ c.loop-n.invariant c.loop-n-test.false
