use Rattle.std.proofs.Common.{◌∙◌, sym}
use Rattle.draft.proofs.RoundCode.{round_begin, round-target, round-same, round-next, round-end}
use Rattle.draft.proofs.explored.Explored.round.Goals as goal
use Rattle.draft.proofs.explored.Explored.round.Goals.{then-not-self-l+then-v-values, then-not-self-l+else-v-values, else-not-self-l}

pub loop-n-init : goal.loop-n-init
loop-n-init c = round_begin _ _ _ c.args.values.now.fits

pub loop-n-preserved : goal.loop-n-preserved
loop-n-preserved c =
    let i = c.loop-n.invariant in
    let is = c.node-item.is in
    elim c.if-not-self-l.branch [
      | then-not-self-l+then-v-values w ↦
          rw (w.list-is, w.changed-is)
          (round-next _ _ i c.loop-n-test.true is w.if-not-self-l.true (rw w.deref.ensures.0 at w.largest-v.ensures.0) w.largest-v.ensures.1)
      | then-not-self-l+else-v-values w ↦
          rw (w.list-is, w.changed-is)
          (round-same _ _ i c.loop-n-test.true is w.if-not-self-l.true (rw w.deref.ensures.0 at w.largest-v.ensures.0) w.if-v-values.false)
      | else-not-self-l w ↦ rw (w.list-is, w.changed-is) (round-target _ _ i c.loop-n-test.true is w.if-not-self-l.false)
    ]

pub returns-then-changed : goal.returns-then-changed
returns-then-changed c = round-end _ _ c.loop-n.invariant c.loop-n-test.false

pub returns-else-changed : goal.returns-else-changed
returns-else-changed c = sym (round-end _ _ c.loop-n.invariant c.loop-n-test.false) ∙ c.loop-n.invariant.same c.if-changed.false
