use Rattle.std.proofs.Common.{sym, ap, ◌∙◌, Err, arith}
use Rattle.pass.proofs.PassLaws.{picked, left, pass-end, pass-lacks, pass-stop, pass-pick, pass-go}
use Rattle.pass.proofs.scan.Goals as goal

pub returns-in-Err-clause-passes : goal.returns-in-Err-clause-passes
returns-in-Err-clause-passes g c =
    rw (left _ _ _ c.pick.ensures c.if-pick.false)
    (sym (c.loop-place.invariant.pass ∙ pass-stop _ _ _ _ _ c.loop-place-test.true c.at.result
    (sym c.check.ensures ∙ c.in-Err.is ∙ ap Err (sym c.at.ensures.reason)) c.at.ensures.place))

pub loop-place-preserved-then-pick : goal.loop-place-preserved-then-pick
loop-place-preserved-then-pick g c =
    record {
      holds = c.loop-place.invariant.holds;
      pass = c.loop-place.invariant.pass ∙ pass-pick _ _ _ _ _ c.loop-place-test.true (picked _ _ _ c.pick.ensures c.if-pick.true);
    }

pub loop-place-preserved : goal.loop-place-preserved
loop-place-preserved g c =
    record {
      holds = c.take.ensures.holds;
      pass = c.loop-place.invariant.pass
          ∙ rw (c.take.ensures.seen, c.take.ensures.kept, left _ _ _ c.pick.ensures c.if-pick.false) (pass-go _ _ _ _ _ c.loop-place-test.true (sym c.check.ensures ∙ c.in_default.is));
    }

pub returns-in-Err-check_end-clause-passes : goal.returns-in-Err-check_end-clause-passes
returns-in-Err-check_end-clause-passes g c =
    let f = c.at-in-Err-check_end in
    rw c.close.ensures (sym (c.loop-place.invariant.pass ∙ pass-lacks _ _ _ _ _ (omega arith) f.result
    (sym c.check_end.ensures ∙ c.in-Err-check_end.is ∙ ap Err (sym f.ensures.reason)) f.ensures.place))

pub returns-clause-passes : goal.returns-clause-passes
returns-clause-passes g c =
    rw c.close.ensures (sym (c.loop-place.invariant.pass ∙ pass-end _ _ _ _ _ (omega arith) (sym c.check_end.ensures ∙ c.in_default-check_end.is)))
