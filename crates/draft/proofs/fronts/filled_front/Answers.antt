use Rattle.std.proofs.Common.{◌≡◌, ◌+◌, ◌*◌, ◌-◌, suc, ◌∙◌, arith, rules}
use Rattle.draft.proofs.FrontLaws.{rows-started, rows-ended, row-refused, row-added}
use Rattle.draft.proofs.fronts.filled_front.Goals as goal

pub loop-i-init : goal.loop-i-init
loop-i-init c = rows-started c.args.clocks.count c.args.zone c.new-bounds.ensures

pub returns-in_err-add_row : goal.returns-in_err-add_row
returns-in_err-add_row c =
    let many : c.loop-i.i * 5 + (c.args.clocks.count + 1) - c.loop-i.i * 5 ≡ suc c.args.clocks.count = omega arith in
    c.from_residual.ensures
    ∙ row-refused c.loop-i.invariant (omega (arith, c.loop-i-test.true)) c.args.clocks.few (search rules) (rw many at c.in_err-add_row.ensures.adds) c.args.location

pub loop-i-preserved : goal.loop-i-preserved
loop-i-preserved c =
    let many : c.loop-i.i * 5 + (c.args.clocks.count + 1) - c.loop-i.i * 5 ≡ suc c.args.clocks.count = omega arith in
    row-added c.loop-i.invariant (omega (arith, c.loop-i-test.true)) c.args.clocks.few (search rules) (rw many at c.in_ok-add_row.ensures.adds)
    c.in_ok-add_row.ensures.few

pub returns : goal.returns
returns c = rows-ended c.loop-i.invariant (omega (arith, c.loop-i-test.false)) c.args.location
