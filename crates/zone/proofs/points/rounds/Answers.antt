-- What the clocks read is low enough for one round more.
use Rattle.std.proofs.Common.{◌≡◌, ◌-◌, arith}
use Rattle.zone.proofs.PointCode.{rounds_begin, rounds-low, rounds-more}
use Rattle.zone.proofs.points.rounds.Goals as goal

pub loop-init : goal.loop-init
loop-init c = (omega arith, rounds_begin c.args.clocks.count c.args.zone c.raise-reads.ensures)

pub round-reads-requires : goal.round-reads-requires
round-reads-requires c =
    let low = rounds-low c.args.clocks.count c.args.zone c.loop.counter c.loop.invariant.1 c.requires c.args.clocks.few (omega arith) in
    (c.requires, omega arith, omega arith, low (omega arith))

pub loop-preserved : goal.loop-preserved
loop-preserved c =
    (omega arith, rounds-more c.args.clocks.count c.args.zone c.loop.counter c.loop.invariant.1 (omega arith) c.round-reads.ensures)

pub returns : goal.returns
returns c =
    let e : c.loop.counter - 1 ≡ c.args.clocks.count - 1 = omega arith in
    rw e at c.loop.invariant.1
