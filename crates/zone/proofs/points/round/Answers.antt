-- What is asked so far is low enough for one clock more.
use Rattle.std.proofs.Common.{◌≡◌, refl, length, length, rules, arith}
use Rattle.std.proofs.lemmas.List.{get_or-take, length-take}
use Rattle.zone.specs.Points.{round_below, round_of}
use Rattle.zone.proofs.PointCode.{round-low, round-more}
use Rattle.zone.proofs.points.round.Goals as goal

pub loop-i-init : goal.loop-i-init
unfolding round_below
loop-i-init c = refl

pub raise-least-requires : goal.raise-least-requires
raise-least-requires c = (
  c.requires.0,
  omega arith,
  c.requires.1,
  c.requires.2,
  rw (get_or-take c.args.n c.args.reads.clocks c.loop-i.i 0 (omega arith)) (c.requires.3.at c.loop-i.i),
  round-low c.loop-i.i c.args.n c.args.zone c.args.reads.clocks c.loop-i.invariant c.requires.0 c.requires.2 c.requires.3,
)

pub loop-i-preserved : goal.loop-i-preserved
loop-i-preserved c =
    round-more c.loop-i.i c.args.n c.args.zone c.args.reads.clocks c.loop-i.invariant
    (rw (get_or-take c.args.n c.args.reads.clocks c.loop-i.i 0 (omega arith)) at c.raise-least.ensures)

pub returns : goal.returns
unfolding round_of
returns c =
    let five : length c.args.reads.clocks ≡ 5 = search rules in
    let e : c.loop-i.i ≡ c.args.n = omega (arith, length-take c.args.n c.args.reads.clocks) in
    rw e at c.loop-i.invariant
