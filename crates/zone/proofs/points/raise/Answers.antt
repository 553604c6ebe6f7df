-- One clock more is raised.
use Rattle.std.proofs.Common.{◌≡◌, ◌∙◌, sym, ap, max, length, rules, arith}
use Rattle.zone.specs.Points.{least_second}
use Rattle.zone.specs.Squares.{cell}
use Rattle.zone.proofs.Loops.{unfilled, stored, all-filled}
use Rattle.zone.proofs.PointCode.{raised-length, raised_at}
use Rattle.zone.proofs.points.raise.Goals as goal

pub loop-j-init : goal.loop-j-init
loop-j-init c = let size : length c.args.reads.clocks ≡ 5 = search rules in unfilled size

pub raised-requires : goal.raised-requires
raised-requires c =
    let reads = c.loop-j.invariant.rest c.loop-j.j (omega arith) in
    (c.requires.0.at _, c.requires.2, c.requires.3, c.requires.4, omega (arith, reads, c.requires.5.at c.loop-j.j))

pub loop-j-preserved : goal.loop-j-preserved
loop-j-preserved c =
    let law = raised_at c.args.scale c.args.zone c.args.i c.args.first c.args.reads.clocks c.loop-j.j (omega arith) in
    stored c.loop-j.invariant _ (omega arith)
    (c.raised.ensures
    ∙ ap (λ n. max n (least_second c.args.scale (cell c.args.zone c.args.i c.loop-j.j) c.args.first)) (c.loop-j.invariant.rest c.loop-j.j (omega arith))
    ∙ sym law)

pub returns : goal.returns
returns c = all-filled c.loop-j.invariant (raised-length _ _ _ _ _) (omega arith)
