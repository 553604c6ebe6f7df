-- One cell more is the tighter of the old bound and of the sum through m.
use Rattle.std.proofs.Common.{◌≡◌, ap, sym, ◌∙◌, length, arith, rules}
use Rattle.zone.specs.Cells.{tighter_of, sum}
use Rattle.zone.specs.Squares.{cell}
use Rattle.zone.proofs.Loops.{list_of-length, unfilled, stored, same_place, filled}
use Rattle.zone.proofs.SquareTables.{square-at}
use Rattle.zone.proofs.zones.Zone.passed.Goals as goal

pub loop-i-init : goal.loop-i-init
loop-i-init c = let size : length c.args.self.cells ≡ 25 = search rules in unfilled size

pub loop-j-init : goal.loop-j-init
loop-j-init c = same_place c.loop-i.invariant (omega arith)

pub sum-through-requires : goal.sum-through-requires
sum-through-requires c = (c.requires.1.at _, c.requires.1.at _)

pub loop-j-preserved : goal.loop-j-preserved
loop-j-preserved c =
    let z = c.args.self in
    let m = c.args.m in
    let pass = square-at (λ i j. tighter_of (cell z i j) (sum (cell z i m) (cell z m j))) c.loop-i.i c.loop-j.j (omega arith) (omega arith) in
    same_place
    (stored c.loop-j.invariant _ (omega arith)
    (c.tighter_of.ensures.picks ∙ ap (tighter_of (cell z c.loop-i.i c.loop-j.j)) c.sum-through.ensures ∙ sym pass))
    (omega arith)

pub loop-i-preserved : goal.loop-i-preserved
loop-i-preserved c = same_place c.loop-j.invariant (omega arith)

pub returns : goal.returns
returns c = filled c.loop-i.invariant (list_of-length _ 25 0) (omega arith)
