-- One bound more is the tighter of the two.
use Rattle.std.proofs.Common.{◌≡◌, ◌∙◌, ℕ, ◌<◌, length, get_or, arith, rules}
use native.Mathlib.Nat.{div-add-mod'}
use Rattle.zone.specs.Cells.{tighter_of, past_end}
use Rattle.zone.specs.Squares.{met}
use Rattle.zone.specs.declared.zones.Zone.{Zone as Square}
use Rattle.zone.proofs.Loops.{list_of-length, list_of-at, unfilled, stored, filled}
use Rattle.zone.proofs.zones.Zone.meet.Goals as goal

-- a cell is the tighter of the two
both :
    (y z : Square) (p : ℕ) → p < 25 → tighter_of (get_or y.cells p past_end) (get_or z.cells p past_end) ≡ get_or (met y z).cells p past_end
both y z p h = rw (list_of-at past_end _ 25 p h, div-add-mod' p 5)

pub loop-p-init : goal.loop-p-init
loop-p-init c = let size : length c.args.self.cells ≡ 25 = search rules in unfilled size

pub loop-p-preserved : goal.loop-p-preserved
loop-p-preserved c =
    stored c.loop-p.invariant _ (omega arith)
    (c.tighter_of.ensures.picks ∙ rw (c.loop-p.invariant.rest c.loop-p.p (omega arith)) (both c.args.self c.args.other c.loop-p.p (omega arith)))

pub returns : goal.returns
returns c = filled c.loop-p.invariant (list_of-length _ 25 0) (omega arith)
