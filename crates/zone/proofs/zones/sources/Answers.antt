-- One source more.
use Rattle.std.proofs.Common.{◌∙◌, refl, sym, ℕ, arith}
use Rattle.zone.specs.Squares.{source}
use Rattle.zone.proofs.Loops.{list_of-length, list_of-at, unfilled, stored, all-filled}
use Rattle.zone.proofs.zones.sources.Goals as goal

pub loop-clock-init : goal.loop-clock-init
loop-clock-init c = unfilled refl

pub loop-clock-preserved : goal.loop-clock-preserved
loop-clock-preserved c =
    stored c.loop-clock.invariant _ (omega arith)
    (c.source_of.ensures.0 ∙ sym (list_of-at {A = ℕ} 0 (source c.args.mask) 5 c.loop-clock.clock (omega arith)))

pub returns : goal.returns
returns c = all-filled c.loop-clock.invariant (list_of-length _ 5 0) (omega arith)
