-- One pass more; each pass at most doubles the size of a bound.
use Rattle.std.proofs.Common.{◌≡◌, refl, sym, ap, subst, ◌∙◌, ◌^◌, add-one, arith}
use Rattle.zone.specs.Squares.{Small, passed, passed_below}
use Rattle.zone.proofs.Sizes.{small-passes}
use Rattle.zone.proofs.zones.Zone.tighten.Goals as goal

pub loop-m-init : goal.loop-m-init
unfolding passed_below
loop-m-init c = refl

pub passed-self-requires : goal.passed-self-requires
passed-self-requires c =
    (omega arith, subst (Small (2 ^ 27)) (sym c.loop-m.invariant) (small-passes c.loop-m.m c.args.self (omega arith) c.requires))

pub loop-m-preserved : goal.loop-m-preserved
unfolding passed_below
loop-m-preserved c = c.passed-self.ensures ∙ rw (add-one c.loop-m.m) (ap (passed c.loop-m.m) c.loop-m.invariant)

pub returns : goal.returns
returns c = let e : c.loop-m.m ≡ 5 = omega arith in rw e at c.loop-m.invariant
