-- A turn of the loop, and its two ends, as the laws of reading say.
use Rattle.std.proofs.Common.{sym, ap, ◌∙◌, arith}
use Rattle.zone.specs.Reading.{read_from, read_zone}
use Rattle.zone.proofs.WordLaws.{good-first, good-second}
use Rattle.zone.proofs.ReadLaws.{loop-end, loop-bad, loop-good}
use Rattle.zone.proofs.reading.read_zone.Goals as goal

pub returns-then-not-good_bound : goal.returns-then-not-good_bound
unfolding read_zone
returns-then-not-good_bound c =
    loop-bad _ _ _ _ c.loop-at-test.true (sym c.good_bound.ensures ∙ c.if-not-good_bound.true) ∙ sym c.loop-at.invariant

pub add_bound-requires : goal.add_bound-requires
add_bound-requires c =
    let good = sym c.good_bound.ensures ∙ c.if-not-good_bound.false in
    let first = good-first _ _ good in
    let second = good-second _ _ good in
    (omega arith, omega arith)

pub loop-at-preserved : goal.loop-at-preserved
loop-at-preserved c =
    c.loop-at.invariant ∙ loop-good _ _ _ _ c.loop-at-test.true (sym c.good_bound.ensures ∙ c.if-not-good_bound.false)
    ∙ ap (read_from _ _ _) (sym c.add_bound.ensures)

pub returns : goal.returns
unfolding read_zone
returns c = loop-end _ _ _ _ c.loop-at-test.false ∙ sym c.loop-at.invariant
