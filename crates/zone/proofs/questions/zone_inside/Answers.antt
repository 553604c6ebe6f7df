-- Each return is one of the cases in which `AskedInside` is decided.
use Rattle.std.proofs.Common.{◌≡◌, sym, ◌∙◌, true, false}
use Rattle.std.proofs.lemmas.Result.{err_from_is_err_and}
use Rattle.answers.specs.Refusals.{answer_of, number}
use Rattle.zone.specs.Squares.{empty?}
use Rattle.zone.proofs.Decided.{clocks-inside, bad-first, bad-second, good-inside}
use Rattle.zone.proofs.ReadLaws.{zone-read, zone-refused}
use Rattle.zone.proofs.Sizes.{tightens-read}
use Rattle.zone.proofs.questions.zone_inside.Goals as goal

pub returns-in_err-clocks : goal.returns-in_err-clocks
unfolding answer_of number
returns-in_err-clocks c =
    let p = err_from_is_err_and c.from_residual.result c.from_residual.ensures.1 in
    let told = c.in_err-clocks.ensures in
    rw (p.1, p.2, told.1) (clocks-inside _ _ _ told.0)

pub returns-in_err-inner : goal.returns-in_err-inner
unfolding answer_of number
returns-in_err-inner c =
    let p = err_from_is_err_and c.from_residual-in_err-inner.result c.from_residual-in_err-inner.ensures.1 in
    let told = c.in_ok-clocks.ensures in
    let read = zone-refused _ _ (sym c.asked_zone.ensures ∙ c.in_err-inner.was) in
    rw (p.1, p.2, read.0) (bad-first _ _ _ told.0 (rw told.1 at read.1))

pub returns-in_err-outer : goal.returns-in_err-outer
unfolding answer_of number
returns-in_err-outer c =
    let p = err_from_is_err_and c.from_residual-in_err-outer.result c.from_residual-in_err-outer.ensures.1 in
    let told = c.in_ok-clocks.ensures in
    let inner = zone-read _ _ (sym c.asked_zone.ensures ∙ c.in_ok-inner.was) in
    let outer = zone-refused _ _ (sym c.asked_zone-2.ensures ∙ c.in_err-outer.was) in
    rw (p.1, p.2, outer.0) (bad-second _ _ _ told.0 (rw told.1 at inner) (rw told.1 at outer.1))

pub tighten-tight-requires : goal.tighten-tight-requires
tighten-tight-requires c = tightens-read _ _ (zone-read _ _ (sym c.asked_zone.ensures ∙ c.in_ok-inner.was))

pub returns-then-is_empty : goal.returns-then-is_empty
unfolding answer_of
returns-then-is_empty c =
    let told = c.in_ok-clocks.ensures in
    let inner = zone-read _ _ (sym c.asked_zone.ensures ∙ c.in_ok-inner.was) in
    let outer = zone-read _ _ (sym c.asked_zone-2.ensures ∙ c.in_ok-outer.was) in
    let e : empty? c.tighten-tight.result ≡ true = sym c.is_empty.ensures ∙ c.if-is_empty.true in
    rw c.if-is_empty.true (rw e at (good-inside _ _ _ told.0 (rw told.1 at inner) (rw told.1 at outer) c.tighten-tight.ensures))

pub returns-else-is_empty : goal.returns-else-is_empty
unfolding answer_of
returns-else-is_empty c =
    let told = c.in_ok-clocks.ensures in
    let inner = zone-read _ _ (sym c.asked_zone.ensures ∙ c.in_ok-inner.was) in
    let outer = zone-read _ _ (sym c.asked_zone-2.ensures ∙ c.in_ok-outer.was) in
    let e : empty? c.tighten-tight.result ≡ false = sym c.is_empty.ensures ∙ c.if-is_empty.false in
    rw c.inside.ensures (rw e at (good-inside _ _ _ told.0 (rw told.1 at inner) (rw told.1 at outer) c.tighten-tight.ensures))
