-- Each return is one of the cases in which `AskedEmpty` is decided.
use Rattle.std.proofs.Common.{sym, ◌∙◌}
use Rattle.std.proofs.lemmas.Result.{err_from_is_err_and}
use Rattle.answers.specs.Refusals.{answer_of, number}
use Rattle.zone.proofs.Decided.{clocks-empty, bad-empty, good-empty}
use Rattle.zone.proofs.ReadLaws.{zone-read, zone-refused}
use Rattle.zone.proofs.Sizes.{tightens-read}
use Rattle.zone.proofs.questions.zone_empty.Goals as goal

pub returns-in_err-clocks : goal.returns-in_err-clocks
unfolding answer_of number
returns-in_err-clocks c =
    let p = err_from_is_err_and c.from_residual.result c.from_residual.ensures.1 in
    let told = c.in_err-clocks.ensures in
    rw (p.1, p.2, told.1) (clocks-empty _ _ told.0)

pub returns-in_err-zone : goal.returns-in_err-zone
unfolding answer_of number
returns-in_err-zone c =
    let p = err_from_is_err_and c.from_residual-in_err-zone.result c.from_residual-in_err-zone.ensures.1 in
    let told = c.in_ok-clocks.ensures in
    let read = zone-refused _ _ (sym c.asked_zone.ensures ∙ c.in_err-zone.was) in
    rw (p.1, p.2, read.0) (bad-empty _ _ told.0 (rw told.1 at read.1))

pub tighten-requires : goal.tighten-requires
tighten-requires c = tightens-read _ _ (zone-read _ _ (sym c.asked_zone.ensures ∙ c.in_ok-zone.was))

pub returns : goal.returns
unfolding answer_of
returns c =
    let told = c.in_ok-clocks.ensures in
    let read = zone-read _ _ (sym c.asked_zone.ensures ∙ c.in_ok-zone.was) in
    rw c.is_empty.ensures (good-empty _ _ told.0 (rw told.1 at read) c.tighten.ensures)
