-- Exploring is refused, or what is found is put.
use Rattle.std.proofs.Common.{◌≡◌, List, ℕ, rules}
use Rattle.std.proofs.lemmas.Result.{err_from_is_err_and}
use Rattle.answers.specs.Checks.{accepted}
use Rattle.zone.proofs.Results.{mapped-ok, mapped-err}
use Rattle.model.specs.Reading.{ReadModel}
use Rattle.model.specs.Indexed.{KeptFor}
use Rattle.draft.proofs.DraftCall.{Promise, exploring-stops, finished}
use Rattle.draft.proofs.call.drafted.Goals as goal

pub returns-in_err-map_err : goal.returns-in_err-map_err
returns-in_err-map_err c =
    let p = err_from_is_err_and c.from_residual.result c.from_residual.ensures.1 in
    let told : (words : List ℕ) → ReadModel words (accepted c.args.read.counts) → KeptFor words c.args.read c.args.source.now.model.now →
    Promise words c.args.rounds c.args.lent.now _ c.args.lent.now =
    λ words reads kept.
    mapped-err _ c.explore.result c.map_err.result c.map_err.ensures.cases c.in_err-map_err.field-0.0 c.in_err-map_err.was
    (λ s e k.
    let says : (c.in_err-map_err.field-0.0.reason ≡ s) × (c.in_err-map_err.field-0.0.place ≡ 0) = search rules in
    exploring-stops (record { reads = reads; kept = kept }) c.args.rounds c.args.lent.now s (rw e at c.explore.ensures.finds) _ says.0 says.1) in
    rw (p.1, p.2) (record { drafts = λ words reads kept. (told words reads kept).0; certifies = λ words reads kept. (told words reads kept).1 })

pub returns : goal.returns
returns c =
    let found = mapped-ok _ c.explore.result c.map_err.result c.map_err.ensures.cases c.in_ok-map_err.was in
    let told : (words : List ℕ) → ReadModel words (accepted c.args.read.counts) → KeptFor words c.args.read c.args.source.now.model.now →
    Promise words c.args.rounds c.args.lent.now c.finish.result c.finish.new.lent =
    λ words reads kept.
    finished (record { reads = reads; kept = kept }) c.args.rounds c.args.lent.now c.deref.result.now
    (rw (found, ← c.deref.ensures.0) at c.explore.ensures.finds) c.finish.result c.finish.new.lent c.finish.ensures.answers c.finish.ensures.writes in
    record { drafts = λ words reads kept. (told words reads kept).0; certifies = λ words reads kept. (told words reads kept).1 }
