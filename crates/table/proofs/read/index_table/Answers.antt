-- The pass decides 11 to 13 and the search 14; what is kept describes the table of a pass that refuses nothing.
use Rattle.std.proofs.Common.{◌≤◌, refl, ap, ◌∙◌, Err, length, rules}
use Rattle.table.specs.Index.{scanned, and_numbers, unless_missing}
use Rattle.table.proofs.Limits.{limits-nothing}
use Rattle.std.proofs.lemmas.Result.{err_from_is_err_and}
use Rattle.table.proofs.Reading.{promised, all-read}
use Rattle.table.proofs.read.index_table.Goals as goal

pub scan-requires : goal.scan-requires
scan-requires c = limits-nothing _

pub returns-in_err-seen : goal.returns-in_err-seen
unfolding scanned and_numbers
returns-in_err-seen c =
    let room : 64 ≤ length c.args.table.now.nodes = search rules in
    let handed = err_from_is_err_and c.from_residual.result c.from_residual.ensures.1 in
    let all = promised _ _ c.args.table.now c.requires room _ _ _ (rw c.begin.ensures at c.in_err-seen.ensures.passes)
    (handed.1 ∙ ap Err handed.2) in
    record { computes = all.computes; leaves = all.leaves; reads = all.reads }

pub returns-in-Some : goal.returns-in-Some
unfolding scanned unless_missing
returns-in-Some c =
    let room : 64 ≤ length c.args.table.now.nodes = search rules in
    let all = all-read _ _ c.args.table.now c.requires room _ _ _ (rw c.begin.ensures at c.in_ok-seen.ensures.passes)
    (rw (← c.missing_of.ensures, c.in-Some.is, ← c.at.ensures.reason, ← c.at.ensures.place) refl) in
    record { computes = all.computes; leaves = all.leaves; reads = all.reads }

pub returns-in-None : goal.returns-in-None
unfolding scanned unless_missing
returns-in-None c =
    let room : 64 ≤ length c.args.table.now.nodes = search rules in
    let all = all-read _ _ c.args.table.now c.requires room _ _ _ (rw c.begin.ensures at c.in_ok-seen.ensures.passes)
    (rw (← c.missing_of.ensures, c.in-None.is) refl) in
    record { computes = all.computes; leaves = all.leaves; reads = all.reads }
