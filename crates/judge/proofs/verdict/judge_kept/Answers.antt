-- `judge_kept`: each return is document 01's answer by what its parts decide; exactness and the bound on schedulers follow.
use Rattle.std.specs.Prelude.{ℕ, List}
use Rattle.std.proofs.Common.{sym}
use Rattle.std.proofs.lemmas.Result.{err_from_is_err_and}
use Rattle.answers.specs.Checks as checks
use Rattle.model.specs.Reading.{ReadModel}
use Rattle.model.specs.Indexed.{KeptFor}
use Rattle.model.specs.declared.index.IndexedModel.{IndexedModel}
use Rattle.model.specs.declared.read.ModelRead.{ModelRead}
use Rattle.judge.proofs.Answering.{ModelAccepted, with_demands, fits, words-refused, asked, nodes-asked, node-refused, start-limit, start-judged}
use Rattle.judge.proofs.verdict.judge_kept.Goals as goal

-- the model is accepted
accepted : {words : List ℕ} {r : ModelRead} {m : IndexedModel} →
    record {
      accepts : ReadModel words (checks.accepted r.counts);
      keeps : KeptFor words r m;
    } → ModelAccepted words r m
accepted c = record { reads = c.accepts; kept = c.keeps }

pub index_table-requires : goal.index_table-requires
index_table-requires c = fits _ _ _ (accepted c.requires)

pub returns-in_err-index_table : goal.returns-in_err-index_table
returns-in_err-index_table c =
    let p = err_from_is_err_and c.from_residual.result c.from_residual.ensures.1 in
    with_demands _ _ _ (rw (p.1, p.2) (words-refused _ _ _ (accepted c.requires) _ _ _ c.index_table.ensures.reads _ c.in_err-index_table.was))

pub contained-requires : goal.contained-requires
contained-requires c =
    nodes-asked _ _ _ (accepted c.requires) _ _ _ c.index_table.ensures.reads c.in_ok-index_table.was

pub all-requires : goal.all-requires
all-requires c =
    asked _ _ _ (accepted c.requires) _ _ _ c.index_table.ensures.reads c.in_ok-index_table.was

pub returns-in_err-all : goal.returns-in_err-all
returns-in_err-all c =
    let p = err_from_is_err_and c.from_residual-in_err-all.result c.from_residual-in_err-all.ensures.1 in
    with_demands _ _ _
    (rw (p.1, p.2) (node-refused _ _ _ (accepted c.requires) _ _ _ c.index_table.ensures.reads c.in_ok-index_table.was _ (sym c.in_err-all.ensures)))

pub start-requires : goal.start-requires
start-requires c =
    start-limit _ _ _ (accepted c.requires) _ _ _ c.index_table.ensures.reads c.in_ok-index_table.was

pub returns : goal.returns
returns c =
    with_demands _ _ _
    (rw c.start.ensures (start-judged _ _ _ (accepted c.requires) _ _ _ c.index_table.ensures.reads c.in_ok-index_table.was (sym c.in_ok-all.ensures)))
