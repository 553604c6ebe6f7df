-- The verdict, computed from the words by the algorithms: it meets the promise of the judging call. Assumes nothing.
use Prim.Native.Nat.{ℕ}
use mathlib.Core.Path.{◌≡◌, refl}
use mathlib.Core.List.{List}
use native.Mathlib.Omega.{arith}
use lib.ListN.{replicate, length-replicate}
use Rattle.std.specs.Prelude.{Result, Ok, Err}
use Rattle.answers.specs.Refusals.{answer_of}
use Rattle.answers.specs.declared.Refusal.{Refusal}
use Rattle.model.specs.Reading.{ReadModel}
use Rattle.model.specs.Indexed.{IndexedWhere}
use Rattle.model.specs.Index.{scanned, counted}
use Rattle.model.specs.declared.index.IndexedModel.{IndexedModel}
use Rattle.model.specs.declared.read.ModelRead.{ModelRead}
use Rattle.model.proofs.Entries.{empty_model, sized-empty}
use Rattle.model.proofs.Answering as reading
use Rattle.table.specs.Scan.{IndexFits}
use Rattle.table.specs.Nodes.{unread, node_count}
use Rattle.table.specs.Index as tables
use Rattle.table.specs.Indexed.{ReadFor}
use Rattle.table.specs.declared.nodes.IndexedTable.{IndexedTable}
use Rattle.table.proofs.Reading.{promised}
use Rattle.acceptance.specs.Judging.{Judged}
use Rattle.acceptance.specs.declared.certificate.Certificate.{Certificate}
use Rattle.judge.specs.Steps.{Checked, and_then}
use Rattle.judge.specs.Walk.{walked}
use Rattle.judge.specs.Deciding.{start_verdict}
use Rattle.judge.proofs.Handing.{model-handed}
use Rattle.judge.proofs.Answering.{ModelAccepted, model-accepted, fits, words-refused, node-refused, start-judged}

-- before a table is read into it
abbrev empty_table : IndexedTable
empty_table = record { whole = 0; count = 0; start = 0; place = 0; nodes = replicate node_count unread }

unfoldable pub judged : List ℕ → Result ModelRead Refusal → IndexedModel → Result (Unit {0}) Refusal → IndexedTable → Result Certificate Refusal
judged list o m q k = and_then o (λ r. and_then q (λ _. and_then (walked list m k) (λ _. start_verdict m k r.initial)))

-- behind the passes over the model's words and the table's
unfoldable pub computed : List ℕ → List ℕ → Result Certificate Refusal
computed words list =
    let p = scanned words empty_model in
    let q = tables.scanned p.kept.index list empty_table in
    judged list (reading.read_of words p) p.kept (tables.read_of q list) q.kept

-- ---- each case of a part's answer, with the refusal that it hands on

module _
    (words list : List ℕ) (m : IndexedModel) (q : Result (Unit {0}) Refusal) (k : IndexedTable) (read : IndexFits m.index → ReadFor m.index list q k) where
  abbrev Right : Result Certificate Refusal → Type 0
  Right v = Judged words list (answer_of v)

  module _ (r : ModelRead) (a : ModelAccepted words r m) where
    abbrev start : Result Certificate Refusal
    start = start_verdict m k r.initial

    read_for : ReadFor m.index list q k
    read_for = read (fits words r m a)

    by-walk : q ≡ Ok tt → (w : Checked) → walked list m k ≡ w → Right (and_then w (λ _. start))
    unfolding and_then
    by-walk g (Ok u) e = start-judged words r m a list q k read_for g e
    by-walk g (Err f) e = node-refused words r m a list q k read_for g f e

    by-words : (b : Result (Unit {0}) Refusal) → q ≡ b → Right (and_then b (λ _. and_then (walked list m k) (λ _. start)))
    unfolding and_then
    by-words (Ok u) e = by-walk e (walked list m k) refl
    by-words (Err f) e = words-refused words r m a list q k read_for f e

  by-model : (o : Result ModelRead Refusal) → ReadModel words (answer_of (counted o)) → IndexedWhere words o m → Right (judged list o m q k)
  unfolding judged and_then
  by-model (Ok r) reads kept = by-words r (model-accepted words r m reads kept) q refl
  by-model (Err f) reads kept = model-handed words list f reads

pub computes : (words list : List ℕ) → Judged words list (answer_of (computed words list))
unfolding computed tables.read_of
computes words list =
    let p = scanned words empty_model in
    let m : IndexedModel = p.kept in
    let q = tables.scanned m.index list empty_table in
    by-model words list m (tables.read_of q list) q.kept
    (λ f. (promised m.index list empty_table f (omega (arith, length-replicate node_count unread)) q.outcome (tables.read_of q list) q.kept refl refl).reads)
    (reading.read_of words p) (reading.answered words empty_model sized-empty) (reading.index-of words empty_model sized-empty)
