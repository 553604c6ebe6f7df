-- What reading a table hands back: what the pass comes to, and then what the whole file does. Assumes nothing.
use Prim.Native.Nat.{ℕ, ◌≤◌}
use mathlib.Core.Path.{◌≡◌, refl, sym, ap, ◌∙◌}
use mathlib.Core.List.{List}
use Rattle.std.proofs.Common.{Result, Ok, Err}
use lib.ListN.{length}
use Rattle.answers.specs.declared.Refusal.{Refusal}
use Rattle.model.specs.Model.{Model}
use Rattle.model.specs.Indexed.{Indexed}
use Rattle.model.specs.declared.index.Index.{Index}
use Rattle.model.specs.declared.index.IndexedModel.{IndexedModel}
use Rattle.table.specs.Scan.{nothing, IndexFits}
use Rattle.table.specs.Nodes.{node_count, begun}
use Rattle.pass.specs.Steps.{Passed, passed_at}
use Rattle.pass.proofs.Run.{ended}
use Rattle.table.specs.Index.{steps, scanned, missing_of, unless_missing, and_numbers, read_of}
use Rattle.table.specs.Indexed.{ReadTable, ReadFor}
use Rattle.table.specs.declared.nodes.IndexedTable.{IndexedTable}
use Rattle.table.specs.declared.seen.Seen.{Seen}
use Rattle.table.proofs.Checking.{read-says}
use Rattle.table.proofs.Indexing.{read-indexed}
use Rattle.table.proofs.Missing.{missing-is}

-- what accepts a table has no refusal of the pass
passed : (P : Type 0) (o : Result Seen Refusal) (words : List ℕ) → ((s : Seen) → o ≡ Ok s → P) → and_numbers o words ≡ Ok tt → P
unfolding and_numbers
passed P (Ok s) words f h = f s refl
passed P (Err r) words f h = absurd cc

-- what reading promises: what it answers, what it leaves, and what that is for every model that the index may come from
pub record Promised (x : Index) (words : List ℕ) (q : Passed Seen IndexedTable) (r : Result (Unit {0}) Refusal) (k : IndexedTable) : Type 0 where
  pub computes : r ≡ read_of q words
  pub leaves : k ≡ q.kept
  pub reads : ReadFor x words r k

-- the table has room
module _ (x : Index) (words : List ℕ) (k : IndexedTable) (fits : IndexFits x) (room : node_count ≤ length k.nodes) where
  table-of : (M : Model) (m : IndexedModel) → m.index ≡ x → Indexed M m → let q : Passed Seen IndexedTable = scanned x words k in
      ReadTable M words (read_of q words) q.kept
  unfolding read_of
  table-of M m e i = record {
    says = rw (← e) (read-says M m i words k);
    indexed = λ u. passed _ _ words (read-indexed M x words k fits.clocks room) u;
  }

  -- what the pass comes to and leaves
  pub promised :
      (o : Result Seen Refusal) (r : Result (Unit {0}) Refusal) (t : IndexedTable) → passed_at o t ≡ scanned x words k → r ≡ and_numbers o words →
      Promised x words (scanned x words k) r t
  unfolding read_of
  promised o r t e h =
      let computes : r ≡ read_of (scanned x words k) words = h ∙ ap (λ (q : Passed Seen IndexedTable). read_of q words) e in
      let leaves : t ≡ (scanned x words k).kept = ap (λ (q : Passed Seen IndexedTable). q.kept) e in
      record {
        computes = computes;
        leaves = leaves;
        reads = record { reads = λ M n e i. rw (computes, leaves) (table-of M n e i) };
      }

  -- where it refuses no word, a node may still be missing
  pub all-read :
      (s : Seen) (r : Result (Unit {0}) Refusal) (t : IndexedTable) → passed_at (Ok s) t ≡ scanned x words k → r ≡ unless_missing (missing_of s words) →
      Promised x words (scanned x words k) r t
  unfolding scanned and_numbers
  all-read s r t e h =
      let here = ap (λ (q : Passed Seen IndexedTable). q.outcome) e in
      promised (Ok s) r t e (h ∙ ap unless_missing (missing-is x words s (ended (steps x) nothing (begun k) 0 words s (sym here))))
