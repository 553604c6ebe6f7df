-- What is kept of a table's words, and the table that they hold: the promise that judging rests on. Assumes nothing.
use Rattle.std.specs.Prelude.{ℕ, ◌≤◌, ◌≡◌, List, length, Result, Ok}
use Rattle.answers.specs.Checks.{First}
use Rattle.answers.specs.Refusals.{answer_of}
use Rattle.answers.specs.declared.Refusal.{Refusal}
use Rattle.zone.specs.Squares.{universe}
use Rattle.model.specs.Model.{Model}
use Rattle.model.specs.Indexed.{Each, with_bounds, Indexed}
use Rattle.model.specs.declared.index.IndexedModel.{IndexedModel}
use Rattle.model.specs.declared.index.Index.{Index}
use Rattle.table.specs.Table.{Node, Table, table_of}
use Rattle.table.specs.Reading.{read_checks}
use Rattle.table.specs.Nodes.{node_count, entry_at}
use Rattle.table.specs.declared.nodes.Node.{Node as Entry}
use Rattle.table.specs.declared.nodes.IndexedTable.{IndexedTable}

pub record NodeIs (ns : List Entry) (n : ℕ) (N : Node) : Type 0 where
  pub location : (entry_at ns n).location ≡ N.location
  pub value : (entry_at ns n).value ≡ N.value
  pub place : (entry_at ns n).place ≡ N.place
  pub zone : (entry_at ns n).zone ≡ with_bounds N.zone universe

pub record TableIndexed (W : Table) (k : IndexedTable) : Type 0 where
  pub whole : k.whole ≡ W.whole
  pub count : k.count ≡ length W.nodes
  pub limit : k.count ≤ node_count
  pub each : Each (NodeIs k.nodes) 0 W.nodes
  pub start : k.start ≡ W.start
  pub place : k.place ≡ W.place

-- 11 to 14 for a table of the model M and, where none refuses, what is kept of it
pub record ReadTable (M : Model) (words : List ℕ) (r : Result (Unit {0}) Refusal) (k : IndexedTable) : Type 0 where
  pub says : First (read_checks M words) (λ (t : Unit {0}). Unit {0}) (answer_of r)
  pub indexed : r ≡ Ok tt → TableIndexed (table_of M words) k

-- the same for every model that the index may come from
pub record ReadFor (x : Index) (words : List ℕ) (r : Result (Unit {0}) Refusal) (k : IndexedTable) : Type 0 where
  pub reads : (M : Model) (m : IndexedModel) → m.index ≡ x → Indexed M m → ReadTable M words r k
