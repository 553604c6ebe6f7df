-- What the parts of the call return decides its verdict. Assumes nothing.
use Prim.Native.Nat.{ℕ, ◌≤◌, ◌<◌}
use mathlib.Core.Path.{◌≡◌, refl, sym, ap, subst, ◌∙◌}
use mathlib.Core.Bool.{true, false}
use mathlib.Core.List.{List, [], ◌∷◌}
use native.Mathlib.Omega.{arith}
use lib.ListN.{get_or, length, take, length-take}
use Rattle.std.proofs.Common.{get_or-take}
use Rattle.zone.specs.Scale.{within, Inside}
use Rattle.std.specs.Prelude.{Result, Ok, Err}
use Rattle.answers.specs.Checks.{First, accepted, check}
use Rattle.answers.specs.Refusals.{answer_of}
use Rattle.answers.specs.declared.Refusal.{Refusal}
use Rattle.zone.specs.Squares.{universe, empty?, inside?}
use Rattle.answers.proofs.CheckLaws.{AllHold, all_right, first_holds}
use Rattle.model.specs.Kinds.{number}
use Rattle.model.specs.declared.kinds.Kind.TheVariants.{Location as location, Start as start}
use Rattle.model.specs.Before.{count_of, index_of}
use Rattle.model.specs.Fields.{clocks_of, denominator_of}
use Rattle.model.specs.Model.{Model, model_of}
use Rattle.model.specs.States.{HasStart}
use Rattle.model.specs.Reading.{words_checks, edge_checks, model_checks, counts_of, ReadModel}
use Rattle.model.specs.Index.{counted}
use Rattle.model.specs.declared.index.IndexedModel.{IndexedModel}
use Rattle.model.specs.Indexed.{with_bounds, Indexed, KeptFor, IndexedWhere}
use Rattle.model.specs.declared.read.ModelRead.{ModelRead}
use Rattle.model.proofs.GoodModel.{GoodModel}
use Rattle.model.proofs.WellFormed.{WellFormed, accepted-good, accepted-formed}
use Rattle.table.specs.Table.{Table, Node, node_at, table_of}
use Rattle.table.specs.Reading.{read_checks}
use Rattle.table.specs.Scan.{IndexFits}
use Rattle.table.specs.Nodes.{entry_at}
use Rattle.table.specs.Indexed.{NodeIs, TableIndexed, ReadTable, ReadFor}
use Rattle.table.specs.declared.nodes.IndexedTable.{IndexedTable}
use Rattle.table.proofs.IndexFits.{index-fits}
use Rattle.table.proofs.Shape.{NodeShaped, Shaped, shaped}
use Rattle.acceptance.specs.Acceptance.{start_valuations}
use Rattle.acceptance.specs.Judging.{nodes_checks, Judged, Exactly, BoundsSchedulers}
use Rattle.judge.specs.Reaching.{NodesAsked}
use Rattle.judge.specs.Walk.{walked, WalkAsked}
use Rattle.judge.specs.Steps.{Checked}
use Rattle.judge.specs.Deciding.{start_verdict}
use Rattle.acceptance.specs.declared.certificate.Certificate.{Certificate}
use Rattle.acceptance.proofs.Exact.{exactly, promised}
use Rattle.judge.proofs.Starting.{start-not-empty, start-inside-yes, start-inside-no}
use Rattle.judge.proofs.Starts.{start_first}
use Rattle.judge.proofs.RowLaws.{node_at_lem, shaped-at}
use Rattle.judge.proofs.Walking.{walk_first}
use Rattle.judge.proofs.WalkRanges.{walk-asked}
use Rattle.judge.proofs.Handing.{words-handed, node-handed, start-handed}

-- demands 2 and 3 hold of every answer that meets the definitions
pub with_demands : (words list : List ℕ) (v : Result Certificate Refusal) → Judged words list (answer_of v) →
    record {
      answers : Judged words list (answer_of v);
      exactly : Exactly words list (answer_of v);
      bounds : BoundsSchedulers words (answer_of v);
    }
with_demands words list v j = record {
  answers = j;
  exactly = exactly words list (answer_of v) j;
  bounds = promised words list (answer_of v) j;
}

-- a model that was read and accepted, and is kept in m
pub record ModelAccepted (words : List ℕ) (r : ModelRead) (m : IndexedModel) : Type 0 where
  pub reads : ReadModel words (accepted r.counts)
  pub kept : KeptFor words r m

-- the reader says so of what it accepts
pub model-accepted : (words : List ℕ) (r : ModelRead) (m : IndexedModel) → ReadModel words (answer_of (counted (Ok r))) → IndexedWhere words (Ok r) m →
    ModelAccepted words r m
unfolding answer_of
model-accepted words r m reads kept = record { reads = reads; kept = kept.accepted r refl }

module _ (words : List ℕ) (r : ModelRead) (m : IndexedModel) (a : ModelAccepted words r m) where
  abbrev M : Model
  M = model_of words

  x : Indexed M m
  x = a.kept.indexed

  pub good : GoodModel M
  good = accepted-good words r.counts a.reads

  pub formed : WellFormed M
  formed = accepted-formed words r.counts a.reads

  model-holds : AllHold (model_checks words)
  model-holds = (first_holds (model_checks words) (λ counts. counts ≡ counts_of words) r.counts a.reads.says).0

  has-start : HasStart M
  unfolding model_checks
  has-start =
      (all_right (edge_checks (count_of (number location) words) 0 words) (check 6 (index_of (number start) words) (HasStart M) ∷ [])
      (all_right (words_checks (clocks_of (get_or words 0 0)) (denominator_of (get_or words 0 0)) [] words) _ model-holds)).0

  -- what reading the table and the walk ask of the model
  pub fits : IndexFits m.index
  fits = index-fits formed x

  -- the table is kept in k
  module _ (list : List ℕ) (q : Result (Unit {0}) Refusal) (k : IndexedTable) (read_for : ReadFor m.index list q k) where
    abbrev W : Table
    W = table_of M list

    read : ReadTable M list q k
    read = read_for.reads M m refl x

    -- 11 to 14
    pub words-refused : (f : Refusal) → q ≡ Err f → Judged words list (answer_of (Err f))
    words-refused f e = words-handed words list model-holds f (rw e at read.says)

    module _ (g : q ≡ Ok tt) where
      indexed : TableIndexed W k
      indexed = read.indexed g

      words-hold : AllHold (read_checks M list)
      unfolding answer_of
      words-hold = (first_holds (read_checks M list) (λ (_ : Unit {0}). Unit {0}) tt (rw g at read.says)).0

      shape : Shaped M list W
      shape = shaped M list formed words-hold

      abbrev walks : Checked
      walks = walked list m k

      pub asked : WalkAsked list m k
      asked = walk-asked M list m x good formed k indexed shape

      -- what asking which nodes have zones within their invariants asks
      pub nodes-asked : NodesAsked (take k.count k.nodes)
      nodes-asked =
          let size = length-take k.count k.nodes in
          record {
            limit = omega (arith, size, asked.count);
            locations = λ n l. let below : n < k.count = omega (arith, size) in rw get_or-take (asked.nodes n below).location;
          }

      says : First (nodes_checks M W 0 W.nodes) (λ (_ : Unit {0}). Unit {0}) (answer_of walks)
      says = walk_first M list m k x good formed indexed shape

      -- 15 to 19 and 51 to 53
      pub node-refused : (f : Refusal) → walks ≡ Err f → Judged words list (answer_of (Err f))
      node-refused f e =
          node-handed words list model-holds words-hold f
          (subst (λ v. First (nodes_checks M W 0 W.nodes) (λ (_ : Unit {0}). Unit {0}) (answer_of v)) e says)

      -- the start node
      abbrev N : Node
      N = node_at W W.start

      start_is : NodeIs k.nodes k.start N
      start_is = subst (λ (n : ℕ). NodeIs k.nodes n N) (sym indexed.start) (node_at_lem indexed W.start shape.start)

      start-shape : NodeShaped M W list N
      start-shape = shaped-at shape W.start shape.start

      inside_is : inside? r.initial (entry_at k.nodes k.start).zone ≡ inside? r.initial (with_bounds N.zone universe)
      inside_is = ap (inside? r.initial) start_is.zone

      filled : empty? r.initial ≡ false
      filled = start-not-empty x good formed.start a.kept.initial has-start

      filled-yes : inside? r.initial (entry_at k.nodes k.start).zone ≡ true → Inside (start_valuations M) (within N.zone)
      filled-yes i = start-inside-yes x good formed.start a.kept.initial filled N.zone start-shape.zone (sym inside_is ∙ i)

      filled-no : inside? r.initial (entry_at k.nodes k.start).zone ≡ false → Inside (start_valuations M) (within N.zone) → ⊥
      filled-no i = start-inside-no x good formed.start a.kept.initial filled N.zone start-shape.zone (sym inside_is ∙ i)

      -- the start node's number is that of a node kept
      pub start-limit : k.start < 64
      start-limit =
          let there : W.start < length W.nodes = shape.start in
          let few : k.count ≤ 64 = indexed.limit in
          omega (arith, there, few, indexed.count, indexed.start)

      -- 20 and 21, and the acceptance
      pub start-judged : walks ≡ Ok tt → Judged words list (answer_of (start_verdict m k r.initial))
      unfolding answer_of
      start-judged f =
          start-handed words list model-holds words-hold
          (first_holds (nodes_checks M W 0 W.nodes) (λ (_ : Unit {0}). Unit {0}) tt
          (subst (λ v. First (nodes_checks M W 0 W.nodes) (λ (_ : Unit {0}). Unit {0}) (answer_of v)) f says)).0
          (start_verdict m k r.initial) (start_first M W m k r.initial x.start indexed start_is filled-yes filled-no)
