-- The verdict from the answers of its parts: each part decides its checks, and those behind a refusal are not asked. Assumes nothing.
use Prim.Native.Nat.{ℕ}
use mathlib.Core.Path.{◌≡◌}
use mathlib.Core.List.{List, ◌++◌}
use Rattle.std.specs.Prelude.{Result, Err}
use Rattle.answers.specs.Checks.{First}
use Rattle.answers.specs.Refusals.{answer_of}
use Rattle.answers.specs.declared.Refusal.{Refusal}
use Rattle.answers.proofs.RefusalLaws as refusals
use Rattle.answers.proofs.CheckLaws.{AllHold, first-join}
use Rattle.model.specs.Model.{Model, model_of}
use Rattle.model.specs.Reading.{model_checks, counts_of, ReadModel}
use Rattle.model.specs.declared.read.Counts.{Counts}
use Rattle.table.specs.Table.{Table, table_of}
use Rattle.table.specs.Reading.{read_checks}
use Rattle.acceptance.specs.Judging.{nodes_checks, start_checks, table_checks, judge_checks, certificate_of, Judged}
use Rattle.acceptance.specs.declared.certificate.Certificate.{Certificate}

module _ (words list : List ℕ) where
  abbrev M : Model
  M = model_of words

  abbrev W : Table
  W = table_of M list

  abbrev Right : Certificate → Type 0
  Right c = c ≡ certificate_of W

  -- 1 to 6
  pub model-handed : (r : Refusal) → ReadModel words (answer_of {A = Counts} (Err r)) → Judged words list (answer_of (Err r))
  unfolding judge_checks
  model-handed r reads = record {
    says = refusals.handed (model_checks words) (read_checks M list ++ table_checks M W) (λ counts. counts ≡ counts_of words) Right r reads.says;
  }

  module _ (model-holds : AllHold (model_checks words)) where
    -- 11 to 14
    pub words-handed : (r : Refusal) → First (read_checks M list) (λ (_ : Unit {0}). Unit {0}) (answer_of (Err r)) → Judged words list (answer_of (Err r))
    unfolding judge_checks
    words-handed r reads = record {
      says =
          first-join (model_checks words) (read_checks M list ++ table_checks M W) Right (answer_of (Err r)) model-holds
          (refusals.handed (read_checks M list) (table_checks M W) (λ (_ : Unit {0}). Unit {0}) Right r reads);
    }

    module _ (words-hold : AllHold (read_checks M list)) where
      behind : (v : Result Certificate Refusal) → First (table_checks M W) Right (answer_of v) → Judged words list (answer_of v)
      unfolding judge_checks
      behind v f = record {
        says =
            first-join (model_checks words) (read_checks M list ++ table_checks M W) Right (answer_of v) model-holds
            (first-join (read_checks M list) (table_checks M W) Right (answer_of v) words-hold f);
      }

      -- 15 to 19 and 51 to 53
      pub node-handed : (r : Refusal) → First (nodes_checks M W 0 W.nodes) (λ (_ : Unit {0}). Unit {0}) (answer_of (Err r)) →
          Judged words list (answer_of (Err r))
      unfolding table_checks
      node-handed r walks =
          behind (Err r) (refusals.handed (nodes_checks M W 0 W.nodes) (start_checks M W) (λ (_ : Unit {0}). Unit {0}) Right r walks)

      -- 20 and 21
      pub start-handed : AllHold (nodes_checks M W 0 W.nodes) → (v : Result Certificate Refusal) → First (start_checks M W) Right (answer_of v) →
          Judged words list (answer_of v)
      unfolding table_checks
      start-handed nodes-hold v f =
          behind v (first-join (nodes_checks M W 0 W.nodes) (start_checks M W) Right (answer_of v) nodes-hold f)
