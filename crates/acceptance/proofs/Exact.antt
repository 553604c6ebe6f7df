-- Demands 2 and 3 on the words. The acceptance with the values c meets the definitions exactly where c certifies the table; and whatever answer meets
-- them, what it certifies bounds every scheduler. Assumes nothing.
use Prim.Native.Nat.{ℕ}
use mathlib.Core.Path.{◌≡◌, refl, sym, subst, ◌∙◌}
use mathlib.Core.List.{List, ◌++◌}
use Rattle.answers.specs.Checks.{Answer, refused, accepted}
use Rattle.answers.proofs.CheckLaws.{first_one, first-join, first-all, first_holds, first-accepted}
use Rattle.model.specs.Model.{Model, model_of}
use Rattle.model.specs.Reading.{model_checks, counts_of, ReadModel}
use Rattle.model.proofs.WellFormed.{accepted-formed}
use Rattle.table.specs.Table.{Table, table_of}
use Rattle.table.specs.Reading.{read_checks}
use Rattle.table.proofs.Shape.{shaped}
use Rattle.acceptance.specs.Schedulers.{BoundsEvery}
use Rattle.acceptance.specs.Judging.{table_checks, judge_checks, certificate_of, Judged, Certifies, Exactly, BoundsSchedulers}
use Rattle.acceptance.specs.declared.certificate.Certificate.{Certificate}
use Rattle.acceptance.proofs.Demand3.{demand_3}
use Rattle.acceptance.proofs.Agreement.{checks_accept, accept_checks}

module _ (model table : List ℕ) where
  abbrev M : Model
  M = model_of model

  abbrev W : Table
  W = table_of M table

  abbrev Right : Certificate → Type 0
  Right c = c ≡ certificate_of W

  pub certifies : (c : Certificate) → Judged model table (accepted c) → Certifies model table c
  unfolding judge_checks
  certifies c j =
      let first = first-accepted (model_checks model) (read_checks M table ++ table_checks M W) Right c j.says in
      let next = first-accepted (read_checks M table) (table_checks M W) Right c first.1 in
      let last = first_holds (table_checks M W) Right c next.1 in
      let reads : ReadModel model (accepted (counts_of model)) =
      record { says = first-all (model_checks model) (λ counts. counts ≡ counts_of model) (counts_of model) first.0 refl } in
      record {
        model_reads = reads;
        table_reads = first-all (read_checks M table) (λ (_ : Unit {0}). Unit {0}) tt next.0 tt;
        accepts = checks_accept M W table (shaped M table (accepted-formed model (counts_of model) reads) next.0) last.0;
        values = last.1;
      }

  pub certified-judged : (c : Certificate) → Certifies model table c → Judged model table (accepted c)
  unfolding judge_checks
  certified-judged c g =
      let model-holds = (first_holds (model_checks model) (λ counts. counts ≡ counts_of model) (counts_of model) g.model_reads.says).0 in
      let words-hold = (first_holds (read_checks M table) (λ (_ : Unit {0}). Unit {0}) tt g.table_reads).0 in
      record {
        says =
            first-join (model_checks model) _ Right (accepted c) model-holds
            (first-join (read_checks M table) _ Right (accepted c) words-hold
            (first-all (table_checks M W) Right c (accept_checks M W g.accepts) g.values));
      }

  pub judged-only : (a b : Answer Certificate) → Judged model table a → Judged model table b → a ≡ b
  judged-only a b p q = first_one (judge_checks model table) Right (λ c d e f. e ∙ sym f) a b p.says q.says

  pub exactly : (answer : Answer Certificate) → Judged model table answer → Exactly model table answer
  exactly answer j = record {
    when = λ c. (
      (λ e. certifies c (subst (Judged model table) e j)),
      λ g. judged-only answer (accepted c) j (certified-judged c g),
    );
  }

  pub promised : (answer : Answer Certificate) → Judged model table answer → BoundsSchedulers model answer
  unfolding certificate_of
  promised (refused n p) j = tt
  promised (accepted c) j =
      let g : Certifies model table c = certifies c j in
      subst (λ (d : Certificate). BoundsEvery (model_of model) d.b d.whole) (sym g.values) (demand_3 M W g.accepts)
