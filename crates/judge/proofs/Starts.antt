-- The last checks, 20 and 21, and the acceptance behind them. Assumes nothing.
use mathlib.Core.Path.{◌≡◌, refl, sym, ◌∙◌}
use mathlib.Core.Bool.{Bool, true, false, cond}
use mathlib.Core.Logic.{inl, inr}
use lib.Dec.{eqb}
use borrow.Author.Tests.{eqb-true, eq-eqb}
use Rattle.zone.specs.Scale.{within, Inside}
use Rattle.std.specs.Prelude.{Ok}
use Rattle.answers.specs.Checks.{First}
use Rattle.answers.specs.Refusals.{refuse, number, answer_of}
use Rattle.answers.specs.declared.Reason.TheVariants as reason
use Rattle.zone.specs.Squares.{inside?}
use Rattle.zone.specs.declared.zones.Zone.{Zone as Square}
use Rattle.zone.proofs.Bools.{false_true}
use Rattle.model.specs.Model.{Model}
use Rattle.model.specs.declared.index.IndexedModel.{IndexedModel}
use Rattle.table.specs.Table.{Table, node_at}
use Rattle.table.specs.Nodes.{entry_at}
use Rattle.table.specs.Indexed.{NodeIs, TableIndexed}
use Rattle.table.specs.declared.nodes.Node.{Node as Entry}
use Rattle.table.specs.declared.nodes.IndexedTable.{IndexedTable}
use Rattle.acceptance.specs.Acceptance.{start_valuations, certified}
use Rattle.acceptance.specs.Judging.{start_checks, certificate_of}
use Rattle.acceptance.specs.declared.certificate.Certificate.{Certificate}
use Rattle.judge.specs.Deciding.{start_verdict}

-- y decides whether the start valuations lie in the start node's zone
module _
    (M : Model) (W : Table) (m : IndexedModel) (k : IndexedTable) (y : Square) (start : m.index.start ≡ M.start) (i : TableIndexed W k)
    (n : NodeIs k.nodes k.start (node_at W W.start)) where
  abbrev N : Entry
  N = entry_at k.nodes k.start

  abbrev certificate : Certificate
  certificate = record { b = N.value; whole = k.whole; nodes = k.count }

  certificate-is : certificate ≡ certificate_of W
  unfolding certificate_of certified
  certificate-is = rw (n.value, i.whole, i.count)

  pub start_first :
      (inside? y N.zone ≡ true → Inside (start_valuations M) (within (node_at W W.start).zone)) →
      (inside? y N.zone ≡ false → Inside (start_valuations M) (within (node_at W W.start).zone) → ⊥) →
      First (start_checks M W) (λ d. d ≡ certificate_of W) (answer_of (start_verdict m k y))
  unfolding start_checks start_verdict number answer_of
  start_first yes-in no-in = by (eqb N.location m.index.start) (inside? y N.zone) refl refl
    where
      by : (a b : Bool) → eqb N.location m.index.start ≡ a → inside? y N.zone ≡ b →
          First (start_checks M W) (λ d. d ≡ certificate_of W)
          (answer_of (cond a (cond b (Ok certificate) (refuse reason.StartNotInside k.place)) (refuse reason.WrongStart k.place)))
      by true true e h = inl (sym n.location ∙ eqb-true N.location m.index.start e ∙ start, inl (yes-in h, certificate-is))
      by true false e h = inl (sym n.location ∙ eqb-true N.location m.index.start e ∙ start, inr (no-in h, rw i.place))
      by false b e h = inr ((λ q. false_true (sym e ∙ eq-eqb N.location m.index.start (n.location ∙ q ∙ sym start))), rw i.place)
