-- `rows`: each turn of its loops leaves the rest to be judged.
use Rattle.std.proofs.Common.{◌≤◌, ◌∙◌, sym, refl, arith, rules}
use Rattle.std.proofs.lemmas.Bool.{eqb-true, eqb-false}
use Rattle.std.proofs.lemmas.Bool.Decides.{nat_tests}
use Rattle.judge.proofs.StepLaws.{refused-at}
use Rattle.zone.proofs.Sizes.{tightens-fewer}
use Rattle.judge.proofs.WalkLaws.{no_rows, node-rows, rows_end, row-asked, row-edges, row-place, row-not-blocked, row-blocked, row-successors, row-end}
use Rattle.judge.proofs.WalkLaws.{successor-asked, successor-found, successor-next, sum_large}
use Rattle.judge.proofs.judging.Judging.rows.Goals as goal

pub returns-then-is_empty : goal.returns-then-is_empty
returns-then-is_empty c =
    let none : c.actions_of-actions.result.end ≤ c.actions_of-actions.result.start = search (rules, nat_tests) in
    no_rows _ _ _ _ (rw c.actions_of-actions.ensures at none)

pub loop-a-init : goal.loop-a-init
loop-a-init c = rw (c.into_iter-a-iterator.ensures.into_iter_gives, c.actions_of-actions.ensures) (node-rows _ _ _ _ c.requires.1 c.waited-waited.ensures)

pub common-reach-requires : goal.common-reach-requires
common-reach-requires c = (
  tightens-fewer 1 2 _ (omega arith) c.loop-a.invariant.tightens,
  tightens-fewer 1 2 _ (omega arith) (row-asked _ _ _ c.loop-a.invariant c.in-Some.ensures.steps).guard,
)

pub offset_bounds-self-at : goal.offset_bounds-self-at
offset_bounds-self-at c = let p = row-place _ _ _ c.loop-a.invariant c.in-Some.ensures.steps in omega arith

pub bounds-self-at : goal.bounds-self-at
bounds-self-at c = row-place _ _ _ c.loop-a.invariant c.in-Some.ensures.steps

pub loop-a-preserved-then-is : goal.loop-a-preserved-then-is
loop-a-preserved-then-is c =
    row-blocked _ _ _ c.loop-a.invariant c.in-Some.ensures.steps (record { reaches = c.common-reach.ensures; empties = c.is_empty-empty.ensures })
    (eqb-true _ _ (sym c.is.ensures ∙ c.if-is.true)) c.if-not-empty.false

pub offset_bounds-self-edges_of : goal.offset_bounds-self-edges_of
offset_bounds-self-edges_of c = let e = row-edges _ _ _ c.loop-a.invariant c.in-Some.ensures.steps c.edges_of.ensures in omega arith

pub slice_bounds-edges-count : goal.slice_bounds-edges-count
slice_bounds-edges-count c = let e = row-edges _ _ _ c.loop-a.invariant c.in-Some.ensures.steps c.edges_of.ensures in omega arith

pub slice_bounds-edges-start : goal.slice_bounds-edges-start
slice_bounds-edges-start c = let e = row-edges _ _ _ c.loop-a.invariant c.in-Some.ensures.steps c.edges_of.ensures in omega arith

pub slice_bounds-edges-end : goal.slice_bounds-edges-end
slice_bounds-edges-end c = let e = row-edges _ _ _ c.loop-a.invariant c.in-Some.ensures.steps c.edges_of.ensures in omega arith

pub loop-e-init : goal.loop-e-init
loop-e-init c =
    row-successors _ _ _ c.loop-a.invariant c.in-Some.ensures.steps (record { reaches = c.common-reach.ensures; empties = c.is_empty-empty.ensures })
    (eqb-false _ _ (sym c.is.ensures ∙ c.if-is.false)) refl

pub successor-requires : goal.successor-requires
successor-requires c = successor-asked _ _ _ c.loop-e.invariant c.edges_of.ensures c.loop-e-test.true c.is_empty-empty.ensures

pub loop-e-preserved : goal.loop-e-preserved
loop-e-preserved c =
    successor-next _ _ _ c.loop-e.invariant c.edges_of.ensures c.loop-e-test.true c.in-Ok.ensures.comes c.in-Ok.ensures.small

pub loop-a-preserved : goal.loop-a-preserved
loop-a-preserved c =
    row-end _ _ _ c.loop-e.invariant c.edges_of.ensures (search rules) c.loop-e-test.false c.loop-a.invariant c.in-Some.ensures.steps refl
    c.if-limit-sum.false

pub returns-then-not-empty : goal.returns-then-not-empty
returns-then-not-empty c =
    refused-at c.at.ensures.reason c.at.ensures.place
    ∙ row-not-blocked _ _ _ c.loop-a.invariant c.in-Some.ensures.steps
    (record { reaches = c.common-reach.ensures; empties = c.is_empty-empty.ensures })
    (eqb-true _ _ (sym c.is.ensures ∙ c.if-is.true)) c.if-not-empty.true

pub returns-in-Err : goal.returns-in-Err
returns-in-Err c = successor-found _ _ _ c.loop-e.invariant c.edges_of.ensures c.loop-e-test.true c.in-Err.ensures.comes

pub returns-then-limit-sum : goal.returns-then-limit-sum
returns-then-limit-sum c =
    refused-at c.at-then-limit-sum.ensures.reason c.at-then-limit-sum.ensures.place
    ∙ sum_large _ _ _ c.loop-e.invariant c.edges_of.ensures (search rules) c.loop-e-test.false c.if-limit-sum.true

pub returns-in-None : goal.returns-in-None
returns-in-None c = rows_end _ _ _ c.loop-a.invariant c.in-None.ensures.steps.1.0
