use Rattle.std.proofs.Common.{rules, ◌≡◌, ◌∙◌, arith, ap, take_all, length-drop}
use Rattle.std.proofs.Math.ListN.{get_or-eq_default}
use Rattle.std.proofs.Math.Nat.{le_refl, le_trans, mul-le-mul_right}
use Rattle.drafting.specs.Words.{whole}
use Rattle.draft.specs.Asked.{edges_of}
use Rattle.draft.specs.Values.{sum_of}
use Rattle.draft.proofs.RoundCode.{sum-row, action-asked, largest_begin, largest-blocked, largest-short, largest-next, largest-end}
use Rattle.draft.proofs.rounds.largest.Goals as goal

pub loop-a-init : goal.loop-a-init
loop-a-init c =
    rw (c.into_iter-a-iterator.ensures.into_iter_gives, c.actions_of-a-items.ensures) (record { largest = largest_begin _ _ _ _ _; end = search rules })

pub loop-a-preserved-in-255-1 : goal.loop-a-preserved-in-255-1
loop-a-preserved-in-255-1 c =
    let h = c.in-Some.ensures.steps in
    let i = c.loop-a.invariant in
    record {
      largest = rw h.1.2 (largest-blocked _ _ i.largest (omega arith) (search rules) _ (take_all _ _ (rw (length-drop 1 c.loop-a.rest.now) (le_refl _))));
      end = search rules;
    }

pub edges_of-edges-requires : goal.edges_of-edges-requires
edges_of-edges-requires c =
    let h = c.in-Some.ensures.steps in
    let i = c.loop-a.invariant in
    action-asked _ _ c.args.source.now.asked c.requires i.largest (omega arith) h.1.1

pub row_sum-sum-requires : goal.row_sum-sum-requires
row_sum-sum-requires c =
    let h = c.in-Some.ensures.steps in
    let i = c.loop-a.invariant in
    rw c.edges_of-edges.ensures (action-asked _ _ c.args.source.now.asked c.requires i.largest (omega arith) h.1.1).few

pub rounded_up-requires : goal.rounded_up-requires
rounded_up-requires c =
    let h = c.in-Some.ensures.steps in
    let i = c.loop-a.invariant in
    let weights = (action-asked _ _ c.args.source.now.asked c.requires i.largest (omega arith) h.1.1).weights in
    (c.args.source.now.asked.denominator, le_trans c.row_sum-sum.ensures.1 (mul-le-mul_right whole (rw c.edges_of-edges.ensures weights)))

pub returns-in_default-split_at_checked : goal.returns-in_default-split_at_checked
returns-in_default-split_at_checked c =
    let h = c.in-Some.ensures.steps in
    let i = c.loop-a.invariant in
    let l = c.in_default-split_at_checked.ensures.cases in
    (largest-short _ _ i.largest (omega arith) (λ e. search (rules, get_or-eq_default)) (rw (← h.1.1, ← c.edges_of-edges.ensures) l), i.largest.small)

pub loop-a-preserved : goal.loop-a-preserved
loop-a-preserved c =
    let h = c.in-Some.ensures.steps in
    let i = c.loop-a.invariant in
    let s = c.in-Some-split_at_checked.ensures.cases in
    let edges : c.edges_of-edges.result.now ≡ edges_of c.args.source.now.model.now c.loop-a.a-iterator.start =
    c.edges_of-edges.ensures ∙ ap (edges_of c.args.source.now.model.now) h.1.1 in
    let sum : c.row_sum-sum.result ≡ sum_of c.args.values.now.list (edges_of c.args.source.now.model.now c.loop-a.a-iterator.start) c.loop-a.rest.now =
    c.row_sum-sum.ensures.0 ∙ rw (s.1, edges) (sum-row c.args.values.now.list _ c.loop-a.rest.now) in
    record {
      largest = rw (h.1.2, c.max-best.ensures, s.2, edges)
          (largest-next _ _ i.largest (omega arith) (λ e. search (rules, get_or-eq_default)) (rw edges at s.0) _ (rw sum at c.rounded_up.ensures.0) c.rounded_up.ensures.1);
      end = search rules;
    }

pub returns : goal.returns
returns c =
    let h = c.in-None.ensures.steps in
    let i = c.loop-a.invariant in
    (largest-end _ _ i.largest (omega arith), i.largest.small)
