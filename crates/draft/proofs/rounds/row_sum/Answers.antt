-- Four shares below 2^48 do not overflow.
use Rattle.std.proofs.Common.{◌≡◌, ◌∙◌, ◌*◌, ap, rules, arith}
use Rattle.std.proofs.lemmas.Slice.Zip.{either_empty_from_Zip}
use Rattle.model.specs.Fields.{weight_of}
use Rattle.draft.proofs.RoundCode.{sum_begin, sum-small, sum-next, sum-end}
use Rattle.draft.proofs.rounds.row_sum.Goals as goal

pub loop-edge-init : goal.loop-edge-init
loop-edge-init c =
    let edges : c.into_iter-edge-iterator.result.a.rest.now ≡ c.args.edges.now = search rules in
    let codes : c.into_iter-edge-iterator.result.b.rest.now ≡ c.args.codes.now = search rules in
    rw (edges, codes) ((tt, tt), tt, sum_begin _ _ _)

pub overflow_add-sum : goal.overflow_add-sum
overflow_add-sum c =
    let few = c.requires in
    let small = sum-small _ c.loop-edge.invariant.2 c.in-Some.ensures.steps.0 in
    omega (arith, c.share-sum.ensures.1)

pub loop-edge-preserved : goal.loop-edge-preserved
loop-edge-preserved c =
    let steps = c.in-Some.ensures.steps in (
      (tt, tt),
      tt,
      sum-next _ c.loop-edge.invariant.2 steps.0 steps.1 _ (c.share-sum.ensures.0 ∙ ap (λ n. weight_of c.in-Some.field-0-0.now * n) c.of.ensures)
          c.share-sum.ensures.1,
    )

pub returns : goal.returns
returns c =
    sum-end _ c.loop-edge.invariant.2 c.args.values.now.fits
    (either_empty_from_Zip c.loop-edge.edge-iterator c.next.new.self c.next.result c.in-None.is c.next.ensures.steps)
