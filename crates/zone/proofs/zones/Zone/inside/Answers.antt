-- One pair more.
use Rattle.std.proofs.Common.{◌≡◌, ◌∙◌, refl, ap, ap₂, rules, arith, length, ◌++◌, ◌∷◌, [], ◌+◌, not, length-append}
use Rattle.std.proofs.lemmas.Slice.Zip.{zip_turn, zip_end}
use Rattle.zone.specs.Cells.{tighter?, past_end}
use Rattle.zone.specs.Squares.{all?, inside?}
use Rattle.zone.proofs.Loops.{all_more}
use Rattle.zone.proofs.zones.Zone.inside.Goals as goal

pub loop-inner-init : goal.loop-inner-init
unfolding all?
loop-inner-init c = refl

pub loop-inner-preserved : goal.loop-inner-preserved
loop-inner-preserved c =
    let t = zip_turn c.args.self.cells c.args.other.cells c.loop-inner.yielded c.into_iter-inner-iterator.result c.loop-inner.inner-iterator c.next.new.self
    c.next.result (search rules) (search rules) c.loop-inner.yielded_by (c.in-Some.inner, c.in-Some.outer) c.in-Some.is c.next.ensures.steps in
    let n : length (c.loop-inner.yielded ++ (c.in-Some.inner, c.in-Some.outer) ∷ []) ≡ length c.loop-inner.yielded + 1 = simp length-append in
    rw n (all_more (length c.loop-inner.yielded) _ c.loop-inner.invariant (ap not (c.tighter.ensures ∙ ap₂ tighter? (t.3 past_end) (t.2 past_end))))

pub returns : goal.returns
unfolding inside?
returns c =
    let n = zip_end c.args.self.cells c.args.other.cells c.loop-inner.yielded c.into_iter-inner-iterator.result c.loop-inner.inner-iterator c.next.new.self
    c.next.result (search rules) (search rules) c.loop-inner.yielded_by c.in-None.is c.next.ensures.steps in
    let first : length c.args.self.cells ≡ 25 = search rules in
    let second : length c.args.other.cells ≡ 25 = search rules in
    let e : length c.loop-inner.yielded ≡ 25 = omega arith in
    rw e at c.loop-inner.invariant
