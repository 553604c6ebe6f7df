-- Each key times the test whether it is picked, added up, is the smaller key; that bound is the pick (`is-pick`).
use Rattle.std.proofs.Common.{◌≡◌, refl, ap, sym, subst, ◌∙◌, rules, arith, Bool, true, false, cond, ℤ, pos, ◌+ℤ◌, ◌-ℤ◌, ◌*ℤ◌, to_z, of_z, SFits, w32}
use Rattle.std.proofs.lemmas.Int.{ints}
use mir.Val.{bool_byte}
use lib.Signed.{lt_z}
use Rattle.zone.specs.declared.bounds.Bound.{Bound as Cell}
use Rattle.zone.specs.Keys.{PickOf}
use Rattle.zone.specs.Cells.{tighter_of}
use Rattle.zone.proofs.KeyLaws.{is-pick}
use Rattle.zone.proofs.bounds.Bound.tighter_of.Goals as goal

abbrev added : Bool → ℤ → ℤ → ℤ
added less a b =
    to_z w32 (of_z w32 (to_z w32 (of_z w32 a) *ℤ to_z w32 (of_z w32 (pos 1 -ℤ to_z w32 (bool_byte less)))))
    +ℤ to_z w32 (of_z w32 (to_z w32 (of_z w32 b) *ℤ to_z w32 (bool_byte less)))

picked : (less : Bool) (a b : ℤ) → SFits w32 a → SFits w32 b → SFits w32 (added less a b) × (to_z w32 (of_z w32 (added less a b)) ≡ cond less b a)
picked true a b f g = (omega (arith, ints), omega (arith, ints))
picked false a b f g = (omega (arith, ints), omega (arith, ints))

is_picked : (less : Bool) (a b : Cell) → SFits w32 a.key → SFits w32 b.key → less ≡ lt_z b.key a.key →
    record { key = to_z w32 (of_z w32 (added less a.key b.key)) } ≡ tighter_of a b
unfolding tighter_of
is_picked less a b f g e =
    ap (λ k. record { key = k }) (picked less a.key b.key f g).1 ∙ by less ∙ ap (λ l. cond l b a) e
  where
    by : (l : Bool) → ◌≡◌ {A = Cell} (record { key = cond l b.key a.key }) (cond l b a)
    by true = refl
    by false = refl

pub overflow_add-result : goal.overflow_add-result
overflow_add-result c = (picked c.below-less.result c.args.self.key c.args.other.key (search rules) (search rules)).0

pub returns-clause-picks : goal.returns-clause-picks
returns-clause-picks c = is_picked c.below-less.result c.args.self c.args.other (search rules) (search rules) c.below-less.ensures

pub returns-clause-means : goal.returns-clause-means
returns-clause-means c =
    subst (PickOf c.args.self c.args.other) (sym (is_picked c.below-less.result c.args.self c.args.other (search rules) (search rules) c.below-less.ensures))
    (is-pick c.args.self c.args.other)
