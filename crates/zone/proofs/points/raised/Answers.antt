-- What the bound asks for, worked out from the key as a number that is not negative.
use Rattle.std.proofs.Common.{◌≡◌, sym, ap, ◌∙◌, ℕ, ◌+◌, ◌/◌, ◌^◌, ◌≤◌, ◌<◌, max, ℤ, pos, ◌+ℤ◌, to_z, of_z, SFits, w32, rules, arith}
use Rattle.std.proofs.lemmas.Int.{ints}
use native.Mathlib.Nat as N
use lib.IntN.{nat_abs}
use Rattle.zone.specs.Cells.{size}
use Rattle.zone.specs.declared.bounds.Bound.{Bound as Cell}
use Rattle.zone.proofs.Integers.{up, dn}
use Rattle.zone.proofs.PointCode.{Field, key_range, is_field, least_by}
use Rattle.zone.proofs.points.raised.Goals as goal

abbrev field : ℤ → ℕ
field z = nat_abs (to_z w32 (of_z w32 (to_z w32 (of_z w32 z) +ℤ pos 16777216)))

lifted : (z : ℤ) → SFits w32 z → dn z < up z + 2 ^ 23 → up z < dn z + 2 ^ 29 + 2 ^ 23 → field z + dn z ≡ up z + 2 ^ 24
lifted z f l h = omega (arith, ints)

fields : (a : Cell) → SFits w32 a.key → size a < 2 ^ 23 → Field a.key (field a.key)
fields a f s = is_field a s (lifted a.key f (key_range a s).0 (key_range a s).1)

pub overflow_add-field : goal.overflow_add-field
overflow_add-field c = omega (arith, ints, key_range c.args.bound c.requires.0)

pub overflow_cast-field : goal.overflow_cast-field
overflow_cast-field c =
    let fits : SFits w32 c.args.bound.key = search rules in
    (grind (arith, ints, key_range c.args.bound c.requires.0), omega (arith, lifted c.args.bound.key fits (key_range c.args.bound c.requires.0).0 (key_range c.args.bound c.requires.0).1, key_range c.args.bound c.requires.0))

pub overflow_mul-allowed : goal.overflow_mul-allowed
overflow_mul-allowed c =
    let f = fields c.args.bound (search rules) c.requires.0 in
    let l : field c.args.bound.key / 2 ≤ 2 ^ 29 = omega arith in
    omega (arith, N.mul-le-mul c.requires.2 l)

pub returns : goal.returns
returns c =
    let f = fields c.args.bound (search rules) c.requires.0 in
    c.max.ensures ∙ ap (λ n. max c.args.second n) (c.saturating_sub.ensures ∙ sym (least_by c.args.scale c.args.bound c.args.first f c.requires.0 c.requires.1 c.requires.3))
