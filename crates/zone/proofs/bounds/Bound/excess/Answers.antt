-- The lowest bit of two keys or-ed is the larger of their lowest bits, also of negative keys.
use Rattle.std.proofs.Common.{◌≡◌, refl, ap, ap₂, ◌∙◌, ℕ, suc, ◌-◌, ◌%◌, ◌^◌, ◌<◌, max, ℤ, pos, negsuc, to_z, of_z, SFits, w32, bit_and, bit_or, rules, arith}
use lib.Bits.{and_mask, or_step}
use lib.Signed.{mag}
use mir.Facts.{to_z_pos}
use Rattle.zone.specs.Keys.{lowest}
use Rattle.zone.proofs.bounds.Bound.excess.Goals as goal

low_bit : (z : ℤ) → mag z < 2 ^ 31 → of_z w32 z % 2 ≡ lowest z
low_bit (pos n) h = refl
low_bit (negsuc n) h = let e : (2 ^ 32 - suc n) % 2 ≡ suc n % 2 = omega arith in e

or-low : (x y : ℕ) → bit_or x y % 2 ≡ max (x % 2) (y % 2)
or-low x y = let e = or_step x y in omega arith

is_excess :
    (a b : ℤ) → mag a < 2 ^ 31 → mag b < 2 ^ 31 →
    to_z w32 (bit_and (bit_or (of_z w32 a) (of_z w32 b)) 1) ≡ pos (max (lowest a) (lowest b))
is_excess a b h k =
    ap (to_z w32) (and_mask (bit_or (of_z w32 a) (of_z w32 b)) 1 ∙ or-low (of_z w32 a) (of_z w32 b) ∙ ap₂ max (low_bit a h) (low_bit b k))
    ∙ to_z_pos w32 {n = max (lowest a) (lowest b)} (omega arith)

pub returns : goal.returns
returns c =
    let first : SFits w32 c.args.self.key = search rules in
    let second : SFits w32 c.args.other.key = search rules in
    is_excess c.args.self.key c.args.other.key first.sfits second.sfits
