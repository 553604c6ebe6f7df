-- The word of a bound, worked out from the bound's key. Assumes nothing.
use Prim.Native.Nat.{ℕ, zero, suc, ◌+◌, ◌-◌, ◌*◌, ◌/◌, ◌%◌, ◌^◌, ◌≤◌, ◌<◌}
use mathlib.Core.Path.{◌≡◌, refl, ap, ◌∙◌}
use mathlib.Core.Bool.{cond, ◌&&◌}
use native.Mathlib.Omega.{arith}
use lib.Dec.{T, eqb, leb, leb→le, le→leb}
use lib.IntN.{ℤ, pos, negsuc, nat_abs, ◌+ℤ◌}
use lib.Signed.{mag, lt_z, non_neg}
use mir.Syntax.{w32}
use mir.Val.{Fits, SFits, to_z, of_z}
use mir.Facts.{to_z-of_z}
use Rattle.zone.specs.Keys.{half, lowest}
use Rattle.zone.specs.declared.bounds.Bound.{Bound as Cell}
use Rattle.zone.proofs.Bools.{both, and, same_test}
use Rattle.zone.proofs.Integers.{up, dn, abs-parts, abs-small, lt_z→, →lt_z, parts_add}
use Rattle.zone.proofs.Limits.{halved}
use Rattle.zone.proofs.Machine.{back32}
use Rattle.drafting.specs.Words.{word, bound_word}
use Rattle.draft.specs.Fronts.{bound_at, narrow_bound?}

-- ---- d is at most 4,095 either way exactly where the key lies from -8,190 to 8,191
pub record Narrow (z : ℤ) : Type 0 where
  low : dn z < 8191 + up z
  high : up z < 8192 + dn z

narrow→ : (z : ℤ) → nat_abs (half z) ≤ 4095 → Narrow z
narrow→ z h = record {
  low = omega (arith, halved z, abs-parts (half z));
  high = omega (arith, halved z, abs-parts (half z));
}

→narrow : (z : ℤ) → Narrow z → nat_abs (half z) ≤ 4095
→narrow z n = let h = abs-small (half z) {n = 4096} (omega (arith, halved z)) (omega (arith, halved z)) in omega arith

pub is-narrow : (a : Cell) → T (narrow_bound? a) → Narrow a.key
unfolding narrow_bound?
is-narrow a t = narrow→ a.key (leb→le (nat_abs (half a.key)) 4095 t)

pub narrow_test :
    (a : Cell) → mag a.key < 2 ^ 31 →
    (lt_z (negsuc 8190) (to_z w32 (of_z w32 a.key)) && lt_z (to_z w32 (of_z w32 a.key)) (pos 8192)) ≡ narrow_bound? a
unfolding narrow_bound?
narrow_test a h = rw (back32 a.key h) (same_test _ _ there back)
  where
    z : ℤ
    z = a.key

    there : T (lt_z (negsuc 8190) z && lt_z z (pos 8192)) → T (leb (nat_abs (half z)) 4095)
    there t =
        let (l, r) = both (lt_z (negsuc 8190) z) (lt_z z (pos 8192)) t in
        let low = lt_z→ (negsuc 8190) z l in
        let high = lt_z→ z (pos 8192) r in
        le→leb (nat_abs (half z)) 4095 (→narrow z (record { low = omega arith; high = omega arith }))

    back : T (leb (nat_abs (half z)) 4095) → T (lt_z (negsuc 8190) z && lt_z z (pos 8192))
    back t =
        let n = narrow→ z (leb→le (nat_abs (half z)) 4095 t) in
        and (lt_z (negsuc 8190) z) (lt_z z (pos 8192)) (→lt_z (negsuc 8190) z (omega arith)) (→lt_z z (pos 8192) (omega arith))

-- ---- a number that is not negative
record NotNegative (y : ℤ) : Type 0 where
  test : T (non_neg y)
  abs : nat_abs y ≡ up y
  size : mag y ≡ up y
  none : dn y ≡ 0

not_negative : (y : ℤ) → dn y ≤ up y → NotNegative y
not_negative (pos m) l = record { test = tt; abs = refl; size = refl; none = refl }
not_negative (negsuc m) l = absurd (omega arith)

-- ---- 8,192 more than the key of a narrow bound is twice the word's field, and the lowest bit
twice : (z : ℤ) → Narrow z → nat_abs (z +ℤ pos 8192) ≡ 2 * nat_abs (half z +ℤ pos 4096) + lowest z
twice z n =
    let p = parts_add z (pos 8192) in
    let q = parts_add (half z) (pos 4096) in
    let t = halved z in
    let r = not_negative (half z +ℤ pos 4096) (omega arith) in
    let s = not_negative (z +ℤ pos 8192) (omega arith) in
    omega arith

module _ (z : ℤ) (h : mag z < 2 ^ 31) (n : Narrow z) where
  abbrev raised : ℤ
  raised = to_z w32 (of_z w32 z) +ℤ pos 8192

  raised_is : raised ≡ z +ℤ pos 8192
  raised_is = rw (back32 z h) refl

  sum : NotNegative (z +ℤ pos 8192)
  sum = not_negative (z +ℤ pos 8192) (omega (arith, parts_add z (pos 8192)))

  pub raised-fits : SFits w32 raised
  raised-fits = rw raised_is (record { sfits = omega (arith, sum, parts_add z (pos 8192)) })

  abbrev field : ℕ
  field = nat_abs (to_z w32 (of_z w32 raised))

  back : to_z w32 (of_z w32 raised) ≡ z +ℤ pos 8192
  back = to_z-of_z raised-fits ∙ raised_is

  field-parts : field ≡ 2 * nat_abs (half z +ℤ pos 4096) + lowest z
  field-parts = rw back (twice z n)

  pub field-small : field < 2 ^ 14
  field-small = rw back (omega (arith, sum, parts_add z (pos 8192)))

  pub cast_fits : T (non_neg (to_z w32 (of_z w32 raised))) × Fits w32 field
  cast_fits = let l = field-small in (rw back sum.test, omega arith)

even_bit : (n : ℕ) → n < 2 → (1 - n) * 2 ^ 19 ≡ cond (eqb n 0) (2 ^ 19) 0
even_bit zero h = refl
even_bit (suc zero) h = refl
even_bit (suc (suc n)) h = absurd (omega arith)

module _ (i j f m b s : ℕ) (e : f ≡ 2 * m + b) (h : b < 2) (t : (1 - b) * 2 ^ 19 ≡ s) where
  fields-are : i * 2 ^ 24 + j * 2 ^ 20 + (1 - f % 2) * 2 ^ 19 + f / 2 ≡ i * 2 ^ 24 + j * 2 ^ 20 + s + m
  fields-are =
      let q : f % 2 ≡ b = omega arith in
      let r : f / 2 ≡ m = omega arith in
      rw (q, r, t) refl

pub word-is : (i j : ℕ) (a : Cell) (h : mag a.key < 2 ^ 31) (n : Narrow a.key) →
    word 5 (i * 2 ^ 24 + j * 2 ^ 20 + (1 - field a.key h n % 2) * 2 ^ 19 + field a.key h n / 2) ≡ bound_word (bound_at i j a)
word-is i j a h n =
    let l = (halved a.key).small in
    ap (word 5)
    (fields-are i j (field a.key h n) (nat_abs (half a.key +ℤ pos 4096)) (lowest a.key) (cond (eqb (lowest a.key) 0) (2 ^ 19) 0)
    (field-parts a.key h n) l (even_bit (lowest a.key) l))

-- the fields fit
pub fields_fit : (i j f : ℕ) → i < 5 → j < 5 → f < 2 ^ 14 → i * 2 ^ 24 + j * 2 ^ 20 + (1 - f % 2) * 2 ^ 19 + f / 2 < 2 ^ 28
fields_fit i j f h k l = omega arith
