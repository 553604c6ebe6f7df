-- Laws of the definitions on bound words. Assumes nothing.
use Prim.Native.Nat.{ℕ, zero, suc, ◌≤◌, ◌<◌}
use mathlib.Core.Path.{◌≡◌}
use mathlib.Core.Bool.{true, not, ◌&&◌}
use native.Mathlib.Omega.{arith}
use borrow.Author.Tests.{leb-true}
use lib.Dec.{eqb, leb}
use lib.IntN.{pos, nat_abs, ◌-ℤ◌}
use Rattle.zone.specs.Words.{bits, kind, bound_of, bound_fields?, good_bound?}
use Rattle.zone.proofs.Bools.{false_true, left_true, right_true}
use Rattle.zone.proofs.Integers.{abs-small, parts-diff}

-- ---- the fields of a bound that are in their ranges
module _ (C w : ℕ) (fields : bound_fields? C w ≡ true) where
  clocks-fit : (leb (bound_of w).i C && leb (bound_of w).j C) ≡ true
  unfolding bound_fields? bound_of
  clocks-fit = left_true _ _ (left_true _ _ (left_true _ _ fields))

  pub first_fits : (bound_of w).i ≤ C
  first_fits = leb-true (bound_of w).i C (left_true (leb (bound_of w).i C) (leb (bound_of w).j C) clocks-fit)

  pub second_fits : (bound_of w).j ≤ C
  second_fits = leb-true (bound_of w).j C (right_true (leb (bound_of w).i C) (leb (bound_of w).j C) clocks-fit)

  -- d is never -4,096
  number-there : not (eqb (bits 12 0 w) 0) ≡ true
  unfolding bound_fields?
  number-there =
      right_true (leb (bits 27 24 w) C && leb (bits 23 20 w) C && not (eqb (bits 27 24 w) (bits 23 20 w))) _
      (left_true _ (eqb (bits 18 13 w) 0) fields)

  pub number_small : nat_abs (bound_of w).d < 4096
  unfolding bound_of
  number_small =
      let e = parts-diff (bits 12 0 w) 4096 in
      let h = positive (bits 12 0 w) number-there in
      abs-small (pos (bits 12 0 w) -ℤ pos 4096) (omega arith) (omega arith)
    where
      positive : (n : ℕ) → not (eqb n 0) ≡ true → 1 ≤ n
      positive zero e = false_true e
      positive (suc n) e = omega arith

-- those of a good bound
module _ (C w : ℕ) (good : good_bound? C w ≡ true) where
  pub good-fields : bound_fields? C w ≡ true
  unfolding good_bound?
  good-fields = right_true (eqb (kind w) 5) _ good

  pub good-first : (bound_of w).i ≤ C
  good-first = first_fits C w good-fields

  pub good-second : (bound_of w).j ≤ C
  good-second = second_fits C w good-fields

  pub good-number : nat_abs (bound_of w).d < 4096
  good-number = number_small C w good-fields
