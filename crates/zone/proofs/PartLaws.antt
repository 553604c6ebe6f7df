-- Laws of a zone that is cut in two by a bound: the part where the bound holds, and the rest. Assumes nothing.
use Prim.Native.Nat.{ℕ, ◌<◌, ◌^◌}
use mathlib.Core.Path.{◌≡◌, ap, subst}
use mathlib.Core.Bool.{not}
use native.Mathlib.Omega.{arith}
use lib.Dec.{T}
use lib.IntN.{ℤ, nat_abs, neg_ℤ}
use Rattle.zone.specs.Scale.{Bound, holds?, Region}
use Rattle.zone.specs.Words.{bound_of}
use Rattle.zone.specs.Cells.{negated, size}
use Rattle.zone.specs.Squares.{with_bound, Tightens}
use Rattle.zone.specs.Reading.{cell_of, with_word}
use Rattle.zone.specs.Parts.{CutBy}
use Rattle.zone.specs.declared.bounds.Bound.{Bound as Cell}
use Rattle.zone.specs.declared.zones.Zone.{Zone as Square}
use Rattle.zone.proofs.Integers.{abs-parts, up_neg, dn-neg}
use Rattle.zone.proofs.KeyLaws.{opposite, key-opposite, opposite-holds, size-cell_of}
use Rattle.zone.proofs.Regions.{Stands, in_both, stands_same, stands-with_bound}
use Rattle.zone.proofs.Sizes.{tightens-fewer, tightens-with_bound}

-- where a bound does not hold
abbrev pub failing : Bound → Region
failing b k v = T (not (holds? k v b))

module _ (b : Bound) where
  cell-opposite : cell_of (opposite b) ≡ negated (cell_of b)
  unfolding negated
  cell-opposite = ap (λ (z : ℤ). record { key = z }) (key-opposite b.d b.strict)

  pub number-opposite : nat_abs b.d < 4096 → nat_abs (neg_ℤ b.d) < 4096
  number-opposite h = omega (arith, abs-parts b.d, abs-parts (neg_ℤ b.d), up_neg b.d, dn-neg b.d)

  -- the table with the negated bound stands for the rest
  pub stands-rest : {R : Region} {z : Square} → b.i < 5 → b.j < 5 → nat_abs b.d < 4096 → Stands R z →
      Stands (in_both (failing b) R) (with_bound b.j b.i (negated (cell_of b)) z)
  stands-rest {R} {z} hi hj h s =
      subst (λ (c : Cell). Stands (in_both (failing b) R) (with_bound b.j b.i c z)) cell-opposite
      (stands_same (λ k v p. ((opposite-holds k v b).0 p.0, p.1)) (λ k v p. ((opposite-holds k v b).1 p.0, p.1))
      (stands-with_bound (opposite b) hj hi (number-opposite h) s))

  pub tightens-rest : (z : Square) → nat_abs b.d < 4096 → Tightens 3 z → Tightens 3 (with_bound b.j b.i (negated (cell_of b)) z)
  tightens-rest z h s =
      subst (λ (c : Cell). Tightens 3 (with_bound b.j b.i c z)) cell-opposite (tightens-with_bound (opposite b) z (number-opposite h) s)

-- ---- what the code works out: a zone with the bound of a word, and with its negation
pub holding_fits : {w : ℕ} {z y : Square} → CutBy w z → y ≡ with_word w z → Tightens 1 y
unfolding with_word
holding_fits {w} {z} a e = rw e (tightens-fewer 1 3 _ (omega arith) (tightens-with_bound (bound_of w) z a.number a.zone))

pub cut_small : {w : ℕ} {z : Square} {b : Cell} → CutBy w z → b ≡ cell_of (bound_of w) → size b < 2 ^ 27
cut_small {w} a e = let h = size-cell_of (bound_of w) a.number in rw e (omega arith)

pub rest_fits : {w : ℕ} {z y : Square} → CutBy w z → y ≡ with_bound (bound_of w).j (bound_of w).i (negated (cell_of (bound_of w))) z → Tightens 1 y
rest_fits {w} {z} a e = rw e (tightens-fewer 1 3 _ (omega arith) (tightens-rest (bound_of w) z a.number a.zone))
