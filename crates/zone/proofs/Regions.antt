-- Laws of zones by value, for their callers: a square table stands for a region, as do the tables that are made of bounds or worked out of such
-- tables. Assumes nothing.
use Prim.Native.Nat.{ℕ, zero, suc, ◌≤◌, ◌<◌}
use mathlib.Core.Path.{◌≡◌, refl, sym, subst, fun_ext}
use mathlib.Core.Bool.{Bool, true, false, cond, ◌||◌}
use mathlib.Core.List.{[]}
use native.Mathlib.Nat as N
use native.Mathlib.Omega.{arith}
use lib.Dec.{T, eqb, eqb→eq, eqb_refl}
use lib.IntN.{nat_abs}
use lib.ListN.{length}
use Rattle.zone.specs.Scale.{Valuation, read, Bound, holds?, in?, Region, within}
use Rattle.zone.specs.Cells.{unbounded, at_most_zero, tighter_of}
use Rattle.zone.specs.Squares.{cell, universe, with_bound, met}
use Rattle.zone.specs.Reading.{cell_of}
use Rattle.zone.specs.declared.bounds.Bound.{Bound as Cell}
use Rattle.zone.specs.declared.zones.Zone.{Zone as Square}
use Rattle.zone.proofs.Limits.{none, bounds}
use Rattle.zone.proofs.KeyLaws.{limit_of, holds→, →holds, limit-cell_of}
use Rattle.zone.proofs.SquareTables.{table_of, sized-square, sized_with, table-universe, with_old, with_new, with_cases, table-met}
use Rattle.zone.proofs.Theory.Tables.{meet}
use Rattle.zone.proofs.Theory.Meaning.{In, Based, in-⊑, meet_in, in_meet-left, in_meet-right, meet-based}

-- v is in the square table at scale k
unfoldable pub in_square : Square → Region
in_square z k v = In bounds 5 (table_of z) k (read v)

-- the table has exactly the valuations of the region, at every scale, and says that no clock is below 0
pub record Stands (R : Region) (z : Square) : Type 0 where
  pub sized : length z.cells ≡ 25
  pub based : Based bounds 5 (table_of z)
  pub into : (k : ℕ) → 1 ≤ k → (v : Valuation) → R k v → in_square z k v
  pub out : (k : ℕ) → 1 ≤ k → (v : Valuation) → in_square z k v → R k v

-- a valuation of the theory has clock 0 at 0
pub read_same : (v : Valuation) → v 0 ≡ 0 → read v ≡ v
unfolding read
read_same v v₀ = fun_ext at
  where
    at : (i : ℕ) → read v i ≡ v i
    at zero = sym v₀
    at (suc i) = refl

abbrev pub in_both : Region → Region → Region
in_both R S k v = R k v × S k v

abbrev pub holding : Bound → Region
holding b k v = T (holds? k v b)

-- the same region, said otherwise
pub stands_same : {R S : Region} {z : Square} → ((k : ℕ) (v : Valuation) → R k v → S k v) → ((k : ℕ) (v : Valuation) → S k v → R k v) →
    Stands R z → Stands S z
stands_same f g s = record {
  sized = s.sized;
  based = s.based;
  into = λ k k₁ v p. s.into k k₁ v (g k v p);
  out = λ k k₁ v p. f k v (s.out k k₁ v p);
}

-- ---- the tables that are made of bounds
pub stands-universe : Stands (within []) universe
unfolding in_square within in? read
stands-universe = record {
  sized = sized-square (λ i j. cond (eqb i 0 || eqb i j) at_most_zero unbounded);
  based = record {
    flat = λ i h. rw (table-universe i i h h) (flat i (eqb i 0) (eqb i i) (eqb_refl i));
    low₀ = λ i h. rw (table-universe 0 i (omega arith) h) (bounds.⊑_refl bounds.at_most_zero);
  };
  into = λ k k₁ v _. record { at = λ i j hi hj. rw (table-universe i j hi hj) (holds k v i j (eqb i 0) (eqb i j) (eqb→eq i 0) (eqb→eq i j)) };
  out = λ k k₁ v _. tt;
}
  where
    flat : (i : ℕ) (a b : Bool) → T b → bounds.◌⊑◌ (cond (a || b) bounds.at_most_zero none) bounds.at_most_zero
    flat i true b t = bounds.⊑_refl bounds.at_most_zero
    flat i false true t = bounds.⊑_refl bounds.at_most_zero
    flat i false false t = absurd t

    holds : (k : ℕ) (v : Valuation) (i j : ℕ) (a b : Bool) → (T a → i ≡ 0) → (T b → i ≡ j) →
        bounds.Holds k (read v i) (read v j) (cond (a || b) bounds.at_most_zero none)
    holds k v i j true b p q = bounds.at_most_zero-holds k (read v i) (read v j) (subst (λ x. read v x ≤ read v j) (sym (p tt)) (omega arith))
    holds k v i j false true p q = bounds.at_most_zero-holds k (read v i) (read v j) (subst (λ x. read v i ≤ read v x) (q tt) (N.le_refl (read v i)))
    holds k v i j false false p q = bounds.holds-unbounded k (read v i) (read v j)

pub stands_with : {R : Region} {z : Square} (i j : ℕ) (c : Cell) → i < 5 → j < 5 → Stands R z →
    Stands (in_both (λ k v. bounds.Holds k (read v i) (read v j) (limit_of c)) R) (with_bound i j c z)
unfolding in_square
stands_with {z = z} i j c hi hj s = record {
  sized = sized_with i j c z s.sized;
  based = record {
    flat = λ a h. bounds.⊑_trans (old a a h h) (s.based.flat a h);
    low₀ = λ a h. bounds.⊑_trans (old 0 a (omega arith) h) (s.based.low₀ a h);
  };
  into = λ k k₁ v p. record {
    at = with_cases i j c z s.sized hi hj (λ a b d. bounds.Holds k (read v a) (read v b) d) (s.into k k₁ v p.1).at p.0;
  };
  out = λ k k₁ v p. (
    bounds.holds-⊑ k k₁ (read v i) (read v j) (with_new i j c z s.sized hi hj) (p.at i j hi hj),
    s.out k k₁ v (in-⊑ bounds k₁ old p),
  );
}
  where
    old : (a b : ℕ) → a < 5 → b < 5 → bounds.◌⊑◌ (table_of (with_bound i j c z) a b) (table_of z a b)
    old = with_old i j c z s.sized hi hj

-- a bound of document 01
pub stands-with_bound : {R : Region} {z : Square} (b : Bound) → b.i < 5 → b.j < 5 → nat_abs b.d < 4096 → Stands R z →
    Stands (in_both (holding b) R) (with_bound b.i b.j (cell_of b) z)
stands-with_bound b hi hj small s =
    let e = limit-cell_of b small in
    stands_same (λ k v p. (→holds k v b (rw e at p.0), p.1)) (λ k v p. (rw e (holds→ k v b p.0), p.1))
    (stands_with b.i b.j (cell_of b) hi hj s)

-- ---- the tables that are worked out of tables
pub stands-met : {R S : Region} {y z : Square} → Stands R y → Stands S z → Stands (in_both R S) (met y z)
unfolding in_square
stands-met {y = y} {z = z} s t = record {
  sized = sized-square (λ i j. tighter_of (cell y i j) (cell z i j));
  based = rw (table-met y z) (meet-based bounds (table_of z) s.based);
  into = λ k k₁ v p. rw (table-met y z) (meet_in bounds (s.into k k₁ v p.0) (t.into k k₁ v p.1));
  out = λ k k₁ v p.
      let q : In bounds 5 (meet bounds (table_of y) (table_of z)) k (read v) = rw (table-met y z) at p in
      (s.out k k₁ v (in_meet-left bounds (table_of y) (table_of z) k₁ q), t.out k k₁ v (in_meet-right bounds (table_of y) (table_of z) k₁ q));
}
