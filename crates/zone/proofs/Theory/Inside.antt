-- The cells of a good table are the tightest bounds: where another bound is tighter than the cell, its opposite can be put into the table, and a
-- point of that table is a valuation at which the bound fails. Assumes nothing.
use Prim.Native.Nat.{ℕ, ◌≤◌, ◌<◌}
use mathlib.Core.Path.{◌≡◌}
use mathlib.Core.Bool.{not}
use lib.Dec.{T}
use native.Mathlib.Omega.{arith}
use Rattle.zone.proofs.Theory.BoundLaws.{BoundLaws}
use Rattle.zone.proofs.Theory.Tables.{Table, insert, insert-old, insert-new}
use Rattle.zone.proofs.Theory.Meaning.{In, in-⊑, Good, good-insert}
use Rattle.zone.proofs.Theory.Restore.{Point, point}

module _ (𝓑 : BoundLaws) where
  open 𝓑 use {B, ◌⊑◌, Holds, holds-⊑, as_tight?, as_tight-⊑, negation, negation-fails, negation-fits}

  infix 50 ◌⊑◌
  -- a valuation of A at which the bound b of clock i minus clock j fails
  pub record Breach (n : ℕ) (A : Table 𝓑) (i j : ℕ) (b : B) : Type 0 where
    pub k : ℕ
    pub k₁ : 1 ≤ k
    pub v : ℕ → ℕ
    pub v₀ : v 0 ≡ 0
    pub holds : In 𝓑 n A k v
    pub fails : Holds k (v i) (v j) b → ⊥

  module _ {n : ℕ} {A : Table 𝓑} (good : Good 𝓑 n A) {i j : ℕ} (hi : i < n) (hj : j < n) (b : B) where
    pub breach : T (not (as_tight? (A i j) b)) → Breach n A i j b
    breach untrue = record {
      k = p.k;
      k₁ = p.k₁;
      v = p.v;
      v₀ = p.v₀;
      holds = in-⊑ 𝓑 p.k₁ (λ i' j' _ _. insert-old 𝓑 A j i (negation b) i' j') p.holds;
      fails = λ h. negation-fails p.k (p.v i) (p.v j) (A i j) b untrue h
          (holds-⊑ p.k p.k₁ (p.v j) (p.v i) there (p.holds.at j i hj hi));
    }
      where
        p : Point 𝓑 n (insert 𝓑 j i (negation b) A)
        p = point 𝓑 (omega arith) (good-insert 𝓑 j i (negation b) (negation-fits (A i j) b untrue) good)

        there : insert 𝓑 j i (negation b) A j i ⊑ negation b
        there = insert-new 𝓑 A j i (negation b) (good.based.flat j hj) (good.based.flat i hi)
