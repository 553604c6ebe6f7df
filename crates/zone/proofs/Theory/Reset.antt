-- The reset of a table: each clock that is set to 0 has the bounds of clock 0. The table holds what the reset makes of the table's
-- valuations, and of a good table it holds nothing else: each of its valuations is, at a multiple of the scale, the reset of one. Assumes
-- nothing.
use Prim.Native.Nat.{ℕ, zero, ◌*◌, ◌≤◌, ◌<◌}
use mathlib.Core.Path.{◌≡◌, refl, sym, ap, ◌∙◌}
use mathlib.Core.Bool.{Bool, true, false, cond}
use native.Mathlib.Nat as N
use native.Mathlib.Omega.{arith}
use Rattle.zone.proofs.Theory.BoundLaws.{BoundLaws}
use Rattle.zone.proofs.Theory.Tables.{Table}
use Rattle.zone.proofs.Theory.Meaning.{In, Good}
use Rattle.zone.proofs.Theory.Restore.{rename, Restored, restore}

-- ---- the clocks that a reset sets become clock 0
unfoldable pub renamed : (ℕ → Bool) → ℕ → ℕ
renamed masked i = cond (masked i) 0 i

pub renamed-zero : (masked : ℕ → Bool) → renamed masked 0 ≡ 0
unfolding renamed
renamed-zero masked = by (masked 0)
  where
    by : (c : Bool) → cond c zero 0 ≡ 0
    by true = refl
    by false = refl

pub renamed-lt : {n : ℕ} (masked : ℕ → Bool) (i : ℕ) → i < n → renamed masked i < n
unfolding renamed
renamed-lt {n} masked i h = by (masked i)
  where
    by : (c : Bool) → cond c 0 i < n
    by true = omega arith
    by false = h

module _ (𝓑 : BoundLaws) where
  open 𝓑 use {B, Holds, holds-⊑, holds-at_most_zero}

  abbrev pub reset : (ℕ → Bool) → Table 𝓑 → Table 𝓑
  reset masked A = rename 𝓑 (renamed masked) A

  -- u, at a multiple of the scale, is the reset of a valuation v of A; the clocks that are not masked read in v what they read in u
  pub record Unreset (n : ℕ) (A : Table 𝓑) (masked : ℕ → Bool) (k : ℕ) (u : ℕ → ℕ) : Type 0 where
    pub factor : ℕ
    pub factor₁ : 1 ≤ factor
    pub v : ℕ → ℕ
    pub v₀ : v 0 ≡ 0
    pub holds : In 𝓑 n A (factor * k) v
    pub reads : (i : ℕ) → i < n → v (renamed masked i) ≡ factor * u i

  pub in-reset :
      {n : ℕ} {A : Table 𝓑} {k : ℕ} {u : ℕ → ℕ} (masked : ℕ → Bool) → 0 < n → Good 𝓑 n A → 1 ≤ k → u 0 ≡ 0 → In 𝓑 n (reset masked A) k u →
      Unreset n A masked k u
  unfolding renamed
  in-reset {n} {A} {k} {u} masked h₀ good k₁ u₀ p = record {
    factor = r.factor;
    factor₁ = r.factor₁;
    v = r.v;
    v₀ = r.v₀;
    holds = r.holds;
    reads = λ i h. by i (masked i) (p.at i 0 h h₀) (r.keeps i h);
  }
    where
      r : Restored 𝓑 n A (renamed masked) k u
      r = restore 𝓑 good (renamed masked) (renamed-zero masked) k₁ u₀ p

      -- a masked clock is not above clock 0, so u reads 0 there
      by : (i : ℕ) (c : Bool) → Holds k (u i) (u 0) (A (cond c 0 i) (renamed masked 0)) → (cond c 0 i ≡ i → r.v i ≡ r.factor * u i) →
          r.v (cond c 0 i) ≡ r.factor * u i
      by i true q f = r.v₀ ∙ sym (ap (λ z. r.factor * z) none ∙ N.mul-zero r.factor)
        where
          q₀ : Holds k (u i) (u 0) (A 0 0)
          q₀ = rw (renamed-zero masked) at q

          none : u i ≡ 0
          none = omega (arith, holds-at_most_zero k (u i) (u 0) (holds-⊑ k k₁ (u i) (u 0) (good.based.flat 0 h₀) q₀))
      by i false q f = f refl
