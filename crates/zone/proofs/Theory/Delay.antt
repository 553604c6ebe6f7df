-- The delay of a table: the valuations that some delay attains from it. The upper bounds go, the differences and the lower bounds stay. At
-- one scale the delayed table may hold more than whole delays attain; at twice the scale each of its valuations is attained. Assumes
-- nothing.
use Prim.Native.Nat.{ℕ, zero, suc, ◌+◌, ◌-◌, ◌*◌, ◌≤◌, ◌<◌}
use mathlib.Core.Path.{◌≡◌, refl, subst}
use native.Mathlib.Nat as N
use native.Mathlib.Omega.{arith}
use Rattle.zone.proofs.Theory.BoundLaws.{BoundLaws}
use Rattle.zone.proofs.Theory.Tables.{Table}
use Rattle.zone.proofs.Theory.Meaning.{In, Based, based-⊑, Good}
use Rattle.zone.proofs.Theory.Extend.{reading, above, below}

-- every clock but clock 0 reads t more
unfoldable pub later : (ℕ → ℕ) → ℕ → ℕ → ℕ
later v t zero = v 0
later v t (suc i) = v (suc i) + t

module _ (𝓑 : BoundLaws) where
  open 𝓑 use {B, ◌⊑◌, unbounded, ⊑_refl}
  open 𝓑 use {Holds, holds-⊑, self-holds, holds-at_most_zero, holds-unbounded, shift, unshift, wait, sooner, multiply}

  infix 50 ◌⊑◌
  unfoldable pub delay : Table 𝓑 → Table 𝓑
  delay A zero j = A zero j
  delay A (suc i) zero = unbounded
  delay A (suc i) (suc j) = A (suc i) (suc j)

  pub delay-diagonal : (A : Table 𝓑) (i : ℕ) → delay A i i ≡ A i i
  unfolding delay
  delay-diagonal A zero = refl
  delay-diagonal A (suc i) = refl

  pub delay-row : (A : Table 𝓑) (j : ℕ) → delay A 0 j ≡ A 0 j
  unfolding delay
  delay-row A j = refl

  pub delay-based : {n : ℕ} {A : Table 𝓑} → Based 𝓑 n A → Based 𝓑 n (delay A)
  delay-based {A} b = based-⊑ 𝓑 (λ i. rw (delay-diagonal A i) (⊑_refl (A i i))) (λ j. rw (delay-row A j) (⊑_refl (A 0 j))) b

  -- what a delay attains is in the delayed table
  pub delay_in : {n : ℕ} {A : Table 𝓑} {k : ℕ} {v : ℕ → ℕ} (t : ℕ) → In 𝓑 n A k v → In 𝓑 n (delay A) k (later v t)
  unfolding delay later
  delay_in {n} {A} {k} {v} t p = record { at = all }
    where
      all : (i j : ℕ) → i < n → j < n → Holds k (later v t i) (later v t j) (delay A i j)
      all zero zero hi hj = p.at 0 0 hi hj
      all zero (suc j) hi hj = wait k (v 0) (v (suc j)) t (A 0 (suc j)) (p.at 0 (suc j) hi hj)
      all (suc i) zero hi hj = holds-unbounded k (v (suc i) + t) (v 0)
      all (suc i) (suc j) hi hj = shift k (v (suc i)) (v (suc j)) t (A (suc i) (suc j)) (p.at (suc i) (suc j) hi hj)

  -- u, at twice the scale, is a valuation v of A after a delay of t
  pub record Undelayed (n : ℕ) (A : Table 𝓑) (k : ℕ) (u : ℕ → ℕ) : Type 0 where
    pub v : ℕ → ℕ
    pub v₀ : v 0 ≡ 0
    pub t : ℕ
    pub holds : In 𝓑 n A (2 * k) v
    pub reads : (i : ℕ) → i < n → later v t i ≡ 2 * u i

  -- t is placed as one more clock: it is the reading, at the end, of a clock that read 0 at the start
  pub in_delay : {n : ℕ} {A : Table 𝓑} {k : ℕ} {u : ℕ → ℕ} → 0 < n → Good 𝓑 n A → 1 ≤ k → u 0 ≡ 0 → In 𝓑 n (delay A) k u → Undelayed n A k u
  unfolding delay later
  in_delay {n} {A} {k} {u} h₀ good k₁ u₀ p = record { v = v; v₀ = refl; t = t; holds = record { at = all }; reads = reads }
    where
      w : ℕ → ℕ
      w i = u (suc i)

      a : ℕ → B
      a i = A (suc i) 0

      b : ℕ → B
      b j = A 0 (suc j)

      t : ℕ
      t = reading 𝓑 (n - 1) k w a b

      over : (i : ℕ) → suc i < n → Holds (2 * k) (2 * w i) t (a i)
      over i h = above 𝓑 (n - 1) k w a b i (omega arith)

      under : (j : ℕ) → suc j < n → Holds (2 * k) t (2 * w j) (b j)
      under j h = below 𝓑 (n - 1) k w a b
          (λ i j hi hj. holds-⊑ k k₁ (w i) (w j) (good.closed 0 h₀ (suc i) (suc j)) (p.at (suc i) (suc j) (omega arith) (omega arith)))
          (λ j hj. subst (λ z. Holds k z (w j) (b j)) u₀ (p.at 0 (suc j) h₀ (omega arith))) j (omega arith)

      fits : (j : ℕ) → suc j < n → t ≤ 2 * w j
      fits j h = holds-at_most_zero (2 * k) t (2 * w j) (holds-⊑ (2 * k) (omega arith) t (2 * w j) (good.based.low₀ (suc j) h) (under j h))

      v : ℕ → ℕ
      v = elim [ zero ↦ 0 | suc i ↦ 2 * u (suc i) - t ]

      back : (j : ℕ) → suc j < n → 2 * u (suc j) - t + t ≡ 2 * u (suc j)
      back j h = omega (arith, fits j h)

      reads : (i : ℕ) → i < n → later v t i ≡ 2 * u i
      reads zero h = omega (arith, u₀)
      reads (suc i) h = back i h

      all : (i j : ℕ) → i < n → j < n → Holds (2 * k) (v i) (v j) (A i j)
      all zero zero hi hj = self-holds (2 * k) (omega arith) 0 (A 0 0) (good.ok 0 h₀)
      all zero (suc j) hi hj = unshift (2 * k) 0 (v (suc j)) t (A 0 (suc j)) (rw (back j hj, N.zero-add t) (under j hj))
      all (suc i) zero hi hj = unshift (2 * k) (v (suc i)) 0 t (A (suc i) 0) (rw (back i hi, N.zero-add t) (over i hi))
      all (suc i) (suc j) hi hj = unshift (2 * k) (v (suc i)) (v (suc j)) t (A (suc i) (suc j))
          (rw (back i hi, back j hj) (multiply 2 (omega arith) k (u (suc i)) (u (suc j)) (A (suc i) (suc j)) (p.at (suc i) (suc j) hi hj)))

  -- a bound that holds before and after a delay holds throughout it
  pub between₁ :
      (k : ℕ) (v : ℕ → ℕ) (s t : ℕ) (i j : ℕ) (b : B) → Holds k (v i) (v j) b → Holds k (later v (s + t) i) (later v (s + t) j) b →
      Holds k (later v s i) (later v s j) b
  unfolding later
  between₁ k v s t zero zero b p q = p
  between₁ k v s t zero (suc j) b p q = wait k (v 0) (v (suc j)) s b p
  between₁ k v s t (suc i) zero b p q = sooner k (v (suc i) + s) (v 0) t b (subst (λ x. Holds k x (v 0) b) (omega arith) q)
  between₁ k v s t (suc i) (suc j) b p q = shift k (v (suc i)) (v (suc j)) s b p
