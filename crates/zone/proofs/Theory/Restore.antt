-- Clocks placed again. In a table of renamed clocks some clocks have the bounds of others. A valuation of it gives one of the table itself
-- that reads the same, at a multiple of the scale, at every clock that kept its name: the others are placed one by one, and each step
-- doubles the scale. With every clock renamed to clock 0 no reading is needed to start, so a good table has a valuation. Assumes nothing.
use Prim.Native.Nat.{ℕ, zero, suc, ◌*◌, ◌≤◌, ◌<◌, zero-le}
use mathlib.Core.Path.{◌≡◌, refl, sym, ap, subst, subst₂, ◌∙◌}
use mathlib.Core.Bool.{Bool, true, false, cond}
use lib.Dec.{T, eqb, eqb→eq, eqb_refl}
use native.Mathlib.Nat as N
use native.Mathlib.Omega.{arith}
use Rattle.zone.proofs.Theory.BoundLaws.{BoundLaws}
use Rattle.zone.proofs.Theory.Tables.{Table}
use Rattle.zone.proofs.Theory.Meaning.{In, Good}
use Rattle.zone.proofs.Theory.Extend.{reading, above, below}

-- ---- a function changed at one place
unfoldable pub update : (ℕ → ℕ) → ℕ → ℕ → ℕ → ℕ
update f m x i = cond (eqb i m) x (f i)

pub update_here : (f : ℕ → ℕ) (m x : ℕ) → update f m x m ≡ x
unfolding update
update_here f m x = by (eqb m m) (eqb_refl m)
  where
    by : (c : Bool) → T c → cond c x (f m) ≡ x
    by true t = refl
    by false t = absurd t

pub update_other : (f : ℕ → ℕ) (m x i : ℕ) → (i ≡ m → ⊥) → update f m x i ≡ f i
unfolding update
update_other f m x i h = by (eqb i m) (eqb→eq i m)
  where
    by : (c : Bool) → (T c → i ≡ m) → cond c x (f i) ≡ f i
    by true e = absurd (h (e tt))
    by false e = refl

-- two functions changed at the same place
pub update-cases : (Q : ℕ → ℕ → Type 0) (f g : ℕ → ℕ) (m x y i : ℕ) → Q x y → Q (f i) (g i) → Q (update f m x i) (update g m y i)
unfolding update
update-cases Q f g m x y i here other = by (eqb i m)
  where
    by : (c : Bool) → Q (cond c x (f i)) (cond c y (g i))
    by true = here
    by false = other

-- whether two numbers are equal
split : (P : Type 0) (a b : ℕ) → (a ≡ b → P) → ((a ≡ b → ⊥) → P) → P
split P a b f g = by (eqb a b) (eqb→eq a b) (λ e. subst (λ x. T (eqb a x)) e (eqb_refl a))
  where
    by : (c : Bool) → (T c → a ≡ b) → (a ≡ b → T c) → P
    by true s t = f (s tt)
    by false s t = g t

module _ (𝓑 : BoundLaws) where
  open 𝓑 use {B, ◌⊕◌, ⊑_refl, ⊑_trans, ⊕-mono, ⊕-unit', Holds, holds-⊑, self-holds, multiply}

  infixl 70 ◌⊕◌
  -- the table of the renamed clocks
  abbrev pub rename : (ℕ → ℕ) → Table 𝓑 → Table 𝓑
  rename ρ A i j = A (ρ i) (ρ j)

  -- ---- one clock m placed again
  module _ (n : ℕ) (A : Table 𝓑) (m : ℕ) (ρ : ℕ → ℕ) (k : ℕ) (u : ℕ → ℕ) where
    place : ℕ
    place = reading 𝓑 n k u (λ i. A (ρ i) m) (λ j. A m (ρ j))

    over : (i : ℕ) → i < n → Holds (2 * k) (2 * u i) place (A (ρ i) m)
    unfolding place
    over = above 𝓑 n k u (λ i. A (ρ i) m) (λ j. A m (ρ j))

    module _ (good : Good 𝓑 n A) (hm : m < n) (ρ₀ : ρ 0 ≡ 0) (k₁ : 1 ≤ k) (u₀ : u 0 ≡ 0) (p : In 𝓑 n (rename ρ A) k u) where
      under : (j : ℕ) → j < n → Holds (2 * k) place (2 * u j) (A m (ρ j))
      unfolding place
      under = below 𝓑 n k u (λ i. A (ρ i) m) (λ j. A m (ρ j)) meets room
        where
          meets : (i j : ℕ) → i < n → j < n → Holds k (u i) (u j) (A (ρ i) m ⊕ A m (ρ j))
          meets i j hi hj = holds-⊑ k k₁ (u i) (u j) (good.closed m hm (ρ i) (ρ j)) (p.at i j hi hj)

          -- clock 0 reads 0 and is not above clock m
          room : (j : ℕ) → j < n → Holds k 0 (u j) (A m (ρ j))
          room j hj = holds-⊑ k k₁ 0 (u j)
              (⊑_trans (good.closed m hm 0 (ρ j)) (⊑_trans (⊕-mono (good.based.low₀ m hm) (⊑_refl (A m (ρ j)))) (⊕-unit' (A m (ρ j)))))
              (rw (u₀, ρ₀) at (p.at 0 j (omega arith) hj))

      placed : In 𝓑 n (rename (update ρ m m) A) (2 * k) (update (λ i. 2 * u i) m place)
      placed = record { at = all }
        where
          u₂ : ℕ → ℕ
          u₂ i = 2 * u i

          all : (i j : ℕ) → i < n → j < n → Holds (2 * k) (update u₂ m place i) (update u₂ m place j) (A (update ρ m m i) (update ρ m m j))
          all i j hi hj = update-cases (λ x a. Holds (2 * k) x (update u₂ m place j) (A a (update ρ m m j))) u₂ ρ m place m i
              (update-cases (λ y b. Holds (2 * k) place y (A m b)) u₂ ρ m place m j
              (self-holds (2 * k) (omega arith) place (A m m) (good.ok m hm)) (under j hj))
              (update-cases (λ y b. Holds (2 * k) (u₂ i) y (A (ρ i) b)) u₂ ρ m place m j (over i hi)
              (multiply 2 (omega arith) k (u i) (u j) (A (ρ i) (ρ j)) (p.at i j hi hj)))

  -- ---- all of them: a valuation of A that reads a multiple of u at the clocks that keep their names
  pub record Restored (n : ℕ) (A : Table 𝓑) (ρ : ℕ → ℕ) (k : ℕ) (u : ℕ → ℕ) : Type 0 where
    pub factor : ℕ
    pub factor₁ : 1 ≤ factor
    pub v : ℕ → ℕ
    pub v₀ : v 0 ≡ 0
    pub holds : In 𝓑 n A (factor * k) v
    pub keeps : (i : ℕ) → i < n → ρ i ≡ i → v i ≡ factor * u i

  module _ {n : ℕ} {A : Table 𝓑} (good : Good 𝓑 n A) where
    -- where the clocks from m on have their names
    abbrev From : ℕ → Type 0
    From m = (ρ : ℕ → ℕ) → ρ 0 ≡ 0 → ((i : ℕ) → m ≤ i → i < n → ρ i ≡ i) →
        (k : ℕ) → 1 ≤ k → (u : ℕ → ℕ) → u 0 ≡ 0 → In 𝓑 n (rename ρ A) k u → Restored n A ρ k u

    named : From 0
    named ρ ρ₀ same k k₁ u u₀ p = record {
      factor = 1;
      factor₁ = N.le_refl 1;
      v = u;
      v₀ = u₀;
      holds = record { at = all };
      keeps = λ i _ _. sym (N.one-mul (u i));
    }
      where
        all : (i j : ℕ) → i < n → j < n → Holds (1 * k) (u i) (u j) (A i j)
        all i j hi hj = rw (N.one-mul k) (subst₂ (λ a b. Holds k (u i) (u j) (A a b)) (same i zero-le hi) (same j zero-le hj) (p.at i j hi hj))

    step : (m : ℕ) → m < n → From m → From (suc m)
    step m hm again ρ ρ₀ same k k₁ u u₀ p = split (Restored n A ρ k u) (ρ m) m kept moved
      where
        kept : ρ m ≡ m → Restored n A ρ k u
        kept e = again ρ ρ₀ (λ i h l. split (ρ i ≡ i) i m (λ f. rw f e) (λ f. same i (omega arith) l)) k k₁ u u₀ p

        moved : (ρ m ≡ m → ⊥) → Restored n A ρ k u
        moved ne = record {
          factor = r.factor * 2;
          factor₁ = omega (arith, r.factor₁);
          v = r.v;
          v₀ = r.v₀;
          holds = rw (N.mul_assoc r.factor 2 k) r.holds;
          keeps = keeps;
        }
          where
            x : ℕ
            x = place n A m ρ k u

            u' : ℕ → ℕ
            u' = update (λ i. 2 * u i) m x

            other : (i : ℕ) → ρ i ≡ i → i ≡ m → ⊥
            other i e f = ne (subst (λ z. ρ z ≡ z) f e)

            r : Restored n A (update ρ m m) (2 * k) u'
            r = again (update ρ m m) (update_other ρ m m 0 (other 0 ρ₀) ∙ ρ₀)
                (λ i h l. split (update ρ m m i ≡ i) i m (λ f. rw f (update_here ρ m m)) (λ f. update_other ρ m m i f ∙ same i (omega arith) l))
                (2 * k) (omega arith) u' (update_other (λ i. 2 * u i) m x 0 (other 0 ρ₀) ∙ ap (λ z. 2 * z) u₀) (placed n A m ρ k u good hm ρ₀ k₁ u₀ p)

            keeps : (i : ℕ) → i < n → ρ i ≡ i → r.v i ≡ r.factor * 2 * u i
            keeps i h e = r.keeps i h (update_other ρ m m i (other i e) ∙ e)
                ∙ ap (λ z. r.factor * z) (update_other (λ i. 2 * u i) m x i (other i e))
                ∙ sym (N.mul_assoc r.factor 2 (u i))

    from : (m : ℕ) → m ≤ n → From m
    from zero h = named
    from (suc m) h = step m h (from m (omega arith))

    pub restore : (ρ : ℕ → ℕ) → ρ 0 ≡ 0 → {k : ℕ} {u : ℕ → ℕ} → 1 ≤ k → u 0 ≡ 0 → In 𝓑 n (rename ρ A) k u → Restored n A ρ k u
    restore ρ ρ₀ {k} {u} k₁ u₀ p = from n (N.le_refl n) ρ ρ₀ (λ i h l. absurd (omega arith)) k k₁ u u₀ p

  -- ---- a valuation of a good table
  pub record Point (n : ℕ) (A : Table 𝓑) : Type 0 where
    pub k : ℕ
    pub k₁ : 1 ≤ k
    pub v : ℕ → ℕ
    pub v₀ : v 0 ≡ 0
    pub holds : In 𝓑 n A k v

  pub point : {n : ℕ} {A : Table 𝓑} → 0 < n → Good 𝓑 n A → Point n A
  point {n} {A} h good = record { k = r.factor * 1; k₁ = omega (arith, r.factor₁); v = r.v; v₀ = r.v₀; holds = r.holds }
    where
      start : In 𝓑 n (rename (λ i. 0) A) 1 (λ i. 0)
      start = record { at = λ i j _ _. self-holds 1 (N.le_refl 1) 0 (A 0 0) (good.ok 0 h) }

      r : Restored n A (λ i. 0) 1 (λ i. 0)
      r = restore good (λ i. 0) refl (N.le_refl 1) refl start
