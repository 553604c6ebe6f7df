-- The earliest valuation of a good table of n clocks, at scale n: every clock begins at 0, and a round raises each clock as far as its bounds with
-- the others ask. A clock that the round behind the first r raises reads r more than n times its lower bound before it (`late`), so r + 1 more
-- after it; and no clock ever reads n more, since the rounds stay below a valuation in which none does (`placed`). So n - 1 rounds are enough.
-- Assumes nothing.
use Prim.Native.Nat.{ℕ, zero, suc, ◌+◌, ◌-◌, ◌*◌, ◌≤◌, ◌<◌}
use mathlib.Core.Path.{◌≡◌, refl, ap, subst, ◌∙◌}
use mathlib.Core.Logic.{◌⊎◌, inl, inr}
use mathlib.Core.Bool.{Bool, true, false, not}
use native.Mathlib.Nat as N
use native.Mathlib.Omega.{arith}
use lib.Dec.{T}
use Rattle.zone.proofs.Integers.{lt-or-ge, scaled}
use Rattle.zone.proofs.Counting.{bit, bit-small}
use Rattle.zone.proofs.Theory.BoundLaws.{BoundLaws}
use Rattle.zone.proofs.Theory.Tables.{Table}
use Rattle.zone.proofs.Theory.Meaning.{In, Good}
use Rattle.zone.proofs.Theory.Extend.{most, most-cases, most-ge}
use Rattle.zone.proofs.Theory.OneScale.{Parts, lower, has-lower, step, placed, placed-low, placed₀, placed_in_lem}

-- the greatest value is that of some number, if it is not 0
record Attained (m : ℕ) (f : ℕ → ℕ) (x : ℕ) : Type 0 where
  i : ℕ
  low : i < m
  is : x ≡ f i

attained : (m : ℕ) (f : ℕ → ℕ) → 0 < most m f → Attained m f (most m f)
attained m f = most-cases (λ x. 0 < x → Attained m f x) m f (λ h. absurd (omega arith)) (λ i h _. record { i = i; low = h; is = refl })

module _ (𝓑 : BoundLaws) (𝓟 : Parts 𝓑) where
  open 𝓑 use {◌⊑◌, ◌⊕◌, ⊑_refl, ⊑_trans, ⊕-mono, ⊕-unit', Holds, holds-⊑, sooner}
  open 𝓟 use {least, least-holds, holds-least, finite?, strict?, up, dn, least-finite, least-absent, chained}

  infix 50 ◌⊑◌
  infixl 70 ◌⊕◌
  -- what clock j reads after r rounds
  unfoldable pub rounds : ℕ → Table 𝓑 → ℕ → ℕ → ℕ
  rounds n A zero j = 0
  rounds n A (suc r) j = most n (λ i. least n (rounds n A r i) (A i j))

  module _ (n : ℕ) (A : Table 𝓑) where
    -- no valuation is earlier: at any clock whose bounds with the first n hold
    pub rounds-least : (u : ℕ → ℕ) → In 𝓑 n A n u → (r j : ℕ) → ((i : ℕ) → i < n → Holds n (u i) (u j) (A i j)) → rounds n A r j ≤ u j
    unfolding rounds
    rounds-least u p zero j h = omega arith
    rounds-least u p (suc r) j h =
        most-cases (λ x. x ≤ u j) n (λ i. least n (rounds n A r i) (A i j)) (omega arith)
        (λ i hi. holds-least n (rounds n A r i) (u j) (A i j)
        (early (rounds n A r i) (u i) (rounds-least u p r i (λ l hl. p.at l i hl hi)) (h i hi)))
      where
        early : {i : ℕ} (x y : ℕ) → x ≤ y → Holds n y (u j) (A i j) → Holds n x (u j) (A i j)
        early {i} x y l q =
            let e : y ≡ x + (y - x) = omega arith in
            sooner n x (u j) (y - x) (A i j) (subst (λ z. Holds n z (u j) (A i j)) e q)

    pub raises : (r i j : ℕ) → i < n → least n (rounds n A r i) (A i j) ≤ rounds n A (suc r) j
    unfolding rounds
    raises r i j h = most-ge n (λ i. least n (rounds n A r i) (A i j)) i h

    raised_by : (r j : ℕ) → 0 < rounds n A (suc r) j → Attained n (λ i. least n (rounds n A r i) (A i j)) (rounds n A (suc r) j)
    unfolding rounds
    raised_by r j h = attained n (λ i. least n (rounds n A r i) (A i j)) h

    -- after the first round every clock reads its lower bound: no other bound asks for more of it while all read 0
    pub first_round : Good 𝓑 n A → 1 ≤ n → (j : ℕ) → rounds n A 1 j ≡ least n 0 (A 0 j)
    unfolding rounds
    first_round good n₁ j =
        let most : rounds n A 1 j ≤ least n 0 (A 0 j) = most-cases (λ x. x ≤ least n 0 (A 0 j)) n (λ i. least n 0 (A i j)) (omega arith) at_most in
        omega (arith, raises 0 0 j n₁)
      where
        tighter : (i : ℕ) → i < n → A 0 j ⊑ A i j
        tighter i h = ⊑_trans (good.closed i h 0 j) (⊑_trans (⊕-mono (good.based.low₀ i h) (⊑_refl (A i j))) (⊕-unit' (A i j)))

        at_most : (i : ℕ) → i < n → least n 0 (A i j) ≤ least n 0 (A 0 j)
        at_most i h =
            let y : ℕ = least n 0 (A 0 j) in
            holds-least n 0 y (A i j) (holds-⊑ n n₁ 0 y (tighter i h) (least-holds n 0 y (A 0 j) (N.le_refl y)))

    module _ (good : Good 𝓑 n A) where
      -- n times the lower bound
      whole : ℕ → ℕ
      whole j = n * lower 𝓑 𝓟 A j

      from-lower : (r j : ℕ) → j < n → whole j + bit (strict? (A 0 j)) ≤ rounds n A (suc r) j
      unfolding whole lower
      from-lower r j h =
          let l = has-lower 𝓑 𝓟 good j h in
          let e : n * up (A 0 j) ≡ 0 = ap (λ x. n * x) l.zero ∙ N.mul-zero n in
          omega (arith, least-finite n (rounds n A r 0) (A 0 j) l.finite, raises r 0 j (omega arith))

      below : (r j : ℕ) → j < n → rounds n A r j < whole j + n
      unfolding whole
      below r j h = omega (arith, placed-low 𝓑 𝓟 good j h, rounds-least (placed 𝓑 𝓟 good) (placed_in_lem 𝓑 𝓟 good) r j (λ i hi. (placed_in_lem 𝓑 𝓟 good).at i j hi h))

      -- clock j is raised by a finite bound of clock i minus clock j, in the round behind the first r
      record Raised (r i j : ℕ) : Type 0 where
        low : i < n
        finite : T (finite? (A i j))
        reads : rounds n A (suc r) j + n * up (A i j) ≡ rounds n A r i + n * dn (A i j) + bit (strict? (A i j))

      raised-from : (r j : ℕ) → 0 < rounds n A (suc r) j → (i : ℕ) × Raised r i j
      raised-from r j h =
          let a = raised_by r j h in
          (a.i, by a.i a.low a.is (finite? (A a.i j)) (λ t. t) (λ t. t))
        where
          by : (i : ℕ) → i < n → rounds n A (suc r) j ≡ least n (rounds n A r i) (A i j) → (c : Bool) → (T c → T (finite? (A i j))) →
              (T (not c) → T (not (finite? (A i j)))) → Raised r i j
          by i l e true f g = record {
            low = l;
            finite = f tt;
            reads = omega (arith, least-finite n (rounds n A r i) (A i j) (f tt));
          }
          by i l e false f g = absurd (omega (arith, least-absent n (rounds n A r i) (A i j) (g tt)))

      -- the lower bound of clock j then goes through clock i: otherwise there is a whole unit to spare
      through : (r i j : ℕ) → j < n → Raised r i j → whole j < rounds n A (suc r) j →
          lower 𝓑 𝓟 A i + dn (A i j) ≡ lower 𝓑 𝓟 A j + up (A i j)
      unfolding whole
      through r i j h a l = by (N.eq-or-lt_of_le (step 𝓑 𝓟 good i j a.low h a.finite))
        where
          by : (lower 𝓑 𝓟 A i + dn (A i j) ≡ lower 𝓑 𝓟 A j + up (A i j)) ⊎ (lower 𝓑 𝓟 A i + dn (A i j) < lower 𝓑 𝓟 A j + up (A i j)) →
              lower 𝓑 𝓟 A i + dn (A i j) ≡ lower 𝓑 𝓟 A j + up (A i j)
          by (inl e) = e
          by (inr g) =
              absurd (omega (arith, a.reads, below r i a.low, bit-small (strict? (A i j)), N.mul-le-mul_left n g))

      -- where the bound is not strict, that by which clock i was raised before raises clock j as far already
      not-strict : (r l i j : ℕ) → Raised r l i → Raised (suc r) i j → bit (strict? (A i j)) ≡ 0 → rounds n A (suc (suc r)) j ≤ rounds n A (suc r) j
      not-strict r l i j a b e =
          let c = chained (A l j) (A l i) (A i j) (good.closed i b.low l j) a.finite b.finite in
          let s =
          scaled n (up (A l j) + dn (A l i) + dn (A i j)) (dn (A l j) + up (A l i) + up (A i j)) (bit (strict? (A l i))) (bit (strict? (A l j)))
          (omega (arith, b.low)) (omega (arith, bit-small (strict? (A l i)))) (omega (arith, bit-small (strict? (A l j)))) c.left in
          let t = simp N.mul-add at s in
          omega (arith, least-finite n (rounds n A r l) (A l j) c.finite, raises r l j a.low, a.reads, b.reads)

      -- a strict bound that the lower bound of clock j goes through makes that one strict
      strict-lower : (i j : ℕ) → i < n → j < n → T (finite? (A i j)) → lower 𝓑 𝓟 A i + dn (A i j) ≡ lower 𝓑 𝓟 A j + up (A i j) →
          bit (strict? (A i j)) ≤ bit (strict? (A 0 j))
      unfolding lower
      strict-lower i j hi hj f e =
          let a = has-lower 𝓑 𝓟 good i hi in
          let b = has-lower 𝓑 𝓟 good j hj in
          let c = chained (A 0 j) (A 0 i) (A i j) (good.closed i hi 0 j) a.finite f in
          omega (arith, a.zero, b.zero, c.right)

      -- clock j is raised behind the first r + 1 rounds: by a strict bound with a clock i, which its lower bound goes through and which was raised itself
      -- one round before
      record Rise (r j : ℕ) : Type 0 where
        i : ℕ
        by : Raised (suc r) i j
        meets : n * lower 𝓑 𝓟 A i + n * dn (A i j) ≡ n * lower 𝓑 𝓟 A j + n * up (A i j)
        strict : bit (strict? (A i j)) ≡ 1
        before : rounds n A r i < rounds n A (suc r) i
        first : bit (strict? (A 0 j)) ≡ 1

      rise : (r j : ℕ) → j < n → rounds n A (suc r) j < rounds n A (suc (suc r)) j → Rise r j
      unfolding whole
      rise r j h up? =
          let (i, b) = raised-from (suc r) j (omega arith) in
          let e = through (suc r) i j h b (omega (arith, from-lower r j h)) in
          let p : rounds n A r i < rounds n A (suc r) i = earlier i b in
          let (l, a) = raised-from r i (omega arith) in
          let s : bit (strict? (A i j)) ≡ 1 = strict (strict? (A i j)) (not-strict r l i j a b) in
          let f = strict-lower i j b.low h b.finite e in
          record {
            i = i;
            by = b;
            meets = simp N.mul-add at (ap (λ x. n * x) e);
            strict = s;
            before = p;
            first = omega (arith, bit-small (strict? (A 0 j)));
          }
        where
          earlier : (i : ℕ) → Raised (suc r) i j → rounds n A r i < rounds n A (suc r) i
          earlier i b = by (lt-or-ge (rounds n A r i) (rounds n A (suc r) i))
            where
              by : (rounds n A r i < rounds n A (suc r) i) ⊎ (rounds n A (suc r) i ≤ rounds n A r i) → rounds n A r i < rounds n A (suc r) i
              by (inl l) = l
              by (inr l) = absurd (omega (arith, b.reads, least-finite n (rounds n A r i) (A i j) b.finite, raises r i j b.low))

          strict : (c : Bool) → (bit c ≡ 0 → rounds n A (suc (suc r)) j ≤ rounds n A (suc r) j) → bit c ≡ 1
          strict true f = refl
          strict false f = absurd (omega (arith, f refl))

      -- by then it reads r + 1 more than n times its lower bound
      late : (r j : ℕ) → j < n → rounds n A (suc r) j < rounds n A (suc (suc r)) j → whole j + suc r ≤ rounds n A (suc r) j
      unfolding whole
      late zero j h up? = omega (arith, from-lower 0 j h, (rise 0 j h up?).first)
      late (suc s) j h up? =
          let p = rise (suc s) j h up? in
          omega (
            arith,
            late s p.i p.by.low p.before,
            p.meets,
            p.strict,
            least-finite n (rounds n A (suc s) p.i) (A p.i j) p.by.finite,
            raises (suc s) p.i j p.by.low,
          )

      -- so that of two clocks or more none is raised behind the first n - 1
      module _ (c : ℕ) (e : n ≡ suc (suc c)) where
        done : (j : ℕ) → j < n → rounds n A (suc (suc c)) j ≤ rounds n A (suc c) j
        done j h = by (lt-or-ge (rounds n A (suc c) j) (rounds n A (suc (suc c)) j))
          where
            by : (rounds n A (suc c) j < rounds n A (suc (suc c)) j) ⊎ (rounds n A (suc (suc c)) j ≤ rounds n A (suc c) j) →
                rounds n A (suc (suc c)) j ≤ rounds n A (suc c) j
            by (inl l) = absurd (omega (arith, late c j h l, below (suc (suc c)) j h))
            by (inr l) = l

        pub rounds_in : In 𝓑 n A n (rounds n A (suc c))
        rounds_in = record {
          at = λ i j hi hj.
              least-holds n (rounds n A (suc c) i) (rounds n A (suc c) j) (A i j) (omega (arith, raises (suc c) i j hi, done j hj));
        }

        -- clock 0 stays at 0
        pub rounds₀ : rounds n A (suc c) 0 ≡ 0
        rounds₀ = omega (arith, rounds-least (placed 𝓑 𝓟 good) (placed_in_lem 𝓑 𝓟 good) (suc c) 0 (λ i hi. (placed_in_lem 𝓑 𝓟 good).at i 0 hi (omega arith)), placed₀ 𝓑 𝓟 good (omega arith))
