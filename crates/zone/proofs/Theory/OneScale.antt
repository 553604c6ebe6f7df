-- One scale for all: a good table of n clocks has a valuation at scale n. Each clock reads n times the number of its lower bound, and one more
-- for each clock that lies strictly before it along lower bounds. Those are fewer than n, since no clock lies before itself. Assumes nothing.
use Prim.Native.Nat.{ℕ, ◌+◌, ◌-◌, ◌*◌, ◌≤◌, ◌<◌}
use mathlib.Core.Path.{◌≡◌, sym, ap}
use mathlib.Core.Logic.{◌⊎◌, inl, inr}
use mathlib.Core.Bool.{Bool, true, false, not, ◌&&◌}
use native.Mathlib.Nat as N
use native.Mathlib.Omega.{arith}
use lib.Dec.{T, eqb, eqb→eq, eqb_refl}
use Rattle.zone.proofs.Bools.{both, and}
use Rattle.zone.proofs.Counting.{bit, bit-small, bit-one, one_bit, count, count-le, count-lt, count-few, count_none}
use Rattle.zone.proofs.Theory.BoundLaws.{BoundLaws}
use Rattle.zone.proofs.Theory.Tables.{Table}
use Rattle.zone.proofs.Theory.Meaning.{In, Good}

-- a bound that is at least as tight as the sum of two finite ones: what that says of the parts of the three. Its number is below the sum of theirs by
-- n less m; s, t and u tell whether it and they are strict
pub record Chained (f : Bool) (m n : ℕ) (s t u : Bool) : Type 0 where
  pub finite : T f
  pub left : 2 * m + bit t ≤ 2 * n + bit s
  pub right : 2 * m + bit u ≤ 2 * n + bit s

-- a bound's parts: whether it says anything, its number as a difference of two naturals, up less dn, and whether it is strict
pub record Parts (𝓑 : BoundLaws) : Type 0 where
  -- at any scale, the least reading of a clock such that a clock that reads x minus it is within a
  pub least : ℕ → ℕ → 𝓑.B → ℕ
  pub least-holds : (k x y : ℕ) (a : 𝓑.B) → least k x a ≤ y → 𝓑.Holds k x y a
  pub holds-least : (k x y : ℕ) (a : 𝓑.B) → 𝓑.Holds k x y a → least k x a ≤ y
  pub finite? : 𝓑.B → Bool
  pub strict? : 𝓑.B → Bool
  pub up : 𝓑.B → ℕ
  pub dn : 𝓑.B → ℕ
  pub least-finite : (k x : ℕ) (a : 𝓑.B) → T (finite? a) → least k x a ≡ x + k * dn a + bit (strict? a) - k * up a
  pub least-absent : (k x : ℕ) (a : 𝓑.B) → T (not (finite? a)) → least k x a ≡ 0
  -- at least as tight as the sum of two finite ones
  pub chained : (a b c : 𝓑.B) → 𝓑.◌⊑◌ a (𝓑.◌⊕◌ b c) → T (finite? b) → T (finite? c) →
      Chained (finite? a) (up a + dn b + dn c) (dn a + up b + up c) (strict? a) (strict? b) (strict? c)
  -- at least as tight as "at most 0", and at most as tight
  pub at_most : (a : 𝓑.B) → 𝓑.◌⊑◌ a 𝓑.at_most_zero → T (finite? a) × (up a ≡ 0)
  pub at_least : (a : 𝓑.B) → 𝓑.◌⊑◌ 𝓑.at_most_zero a → T (finite? a) → 2 * dn a + bit (strict? a) ≤ 2 * up a

module _ (𝓑 : BoundLaws) (𝓟 : Parts 𝓑) where
  open 𝓟 use {least, least-holds, finite?, strict?, up, dn, least-finite, least-absent, chained, at_most, at_least}

  -- the number of clock i's lower bound
  unfoldable pub lower : Table 𝓑 → ℕ → ℕ
  lower A i = dn (A 0 i)

  module _ {n : ℕ} {A : Table 𝓑} (good : Good 𝓑 n A) where
    -- every clock has a lower bound, of 0 or more
    pub record Lower (i : ℕ) : Type 0 where
      pub finite : T (finite? (A 0 i))
      pub zero : up (A 0 i) ≡ 0

    pub has-lower : (i : ℕ) → i < n → Lower i
    has-lower i h =
        let (f, z) = at_most (A 0 i) (good.based.low₀ i h) in
        record { finite = f; zero = z }

    -- a finite bound of clock i minus clock j
    pub step : (i j : ℕ) → i < n → j < n → T (finite? (A i j)) → lower A i + dn (A i j) ≤ lower A j + up (A i j)
    unfolding lower
    step i j hi hj f =
        let a = has-lower i hi in
        let b = has-lower j hj in
        let c = chained (A 0 j) (A 0 i) (A i j) (good.closed i hi 0 j) a.finite f in
        omega (arith, bit-small (strict? (A 0 j)))

    -- ---- the valuation
    -- clock l lies strictly before clock i: there is a strict bound of the first minus the second, and clock i's lower bound goes through it
    before? : ℕ → ℕ → Bool
    before? l i = finite? (A l i) && (strict? (A l i) && eqb (lower A i + up (A l i)) (lower A l + dn (A l i)))

    record Before (l i : ℕ) : Type 0 where
      finite : T (finite? (A l i))
      strict : T (strict? (A l i))
      meets : lower A i + up (A l i) ≡ lower A l + dn (A l i)

    is-before : (l i : ℕ) → T (before? l i) → Before l i
    unfolding before?
    is-before l i t =
        let meets? : Bool = eqb (lower A i + up (A l i)) (lower A l + dn (A l i)) in
        let (f, u) = both (finite? (A l i)) (strict? (A l i) && meets?) t in
        let (s, e) = both (strict? (A l i)) meets? u in
        record { finite = f; strict = s; meets = eqb→eq (lower A i + up (A l i)) (lower A l + dn (A l i)) e }

    before-is : (l i : ℕ) → Before l i → T (before? l i)
    unfolding before?
    before-is l i b =
        let e : T (eqb (lower A i + up (A l i)) (lower A l + dn (A l i))) = rw b.meets (eqb_refl (lower A l + dn (A l i))) in
        and (finite? (A l i)) (strict? (A l i) && eqb (lower A i + up (A l i)) (lower A l + dn (A l i))) b.finite
        (and (strict? (A l i)) (eqb (lower A i + up (A l i)) (lower A l + dn (A l i))) b.strict e)

    -- what lies before clock i lies before clock j, if the lower bound of clock j goes through clock i
    before_on : (l i j : ℕ) → l < n → i < n → j < n → Before l i → T (finite? (A i j)) →
        lower A j + up (A i j) ≡ lower A i + dn (A i j) → Before l j
    before_on l i j hl hi hj b f e =
        let c = chained (A l j) (A l i) (A i j) (good.closed i hi l j) b.finite f in
        let s = step l j hl hj c.finite in
        let o = bit-one (strict? (A l i)) b.strict in
        let m = b.meets in
        let x : 1 ≤ bit (strict? (A l j)) = omega arith in
        record {
          finite = c.finite;
          strict = one_bit (strict? (A l j)) x;
          meets = omega (arith, bit-small (strict? (A l j)));
        }

    before_self : (i : ℕ) → i < n → Before i i → ⊥
    before_self i h b = omega (arith, at_least (A i i) (good.ok i h) b.finite, b.meets, bit-one (strict? (A i i)) b.strict)

    before-zero : (l : ℕ) → l < n → Before l 0 → ⊥
    unfolding lower
    before-zero l hl b =
        let h : 0 < n = omega arith in
        let a = has-lower l hl in
        let z = has-lower 0 h in
        let c = chained (A 0 0) (A 0 l) (A l 0) (good.closed l hl 0 0) a.finite b.finite in
        let m = at_least (A 0 0) (good.ok 0 h) z.finite in
        omega (arith, b.meets, bit-one (strict? (A l 0)) b.strict)

    earlier : ℕ → ℕ
    earlier i = count n (λ l. before? l i)

    earlier-few : (i : ℕ) → i < n → earlier i < n
    unfolding earlier
    earlier-few i h = count-few n (λ l. before? l i) i h (λ t. before_self i h (is-before i i t))

    earlier_on : (i j : ℕ) → i < n → j < n → T (finite? (A i j)) → lower A j + up (A i j) ≡ lower A i + dn (A i j) →
        earlier i + bit (strict? (A i j)) ≤ earlier j
    unfolding earlier
    earlier_on i j hi hj f e = by (strict? (A i j)) (λ s. record { finite = f; strict = s; meets = e })
      where
        on : (l : ℕ) → l < n → T (before? l i) → T (before? l j)
        on l hl t = before-is l j (before_on l i j hl hi hj (is-before l i t) f e)

        by : (s : Bool) → (T s → Before i j) → count n (λ l. before? l i) + bit s ≤ count n (λ l. before? l j)
        by true b = omega (
          arith,
          count-lt n (λ l. before? l i) (λ l. before? l j) on i hi (λ t. before_self i hi (is-before i i t)) (before-is i j (b tt)),
        )
        by false b = omega (arith, count-le n (λ l. before? l i) (λ l. before? l j) on)

    pub placed : ℕ → ℕ
    placed i = n * lower A i + earlier i

    pub placed-low : (i : ℕ) → i < n → placed i < n * lower A i + n
    unfolding placed
    placed-low i h = omega (arith, earlier-few i h)

    pub placed₀ : 0 < n → placed 0 ≡ 0
    unfolding placed earlier lower
    placed₀ h =
        let z = has-lower 0 h in
        let m = at_least (A 0 0) (good.ok 0 h) z.finite in
        let none : count n (λ l. before? l 0) ≡ 0 = count_none n (λ l. before? l 0) (λ l hl t. before-zero l hl (is-before l 0 t)) in
        let e : dn (A 0 0) ≡ 0 = omega (arith, bit-small (strict? (A 0 0))) in
        omega (arith, ap (λ x. n * x) e)

    pub placed_in_lem : In 𝓑 n A n placed
    unfolding placed
    placed_in_lem = record { at = λ i j hi hj. least-holds n (placed i) (placed j) (A i j) (at i j hi hj (finite? (A i j)) (λ f. f) (λ f. f)) }
      where
        -- where the lower bound of clock j goes through clock i the clocks before tell, and else there is a whole unit to spare
        by : (i j : ℕ) → i < n → j < n → (f : T (finite? (A i j))) →
            (lower A i + dn (A i j) ≡ lower A j + up (A i j)) ⊎ (lower A i + dn (A i j) < lower A j + up (A i j)) →
            placed i + n * dn (A i j) + bit (strict? (A i j)) ≤ placed j + n * up (A i j)
        by i j hi hj f (inl e) = omega (arith, earlier_on i j hi hj f (sym e), ap (λ x. n * x) e)
        by i j hi hj f (inr l) = omega (arith, earlier-few i hi, bit-small (strict? (A i j)), N.mul-le-mul_left n l)

        at : (i j : ℕ) → i < n → j < n → (c : Bool) → (T c → T (finite? (A i j))) → (T (not c) → T (not (finite? (A i j)))) →
            least n (placed i) (A i j) ≤ placed j
        at i j hi hj true f g =
            let t = f tt in
            omega (arith, least-finite n (placed i) (A i j) t, by i j hi hj t (N.eq-or-lt_of_le (step i j hi hj t)))
        at i j hi hj false f g = omega (arith, least-absent n (placed i) (A i j) (g tt))
