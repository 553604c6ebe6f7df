-- Laws of zones by value for judging a row: from a zone, through a delay, into a guard, and on through a reset. Assumes nothing.
use Prim.Native.Nat.{ℕ, zero, suc, ◌+◌, ◌*◌, ◌≤◌}
use mathlib.Core.Path.{◌≡◌, refl, sym, ap, ◌∙◌, fun_ext}
use mathlib.Core.Bool.{Bool, true, false, cond}
use mathlib.Core.List.{[], ◌∷◌}
use native.Mathlib.Nat as N
use native.Mathlib.Omega.{arith}
use lib.Dec.{T}
use Rattle.zone.specs.Scale.{Valuation, read, holds?, Zone, in?, Region, within}
use Rattle.zone.specs.Moves.{delayed, masked?, reset, ResetOf}
use Rattle.zone.specs.Squares.{tightened, delayed_square, source, reset_square, Tightens}
use Rattle.zone.specs.declared.zones.Zone.{Zone as Square}
use Rattle.zone.proofs.Bools.{both, and}
use Rattle.zone.proofs.Limits.{bounds}
use Rattle.zone.proofs.KeyLaws.{bound_limit, holds→, →holds}
use Rattle.zone.proofs.Sizes.{small-met, small-delayed, tightens-fewer, tightens-less}
use Rattle.zone.proofs.SquareTables.{table_of, table-met, table-tightened, table-delayed, attained_table, reached, table-reached, table-reset, source-lt}
use Rattle.zone.proofs.Regions.{Stands, in_square, read_same}
use Rattle.zone.proofs.Spans.{Multiple, Spans, Tight}
use Rattle.zone.proofs.Theory.Meaning.{In, Good, diagonal, close_in, in_close, close-based, meet-based}
use Rattle.zone.proofs.Theory.Inside.{Breach}
use Rattle.zone.proofs.Theory.Delay.{later, between₁, delay-based}
use Rattle.zone.proofs.Theory.Reset as theory
use Rattle.zone.proofs.Theory.Reset.{renamed, Unreset}
use Rattle.zone.proofs.Theory.Reach.{reach, reach_in, Run, in_reach}

-- what a delay from a valuation in R attains in S
pub record Attained (R S : Region) (k : ℕ) (v : Valuation) : Type 0 where
  pub «from» : Valuation
  pub starts : R k «from»
  pub delay : ℕ
  pub attains : delayed «from» delay ≡ v
  pub ends : S k v

-- ---- what a delay and a reset make of the readings
pub read-delayed : (v : Valuation) (t : ℕ) → read (delayed v t) ≡ later (read v) t
unfolding read delayed later
read-delayed v t = fun_ext at
  where
    at : (i : ℕ) → read (delayed v t) i ≡ later (read v) t i
    at zero = refl
    at (suc i) = refl

pub read-reset : (mask : ℕ) (v : Valuation) (i : ℕ) → read (reset mask v) i ≡ read v (source mask i)
unfolding read reset source masked?
read-reset mask v zero = refl
read-reset mask v (suc i) = by (masked? mask (suc i))
  where
    by : (c : Bool) → cond c 0 (v (suc i)) ≡ read v (cond c 0 (suc i))
    by true = refl
    by false = refl

-- no delay
pub delayed-zero : (v : Valuation) → delayed v 0 ≡ v
unfolding delayed
delayed-zero v = fun_ext (λ i. N.add-zero (v i))

-- a zone that holds before and after a delay holds throughout it
pub between : (z : Zone) (k : ℕ) (v : Valuation) (s t : ℕ) → within z k v → within z k (delayed v (s + t)) → within z k (delayed v s)
unfolding within in?
between [] k v s t p q = tt
between (b ∷ z) k v s t p q =
    and (holds? k (delayed v s) b) (in? k (delayed v s) z) here
    (between z k v s t (both (holds? k v b) (in? k v z) p).1 (both (holds? k (delayed v (s + t)) b) (in? k (delayed v (s + t)) z) q).1)
  where
    at : (r : ℕ) → T (holds? k (delayed v r) b) → bounds.Holds k (later (read v) r b.i) (later (read v) r b.j) (bound_limit b)
    at r h = rw (read-delayed v r) at (holds→ k (delayed v r) b h)

    here : T (holds? k (delayed v s) b)
    here = →holds k (delayed v s) b
        (rw (read-delayed v s)
        (between₁ bounds k (read v) s t b.i b.j (bound_limit b) (holds→ k v b (both (holds? k v b) (in? k v z) p).0)
        (at (s + t) (both (holds? k (delayed v (s + t)) b) (in? k (delayed v (s + t)) z) q).0)))

-- ---- the delay
module _ {R S : Region} {y z : Square} (from-fits : Tightens 2 y) (into-fits : Tightens 1 z) (s : Stands R y) (t : Stands S z) where
  attained-fits : Tightens 1 (attained_table y z)
  attained-fits = small-met _ (small-delayed _ (tightens-less 1 y (omega arith) from-fits)) z into-fits

  -- the theory's run, from a valuation v with clock 0 at 0, attains what the document says
  run : (k : ℕ) → 1 ≤ k → (v : Valuation) → v 0 ≡ 0 → (d : ℕ) → In bounds 5 (table_of y) k v → In bounds 5 (table_of z) k (later v d) →
      Attained R S k (delayed v d)
  unfolding in_square
  run k k₁ v v₀ d p q = record {
    «from» = v;
    starts = s.out k k₁ v (rw (read_same v v₀) p);
    delay = d;
    attains = refl;
    ends = t.out k k₁ (delayed v d) (rw (read-delayed v d, read_same v v₀) q);
  }

  -- sound at each scale
  attained-in : (k : ℕ) → 1 ≤ k → (v : Valuation) → Attained R S k v → in_square (reached y z) k v
  unfolding in_square
  attained-in k k₁ v a =
      rw (table-reached y z from-fits into-fits, ends)
      (reach_in bounds 5 (table_of y) (table_of z) a.delay (s.into k k₁ a.«from» a.starts) (rw ends at (t.into k k₁ v a.ends)))
    where
      ends : read v ≡ later (read a.«from») a.delay
      ends = ap read (sym a.attains) ∙ read-delayed a.«from» a.delay

  -- complete at twice the scale
  in-attained : (k : ℕ) → 1 ≤ k → (v : Valuation) → in_square (reached y z) k v → Multiple (Attained R S) k v
  unfolding in_square read
  in-attained k k₁ v p = record {
    factor = 2;
    factor₁ = omega arith;
    valuation = delayed r.v r.t;
    holds = run (2 * k) (omega arith) r.v r.v₀ r.t r.starts r.ends;
    reads = λ i h. rw (read-delayed r.v r.t, read_same r.v r.v₀) (r.reads i h);
  }
    where
      q : In bounds 5 (reach bounds 5 (table_of y) (table_of z)) k (read v)
      q = rw (table-reached y z from-fits into-fits) at p

      r : Run bounds 5 (table_of y) (table_of z) k (read v)
      r = in_reach bounds 5 (table_of y) (table_of z) s.based (diagonal bounds k₁ q) (omega arith) k₁ refl q

  pub spans-attained : Spans (Attained R S) (attained_table y z)
  unfolding in_square
  spans-attained = record {
    based = rw (table-met (delayed_square (tightened y)) z, table-delayed (tightened y), table-tightened y (tightens-fewer 1 2 y (omega arith) from-fits))
        (meet-based bounds (table_of z) (delay-based bounds (close-based bounds 5 s.based)));
    into = λ k k₁ v a. in_close bounds 5 (table_of (attained_table y z)) k₁ (rw (table-tightened (attained_table y z) attained-fits) at (attained-in k k₁ v a));
    out = λ k k₁ v p. in-attained k k₁ v (rw (table-tightened (attained_table y z) attained-fits) (close_in bounds p));
  }

-- ---- the reset
module _ (mask : ℕ) (y : Square) where
  -- what a reset makes of a valuation in y is in the reset table
  lands-in : (k : ℕ) (v : ℕ → ℕ) → In bounds 5 (table_of y) k v → In bounds 5 (table_of (reset_square mask y)) k (λ i. v (source mask i))
  lands-in k v p = record {
    at = λ i j hi hj. rw (table-reset mask y i j hi hj) (p.at (source mask i) (source mask j) (source-lt mask i hi) (source-lt mask j hj));
  }

  -- what R has at a multiple of the scale and is reset there
  pub spans-reset : {R : Region} → Good bounds 5 (table_of y) → Spans R y → Spans (ResetOf mask R) (reset_square mask y)
  unfolding in_square read source renamed masked?
  spans-reset {R} good s = record {
    based = record {
      flat = λ i h. rw (table-reset mask y i i h h) (s.based.flat (source mask i) (source-lt mask i h));
      low₀ = λ i h. rw (table-reset mask y 0 i (omega arith) h) (s.based.low₀ (source mask i) (source-lt mask i h));
    };
    into = λ k k₁ v p.
        rw (← p.lands, fun_ext (read-reset mask p.before)) (lands-in k (read p.before) (s.into k k₁ p.before p.was));
    out = back;
  }
    where
      back : (k : ℕ) → 1 ≤ k → (v : Valuation) → in_square (reset_square mask y) k v → Multiple (ResetOf mask R) k v
      back k k₁ v p = record {
        factor = m.factor * r.factor;
        factor₁ = N.one-le-mul m.factor₁ r.factor₁;
        valuation = reset mask m.valuation;
        holds = record { before = m.valuation; was = rw (N.mul_assoc m.factor r.factor k) m.holds; lands = refl };
        reads = λ i h.
            read-reset mask m.valuation i ∙ m.reads (source mask i) (source-lt mask i h)
            ∙ ap (λ x. m.factor * x) (ap (λ w. w (source mask i)) (read_same r.v r.v₀) ∙ r.reads i h)
            ∙ sym (N.mul_assoc m.factor r.factor (read v i));
      }
        where
          cells : In bounds 5 (theory.reset bounds (masked? mask) (table_of y)) k (read v)
          cells = record { at = λ i j hi hj. rw (table-reset mask y i j hi hj) at (p.at i j hi hj) }

          r : Unreset bounds 5 (table_of y) (masked? mask) k (read v)
          r = theory.in-reset bounds (masked? mask) (omega arith) good k₁ refl cells

          m : Multiple R (r.factor * k) r.v
          m = s.out (r.factor * k) (N.one-le-mul r.factor₁ k₁) r.v (rw (read_same r.v r.v₀) r.holds)

  -- the bounds that are left are needed
  pub tight-reset : Tight y → Tight (reset_square mask y)
  unfolding source masked?
  tight-reset all i j hi hj b loose = record {
    k = p.k;
    k₁ = p.k₁;
    v = λ a. p.v (source mask a);
    v₀ = p.v₀;
    holds = lands-in p.k p.v p.holds;
    fails = p.fails;
  }
    where
      p : Breach bounds 5 (table_of y) (source mask i) (source mask j) b
      p = all (source mask i) (source mask j) (source-lt mask i hi) (source-lt mask j hj) b (rw (table-reset mask y i j hi hj) at loose)
