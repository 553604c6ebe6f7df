-- Laws of zones by value for regions that a table has exactly only over all scales: what a delay of whole k-ths or a reset attains at one scale may
-- be less than its table has there. What is worked out from the table is said of the region: whether it is empty, and whether it lies inside another.
-- Assumes nothing.
use Prim.Native.Nat.{ℕ, ◌*◌, ◌≤◌, ◌<◌}
use mathlib.Core.Path.{◌≡◌, refl, sym, ap, subst₂, ◌∙◌}
use mathlib.Core.Bool.{Bool, true, false, not, ◌||◌}
use native.Mathlib.Nat as N
use native.Mathlib.Omega.{arith}
use lib.Dec.{T}
use Rattle.zone.specs.Scale.{Valuation, read, Region, Empty, Inside}
use Rattle.zone.specs.Squares.{met, tightened, empty?, inside?, Tightens}
use Rattle.zone.specs.declared.zones.Zone.{Zone as Square}
use Rattle.zone.proofs.Bools.{true_false, false_true}
use Rattle.zone.proofs.Limits.{Limit, bounds}
use Rattle.zone.proofs.SquareTables.{table_of, table-met, table-tightened, ok-nonempty, nonempty-ok, Loose, inside-cells, loose-cell}
use Rattle.zone.proofs.Regions.{in_square, Stands, in_both, read_same}
use Rattle.zone.proofs.Theory.Tables.{meet}
use Rattle.zone.proofs.Theory.Meaning.{In, Based, Good, in-⊑, in_multiple, close_in, in_close, close-based, meet_in, in_meet-left, in_meet-right}
use Rattle.zone.proofs.Theory.Meaning.{diagonal, meet-based, good-close}
use Rattle.zone.proofs.Theory.Restore.{Point, point}
use Rattle.zone.proofs.Theory.Inside.{Breach, breach}

-- a valuation of R at a multiple of the scale k: each of the five clocks reads so many times what it reads in v
pub record Multiple (R : Region) (k : ℕ) (v : Valuation) : Type 0 where
  pub factor : ℕ
  pub factor₁ : 1 ≤ factor
  pub valuation : Valuation
  pub holds : R (factor * k) valuation
  pub reads : (i : ℕ) → i < 5 → read valuation i ≡ factor * read v i

-- the table has every valuation of the region, and each that it has is, at a multiple of the scale, one of the region; and it says that no clock is
-- below 0
pub record Spans (R : Region) (z : Square) : Type 0 where
  pub based : Based bounds 5 (table_of z)
  pub into : (k : ℕ) → 1 ≤ k → (v : Valuation) → R k v → in_square z k v
  pub out : (k : ℕ) → 1 ≤ k → (v : Valuation) → in_square z k v → Multiple R k v

-- a table that has exactly the valuations of the region at every scale
pub spans : {R : Region} {z : Square} → Stands R z → Spans R z
spans {R} s = record {
  based = s.based;
  into = s.into;
  out = λ k k₁ v p. record {
    factor = 1;
    factor₁ = N.le_refl 1;
    valuation = v;
    holds = rw (N.one-mul k) (s.out k k₁ v p);
    reads = λ i h. sym (N.one-mul (read v i));
  };
}

-- the same region, said otherwise
pub spans-same : {R S : Region} {z : Square} → ((k : ℕ) (v : Valuation) → R k v → S k v) → ((k : ℕ) (v : Valuation) → S k v → R k v) →
    Spans R z → Spans S z
spans-same f g s = record {
  based = s.based;
  into = λ k k₁ v p. s.into k k₁ v (g k v p);
  out = λ k k₁ v p.
      let m = s.out k k₁ v p in
      record { factor = m.factor; factor₁ = m.factor₁; valuation = m.valuation; holds = f _ _ m.holds; reads = m.reads };
}

-- ---- the tables that are worked out of tables

pub spans-met : {R S : Region} {y z : Square} → Spans R y → Stands S z → Spans (in_both R S) (met y z)
unfolding in_square
spans-met {R} {S} {y} {z} s t = record {
  based = rw (table-met y z) (meet-based bounds (table_of z) s.based);
  into = λ k k₁ v p. rw (table-met y z) (meet_in bounds (s.into k k₁ v p.0) (t.into k k₁ v p.1));
  out = λ k k₁ v p.
      let q : In bounds 5 (meet bounds (table_of y) (table_of z)) k (read v) = rw (table-met y z) at p in
      let m = s.out k k₁ v (in_meet-left bounds (table_of y) (table_of z) k₁ q) in
      record {
        factor = m.factor;
        factor₁ = m.factor₁;
        valuation = m.valuation;
        holds = (
          m.holds,
          t.out (m.factor * k) (N.one-le-mul m.factor₁ k₁) m.valuation
              (in_multiple bounds m.factor m.factor₁ m.reads (in_meet-right bounds (table_of y) (table_of z) k₁ q)),
        );
        reads = m.reads;
      };
}

pub spans-tightened : {R : Region} {z : Square} → Tightens 1 z → Spans R z → Spans R (tightened z)
unfolding in_square
spans-tightened {z = z} fits s = record {
  based = rw (table-tightened z fits) (close-based bounds 5 s.based);
  into = λ k k₁ v p. rw (table-tightened z fits) (close_in bounds (s.into k k₁ v p));
  out = λ k k₁ v p. s.out k k₁ v (in_close bounds 5 (table_of z) k₁ (rw (table-tightened z fits) at p));
}

-- a tightened table that is not empty is good, in the theory's sense
pub tightened-good : {R : Region} {z : Square} → Tightens 1 z → Spans R z → empty? (tightened z) ≡ false → Good bounds 5 (table_of (tightened z))
tightened-good {z = z} fits s e =
    rw (table-tightened z fits) (good-close bounds s.based (rw (table-tightened z fits) at (nonempty-ok (tightened z) e)))

-- ---- "empty": a negative diagonal after tightening

-- a valuation of a region at some scale
pub record Some (R : Region) : Type 0 where
  pub scale : ℕ
  pub positive : 1 ≤ scale
  pub valuation : Valuation
  pub holds : R scale valuation

-- a table that has a valuation is not empty
pub filled : (z : Square) (k : ℕ) → 1 ≤ k → (v : Valuation) → in_square z k v → empty? z ≡ false
unfolding in_square
filled z k k₁ v p = ok-nonempty z (diagonal bounds k₁ p)

module _ {R : Region} {z : Square} (fits : Tightens 1 z) (s : Spans R z) where
  pub some : empty? (tightened z) ≡ false → Some R
  unfolding in_square
  some e = record {
    scale = m.factor * p.k;
    positive = N.one-le-mul m.factor₁ p.k₁;
    valuation = m.valuation;
    holds = m.holds;
  }
    where
      p : Point bounds 5 (table_of (tightened z))
      p = point bounds (omega arith) (tightened-good fits s e)

      m : Multiple R p.k p.v
      m = (spans-tightened fits s).out p.k p.k₁ p.v (rw (read_same p.v p.v₀) p.holds)

  pub empty-no : empty? (tightened z) ≡ false → Empty R → ⊥
  empty-no e m = let p : Some R = some e in m.at p.scale p.positive p.valuation p.holds

  pub empty-yes : empty? (tightened z) ≡ true → Empty R
  empty-yes e = record { at = λ k k₁ v r. false_true (sym (filled (tightened z) k k₁ v ((spans-tightened fits s).into k k₁ v r)) ∙ e) }

-- ---- "inside": cell by cell

-- every bound of the table is needed: where another is tighter, a valuation of the table is not within that one
abbrev pub Tight : Square → Type 0
Tight z = (i j : ℕ) → i < 5 → j < 5 → (b : Limit) → T (not (bounds.as_tight? (table_of z i j) b)) → Breach bounds 5 (table_of z) i j b

pub tight : {R : Region} {z : Square} → Tightens 1 z → Spans R z → empty? (tightened z) ≡ false → Tight (tightened z)
tight fits s e i j hi hj b = breach bounds (tightened-good fits s e) hi hj b

-- a valuation of R, at some scale, that is not in S
pub record Beyond (R S : Region) : Type 0 where
  pub scale : ℕ
  pub positive : 1 ≤ scale
  pub valuation : Valuation
  pub holds : R scale valuation
  pub fails : S scale valuation → ⊥

-- where a valuation of the table is not within a bound, one of the region is not
pub breached : {R : Region} {y : Square} → Spans R y → {i j : ℕ} → i < 5 → j < 5 → {b : Limit} → Breach bounds 5 (table_of y) i j b →
    Beyond R (λ k v. bounds.Holds k (read v i) (read v j) b)
unfolding in_square
breached {R} {y} s {i} {j} hi hj {b} p = record {
  scale = m.factor * p.k;
  positive = N.one-le-mul m.factor₁ p.k₁;
  valuation = m.valuation;
  holds = m.holds;
  fails = λ q. p.fails (bounds.divide m.factor m.factor₁ p.k (p.v i) (p.v j) b
      (subst₂ (λ x x'. bounds.Holds (m.factor * p.k) x x' b) (reads i hi) (reads j hj) q));
}
  where
    m : Multiple R p.k p.v
    m = s.out p.k p.k₁ p.v (rw (read_same p.v p.v₀) p.holds)

    reads : (a : ℕ) → a < 5 → read m.valuation a ≡ m.factor * p.v a
    reads a h = m.reads a h ∙ ap (λ (w : Valuation). m.factor * w a) (read_same p.v p.v₀)

module _ {R S : Region} {y z : Square} (s : Spans R y) (t : Stands S z) where
  pub inside-yes : inside? y z ≡ true → Inside R S
  unfolding in_square
  inside-yes e = record { at = λ k k₁ v r. t.out k k₁ v (in-⊑ bounds k₁ (inside-cells y z e) (s.into k k₁ v r)) }

  pub beyond : Tight y → inside? y z ≡ false → Beyond R S
  unfolding in_square
  beyond all e =
      let c : Loose y z = loose-cell y z e in
      let p = breached s c.hi c.hj (all c.i c.j c.hi c.hj (table_of z c.i c.j) c.looser) in
      record {
        scale = p.scale;
        positive = p.positive;
        valuation = p.valuation;
        holds = p.holds;
        fails = λ q. p.fails ((t.into p.scale p.positive p.valuation q).at c.i c.j c.hi c.hj);
      }

  pub inside-no : Tight y → inside? y z ≡ false → Inside R S → ⊥
  inside-no all e m = let p = beyond all e in p.fails (m.at p.scale p.positive p.valuation p.holds)

-- the same after tightening; an empty region lies inside any
module _ {R S : Region} {y z : Square} (fits : Tightens 1 y) (s : Spans R y) (t : Stands S z) where
  pub lies-yes : (empty? (tightened y) || inside? (tightened y) z) ≡ true → Inside R S
  lies-yes = by (empty? (tightened y)) refl
    where
      by : (c : Bool) → empty? (tightened y) ≡ c → (c || inside? (tightened y) z) ≡ true → Inside R S
      by true e h = record { at = λ k k₁ v r. absurd ((empty-yes fits s e).at k k₁ v r) }
      by false e h = inside-yes (spans-tightened fits s) t h

  pub lies-no : (empty? (tightened y) || inside? (tightened y) z) ≡ false → Inside R S → ⊥
  lies-no = by (empty? (tightened y)) refl
    where
      by : (c : Bool) → empty? (tightened y) ≡ c → (c || inside? (tightened y) z) ≡ false → Inside R S → ⊥
      by true e h m = true_false h
      by false e h m = inside-no (spans-tightened fits s) t (tight fits s e) h m
