-- Laws of the bounds of zones: a region has one list of tightened bounds, the zone of those bounds has the same list, and the smallest zones that
-- hold a region have the same valuations. Assumes nothing.
use Prim.Native.Nat.{ℕ, zero, suc, ◌+◌, ◌≤◌, ◌<◌, zero-le}
use mathlib.Core.Path.{◌≡◌, refl, sym, ap, ap₂, subst, ◌∙◌}
use mathlib.Core.Logic.{◌⊎◌, inl, inr, ◌↔◌}
use mathlib.Core.Bool.{Bool, true, false, not, cond, ◌&&◌, ◌||◌}
use mathlib.Core.List.{List, [], ◌∷◌, ◌++◌}
use native.Mathlib.Nat as N
use native.Mathlib.Omega.{arith}
use borrow.Author.Tests.{eqb-false}
use lib.Dec.{T, eqb, eqb→eq}
use lib.IntN.{ℤ, pos, negsuc, ◌-ℤ◌, ◌*ℤ◌}
use lib.Signed.{le_z, lt_z}
use Rattle.zone.specs.Scale.{Valuation, read, Bound, holds?, Zone, in?, Region, within, Empty, Inside}
use Rattle.zone.specs.Words.{bound_of}
use Rattle.zone.proofs.Bools.{true_false, both, and}
use Rattle.zone.proofs.Integers.{up, dn, le_z→, nlt_z→, parts-diff, up-mul, dn-mul}
use Rattle.drafting.specs.Bounding.{Same, tighter_bound?, Tightened, Pair, others, pairs_from, pairs, AllTightened, empty_zone, BoundsOf, Smallest}

pub inside-trans : {R S Q : Region} → Inside R S → Inside S Q → Inside R Q
inside-trans f g = record { at = λ k k₁ v r. g.at k k₁ v (f.at k k₁ v r) }

pub inside-refl : (R : Region) → Inside R R
inside-refl R = record { at = λ k k₁ v r. r }

pub same_refl : (R : Region) → Same R R
same_refl R = record { into = inside-refl R; out = inside-refl R }

pub same_sym : {R S : Region} → Same R S → Same S R
same_sym s = record { into = s.out; out = s.into }

pub same-trans : {R S Q : Region} → Same R S → Same S Q → Same R Q
same-trans f g = record { into = inside-trans f.into g.into; out = inside-trans g.out f.out }

-- the bounds of two lists together
pub within-append : (Y Z : Zone) (k : ℕ) (v : Valuation) → within (Y ++ Z) k v ↔ (within Y k v × within Z k v)
unfolding within in?
within-append [] Z k v = ((λ h. (tt, h)), λ h. h.1)
within-append (b ∷ Y) Z k v =
    let (f, g) = within-append Y Z k v in (
      (λ h. let (p, q) = both (holds? k v b) (in? k v (Y ++ Z)) h in (and (holds? k v b) (in? k v Y) p (f q).0, (f q).1)),
      λ h. let (p, q) = both (holds? k v b) (in? k v Y) h.0 in and (holds? k v b) (in? k v (Y ++ Z)) p (g (q, h.1)),
    )

-- ---- at most one list of bounds

-- two integers neither of which is below the other
equal : (a b : ℤ) → up b + dn a ≤ up a + dn b → up a + dn b ≤ up b + dn a → a ≡ b
equal (pos m) (pos n) f g = ap pos (omega arith)
equal (pos m) (negsuc n) f g = absurd (omega arith)
equal (negsuc m) (pos n) f g = absurd (omega arith)
equal (negsuc m) (negsuc n) f g = ap negsuc (omega arith)

bound-same : (i i' j j' : ℕ) (d d' : ℤ) (s s' : Bool) → i ≡ i' → j ≡ j' → d ≡ d' → s ≡ s' →
    ◌≡◌ {A = Bound} (record { i = i; j = j; d = d; strict = s }) (record { i = i'; j = j'; d = d'; strict = s' })
bound-same i i' j j' d d' s s' ei ej ed es = rw (ei, ej, ed, es)

-- two bounds of the same clocks, neither of which is tighter
same-bound : (a b : Bound) → a.i ≡ b.i → a.j ≡ b.j → tighter_bound? a b ≡ false → tighter_bound? b a ≡ false → a ≡ b
unfolding tighter_bound?
same-bound a b ei ej f g =
    by (lt_z a.d b.d) (lt_z b.d a.d) a.strict b.strict refl refl (nlt_z→ a.d b.d) (nlt_z→ b.d a.d) f g
  where
    made : a.d ≡ b.d → a.strict ≡ b.strict → a ≡ b
    made ed es = bound-same a.i b.i a.j b.j a.d b.d a.strict b.strict ei ej ed es

    by : (p q s t : Bool) → a.strict ≡ s → b.strict ≡ t → (T (not p) → up b.d + dn a.d ≤ up a.d + dn b.d) →
        (T (not q) → up a.d + dn b.d ≤ up b.d + dn a.d) →
        (p || (not q && (s && not t))) ≡ false → (q || (not p && (t && not s))) ≡ false → a ≡ b
    by true q s t es et l m f g = true_false f
    by false true s t es et l m f g = true_false g
    by false false true true es et l m f g = made (equal a.d b.d (l tt) (m tt)) (es ∙ sym et)
    by false false true false es et l m f g = true_false f
    by false false false true es et l m f g = true_false g
    by false false false false es et l m f g = made (equal a.d b.d (l tt) (m tt)) (es ∙ sym et)

pub tightened-one : {R : Region} (a b : Bound) → a.i ≡ b.i → a.j ≡ b.j → Tightened R a → Tightened R b → a ≡ b
tightened-one a b ei ej f g = same-bound a b ei ej (g.least a ei ej f.holds) (f.least b (sym ei) (sym ej) g.holds)

module _ (R : Region) where
  pub all_one : (ps : List Pair) (Y Z : Zone) → AllTightened R ps Y → AllTightened R ps Z → Y ≡ Z
  all_one [] [] [] f g = refl
  all_one [] [] (c ∷ Z) f g = absurd g
  all_one [] (b ∷ Y) Z f g = absurd f
  all_one (p ∷ ps) [] [] f g = refl
  all_one (p ∷ ps) [] (c ∷ Z) f (inl g) = all_one ps [] (c ∷ Z) f.1 g.1
  all_one (p ∷ ps) [] (c ∷ Z) f (inr g) = absurd (f.0.none c g.0 g.1 g.2.holds)
  all_one (p ∷ ps) (b ∷ Y) [] (inl f) g = all_one ps (b ∷ Y) [] f.1 g.1
  all_one (p ∷ ps) (b ∷ Y) [] (inr f) g = absurd (g.0.none b f.0 f.1 f.2.holds)
  all_one (p ∷ ps) (b ∷ Y) (c ∷ Z) (inl f) (inl g) = all_one ps (b ∷ Y) (c ∷ Z) f.1 g.1
  all_one (p ∷ ps) (b ∷ Y) (c ∷ Z) (inl f) (inr g) = absurd (f.0.none c g.0 g.1 g.2.holds)
  all_one (p ∷ ps) (b ∷ Y) (c ∷ Z) (inr f) (inl g) = absurd (g.0.none b f.0 f.1 f.2.holds)
  all_one (p ∷ ps) (b ∷ Y) (c ∷ Z) (inr f) (inr g) =
      ap₂ ◌∷◌ (tightened-one b c (f.0 ∙ sym g.0) (f.1 ∙ sym g.1) f.2 g.2) (all_one ps Y Z f.3 g.3)

  -- the bounds hold of R
  pub all_hold : (ps : List Pair) (Z : Zone) → AllTightened R ps Z → Inside R (within Z)
  unfolding within in?
  all_hold [] [] f = record { at = λ k k₁ v r. tt }
  all_hold [] (b ∷ Z) f = absurd f
  all_hold (p ∷ ps) [] f = record { at = λ k k₁ v r. tt }
  all_hold (p ∷ ps) (b ∷ Z) (inl f) = all_hold ps (b ∷ Z) f.1
  all_hold (p ∷ ps) (b ∷ Z) (inr f) = record {
    at = λ k k₁ v r. and (holds? k v b) (in? k v Z) (f.2.holds.at k k₁ v r) ((all_hold ps Z f.3).at k k₁ v r);
  }

  -- a region between R and the zone of its bounds has the same bounds
  pub all-between : (S : Region) → Inside R S → (ps : List Pair) (Z : Zone) → AllTightened R ps Z → Inside S (within Z) → AllTightened S ps Z
  unfolding within in?
  all-between S h [] [] f g = tt
  all-between S h [] (b ∷ Z) f g = absurd f
  all-between S h (p ∷ ps) [] f g = (record { none = λ c ei ej m. f.0.none c ei ej (inside-trans h m) }, all-between S h ps [] f.1 g)
  all-between S h (p ∷ ps) (b ∷ Z) (inl f) g =
      inl (record { none = λ c ei ej m. f.0.none c ei ej (inside-trans h m) }, all-between S h ps (b ∷ Z) f.1 g)
  all-between S h (p ∷ ps) (b ∷ Z) (inr f) g =
      inr (
        f.0,
        f.1,
        record {
          holds = record { at = λ k k₁ v s. (both (holds? k v b) (in? k v Z) (g.at k k₁ v s)).0 };
          least = λ c ei ej m. f.2.least c ei ej (inside-trans h m);
        },
        all-between S h ps Z f.3 (record { at = λ k k₁ v s. (both (holds? k v b) (in? k v Z) (g.at k k₁ v s)).1 }),
      )

-- ---- the bounds of a node
-- regions with the same valuations have the same bounds
pub bounds-same : {R S : Region} (C : ℕ) (Z : Zone) → Same R S → BoundsOf C R Z → BoundsOf C S Z
bounds-same C Z s (inl f) = inl (record { at = λ k k₁ v r. f.0.at k k₁ v (s.out.at k k₁ v r) }, f.1)
bounds-same {R} {S} C Z s (inr f) =
    inr (
      (λ m. f.0 (record { at = λ k k₁ v r. m.at k k₁ v (s.into.at k k₁ v r) })),
      all-between R S s.into (pairs C) Z f.1 (inside-trans s.out (all_hold R (pairs C) Z f.1)),
    )

-- at most one list of bounds
pub bounds-one : {R S : Region} (C : ℕ) (Y Z : Zone) → Same R S → BoundsOf C R Y → BoundsOf C S Z → Y ≡ Z
bounds-one {R} {S} C Y Z s f g = by (bounds-same C Y s f) g
  where
    by : BoundsOf C S Y → BoundsOf C S Z → Y ≡ Z
    by (inl f) (inl g) = f.1 ∙ sym g.1
    by (inl f) (inr g) = absurd (g.0 f.0)
    by (inr f) (inl g) = absurd (f.0 g.0)
    by (inr f) (inr g) = all_one S (pairs C) Y Z f.1 g.1

-- two smallest zones have the same valuations
pub smallest_one : {R : Region} (C : ℕ) (S Y : Zone) → Smallest C R S → Smallest C R Y → Same (within S) (within Y)
smallest_one C S Y f g = record { into = f.least Y g.over g.holds; out = g.least S f.over f.holds }

-- ---- the pairs of the clocks 0 to C

-- pairs of two of the clocks 0 to C
abbrev pub PairsOver : ℕ → List Pair → Type 0
PairsOver C [] = Unit {0}
PairsOver C (p ∷ ps) = (p.i ≤ C) × (p.j ≤ C) × (p.i ≡ p.j → ⊥) × PairsOver C ps

over-join : (C : ℕ) (ps qs : List Pair) → PairsOver C ps → PairsOver C qs → PairsOver C (ps ++ qs)
over-join C [] qs g h = h
over-join C (p ∷ ps) qs g h = (g.0, g.1, g.2, over-join C ps qs g.3 h)

others-over : (C i n j : ℕ) → i ≤ C → n + j ≤ suc C → PairsOver C (others i n j)
unfolding others
others-over C i zero j hi hj = tt
others-over C i (suc n) j hi hj = by (eqb i j) (eqb-false i j) (others-over C i n (suc j) hi (omega arith))
  where
    by : (c : Bool) → (c ≡ false → i ≡ j → ⊥) → PairsOver C (others i n (suc j)) →
        PairsOver C (cond c (others i n (suc j)) (record { i = i; j = j } ∷ others i n (suc j)))
    by true ne rest = rest
    by false ne rest = (hi, omega arith, ne refl, rest)

from-over : (C n i : ℕ) → n + i ≤ suc C → PairsOver C (pairs_from C n i)
unfolding pairs_from
from-over C zero i h = tt
from-over C (suc n) i h = over-join C (others i (suc C) 0) (pairs_from C n (suc i)) (others-over C i (suc C) 0 (omega arith) (omega arith))
    (from-over C n (suc i) (omega arith))

pub pairs-over : (C : ℕ) → PairsOver C (pairs C)
unfolding pairs
pairs-over C = from-over C (suc C) 0 (omega arith)

-- every pair of two clocks is among the pairs
abbrev pub Among : ℕ → ℕ → List Pair → Type 0
Among i j [] = ⊥
Among i j (q ∷ qs) = ((q.i ≡ i) × (q.j ≡ j)) ⊎ Among i j qs

among-left : (i j : ℕ) (ps qs : List Pair) → Among i j ps → Among i j (ps ++ qs)
among-left i j [] qs a = absurd a
among-left i j (p ∷ ps) qs (inl e) = inl e
among-left i j (p ∷ ps) qs (inr a) = inr (among-left i j ps qs a)

among-right : (i j : ℕ) (ps qs : List Pair) → Among i j qs → Among i j (ps ++ qs)
among-right i j [] qs a = a
among-right i j (p ∷ ps) qs a = inr (among-right i j ps qs a)

among-others : (i j n m : ℕ) → (i ≡ j → ⊥) → m ≤ j → j < m + n → Among i j (others i n m)
unfolding others
among-others i j zero m ne low high = absurd (omega arith)
among-others i j (suc n) m ne low high =
    by (eqb i m) (eqb→eq i m) (N.eq-or-lt_of_le low) (λ l. among-others i j n (suc m) ne l (omega arith))
  where
    by : (c : Bool) → (T c → i ≡ m) → (m ≡ j) ⊎ (m < j) → (m < j → Among i j (others i n (suc m))) →
        Among i j (cond c (others i n (suc m)) (record { i = i; j = m } ∷ others i n (suc m)))
    by true f (inl e) rest = absurd (ne (f tt ∙ e))
    by true f (inr l) rest = rest l
    by false f (inl e) rest = inl (refl, e)
    by false f (inr l) rest = inr (rest l)

among-from : (C i j n m : ℕ) → (i ≡ j → ⊥) → j ≤ C → m ≤ i → i < m + n → Among i j (pairs_from C n m)
unfolding pairs_from
among-from C i j zero m ne hj low high = absurd (omega arith)
among-from C i j (suc n) m ne hj low high = by (N.eq-or-lt_of_le low) (λ l. among-from C i j n (suc m) ne hj l (omega arith))
  where
    by : (m ≡ i) ⊎ (m < i) → (m < i → Among i j (pairs_from C n (suc m))) → Among i j (others m (suc C) 0 ++ pairs_from C n (suc m))
    by (inl e) rest =
        among-left i j (others m (suc C) 0) _
        (subst (λ x. Among i j (others x (suc C) 0)) (sym e) (among-others i j (suc C) 0 ne zero-le (omega arith)))
    by (inr l) rest = among-right i j (others m (suc C) 0) _ (rest l)

pub among-pairs : (C i j : ℕ) → i ≤ C → j ≤ C → (i ≡ j → ⊥) → Among i j (pairs C)
unfolding pairs
among-pairs C i j hi hj ne = among-from C i j (suc C) 0 ne hj zero-le (omega arith)

-- ---- an empty region

pub empty_zone-empty : Empty (within empty_zone)
unfolding within in? bound_of holds? read
empty_zone-empty = record { at = λ k k₁ v w. no k k₁ (v 1) (both (holds? k v (bound_of 0x51000FFF)) true w).0 }
  where
    -- clock 1 at most -1
    no : (k : ℕ) → 1 ≤ k → (x : ℕ) → T (le_z (pos x -ℤ pos 0) (pos k *ℤ negsuc 0)) → ⊥
    no k k₁ x t = omega (arith, le_z→ (pos x -ℤ pos 0) (pos k *ℤ negsuc 0) t, parts-diff x 0, up-mul k (negsuc 0), dn-mul k (negsuc 0))

pub smallest_empty_zone : {R : Region} (C : ℕ) → 1 ≤ C → Empty R → Smallest C R empty_zone
unfolding bound_of
smallest_empty_zone C h m = record {
  over = (h, zero-le, tt);
  holds = record { at = λ k k₁ v r. absurd (m.at k k₁ v r) };
  least = λ Y o i. record { at = λ k k₁ v w. absurd (empty_zone-empty.at k k₁ v w) };
}

pub bounds-empty_zone : (C : ℕ) → BoundsOf C (within empty_zone) empty_zone
bounds-empty_zone C = inl (empty_zone-empty, refl)

-- the bounds of a zone of tightened bounds are its own
pub own-bounds : {R : Region} (C : ℕ) (Z : Zone) → BoundsOf C R Z → BoundsOf C (within Z) Z
own-bounds C Z (inl b) = subst (λ (Y : Zone). BoundsOf C (within Y) Y) (sym b.1) (bounds-empty_zone C)
own-bounds {R} C Z (inr b) =
    let holds : Inside R (within Z) = all_hold R (pairs C) Z b.1 in
    inr (
      (λ m. b.0 (record { at = λ k k₁ v r. m.at k k₁ v (holds.at k k₁ v r) })),
      all-between R (within Z) holds (pairs C) Z b.1 (inside-refl (within Z)),
    )
