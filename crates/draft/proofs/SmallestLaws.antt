-- The zone that is collected from the square table of a region has the bounds of the region, and is the smallest that holds it. Assumes nothing.
use Prim.Native.Nat.{ℕ, ◌≤◌}
use mathlib.Core.Path.{◌≡◌, refl, sym, subst, subst₂}
use mathlib.Core.Logic.{inl, inr}
use mathlib.Core.Bool.{Bool, true, false, cond}
use mathlib.Core.List.{List, [], ◌∷◌, ◌++◌}
use native.Mathlib.Omega.{arith}
use borrow.Author.Tests.{eqb-true, eqb-false}
use lib.Dec.{T, eqb}
use Rattle.zone.specs.Scale.{Valuation, read, Bound, holds?, Zone, in?, Region, within, Inside}
use Rattle.zone.specs.Keys.{finite?, said_of}
use Rattle.zone.specs.Squares.{cell, empty?}
use Rattle.zone.specs.declared.bounds.Bound.{Bound as Cell}
use Rattle.zone.specs.declared.zones.Zone.{Zone as Square}
use Rattle.zone.proofs.Bools.{both, and}
use Rattle.zone.proofs.Limits.{bounds}
use Rattle.zone.proofs.KeyLaws.{limit_of, bound_limit, said-holds, →holds}
use Rattle.zone.proofs.SquareTables.{table_of, table_at, nonempty-ok}
use Rattle.zone.proofs.Spans.{Spans, Tight}
use Rattle.drafting.specs.Bounding.{Bounds, Pair, pairs, AllTightened, BoundsOf, Over, Smallest}
use Rattle.drafting.proofs.BoundingLaws.{within-append, all_hold, PairsOver, pairs-over, Among, among-pairs, smallest_empty_zone}
use Rattle.draft.specs.Fronts.{bound_at, collected, zone_from}
use Rattle.draft.proofs.LimitLaws.{SquareFor, is_empty, is_filled, has_some, looser, collected-tightened}

-- what the collected bounds say
collected-holds : (y : Square) (ps : List Pair) (k : ℕ) (v : Valuation) → within (collected y ps) k v → (i j : ℕ) → Among i j ps →
    bounds.Holds k (read v i) (read v j) (limit_of (cell y i j))
unfolding collected
collected-holds y [] k v w i j a = absurd a
collected-holds y (p ∷ ps) k v w i j (inl e) =
    subst₂ (λ a c. bounds.Holds k (read v a) (read v c) (limit_of (cell y a c))) e.0 e.1
    ((said-holds (cell y p.i p.j) p.i p.j k v).0 ((within-append (said_of (cell y p.i p.j) p.i p.j) (collected y ps) k v).0 w).0)
collected-holds y (p ∷ ps) k v w i j (inr a) =
    collected-holds y ps k v ((within-append (said_of (cell y p.i p.j) p.i p.j) (collected y ps) k v).0 w).1 i j a

collected-over : (C : ℕ) (y : Square) (ps : List Pair) → PairsOver C ps → Over C (collected y ps)
unfolding collected said_of
collected-over C y [] h = tt
collected-over C y (p ∷ ps) h = by (finite? c) (collected-over C y ps h.3)
  where
    c : Cell
    c = cell y p.i p.j

    by : (f : Bool) → Over C (collected y ps) → Over C (cond f (bound_at p.i p.j c ∷ []) [] ++ collected y ps)
    by true rest = (h.0, h.1, rest)
    by false rest = rest

module _ {R : Region} {y : Square} (e : empty? y ≡ false) (s : Spans R y) (t : Tight y) (C : ℕ) (few : C ≤ 4) where
  abbrev Z : Zone
  Z = collected y (pairs C)

  all-tightened : AllTightened R (pairs C) Z
  all-tightened = collected-tightened s t C few (pairs C) (pairs-over C)

  -- a bound of R holds of every valuation that the collected ones hold of
  bound-follows : (b : Bound) → b.i ≤ C → b.j ≤ C → Bounds R b → (k : ℕ) → 1 ≤ k → (v : Valuation) → within Z k v → T (holds? k v b)
  bound-follows b hi hj h k k₁ v w = →holds k v b (by (eqb b.i b.j) (eqb-true b.i b.j) (eqb-false b.i b.j))
    where
      loose : bounds.◌⊑◌ (table_of y b.i b.j) (bound_limit b)
      loose = looser s t b (omega arith) (omega arith) h

      by : (c : Bool) → (c ≡ true → b.i ≡ b.j) → (c ≡ false → b.i ≡ b.j → ⊥) → bounds.Holds k (read v b.i) (read v b.j) (bound_limit b)
      by true f g =
          let own : bounds.◌⊑◌ (table_of y b.i b.i) (bound_limit b) =
          subst (λ a. bounds.◌⊑◌ (table_of y b.i a) (bound_limit b)) (sym (f refl)) loose in
          subst (λ a. bounds.Holds k (read v b.i) (read v a) (bound_limit b)) (f refl)
          (bounds.self-holds k k₁ (read v b.i) (bound_limit b) (bounds.⊑_trans (nonempty-ok y e b.i (omega arith)) own))
      by false f g =
          bounds.holds-⊑ k k₁ (read v b.i) (read v b.j) (rw (table_at y b.i b.j (omega arith) (omega arith)) at loose)
          (collected-holds y (pairs C) k v w b.i b.j (among-pairs C b.i b.j hi hj (g refl)))

  follows : (Y : Zone) → Over C Y → Inside R (within Y) → (k : ℕ) → 1 ≤ k → (v : Valuation) → within Z k v → within Y k v
  unfolding within in?
  follows [] o h k k₁ v w = tt
  follows (b ∷ Y) o h k k₁ v w =
      and (holds? k v b) (in? k v Y)
      (bound-follows b o.0 o.1 (record { at = λ k k₁ v r. (both (holds? k v b) (in? k v Y) (h.at k k₁ v r)).0 }) k k₁ v w)
      (follows Y o.2 (record { at = λ k k₁ v r. (both (holds? k v b) (in? k v Y) (h.at k k₁ v r)).1 }) k k₁ v w)

  smallest-collected : Smallest C R Z
  smallest-collected = record {
    over = collected-over C y (pairs C) (pairs-over C);
    holds = all_hold R (pairs C) Z all-tightened;
    least = λ Y o h. record { at = follows Y o h };
  }

-- ---- a table, and the region that it is of

pub zone-bounds : {R : Region} {y : Square} (C : ℕ) → C ≤ 4 → SquareFor R y → BoundsOf C R (zone_from C y)
unfolding zone_from
zone-bounds C few (is_empty e m) = rw e (inl (m, refl))
zone-bounds C few (is_filled e s t) = rw e (inr (has_some s t e, all-tightened e s t C few))

pub zone_smallest : {R : Region} {y : Square} (C : ℕ) → 1 ≤ C → C ≤ 4 → SquareFor R y → Smallest C R (zone_from C y)
unfolding zone_from
zone_smallest C one few (is_empty e m) = rw e (smallest_empty_zone C one m)
zone_smallest C one few (is_filled e s t) = rw e (smallest-collected e s t C few)
