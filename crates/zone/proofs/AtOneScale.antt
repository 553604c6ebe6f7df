-- One scale decides: a region over clocks 1 to C that is empty at scale C + 1 is empty, one that is not has an earliest point there, and one that
-- lies inside a zone at scale C + 1 lies inside it at every scale. Assumes nothing.
use Prim.Native.Nat.{ℕ, zero, suc, ◌-◌, ◌≤◌, ◌<◌}
use mathlib.Core.Path.{◌≡◌, refl}
use mathlib.Core.Bool.{Bool, true, false, cond}
use mathlib.Core.Logic.{◌⊎◌, inl, inr}
use mathlib.Core.List.{[], ◌∷◌}
use native.Mathlib.Omega.{arith}
use lib.Dec.{T}
use lib.IntN.{nat_abs}
use Rattle.zone.specs.Scale.{Valuation, Bound, holds?, Zone, in?, Region, within, Empty, Inside}
use Rattle.zone.specs.Earliest.{EarliestPoint, EarliestAnswer, point_answer}
use Rattle.zone.specs.Points.{rounds_of, point_of, earliest_of}
use Rattle.zone.specs.Words.{bound_of, good_bound?}
use Rattle.zone.specs.Squares.{universe, with_bound, tightened, empty?, Tightens}
use Rattle.zone.specs.Reading.{cell_of}
use Rattle.zone.specs.declared.zones.Zone.{Zone as Square}
use Rattle.std.specs.Prelude.{Some, None}
use Rattle.zone.proofs.Bools.{both, and, not-untrue, not-both}
use Rattle.zone.proofs.KeyLaws.{opposite, opposite-holds}
use Rattle.zone.proofs.PartLaws.{number-opposite}
use Rattle.zone.proofs.WordLaws.{good-first, good-second, good-number}
use Rattle.zone.proofs.Sizes.{tightens-fewer, tightens-universe, tightens-with_bound}
use Rattle.zone.proofs.Regions.{Stands, in_both, holding, stands_same, stands-universe, stands-with_bound}
use Rattle.zone.proofs.Spans.{spans, empty-yes}
use Rattle.zone.proofs.EarliestLaws.{Unused, unused-universe, unused_with, point_at, is_earliest}

-- no valuation at scale k, and each at scale k in the other region
abbrev pub EmptyAt : ℕ → Region → Type 0
EmptyAt k R = (v : Valuation) → R k v → ⊥

abbrev pub InsideAt : ℕ → Region → Region → Type 0
InsideAt k R S = (v : Valuation) → R k v → S k v

-- a region of the clocks 1 to C and its table, which can be tightened as often as one of words
pub record Over (C : ℕ) (R : Region) (z : Square) : Type 0 where
  pub stands : Stands R z
  pub unused : Unused C z
  pub fits : Tightens 3 z

pub over-universe : (C : ℕ) → Over C (within []) universe
over-universe C = record { stands = stands-universe; unused = unused-universe C; fits = tightens-universe }

-- the same region, said otherwise
pub over-same : {C : ℕ} {R S : Region} {z : Square} → ((k : ℕ) (v : Valuation) → R k v → S k v) → ((k : ℕ) (v : Valuation) → S k v → R k v) →
    Over C R z → Over C S z
over-same f g o = record { stands = stands_same f g o.stands; unused = o.unused; fits = o.fits }

module _ (C : ℕ) (C₁ : 1 ≤ C) (few : C ≤ 4) {R : Region} {z : Square} (o : Over C R z) where
  tight : Tightens 1 z
  tight = tightens-fewer 1 3 z (omega arith) o.fits

  -- the earliest point, where the table is not empty
  pub found : empty? (tightened z) ≡ false → EarliestPoint C R (point_at C z)
  found e = by C C₁ few o.unused
    where
      by : (C : ℕ) → 1 ≤ C → C ≤ 4 → Unused C z → EarliestPoint C R (point_at C z)
      by zero h k u = absurd (omega arith)
      by (suc c) h k u = is_earliest c k tight o.stands u e

  -- what `Zone::earliest` answers of the tightened table
  pub answered : EarliestAnswer C R (point_answer (earliest_of C (tightened z)))
  unfolding earliest_of point_answer
  answered = by (empty? (tightened z)) refl
    where
      by : (c : Bool) → empty? (tightened z) ≡ c →
          EarliestAnswer C R (point_answer (cond c None (Some (point_of (rounds_of (suc C) (tightened z) (C - 1))))))
      by true e = empty-yes tight (spans o.stands) e
      by false e = found e

  -- empty, or with an earliest point
  pub either : Empty R ⊎ EarliestPoint C R (point_at C z)
  either = by (empty? (tightened z)) refl
    where
      by : (c : Bool) → empty? (tightened z) ≡ c → Empty R ⊎ EarliestPoint C R (point_at C z)
      by true e = inl (empty-yes tight (spans o.stands) e)
      by false e = inr (found e)

  -- a valuation at any scale gives an earliest point at scale C + 1
  pub has_earliest : (k : ℕ) → 1 ≤ k → (v : Valuation) → R k v → EarliestPoint C R (point_at C z)
  has_earliest k k₁ v r = by either
    where
      by : Empty R ⊎ EarliestPoint C R (point_at C z) → EarliestPoint C R (point_at C z)
      by (inl m) = absurd (m.at k k₁ v r)
      by (inr p) = p

  pub empty-at-one : EmptyAt (suc C) R → Empty R
  empty-at-one h = record { at = λ k k₁ v r. h (point_at C z) (has_earliest k k₁ v r).holds }

-- ---- inside
-- a bound of clocks up to C with a number as words have it
pub record Bounds (C : ℕ) (b : Bound) : Type 0 where
  pub first : b.i ≤ C
  pub second : b.j ≤ C
  pub number : nat_abs b.d < 4096

pub good-bound : (C w : ℕ) → good_bound? C w ≡ true → Bounds C (bound_of w)
good-bound C w g = record { first = good-first C w g; second = good-second C w g; number = good-number C w g }

-- the part of a region where a bound holds
pub over-holding : (C : ℕ) → C ≤ 4 → {R : Region} {z : Square} (b : Bound) → Bounds C b → Over C R z →
    Over C (in_both (holding b) R) (with_bound b.i b.j (cell_of b) z)
over-holding C few {z = z} b h o = record {
  stands = stands-with_bound b (omega (arith, h.first)) (omega (arith, h.second)) h.number o.stands;
  unused =
      unused_with C b.i b.j (cell_of b) o.stands.sized (omega (arith, h.first)) (omega (arith, h.second)) h.first h.second o.unused;
  fits = tightens-with_bound b z h.number o.fits;
}

-- all bounds of a zone
abbrev pub AllBounds : ℕ → Zone → Type 0
AllBounds C [] = Unit {0}
AllBounds C (b ∷ S) = Bounds C b × AllBounds C S

module _ (C : ℕ) (C₁ : 1 ≤ C) (few : C ≤ 4) {R : Region} {z : Square} (o : Over C R z) where
  -- where a bound fails somewhere, it fails at scale C + 1
  bound-at-one : (b : Bound) → Bounds C b → InsideAt (suc C) R (holding b) → (k : ℕ) → 1 ≤ k → (v : Valuation) → R k v → T (holds? k v b)
  bound-at-one b h i k k₁ v r =
      not-untrue (holds? k v b)
      (λ t. (empty-at-one C C₁ few (over-holding C few (opposite b) turned o)
      (λ u p. not-both (holds? (suc C) u b) (i u p.1) ((opposite-holds (suc C) u b).0 p.0))
      ).at k k₁ v ((opposite-holds k v b).1 t, r))
    where
      turned : Bounds C (opposite b)
      turned = record { first = h.second; second = h.first; number = number-opposite b h.number }

  pub inside-at-one : (S : Zone) → AllBounds C S → InsideAt (suc C) R (within S) → Inside R (within S)
  unfolding within in?
  inside-at-one [] h i = record { at = λ k k₁ v r. tt }
  inside-at-one (b ∷ S) h i = record {
    at = λ k k₁ v r.
        and (holds? k v b) (in? k v S)
        (bound-at-one b h.0 (λ u p. (both (holds? (suc C) u b) (in? (suc C) u S) (i u p)).0) k k₁ v r)
        ((inside-at-one S h.1 (λ u p. (both (holds? (suc C) u b) (in? (suc C) u S) (i u p)).1)).at k k₁ v r);
  }
