-- The zones of a model's words: good bounds, the square tables that stand for lists of them, and how often these can be tightened.
-- Assumes nothing.
use Prim.Native.Nat.{ℕ, zero, suc, ◌≤◌, ◌<◌}
use mathlib.Core.Path.{◌≡◌}
use mathlib.Core.Bool.{true}
use mathlib.Core.List.{List, [], ◌∷◌}
use native.Mathlib.Omega.{arith}
use lib.IntN.{nat_abs}
use lib.ListN.{get_or, set}
use Rattle.zone.specs.Scale.{Bound, Zone, holds?, in?, Region, within}
use Rattle.zone.specs.Words.{bound_of, bound_fields?}
use Rattle.zone.specs.Squares.{universe, with_bound, Tightens}
use Rattle.zone.specs.Reading.{cell_of}
use Rattle.zone.specs.declared.zones.Zone.{Zone as Square}
use Rattle.zone.proofs.Bools.{both, and}
use Rattle.zone.proofs.WordLaws.{first_fits, second_fits, number_small}
use Rattle.zone.proofs.Sizes.{tightens-universe, tightens-with_bound}
use Rattle.zone.proofs.Regions.{Stands, holding, in_both, stands_same, stands-universe, stands-with_bound}
use Rattle.model.specs.Indexed.{with_bounds}

-- P holds of every element
pub data All {A : Type 0} (P : A → Type 0) : List A → Type 0 where
  empty : All P []
  more : {x : A} {xs : List A} → P x → All P xs → All P (x ∷ xs)

pub all-at : {A : Type 0} {P : A → Type 0} {xs : List A} {d : A} (i : ℕ) → All P xs → P d → P (get_or xs i d)
all-at i empty q = q
all-at zero (more p ps) q = p
all-at (suc i) (more p ps) q = all-at i ps q

-- ---- good bounds
pub record GoodBound (b : Bound) : Type 0 where
  pub first : b.i < 5
  pub second : b.j < 5
  pub small : nat_abs b.d < 4096

abbrev pub GoodZone : Zone → Type 0
GoodZone z = All GoodBound z

pub good-word : (C w : ℕ) → C ≤ 4 → bound_fields? C w ≡ true → GoodBound (bound_of w)
good-word C w h f = record {
  first = omega (arith, first_fits C w f);
  second = omega (arith, second_fits C w f);
  small = number_small C w f;
}

-- ---- the table of a good zone
stands_on : {R : Region} {y : Square} (z : Zone) → GoodZone z → Stands R y → Stands (in_both (within z) R) (with_bounds z y)
unfolding within in? with_bounds
stands_on [] empty s = stands_same (λ k v r. (tt, r)) (λ k v r. r.1) s
stands_on {R = R} (b ∷ z) (more g gs) s =
    stands_same
    (λ k v r. (and (holds? k v b) (in? k v z) r.1.0 r.0, r.1.1))
    (λ k v r. let (p, q) = both (holds? k v b) (in? k v z) r.0 in (q, (p, r.1)))
    (stands_on {R = in_both (holding b) R} z gs (stands-with_bound b g.first g.second g.small s))

pub stands-bounds : (z : Zone) → GoodZone z → Stands (within z) (with_bounds z universe)
unfolding within in?
stands-bounds z g = stands_same (λ k v r. r.0) (λ k v r. (r, tt)) (stands_on z g stands-universe)

tightens-on : {y : Square} (z : Zone) → GoodZone z → Tightens 3 y → Tightens 3 (with_bounds z y)
unfolding with_bounds
tightens-on [] empty s = s
tightens-on {y} (b ∷ z) (more g gs) s = tightens-on {y = with_bound b.i b.j (cell_of b) y} z gs (tightens-with_bound b y g.small s)

pub tightens-bounds : (z : Zone) → GoodZone z → Tightens 3 (with_bounds z universe)
tightens-bounds z g = tightens-on z g tightens-universe

-- ---- the entries of an array
pub set_at : {A : Type 0} (P : A → Type 0) (d x : A) (l : List A) (i q : ℕ) → ((p : ℕ) → P (get_or l p d)) → P x → P (get_or (set l i x) q d)
set_at P d x [] i q h g = h q
set_at P d x (y ∷ l) zero zero h g = g
set_at P d x (y ∷ l) zero (suc q) h g = h (suc q)
set_at P d x (y ∷ l) (suc i) zero h g = h 0
set_at P d x (y ∷ l) (suc i) (suc q) h g = set_at P d x l i q (λ p. h (suc p)) g
