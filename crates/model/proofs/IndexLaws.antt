-- Laws of what is kept of an accepted model, for its callers. Assumes nothing.
use Prim.Native.Nat.{ℕ, zero, suc, ◌+◌, ◌<◌}
use mathlib.Core.Path.{sym, subst, ◌∙◌}
use mathlib.Core.List.{List, [], ◌∷◌}
use native.Mathlib.Nat.{add-zero, zero-add, add-suc, suc-add, le_of_suc-le-suc, not-suc-le-zero}
use lib.ListN.{get_or, length}
use Rattle.zone.specs.Scale.{within}
use Rattle.zone.specs.Stores.{zone_at}
use Rattle.zone.proofs.Regions.{Stands}
use Rattle.model.specs.Model.{Action, Model}
use Rattle.model.specs.States.{nowhere, location_at}
use Rattle.model.specs.Scan.{guards_at}
use Rattle.model.specs.declared.index.IndexedModel.{IndexedModel}
use Rattle.model.specs.Indexed.{Each, ActionAt, LocationAt, Indexed}
use Rattle.model.proofs.ZoneLaws.{stands-bounds}
use Rattle.model.proofs.GoodModel.{GoodAction, GoodModel}

-- what holds of each element holds of the one at i
pub each_at : {A : Type 0} (P : ℕ → A → Type 0) (n : ℕ) (xs : List A) (d : A) → Each P n xs → (i : ℕ) → i < length xs → P (n + i) (get_or xs i d)
unfolding Each
each_at P n [] d h i l = absurd (not-suc-le-zero l)
each_at P n (x ∷ xs) d h zero l = subst (λ (m : ℕ). P m x) (sym (add-zero n)) h.0
each_at P n (x ∷ xs) d h (suc i) l =
    subst (λ (m : ℕ). P m (get_or xs i d)) (suc-add n i ∙ sym (add-suc n i)) (each_at P (suc n) xs d h.1 i (le_of_suc-le-suc l))

module _ {M : Model} {k : IndexedModel} (x : Indexed M k) where
  pub location-at : (l : ℕ) → l < length M.locations → LocationAt k l (location_at M l)
  unfolding location_at
  location-at l h =
      subst (λ (m : ℕ). LocationAt k m (get_or M.locations l nowhere)) (zero-add l)
      (each_at (LocationAt k) 0 M.locations nowhere x.each l h)

  -- the zone of a location is its invariant's
  pub invariant-stands : GoodModel M → (l : ℕ) → l < length M.locations →
      Stands (within (location_at M l).invariant) (zone_at k.zones l)
  invariant-stands g l h = rw (location-at l h).invariant (stands-bounds (location_at M l).invariant (g.invariants l))

-- the zone of an action is its guard's
pub guard-stands : {k : IndexedModel} {a : ℕ} {A : Action} → ActionAt k a A → GoodAction A →
    Stands (within A.guard) (zone_at k.zones (guards_at + a))
guard-stands {A = A} x g = rw x.guard (stands-bounds A.guard g.guard)
