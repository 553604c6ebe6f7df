-- Every zone of a model whose words pass the checks is good. Assumes nothing.
use Prim.Native.Nat.{ℕ, suc}
use mathlib.Core.Path.{◌≡◌, refl}
use mathlib.Core.List.{List, [], ◌∷◌}
use Rattle.std.proofs.Common.{Ok}
use Rattle.zone.specs.Words.{bound_of}
use Rattle.zone.proofs.WordLaws.{good-fields}
use Rattle.model.specs.Kinds.{Kind, none, head, location, action, edge, bound, start, kind_of}
use Rattle.model.specs.Model.{Action, Location, Model, Parts, parts_with, parts_of, model_of}
use Rattle.model.specs.States.{location_at}
use Rattle.model.specs.Scan.{nothing, checked, seen_with, WithinLimits}
use Rattle.model.specs.declared.seen.Seen.{Seen}
use Rattle.model.specs.Index.{steps}
use Rattle.pass.proofs.Run.{Run}
use Rattle.model.proofs.Limits.{limits-nothing, limits_with, good_bound}
use Rattle.model.proofs.ZoneLaws.{All, empty, more, all-at, GoodBound, GoodZone, good-word}

pub record GoodAction (A : Action) : Type 0 where
  pub guard : GoodZone A.guard

pub record GoodLocation (L : Location) : Type 0 where
  pub invariant : GoodZone L.invariant
  pub guards : All GoodAction L.actions

pub record GoodModel (M : Model) : Type 0 where
  pub invariants : (l : ℕ) → GoodZone (location_at M l).invariant
  pub guards : (l : ℕ) → All GoodAction (location_at M l).actions
  pub start_bounds : GoodZone M.start_bounds

record GoodParts (P : Parts) : Type 0 where
  bounds : GoodZone P.bounds
  actions : All GoodAction P.actions
  locations : All GoodLocation P.locations
  start_bounds : GoodZone P.start_bounds

-- with a word more in front
good_with : (k : Kind) (w : ℕ) (P : Parts) → (k ≡ bound → GoodBound (bound_of w)) → GoodParts P → GoodParts (parts_with k w P)
unfolding parts_with
good_with none w P b g = g
good_with head w P b g = g
good_with location w P b g = record {
  bounds = empty;
  actions = empty;
  locations = more (record { invariant = g.bounds; guards = g.actions }) g.locations;
  start_bounds = g.start_bounds;
}
good_with action w P b g = record {
  bounds = empty;
  actions = more (record { guard = g.bounds }) g.actions;
  locations = g.locations;
  start_bounds = g.start_bounds;
}
good_with edge w P b g =
    record { bounds = g.bounds; actions = g.actions; locations = g.locations; start_bounds = g.start_bounds }
good_with bound w P b g =
    record { bounds = more (b refl) g.bounds; actions = g.actions; locations = g.locations; start_bounds = g.start_bounds }
good_with start w P b g = record { bounds = empty; actions = empty; locations = empty; start_bounds = g.bounds }

-- a bound that passes the checks
bound-good : (s : Seen) (w : ℕ) → WithinLimits s → checked s w ≡ Ok tt → kind_of w ≡ bound → GoodBound (bound_of w)
bound-good s w h f e =
    good-word s.clocks w h.clocks (good-fields s.clocks w (good_bound s w h f e))

good-parts : (s : Seen) (p : ℕ) (ws : List ℕ) → WithinLimits s → Run steps s p ws → GoodParts (parts_of ws)
unfolding parts_of
good-parts s p [] h r = record { bounds = empty; actions = empty; locations = empty; start_bounds = empty }
good-parts s p (w ∷ ws) h r =
    good_with (kind_of w) w (parts_of ws) (bound-good s w h r.0) (good-parts (seen_with s w p) (suc p) ws (limits_with s w p h r.0) r.1)

pub good-model : (words : List ℕ) → Run steps nothing 0 words → GoodModel (model_of words)
unfolding model_of location_at
good-model words r = record {
  invariants = λ l. (at l).invariant;
  guards = λ l. (at l).guards;
  start_bounds = parts.start_bounds;
}
  where
    parts : GoodParts (parts_of words)
    parts = good-parts nothing 0 words limits-nothing r

    at : (l : ℕ) → GoodLocation (location_at (model_of words) l)
    at l = all-at l parts.locations (record { invariant = empty; guards = empty })
