-- The start valuations by their table: it tells whether they lie in a zone. Assumes nothing.
use Prim.Native.Nat.{ℕ, ◌<◌}
use mathlib.Core.Path.{◌≡◌, refl, sym, ap, ◌∙◌}
use mathlib.Core.Bool.{Bool, true, false}
use lib.ListN.{length}
use Rattle.zone.specs.Scale.{Valuation, Zone, within, Inside}
use Rattle.zone.specs.Squares.{universe, met, tightened, empty?, inside?, Tightens}
use Rattle.zone.specs.Stores.{zone_at}
use Rattle.zone.specs.declared.zones.Zone.{Zone as Square}
use Rattle.zone.proofs.Regions.{Stands}
use Rattle.zone.proofs.Spans.{Spans, spans, spans-tightened, tight as needed, inside-yes, inside-no}
use Rattle.model.specs.Model.{Model}
use Rattle.model.specs.States.{location_at, HasStart}
use Rattle.model.specs.declared.index.IndexedModel.{IndexedModel}
use Rattle.model.specs.Index.{start_square}
use Rattle.model.specs.Indexed.{with_bounds, Indexed}
use Rattle.model.proofs.ZoneLaws.{GoodZone, stands-bounds}
use Rattle.model.proofs.GoodModel.{GoodModel}
use Rattle.model.proofs.IndexLaws.{location-at}
use Rattle.model.proofs.Starting.{start_region, start-met, start_fits, start-no}
use Rattle.acceptance.specs.Acceptance.{start_valuations}

-- y is the table of the start valuations that reading leaves
module _ {M : Model} {m : IndexedModel} {y : Square} (x : Indexed M m) (good : GoodModel M) (l : M.start < length M.locations)
    (i : y ≡ start_square m.index.start m.zones) where
  invariant : zone_at m.zones M.start ≡ with_bounds (location_at M M.start).invariant universe
  invariant = (location-at x M.start l).invariant

  -- the bounds of the start valuations
  abbrev bounds : Square
  bounds = met (zone_at m.zones M.start) (zone_at m.zones 48)

  stands : Stands (start_region M) bounds
  stands = start-met M m.zones good invariant x.start_bounds

  fits : Tightens 1 bounds
  fits = start_fits M m.zones good invariant x.start_bounds

  spanned : Spans (start_region M) (tightened bounds)
  spanned = spans-tightened fits (spans stands)

  initial : y ≡ start_square M.start m.zones
  initial = i ∙ ap (λ n. start_square n m.zones) x.start

  tight : y ≡ tightened bounds
  unfolding start_square
  tight = initial

  pub start-not-empty : HasStart M → empty? y ≡ false
  start-not-empty h = by (empty? y) refl
    where
      by : (c : Bool) → empty? y ≡ c → c ≡ false
      by true e = absurd (start-no M m.zones good invariant x.start_bounds (sym (ap empty? initial) ∙ e) h)
      by false e = refl

  -- the two ways to say it
  starts_in : (k : ℕ) (v : Valuation) → start_valuations M k v → start_region M k v
  unfolding start_valuations
  starts_in k v s = (s.state.invariant, s.bounds)

  in-starts : (k : ℕ) (v : Valuation) → start_region M k v → start_valuations M k v
  unfolding start_valuations
  in-starts k v p = record { location = refl; state = record { exists = l; invariant = p.0 }; bounds = p.1 }

  module _ (filled : empty? y ≡ false) (S : Zone) (s : GoodZone S) where
    pub start-inside-yes : inside? y (with_bounds S universe) ≡ true → Inside (start_valuations M) (within S)
    start-inside-yes e = record {
      at = λ k k₁ v p.
          (inside-yes spanned (stands-bounds S s) (sym (ap (λ z. inside? z (with_bounds S universe)) tight) ∙ e)).at k k₁ v (starts_in k v p);
    }

    pub start-inside-no : inside? y (with_bounds S universe) ≡ false → Inside (start_valuations M) (within S) → ⊥
    start-inside-no e q =
        inside-no spanned (stands-bounds S s) (needed fits (spans stands) (sym (ap empty? tight) ∙ filled))
        (sym (ap (λ z. inside? z (with_bounds S universe)) tight) ∙ e) (record { at = λ k k₁ v p. q.at k k₁ v (in-starts k v p) })
