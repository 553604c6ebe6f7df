-- Refusal 6: the table of the start valuations is not empty exactly where there is a start state at some scale. Assumes nothing.
use Prim.Native.Nat.{◌<◌}
use mathlib.Core.Path.{◌≡◌, refl, subst}
use mathlib.Core.Bool.{true, false}
use mathlib.Core.List.{List}
use native.Mathlib.Omega.{arith}
use lib.ListN.{length}
use Rattle.zone.specs.Scale.{Region, within}
use Rattle.zone.specs.Squares.{universe, met, empty?, Tightens}
use Rattle.zone.specs.Stores.{zone_at}
use Rattle.zone.proofs.Sizes.{small-met, tightens-fewer}
use Rattle.zone.proofs.Regions.{Stands, in_both, stands-met}
use Rattle.zone.proofs.Spans.{spans, Some, some, empty-yes}
use Rattle.model.specs.Model.{Model}
use Rattle.model.specs.States.{location_at, HasStart}
use Rattle.model.specs.Scan.{start_bounds_at}
use Rattle.model.specs.Index.{start_square}
use Rattle.model.specs.Indexed.{with_bounds}
use Rattle.model.proofs.ZoneLaws.{stands-bounds, tightens-bounds}
use Rattle.model.proofs.GoodModel.{GoodModel}
use Rattle.zone.specs.declared.zones.Zone.{Zone as Square}

-- the start valuations: in the start location's invariant and in the start bounds
abbrev pub start_region : Model → Region
start_region M = in_both (within (location_at M M.start).invariant) (within M.start_bounds)

module _
    (M : Model) (zs : List Square) (good : GoodModel M)
    (invariant : zone_at zs M.start ≡ with_bounds (location_at M M.start).invariant universe)
    (start_bounds : zone_at zs start_bounds_at ≡ with_bounds M.start_bounds universe)
  where
    pub start-met : Stands (start_region M) (met (zone_at zs M.start) (zone_at zs start_bounds_at))
    start-met =
        rw (invariant, start_bounds)
        (stands-met (stands-bounds (location_at M M.start).invariant (good.invariants M.start))
        (stands-bounds M.start_bounds good.start_bounds))

    pub start_fits : Tightens 1 (met (zone_at zs M.start) (zone_at zs start_bounds_at))
    start_fits =
        rw (invariant, start_bounds)
        (tightens-fewer 1 3 _ (omega arith) (small-met _ (tightens-bounds (location_at M M.start).invariant (good.invariants M.start))
        _ (tightens-bounds M.start_bounds good.start_bounds)))

    pub start-yes : M.start < length M.locations → empty? (start_square M.start zs) ≡ false → HasStart M
    unfolding start_square
    start-yes h e =
        let p : Some (start_region M) = some start_fits (spans start-met) e in
        record {
          scale = p.scale;
          positive = p.positive;
          state = record { location = M.start; valuation = p.valuation };
          starts = record { location = refl; state = record { exists = h; invariant = p.holds.0 }; bounds = p.holds.1 };
        }

    pub start-no : empty? (start_square M.start zs) ≡ true → HasStart M → ⊥
    unfolding start_square
    start-no e s =
        (empty-yes start_fits (spans start-met) e).at s.scale s.positive s.state.valuation (
          subst (λ l. within (location_at M l).invariant s.scale s.state.valuation) s.starts.location s.starts.state.invariant,
          s.starts.bounds,
        )
