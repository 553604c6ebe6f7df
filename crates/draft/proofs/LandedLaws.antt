-- The square tables of exploring: that of the start zone and, from a reach that is not empty, that of an edge's landings inside; and the test that tells
-- whether the edge can land outside. Assumes nothing.
use Prim.Native.Nat.{ℕ, ◌*◌, ◌<◌}
use mathlib.Core.Path.{◌≡◌, refl}
use mathlib.Core.Bool.{Bool, true, false, not, cond}
use native.Mathlib.Nat as N
use lib.ListN.{length}
use Rattle.zone.specs.Scale.{Zone, Region, within, Inside}
use Rattle.zone.specs.Moves.{ResetOf}
use Rattle.zone.specs.Squares.{universe, source, reset_square, empty?, inside?}
use Rattle.zone.specs.Stores.{zone_at}
use Rattle.zone.specs.declared.zones.Zone.{Zone as Square}
use Rattle.zone.proofs.SquareTables.{table-reset, source-lt, nonempty-ok, ok-nonempty}
use Rattle.zone.proofs.Regions.{in_both, stands_same}
use Rattle.zone.proofs.Spans.{Spans, spans, spans-met, inside-yes}
use Rattle.model.specs.Model.{Edge, Action, Model}
use Rattle.model.specs.States.{location_at}
use Rattle.model.specs.Index.{start_square}
use Rattle.model.specs.declared.index.IndexedModel.{IndexedModel}
use Rattle.model.specs.Indexed.{ActionAt, Indexed, with_bounds}
use Rattle.model.proofs.ZoneLaws.{GoodZone, stands-bounds}
use Rattle.model.proofs.GoodModel.{GoodAction, GoodModel}
use Rattle.model.proofs.IndexLaws.{location-at}
use Rattle.model.proofs.Starting.{start-met, start_fits}
use Rattle.acceptance.specs.Acceptance.{Reach, landings_inside}
use Rattle.acceptance.proofs.SumLaws.{inside_cannot}
use Rattle.judge.specs.Reaching.{common}
use Rattle.judge.proofs.RowReach.{row_reach, landings-span, landings-tight, part-fits, reached}
use Rattle.judge.proofs.OutsideLaws.{somewhere}
use Rattle.drafting.specs.Exploring.{Found, as_node, start_zone}
use Rattle.drafting.proofs.BoundingLaws.{within-append}
use Rattle.drafting.proofs.ValuedRows.{Tells}
use Rattle.draft.specs.Exploration.{outside?, landed_square}
use Rattle.draft.proofs.LimitLaws.{SquareFor, is_filled, square-tightened}

-- a region that lies inside another, with that one
spans-inside : {R S : Region} {z : Square} → Inside R S → Spans R z → Spans (in_both R S) z
spans-inside h s = record {
  based = s.based;
  into = λ k k₁ v p. s.into k k₁ v p.0;
  out = λ k k₁ v p.
      let m = s.out k k₁ v p in
      record {
        factor = m.factor;
        factor₁ = m.factor₁;
        valuation = m.valuation;
        holds = (m.holds, h.at (m.factor * k) (N.one-le-mul m.factor₁ k₁) m.valuation m.holds);
        reads = m.reads;
      };
}

-- a reset leaves a table that is not empty so
reset-filled : (mask : ℕ) (y : Square) → empty? y ≡ false → empty? (reset_square mask y) ≡ false
reset-filled mask y e =
    ok-nonempty (reset_square mask y) (λ i h. rw (table-reset mask y i i h h) (nonempty-ok y e (source mask i) (source-lt mask i h)))

module _ {M : Model} {m : IndexedModel} (x : Indexed M m) (good : GoodModel M) where
  -- ---- an edge, from the reach of an action
  module _ (F : Found) (l : F.location < length M.locations) (z : GoodZone F.zone) {a : ℕ} {A : Action} (i : ActionAt m a A) (g : GoodAction A)
      (filled : empty? (row_reach x good (as_node F) l z i g) ≡ false) (E : Edge) (to : E.to < length M.locations) where
    abbrev invariant : Zone
    invariant = (location_at M E.to).invariant

    abbrev landed : Square
    landed = reset_square E.mask (row_reach x good (as_node F) l z i g)

    abbrev invariant_table : Square
    invariant_table = zone_at m.zones E.to

    table_is : invariant_table ≡ with_bounds invariant universe
    table_is = (location-at x E.to to).invariant

    pub landed-square : SquareFor (landings_inside M (as_node F) A E) (landed_square landed invariant_table)
    unfolding landed_square landings_inside common
    landed-square = rw table_is (by (inside? landed (with_bounds invariant universe)) refl)
      where
        span : Spans (ResetOf E.mask (Reach M (as_node F) A)) landed
        span = landings-span x good (as_node F) l z i g filled E.mask

        by : (c : Bool) → inside? landed (with_bounds invariant universe) ≡ c →
            SquareFor (landings_inside M (as_node F) A E) (cond (not c) (common landed (with_bounds invariant universe)) landed)
        by true e =
            is_filled (reset-filled E.mask _ filled) (spans-inside (inside-yes span (stands-bounds invariant (good.invariants E.to)) e) span)
            (landings-tight x good (as_node F) l z i g filled E.mask)
        by false e =
            square-tightened (part-fits x good (as_node F) l z i g filled E.mask invariant (good.invariants E.to))
            (spans-met span (stands-bounds invariant (good.invariants E.to)))

    pub landed-tells : Tells M F A E (outside? landed invariant_table)
    landed-tells = rw table_is (by (inside? landed (with_bounds invariant universe)) refl)
      where
        by : (c : Bool) → inside? landed (with_bounds invariant universe) ≡ c → Tells M F A E (not c)
        by true e =
            inside_cannot M (as_node F) A E
            (inside-yes (landings-span x good (as_node F) l z i g filled E.mask) (stands-bounds invariant (good.invariants E.to)) e)
        by false e = somewhere good (reached x good (as_node F) l z i g) E filled e

  -- ---- the start zone
  pub start-square : M.start < length M.locations → SquareFor (within (start_zone M)) (start_square M.start m.zones)
  unfolding start_zone start_square
  start-square h =
      let at = (location-at x M.start h).invariant in
      square-tightened (start_fits M m.zones good at x.start_bounds)
      (spans (stands_same
      (λ k v p. (within-append M.start_bounds (location_at M M.start).invariant k v).1 (p.1, p.0))
      (λ k v p. let (b, i) = (within-append M.start_bounds (location_at M M.start).invariant k v).0 p in (i, b))
      (start-met M m.zones good at x.start_bounds)))
