-- The square table of a row's reach tells of each edge whether it can land outside (document 02, card 4). Assumes nothing.
use mathlib.Core.Path.{◌≡◌, refl}
use mathlib.Core.Logic.{inl, inr}
use mathlib.Core.Bool.{Bool, true, false}
use mathlib.Core.List.{List, [], ◌∷◌}
use Rattle.zone.specs.Scale.{Zone, in?, within}
use Rattle.zone.specs.Squares.{universe, reset_square, empty?, inside?}
use Rattle.zone.specs.declared.zones.Zone.{Zone as Square}
use Rattle.zone.proofs.Bools.{untrue}
use Rattle.zone.proofs.Spans.{Beyond}
use Rattle.model.specs.Model.{Edge, Action, Model}
use Rattle.model.specs.States.{location_at}
use Rattle.model.specs.Indexed.{with_bounds}
use Rattle.model.proofs.ZoneLaws.{All, empty, more}
use Rattle.model.proofs.GoodModel.{GoodModel}
use Rattle.table.specs.Table.{Node}
use Rattle.acceptance.specs.Acceptance.{landings, CanLandOutside}
use Rattle.acceptance.proofs.SumLaws.{inside_cannot, Known}
use Rattle.judge.proofs.RowReach.{Reached}

module _ {M : Model} (good : GoodModel M) {N : Node} {A : Action} {reach : Square} (z : Reached M N A reach) where
  module _ (E : Edge) where
    abbrev invariant : Zone
    invariant = (location_at M E.to).invariant

    -- every landing is inside, as the tables tell it
    abbrev all_inside? : Bool
    all_inside? = inside? (reset_square E.mask reach) (with_bounds invariant universe)

    -- from an empty reach it cannot land outside
    pub nowhere : empty? reach ≡ true → CanLandOutside M N A E → ⊥
    nowhere e can = (z.blocked-pass e).at can.scale can.positive can.lands.before can.lands.was

    -- where not every landing is inside it can
    pub somewhere : empty? reach ≡ false → all_inside? ≡ false → CanLandOutside M N A E
    unfolding within
    somewhere e h =
        let p : Beyond (landings M N A E) (within invariant) = z.onward-fail e E.mask invariant (good.invariants E.to) h in
        record {
          scale = p.scale;
          positive = p.positive;
          valuation = p.valuation;
          lands = p.holds;
          outside = untrue (in? p.scale p.valuation invariant) p.fails;
        }

    pub known : Known M N A E
    known = by (empty? reach) refl all_inside? refl
      where
        by : (d : Bool) → empty? reach ≡ d → (b : Bool) → all_inside? ≡ b → Known M N A E
        by true e b o = inr (nowhere e)
        by false e true o = inr (inside_cannot M N A E (z.onward-pass e E.mask invariant (good.invariants E.to) o))
        by false e false o = inl (somewhere e o)

  pub all_known : (Es : List Edge) → All (Known M N A) Es
  all_known [] = empty
  all_known (E ∷ Es) = more (known E) (all_known Es)
