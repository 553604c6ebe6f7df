-- What an edge with its successor comes to: the walk decides 17 and 18, and what it adds is what the edge has in the sum of 19. Assumes nothing.
use Prim.Native.Nat.{ℕ, ◌*◌, ◌<◌}
use Rattle.std.specs.Prelude.{Result, Ok}
use mathlib.Core.Path.{◌≡◌, refl, ap}
use mathlib.Core.Logic.{inl, inr}
use mathlib.Core.Bool.{Bool, true, false, cond, ◌||◌}
use mathlib.Core.List.{List, [], ◌∷◌}
use borrow.Author.Tests.{eqb-true, eqb-false}
use lib.Dec.{eqb}
use lib.ListN.{length}
use Rattle.zone.specs.Scale.{Zone, within, Inside}
use Rattle.answers.specs.Checks.{Check, check}
use Rattle.answers.specs.Refusals.{number, answer_of}
use Rattle.answers.specs.declared.Reason.TheVariants as reason
use Rattle.answers.specs.declared.Refusal.{Refusal}
use Rattle.zone.specs.Squares.{universe, reset_square, empty?, inside?}
use Rattle.zone.specs.Stores.{zone_at}
use Rattle.zone.specs.declared.zones.Zone.{Zone as Square}
use Rattle.model.specs.Fields.{mask_of, lands_at, weight_of}
use Rattle.model.specs.Model.{Edge, Action, Model, edge_of}
use Rattle.model.specs.States.{location_at}
use Rattle.model.specs.declared.index.IndexedModel.{IndexedModel}
use Rattle.model.specs.Indexed.{with_bounds, Indexed}
use Rattle.model.proofs.ZoneLaws.{GoodZone}
use Rattle.model.proofs.GoodModel.{GoodModel}
use Rattle.model.proofs.WellFormed.{FormedEdge}
use Rattle.model.proofs.IndexLaws.{location-at}
use Rattle.table.specs.Table.{Successor, Node, Table, node_at}
use Rattle.table.specs.declared.nodes.IndexedTable.{IndexedTable}
use Rattle.table.specs.Indexed.{TableIndexed}
use Rattle.table.proofs.Shape.{Shaped}
use Rattle.acceptance.specs.Acceptance.{HasLocation, landings, landings_inside, HoldsLandings, CanLandOutside, Worth}
use Rattle.acceptance.proofs.SumLaws.{inside_cannot}
use Rattle.judge.specs.Reaching.{common}
use Rattle.answers.specs.Refusals.{refuse}
use Rattle.judge.specs.Landing.{landings_share, successor_share}
use Rattle.judge.proofs.StepLaws.{Comes}
use Rattle.judge.proofs.RowLaws.{node_at_lem, shaped-at}
use Rattle.judge.proofs.RowReach.{Reached}
use Rattle.judge.proofs.OutsideLaws.{nowhere, somewhere}
use Rattle.judge.proofs.ContainedLaws.{inside-onward}

module _ (M : Model) (words : List ℕ) (m : IndexedModel) (k : IndexedTable) (x : Indexed M m) (good : GoodModel M) (W : Table)
    (i : TableIndexed W k) (sh : Shaped M words W) where
  -- ---- the successors of a row
  module _ (N : Node) (A : Action) (reach : Square) (z : Reached M N A reach) where
    -- the checks of an edge with its successor, 17 and 18
    abbrev pub edge_checks : Edge → Successor → List Check
    edge_checks E S = check 17 S.place (HasLocation W E S) ∷ check 18 S.place (HoldsLandings M W N A E S) ∷ []

    -- what it has in the sum where both hold
    abbrev pub Adds : Edge → Successor → ℕ → Type 0
    Adds E S x = (y : ℕ) × Worth M W N A E S y × (x ≡ E.weight * y)

    -- what it comes to
    abbrev Lands : Edge → Successor → Result ℕ Refusal → Type 0
    Lands E S r = Comes (edge_checks E S) (Adds E S) r

    -- an edge that lands at a location that exists
    module _ (E : Edge) (f : FormedEdge M E) where
      abbrev invariant : Zone
      invariant = (location_at M E.to).invariant

      abbrev invariant_table : Square
      invariant_table = with_bounds invariant universe

      table_is : zone_at m.zones E.to ≡ invariant_table
      table_is = (location-at x E.to f.to).invariant

      good-invariant : GoodZone invariant
      good-invariant = good.invariants E.to

      abbrev landed : Square
      landed = reset_square E.mask reach

      module _ (s p : ℕ) (l : s < length W.nodes) where
        abbrev S : Successor
        S = record { node = s; place = p }

        abbrev zone : Zone
        zone = (node_at W s).zone

        good-zone : GoodZone zone
        good-zone = (shaped-at sh s l).zone

        abbrev zone_table : Square
        zone_table = with_bounds zone universe

        wrong_location : ((node_at W s).location ≡ E.to → ⊥) → Lands E S (refuse reason.WrongLocation p)
        unfolding answer_of number
        wrong_location un = record { says = inr (un, refl) }

        module _ (at : (node_at W s).location ≡ E.to) where
          -- both checks hold
          holds : (y : ℕ) → HoldsLandings M W N A E S → Worth M W N A E S y → Lands E S (Ok (E.weight * y))
          unfolding answer_of number
          holds y h w = record { says = inl (at, inl (h, (y, w, refl))) }

          -- 18 does not
          holds_not : (HoldsLandings M W N A E S → ⊥) → Lands E S (refuse reason.NotInside p)
          unfolding answer_of number
          holds_not un = record { says = inl (at, inr (un, refl)) }

          nothing-lands : empty? reach ≡ true → Lands E S (Ok (E.weight * (node_at W s).value))
          unfolding landings_inside
          nothing-lands e =
              holds (node_at W s).value (record { at = λ k k₁ v h. absurd ((z.blocked-pass e).at k k₁ h.0.before h.0.was) })
              (inr (nowhere good z E e, refl))

          module _ (filled : empty? reach ≡ false) where
            -- every landing is inside
            module _ (all : Inside (landings M N A E) (within invariant)) where
              inside-held : inside? landed zone_table ≡ true → Lands E S (Ok (E.weight * (node_at W s).value))
              unfolding landings_inside
              inside-held h =
                  holds (node_at W s).value
                  (record { at = λ k k₁ v r. (z.onward-pass filled E.mask zone good-zone h).at k k₁ v r.0 })
                  (inr (inside_cannot M N A E all, refl))

              inside-not-held : inside? landed zone_table ≡ false → Lands E S (refuse reason.NotInside p)
              unfolding landings_inside
              inside-not-held h = holds_not (λ m.
                  let b = z.onward-fail filled E.mask zone good-zone h in
                  b.fails (m.at b.scale b.positive b.valuation (b.holds, all.at b.scale b.positive b.valuation b.holds)))

            -- where the successor's zone holds the landings and lies within the invariant, no landing is outside: for the reader; the walk goes by tables
            -- (`contained_within`)
            pub zone-within : inside? landed zone_table ≡ true → inside? zone_table invariant_table ≡ true → Inside (landings M N A E) (within invariant)
            zone-within h i = z.onward-pass filled E.mask invariant good-invariant (inside-onward landed zone_table invariant_table h i)

            -- some landing is outside
            module _ (can : CanLandOutside M N A E) where
              abbrev part : Square
              part = common landed invariant_table

              part_held : (empty? part || inside? part zone_table) ≡ true → Lands E S (Ok (E.weight * k.whole))
              unfolding landings_inside
              part_held h = holds k.whole ((z.part filled E.mask invariant good-invariant).pass zone good-zone h) (inl (can, i.whole))

              part-not-held : (empty? part || inside? part zone_table) ≡ false → Lands E S (refuse reason.NotInside p)
              unfolding landings_inside
              part-not-held h = holds_not ((z.part filled E.mask invariant good-invariant).fail zone good-zone h)

        -- by whether every landing is inside
        by_landings : (at : (node_at W s).location ≡ E.to) → empty? reach ≡ false → (h j q : Bool) → inside? landed zone_table ≡ h →
            inside? landed invariant_table ≡ j → (empty? (common landed invariant_table) || inside? (common landed invariant_table) zone_table) ≡ q →
            Lands E S
            (cond j
            (cond h (Ok (E.weight * (node_at W s).value)) (refuse reason.NotInside p))
            (cond q (Ok (E.weight * k.whole)) (refuse reason.NotInside p)))
        by_landings at e true true q eh ej eq = inside-held at e (z.onward-pass e E.mask invariant good-invariant ej) eh
        by_landings at e false true q eh ej eq = inside-not-held at e (z.onward-pass e E.mask invariant good-invariant ej) eh
        by_landings at e h false true eh ej eq = part_held at e (somewhere good z E e ej) eq
        by_landings at e h false false eh ej eq = part-not-held at e (somewhere good z E e ej) eq

        pub comes : (w : ℕ) → edge_of w ≡ E → Lands E S (successor_share m k reach w s p)
        unfolding successor_share landings_share
        comes w e =
            let to : lands_at w ≡ E.to = ap (λ (E : Edge). E.to) e in
            let mask : mask_of w ≡ E.mask = ap (λ (E : Edge). E.mask) e in
            let weight : weight_of w ≡ E.weight = ap (λ (E : Edge). E.weight) e in
            rw (to, mask, weight, (node_at_lem i s l).location, (node_at_lem i s l).value, (node_at_lem i s l).zone, table_is)
            (by (eqb (node_at W s).location E.to) refl (empty? reach) refl)
          where
            by : (c : Bool) → eqb (node_at W s).location E.to ≡ c → (d : Bool) → empty? reach ≡ d →
                Lands E S
                (cond c
                (cond d (Ok (E.weight * (node_at W s).value))
                (cond (inside? landed invariant_table)
                (cond (inside? landed zone_table) (Ok (E.weight * (node_at W s).value)) (refuse reason.NotInside p))
                (cond (empty? (common landed invariant_table) || inside? (common landed invariant_table) zone_table)
                (Ok (E.weight * k.whole)) (refuse reason.NotInside p))))
                (refuse reason.WrongLocation p))
            by true q true e = nothing-lands (eqb-true _ _ q) e
            by true q false e = by_landings (eqb-true _ _ q) e _ _ _ refl refl refl
            by false q d e = wrong_location (eqb-false _ _ q)
