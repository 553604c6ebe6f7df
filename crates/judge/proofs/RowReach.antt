-- A row's reach by square tables: the tables tell whether it is empty, whether what a reset makes of it lies in a zone, and whether those landings
-- that an invariant holds do. Assumes nothing.
use Prim.Native.Nat.{ℕ, zero, suc, ◌+◌, ◌<◌}
use mathlib.Core.Path.{◌≡◌, refl, sym, subst}
use mathlib.Core.Bool.{true, false}
use native.Mathlib.Omega.{arith}
use lib.Dec.{T}
use lib.ListN.{length}
use Rattle.zone.specs.Scale.{Valuation, Zone, in?, within, Empty, Inside}
use Rattle.zone.specs.Moves.{delayed, ResetOf}
use Rattle.zone.specs.Squares.{Tightens, universe, met, tightened, delayed_square, reset_square, empty?, inside?}
use Rattle.zone.specs.Stores.{zone_at}
use Rattle.zone.specs.declared.zones.Zone.{Zone as Square}
use Rattle.zone.proofs.Bools.{both, and}
use Rattle.zone.proofs.Sizes.{small-met, small-delayed, small-reset, tightens-less, tightens-fewer}
use Rattle.zone.proofs.SquareTables.{met-assoc}
use Rattle.zone.proofs.Regions.{Stands, in_both, stands-met}
use Rattle.zone.proofs.Spans.{Spans, spans-same, spans-met, spans-tightened, tightened-good, Tight, tight, Beyond, empty-yes, empty-no, inside-yes, beyond}
use Rattle.zone.proofs.Attained.{Attained, between, spans-attained, spans-reset, tight-reset}
use Rattle.model.specs.Scan.{guards_at}
use Rattle.model.specs.Model.{Action, Model}
use Rattle.model.specs.States.{State, location_at}
use Rattle.model.specs.declared.index.IndexedModel.{IndexedModel}
use Rattle.model.specs.Indexed.{with_bounds, ActionAt, Indexed}
use Rattle.model.proofs.ZoneLaws.{GoodZone, stands-bounds, tightens-bounds}
use Rattle.model.proofs.GoodModel.{GoodAction, GoodModel}
use Rattle.model.proofs.IndexLaws.{location-at, invariant-stands, guard-stands}
use Rattle.table.specs.Table.{Node}
use Rattle.acceptance.specs.Choices.{later, invariant?, throughout?, allowed?}
use Rattle.acceptance.specs.Acceptance.{Reach}
use Rattle.judge.specs.Reaching.{common, waited_square}
use Rattle.judge.proofs.PartLaws.{Decides, table-decides}

-- the invariant holds throughout a delay where it holds before it and after it
throughout_last : (M : Model) (k : ℕ) (s : State) (t : ℕ) → T (throughout? M k s t) → T (invariant? M k (later s t))
unfolding throughout?
throughout_last M k s zero h = h
throughout_last M k s (suc t) h = (both (throughout? M k s t) (invariant? M k (later s (suc t))) h).1

throughout_from : (M : Model) (k : ℕ) (s : State) (t : ℕ) → within (location_at M s.location).invariant k s.valuation →
    within (location_at M s.location).invariant k (delayed s.valuation t) → T (throughout? M k s t)
unfolding throughout? invariant? later within
throughout_from M k s zero p q = q
throughout_from M k s (suc t) p q =
    and (throughout? M k s t) (invariant? M k (later s (suc t)))
    (throughout_from M k s t p (between (location_at M s.location).invariant k s.valuation t 1 p
    (subst (λ n. within (location_at M s.location).invariant k (delayed s.valuation n)) (let e : suc t ≡ t + 1 = omega arith in e) q)))
    q

-- what a square table decides of a row's reach
pub record Reached (M : Model) (N : Node) (A : Action) (z : Square) : Type 0 where
  pub blocked-pass : empty? z ≡ true → Empty (Reach M N A)
  pub blocked-fail : empty? z ≡ false → Empty (Reach M N A) → ⊥
  pub onward-pass : empty? z ≡ false → (mask : ℕ) (S : Zone) → GoodZone S → inside? (reset_square mask z) (with_bounds S universe) ≡ true →
      Inside (ResetOf mask (Reach M N A)) (within S)
  pub onward-fail : empty? z ≡ false → (mask : ℕ) (S : Zone) → GoodZone S → inside? (reset_square mask z) (with_bounds S universe) ≡ false →
      Beyond (ResetOf mask (Reach M N A)) (within S)
  pub part : empty? z ≡ false → (mask : ℕ) (S : Zone) → GoodZone S →
      Decides (in_both (ResetOf mask (Reach M N A)) (within S)) (common (reset_square mask z) (with_bounds S universe))

module _ {M : Model} {m : IndexedModel} (x : Indexed M m) (good : GoodModel M) (N : Node) (l : N.location < length M.locations) (z : GoodZone N.zone)
    {a : ℕ} {A : Action} (i : ActionAt m a A) (g : GoodAction A) where
  abbrev invariant : Zone
  invariant = (location_at M N.location).invariant

  -- where a delay starts, and where it ends
  abbrev starts : ℕ → Valuation → Type 0
  starts = in_both (within N.zone) (within invariant)

  abbrev ends : ℕ → Valuation → Type 0
  ends = in_both (within invariant) (within A.guard)

  -- the reach is what a delay attains
  reach-attained : (k : ℕ) (v : Valuation) → Reach M N A k v → Attained starts ends k v
  unfolding allowed? later within invariant?
  reach-attained k v p = record {
    «from» = p.state.valuation;
    starts = (p.zone, subst (λ n. within (location_at M n).invariant k p.state.valuation) p.location p.is_state.invariant);
    delay = p.delay;
    attains = p.attains;
    ends = subst (λ u. ends k u) p.attains (
      subst (λ n. within (location_at M n).invariant k late) p.location (throughout_last M k p.state p.delay holds.0),
      holds.1,
    );
  }
    where
      late : Valuation
      late = delayed p.state.valuation p.delay

      holds : T (throughout? M k p.state p.delay) × T (in? k late A.guard)
      holds = both (throughout? M k p.state p.delay) (in? k late A.guard) p.allowed

  attained-reach : (k : ℕ) (v : Valuation) → Attained starts ends k v → Reach M N A k v
  unfolding allowed? later within
  attained-reach k v p = record {
    state = s;
    location = refl;
    is_state = record { exists = l; invariant = p.starts.1 };
    zone = p.starts.0;
    delay = p.delay;
    allowed = and (throughout? M k s p.delay) (in? k late A.guard) (throughout_from M k s p.delay p.starts.1 q.0) q.1;
    attains = p.attains;
  }
    where
      s : State
      s = record { location = N.location; valuation = p.«from» }

      late : Valuation
      late = delayed p.«from» p.delay

      q : ends k late
      q = subst (λ u. ends k u) (sym p.attains) p.ends

  -- ---- the tables
  abbrev zone_table : Square
  zone_table = with_bounds N.zone universe

  abbrev invariant_table : Square
  invariant_table = zone_at m.zones N.location

  abbrev guard_table : Square
  guard_table = zone_at m.zones (guards_at + a)

  invariant-table : Stands (within invariant) invariant_table
  invariant-table = invariant-stands x good N.location l

  invariant-fits : Tightens 3 invariant_table
  invariant-fits = rw (location-at x N.location l).invariant (tightens-bounds invariant (good.invariants N.location))

  guard-fits : Tightens 3 guard_table
  guard-fits = rw i.guard (tightens-bounds A.guard g.guard)

  starts_fit : Tightens 3 (met zone_table invariant_table)
  starts_fit = small-met _ (tightens-bounds N.zone z) _ invariant-fits

  ends-fit : Tightens 3 (met invariant_table guard_table)
  ends-fit = small-met _ invariant-fits _ guard-fits

  abbrev waited : Square
  waited = waited_square zone_table invariant_table

  -- before it is tightened
  row_fits : Tightens 2 (met waited guard_table)
  unfolding waited_square common
  row_fits =
      small-met _
      (small-met _ (small-delayed _ (tightens-less 2 _ (omega arith) starts_fit)) _ (tightens-fewer 2 3 _ (omega arith) invariant-fits)) _
      (tightens-fewer 2 3 _ (omega arith) guard-fits)

  fits : Tightens 1 (met waited guard_table)
  fits = tightens-fewer 1 2 _ (omega arith) row_fits

  row-spans : Spans (Reach M N A) (met waited guard_table)
  unfolding waited_square common
  row-spans =
      rw (met-assoc (delayed_square (tightened (met zone_table invariant_table))) invariant_table guard_table)
      (spans-same attained-reach reach-attained
      (spans-attained (tightens-fewer 2 3 _ (omega arith) starts_fit) (tightens-fewer 1 3 _ (omega arith) ends-fit)
      (stands-met (stands-bounds N.zone z) invariant-table) (stands-met invariant-table (guard-stands i g))))

  abbrev pub row_reach : Square
  row_reach = common waited guard_table

  -- ---- blocked
  blocked-yes : empty? row_reach ≡ true → Empty (Reach M N A)
  unfolding common
  blocked-yes = empty-yes fits row-spans

  blocked-no : empty? row_reach ≡ false → Empty (Reach M N A) → ⊥
  unfolding common
  blocked-no = empty-no fits row-spans

  -- ---- where an edge with this mask lands, if the reach is not empty
  module _ (filled : empty? row_reach ≡ false) (mask : ℕ) where
    pub landings-span : Spans (ResetOf mask (Reach M N A)) (reset_square mask row_reach)
    unfolding common
    landings-span = spans-reset mask row_reach (tightened-good fits row-spans filled) (spans-tightened fits row-spans)

    pub landings-tight : Tight (reset_square mask row_reach)
    unfolding common
    landings-tight = tight-reset mask row_reach (tight fits row-spans filled)

    module _ (S : Zone) (s : GoodZone S) where
      onward-yes : inside? (reset_square mask row_reach) (with_bounds S universe) ≡ true → Inside (ResetOf mask (Reach M N A)) (within S)
      onward-yes = inside-yes landings-span (stands-bounds S s)

      onward-no : inside? (reset_square mask row_reach) (with_bounds S universe) ≡ false → Beyond (ResetOf mask (Reach M N A)) (within S)
      onward-no = beyond landings-span (stands-bounds S s) landings-tight

      -- those that the zone S holds
      pub part-fits : Tightens 1 (met (reset_square mask row_reach) (with_bounds S universe))
      unfolding common
      part-fits =
          small-met _ (small-reset _ (tightens-less 1 _ (omega arith) row_fits) mask) _ (tightens-fewer 1 3 _ (omega arith) (tightens-bounds S s))

      part-decides : Decides (in_both (ResetOf mask (Reach M N A)) (within S)) (common (reset_square mask row_reach) (with_bounds S universe))
      unfolding common
      part-decides = table-decides part-fits (spans-met landings-span (stands-bounds S s))

  -- the table decides
  pub reached : Reached M N A row_reach
  reached = record {
    blocked-pass = blocked-yes;
    blocked-fail = blocked-no;
    onward-pass = onward-yes;
    onward-fail = onward-no;
    part = part-decides;
  }
