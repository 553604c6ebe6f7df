-- What holds of the words read so far while no check has failed. Assumes nothing.
use Prim.Native.Nat.{ℕ, ◌+◌, ◌*◌, ◌^◌, ◌≤◌, ◌<◌}
use mathlib.Core.Path.{◌≡◌, refl, subst}
use mathlib.Core.Bool.{Bool, true, false, cond, ◌&&◌}
use native.Mathlib.Omega.{arith}
use borrow.Author.Tests.{ltb-true, leb-true}
use lib.Dec.{eqb, leb}
use Rattle.std.proofs.Common.{Result, Ok, Err}
use Rattle.answers.specs.declared.Reason.{Reason}
use Rattle.answers.specs.declared.Reason.TheVariants as reason
use Rattle.zone.specs.Words.{bits, kind, bound_of, good_bound?}
use Rattle.zone.specs.Questions.{clocks?}
use Rattle.zone.proofs.Bools.{false_true, left_true, right_true}
use Rattle.zone.proofs.WordLaws.{good-first, good-second}
use Rattle.model.specs.Kinds.{Kind, none, head, location, action, edge, bound, start, number, kind_of}
use Rattle.model.specs.Grammar.{numbered?, follows?}
use Rattle.model.specs.Fields.{clocks_of, denominator_of, head_fields?, fields?}
use Rattle.model.specs.Reading.{limit?}
use Rattle.model.specs.Openers.{opener?, edge_may_follow?}
use Rattle.model.specs.Scan.{nothing, fields_at?, limit_at?, adds_at?, checked, zone_count}
use Rattle.model.specs.Scan.{with_head, with_location, with_action, with_edge, with_start, seen_with_kind, seen_with, WithinLimits}
use Rattle.model.specs.declared.seen.Seen.{Seen}
use Rattle.model.proofs.KindLaws.{by_kind, before-edge}

-- ---- a word that fails no check

-- the word w, of the kind k, passes the checks behind words that come to s
pub record Passes (k : Kind) (s : Seen) (w : ℕ) : Type 0 where
  pub named : kind w ≡ number k
  pub follows : follows? (number s.opener) (number k) ≡ true
  pub fields : fields? k s.clocks s.denominator s.locations (number s.opener) w ≡ true
  pub limit : limit? k s.locations s.actions s.run ≡ true
  pub adds : adds_at? s w ≡ true

-- of four tests in their order, the reason of the first that fails
abbrev pub first_fault : Bool → Bool → Bool → Bool → Result (Unit {0}) Reason
first_fault a b c d =
    cond a (cond b (cond c (cond d (Ok tt) (Err reason.BadWeights)) (Err reason.OverModelLimit)) (Err reason.BadModelField)) (Err reason.BadModelKind)

pub all_pass : (a b c d : Bool) → first_fault a b c d ≡ Ok tt → (a ≡ true) × (b ≡ true) × (c ≡ true) × (d ≡ true)
all_pass true true true true h = (refl, refl, refl, refl)
all_pass true true true false h = absurd (cc)
all_pass true true false d h = absurd (cc)
all_pass true false c d h = absurd (cc)
all_pass false b c d h = absurd (cc)

pub passes : (s : Seen) (w : ℕ) → checked s w ≡ Ok tt → Passes (kind_of w) s w
unfolding checked fields_at? limit_at? fields?
passes s w h =
    let all = all_pass (follows? (number s.opener) (kind w)) (fields_at? s w) (limit_at? s w) (adds_at? s w) h in
    let named : kind w ≡ number (kind_of w) =
    by_kind (λ (k : Kind). fields? k s.clocks s.denominator s.locations (number s.opener) w ≡ true → kind w ≡ number k) w
    (λ e. false_true e) (λ k n e. n) all.1 in
    record { named = named; follows = rw (← named) all.0; fields = all.1; limit = all.2; adds = all.3 }

pub passes_as : (k : Kind) (s : Seen) (w : ℕ) → kind_of w ≡ k → checked s w ≡ Ok tt → Passes k s w
passes_as k s w e h = subst (λ (k : Kind). Passes k s w) e (passes s w h)

-- ---- a word more

edge-room : (s : Seen) (w : ℕ) → WithinLimits s → Passes edge s w → (s.run < 4) × (s.edges + 4 ≤ 4 * s.actions + s.run)
unfolding limit?
edge-room s w h g =
    (ltb-true _ _ g.limit, h.room (before-edge (number s.opener) g.follows))

pub head-ranges : (w : ℕ) → head_fields? w ≡ true → (1 ≤ clocks_of w) × (clocks_of w ≤ 4) × (1 ≤ denominator_of w)
head-ranges w h =
    let fields : (eqb (bits 27 24 w) 1 && clocks? (clocks_of w) && eqb (bits 19 16 w) 0) ≡ true = left_true _ _ h in
    let clocks : clocks? (clocks_of w) ≡ true = right_true (eqb (bits 27 24 w) 1) _ (left_true _ _ fields) in (
      leb-true 1 (clocks_of w) (left_true _ _ clocks),
      leb-true (clocks_of w) 4 (right_true (leb 1 (clocks_of w)) _ clocks),
      leb-true 1 (denominator_of w) (right_true (eqb (bits 27 24 w) 1 && clocks? (clocks_of w) && eqb (bits 19 16 w) 0) _ h),
    )

-- the limits, from what the opener says and from the numbers
limits :
    (s : Seen) → opener? (number s.opener) ≡ true → (edge_may_follow? (number s.opener) ≡ true → s.edges + 4 ≤ 4 * s.actions + s.run) →
    (s.clocks ≤ 4) × (s.denominator < 2 ^ 16) × (s.locations ≤ 16) × (s.actions ≤ 32) × (s.edges ≤ 4 * s.actions) × (s.run ≤ 4)
    × (s.weights ≤ s.run * 2 ^ 16) × (s.slot < zone_count) × (s.start < 16) → WithinLimits s
limits s o r n =
    record {
      opener = o;
      clocks = n.0;
      denominator = n.1;
      locations = n.2;
      actions = n.3;
      edges = n.4;
      run = n.5;
      room = r;
      weights = n.6;
      slot = n.7;
      start = n.8;
    }

limits-kind : (k : Kind) (s : Seen) (w p : ℕ) → WithinLimits s → Passes k s w → WithinLimits (seen_with_kind k s w p)
unfolding fields? limit? seen_with_kind numbered?
limits-kind none s w p h g = false_true g.fields
limits-kind head s w p h g = let few = head-ranges w g.fields in limits (with_head s w) refl (λ e. false_true e) (omega arith)
limits-kind location s w p h g =
    let few : s.locations < 16 = ltb-true _ _ g.limit in limits (with_location s) refl (λ e. false_true e) (omega arith)
limits-kind action s w p h g =
    let few : s.actions < 32 = ltb-true _ _ g.limit in limits (with_action s) refl (λ e. omega arith) (omega arith)
limits-kind edge s w p h g = let room = edge-room s w h g in limits (with_edge s w) refl (λ e. omega arith) (omega arith)
limits-kind bound s w p h g = h
limits-kind start s w p h g = limits (with_start s w p) refl (λ e. false_true e) (omega arith)

pub limits-nothing : WithinLimits nothing
unfolding numbered?
limits-nothing = limits nothing refl (λ e. false_true e) (omega arith)

pub limits_with : (s : Seen) (w p : ℕ) → WithinLimits s → checked s w ≡ Ok tt → WithinLimits (seen_with s w p)
unfolding seen_with
limits_with s w p h f = limits-kind (kind_of w) s w p h (passes s w f)

-- ---- what a word of a kind that fails no check says
module _ (s : Seen) (w : ℕ) (h : WithinLimits s) (f : checked s w ≡ Ok tt) where
  -- there is room for it
  pub room_location : kind_of w ≡ location → s.locations < 16
  unfolding limit?
  room_location e = ltb-true _ _ (passes_as location s w e f).limit

  pub room_action : kind_of w ≡ action → s.actions < 32
  unfolding limit?
  room_action e = ltb-true _ _ (passes_as action s w e f).limit

  pub room_edge : kind_of w ≡ edge → s.edges < 128
  room_edge e = let room = edge-room s w h (passes_as edge s w e f) in omega arith

  -- a bound is good
  pub good_bound : kind_of w ≡ bound → good_bound? s.clocks w ≡ true
  unfolding good_bound? fields?
  good_bound e = let g = passes_as bound s w e f in rw g.named (left_true _ _ g.fields)

  -- and its cell is one of the table's
  pub bound_cell : kind_of w ≡ bound → ((bound_of w).i < 5) × ((bound_of w).j < 5)
  bound_cell e =
      let first = good-first s.clocks w (good_bound e) in
      let second = good-second s.clocks w (good_bound e) in
      omega arith

  -- with it the limits hold on
  pub limits_as : (k : Kind) {t : Seen} (p : ℕ) → kind_of w ≡ k → t ≡ seen_with_kind k s w p → WithinLimits t
  limits_as k p e q = rw q (limits-kind k s w p h (passes_as k s w e f))
