-- Algorithm: what the words read so far come to, and the first check that the next word fails. Assumes nothing.
use Rattle.std.specs.Prelude.{ℕ, ◌+◌, ◌*◌, ◌≤◌, ◌<◌, ◌^◌, ◌≡◌, Bool, true, cond, Result, Ok, Err, max, eqb}
use Rattle.zone.specs.Words.{kind}
use Rattle.model.specs.Kinds.{Kind, none, head, location, action, edge, bound, start, number, kind_of}
use Rattle.model.specs.Grammar.{follows?}
use Rattle.model.specs.Fields.{clocks_of, denominator_of, lands_at, weight_of, start_of, fields?}
use Rattle.model.specs.Reading.{limit?, adds?}
use Rattle.model.specs.Openers.{opener?, edge_may_follow?}
use Rattle.model.specs.declared.seen.Seen.{Seen}
use Rattle.answers.specs.declared.Reason.{Reason}
use Rattle.answers.specs.declared.Reason.TheVariants as reason

abbrev pub nothing : Seen
nothing =
    record {
      opener = none;
      clocks = 0;
      denominator = 0;
      locations = 0;
      actions = 0;
      edges = 0;
      run = 0;
      weights = 0;
      slot = 0;
      start = 0;
      place = 0;
      furthest = 0;
    }

abbrev pub fields_at? : Seen → ℕ → Bool
fields_at? s w = fields? (kind_of w) s.clocks s.denominator s.locations (number s.opener) w

abbrev pub limit_at? : Seen → ℕ → Bool
limit_at? s w = limit? (kind_of w) s.locations s.actions s.run

abbrev pub adds_at? : Seen → ℕ → Bool
adds_at? s w = adds? s.denominator (number s.opener) s.weights w

-- of the checks on a word, the reason of the first that it fails
unfoldable pub checked : Seen → ℕ → Result (Unit {0}) Reason
checked s w =
    cond (follows? (number s.opener) (kind w))
    (cond (fields_at? s w)
    (cond (limit_at? s w)
    (cond (adds_at? s w) (Ok tt) (Err reason.BadWeights))
    (Err reason.OverModelLimit))
    (Err reason.BadModelField))
    (Err reason.BadModelKind)

-- the words may end behind the start and its bounds alone; elsewhere a word is missing where they end
unfoldable pub checked_end : Seen → Result (Unit {0}) Reason
checked_end s = cond (eqb (number s.opener) (number start)) (Ok tt) (Err reason.BadModelKind)

-- where the zones of a model stand in what is kept of it: the invariant of location l at slot l, the guard of action a at slot guards_at + a, the start
-- bounds at slot start_bounds_at
abbrev pub guards_at : ℕ
guards_at = 16

abbrev pub start_bounds_at : ℕ
start_bounds_at = 48

abbrev pub zone_count : ℕ
zone_count = 49

-- what the words come to with a word more
abbrev pub with_head : Seen → ℕ → Seen
with_head s w = record s { opener = head; clocks = clocks_of w; denominator = denominator_of w }

abbrev pub with_location : Seen → Seen
with_location s = record s { opener = location; locations = s.locations + 1; run = 0; weights = 0; slot = s.locations }

abbrev pub with_action : Seen → Seen
with_action s = record s { opener = action; actions = s.actions + 1; run = 0; weights = 0; slot = guards_at + s.actions }

abbrev pub with_edge : Seen → ℕ → Seen
with_edge s w =
    record s {
      opener = edge;
      edges = s.edges + 1;
      run = s.run + 1;
      weights = s.weights + weight_of w;
      furthest = max s.furthest (lands_at w);
    }

abbrev pub with_start : Seen → ℕ → ℕ → Seen
with_start s w p = record s { opener = start; run = 0; weights = 0; slot = start_bounds_at; start = start_of w; place = p }

unfoldable pub seen_with_kind : Kind → Seen → ℕ → ℕ → Seen
seen_with_kind none s w p = s
seen_with_kind head s w p = with_head s w
seen_with_kind location s w p = with_location s
seen_with_kind action s w p = with_action s
seen_with_kind edge s w p = with_edge s w
seen_with_kind bound s w p = s
seen_with_kind start s w p = with_start s w p

unfoldable pub seen_with : Seen → ℕ → ℕ → Seen
seen_with s w p = seen_with_kind (kind_of w) s w p

-- what holds of the words read so far while no check has failed. The limits are document 01's: 4 clocks, a denominator below 2^16, 16 locations,
-- 32 actions, 4 edges in an action
pub record WithinLimits (s : Seen) : Type 0 where
  pub opener : opener? (number s.opener) ≡ true
  pub clocks : s.clocks ≤ 4
  pub denominator : s.denominator < 2 ^ 16
  pub locations : s.locations ≤ 16
  pub actions : s.actions ≤ 32
  pub edges : s.edges ≤ 4 * s.actions
  pub run : s.run ≤ 4
  -- where an edge may follow there is room for it, since the actions before the last have at most 4 edges each
  pub room : edge_may_follow? (number s.opener) ≡ true → s.edges + 4 ≤ 4 * s.actions + s.run
  pub weights : s.weights ≤ s.run * 2 ^ 16
  pub slot : s.slot < zone_count
  pub start : s.start < 16
