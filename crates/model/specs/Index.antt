-- Algorithm: one pass over the words, and what it leaves for judging. Assumes nothing.
use Rattle.std.specs.Prelude.{ℕ, ◌+◌, Bool, false, cond, ◌&&◌, List, Option, Some, None, Result, Ok, Err, get_or, set, replicate, leb, ltb, position}
use Rattle.std.specs.declared.ops.Range.{Range}
use Rattle.zone.specs.Squares.{universe, met, tightened, empty?}
use Rattle.zone.specs.Stores.{zone_at, put_at, with_word_at}
use Rattle.zone.specs.declared.zones.Zone.{Zone as Square}
use Rattle.answers.specs.declared.Reason.TheVariants as reason
use Rattle.answers.specs.declared.Refusal.{Refusal}
use Rattle.model.specs.Kinds.{Kind, none, head, location, action, edge, bound, start, is, kind_of}
use Rattle.model.specs.Fields.{target?, lands_at}
use Rattle.model.specs.Scan.{guards_at, start_bounds_at, nothing, checked, checked_end, seen_with}
use Rattle.model.specs.declared.seen.Seen.{Seen}
use Rattle.model.specs.declared.index.Index.{Index}
use Rattle.model.specs.declared.index.IndexedModel.{IndexedModel}
use Rattle.model.specs.declared.read.Counts.{Counts}
use Rattle.model.specs.declared.read.ModelRead.{ModelRead}
use Rattle.answers.specs.Refusals.{refuse}
use Rattle.pass.specs.Steps.{Steps, Passed, pass_from}

-- ---- the parts

-- the numbers of a location's actions and of an action's edges
abbrev pub actions_range : Index → ℕ → Range ℕ
actions_range x l = record { start = get_or x.actions l 0; end = get_or x.actions (l + 1) 0 }

abbrev pub edges_range : Index → ℕ → Range ℕ
edges_range x a = record { start = get_or x.edges a 0; end = get_or x.edges (a + 1) 0 }

-- ---- the parts, as they are read

abbrev pub empty_index : Index
empty_index =
    record {
      clocks = 0;
      denominator = 0;
      locations = 0;
      start = 0;
      targets = replicate 16 false;
      actions = replicate 17 0;
      edges = replicate 33 0;
    }

-- what the whole file comes to; the last location and the last action end where the words end
unfoldable pub closed : Seen → IndexedModel → IndexedModel
closed s m =
    record m {
      index = record m.index {
        clocks = s.clocks;
        denominator = s.denominator;
        locations = s.locations;
        start = s.start;
        actions = set m.index.actions s.locations s.actions;
        edges = set m.index.edges s.actions s.edges;
      };
    }

-- with the word w, of a kind, behind words that come to s. What opens a zone puts every valuation at its slot, and a bound goes to the zone of
-- its opener
unfoldable pub kept_with_kind : Kind → Seen → ℕ → IndexedModel → IndexedModel
kept_with_kind none s w m = m
kept_with_kind head s w m = m
kept_with_kind location s w m =
    record m {
      index = record m.index { targets = set m.index.targets s.locations (target? w); actions = set m.index.actions s.locations s.actions };
      zones = put_at universe s.locations m.zones;
    }
kept_with_kind action s w m =
    record m { index = record m.index { edges = set m.index.edges s.actions s.edges }; zones = put_at universe (guards_at + s.actions) m.zones }
kept_with_kind edge s w m = record m { edges = set m.edges s.edges w }
kept_with_kind bound s w m = record m { zones = with_word_at w s.slot m.zones }
kept_with_kind start s w m = record m { zones = put_at universe start_bounds_at m.zones }

unfoldable pub kept_with : Seen → ℕ → IndexedModel → IndexedModel
kept_with s w m = kept_with_kind (kind_of w) s w m

-- ---- the pass

-- the steps of a pass over a model's words
abbrev pub steps : Steps Seen IndexedModel
steps =
    record {
      checked = checked;
      with_word = seen_with;
      kept_with = λ s w p m. kept_with s w m;
      closed = closed;
      checked_end = checked_end;
    }

-- the pass begins with an empty index, whatever was kept of another model before
abbrev pub emptied : IndexedModel → IndexedModel
emptied m = record m { index = empty_index }

-- what is kept is m at first
unfoldable pub scanned : List ℕ → IndexedModel → Passed Seen IndexedModel
scanned words m = pass_from steps nothing (emptied m) 0 words

-- ---- on the whole file

-- an edge word whose location is not among so many
abbrev pub lacks_location? : ℕ → ℕ → Bool
lacks_location? locations w = is edge w && leb locations (lands_at w)

-- the first of them; the words are searched only if the furthest location that they name does not exist
unfoldable pub missing_of : Seen → List ℕ → Option ℕ
missing_of s words = cond (ltb s.furthest s.locations) None (position (lacks_location? s.locations) words)

-- the start valuations: the start bounds and the invariant of the start location, tightened
unfoldable pub start_square : ℕ → List Square → Square
start_square l zs = tightened (met (zone_at zs l) (zone_at zs start_bounds_at))

abbrev pub counts_at : Seen → Counts
counts_at s = record { locations = s.locations; actions = s.actions; edges = s.edges }

abbrev pub read_at : Seen → Square → ModelRead
read_at s z = record { counts = counts_at s; initial = z }

-- 5 and 6: `missing` is the first edge that leads nowhere, z the table of the start valuations
unfoldable pub whole_read : Option ℕ → Square → Seen → Result ModelRead Refusal
whole_read (Some p) z s = refuse reason.NoLocation p
whole_read None z s = cond (empty? z) (refuse reason.NoStart s.place) (Ok (read_at s z))

-- the counts of what was read
abbrev pub counted : Result ModelRead Refusal → Result Counts Refusal
counted (Err r) = Err r
counted (Ok r) = Ok r.counts
