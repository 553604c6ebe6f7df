-- Document 01, "Words": the model that a list of words holds. Assumes nothing.
use Rattle.std.specs.Prelude.{ℕ, Bool, List, [], ◌∷◌, get_or}
use Rattle.zone.specs.Scale.{Zone}
use Rattle.zone.specs.Words.{bound_of}
use Rattle.model.specs.Kinds.{Kind, none, head, location, action, edge, bound, start, kind_of}
use Rattle.model.specs.Fields.{clocks_of, denominator_of, target?, mask_of, lands_at, weight_of, start_of}

-- an edge: the clocks that it resets, the number of the location that it leads to, its weight
pub record Edge : Type 0 where
  pub mask : ℕ
  pub to : ℕ
  pub weight : ℕ

pub record Action : Type 0 where
  pub guard : Zone
  pub edges : List Edge

-- locations are numbered from 0
pub record Location : Type 0 where
  pub target : Bool
  pub invariant : Zone
  pub actions : List Action

pub record Model : Type 0 where
  pub clocks : ℕ
  pub denominator : ℕ
  pub locations : List Location
  pub start : ℕ
  pub start_bounds : Zone

abbrev pub edge_of : ℕ → Edge
edge_of w = record { mask = mask_of w; to = lands_at w; weight = weight_of w }

-- what a part of a file, from some word to the end, holds: at its front the bounds, edges and actions of an opener that stands before it,
-- then the locations and the start
pub record Parts : Type 0 where
  pub bounds : Zone
  pub edges : List Edge
  pub actions : List Action
  pub locations : List Location
  pub start : ℕ
  pub start_bounds : Zone

abbrev pub no_parts : Parts
no_parts = record { bounds = []; edges = []; actions = []; locations = []; start = 0; start_bounds = [] }

-- with a word of a kind in front: an opener takes what follows it
unfoldable pub parts_with : Kind → ℕ → Parts → Parts
parts_with none w P = P
parts_with head w P = P
parts_with location w P =
    record {
      bounds = [];
      edges = [];
      actions = [];
      locations = record { target = target? w; invariant = P.bounds; actions = P.actions } ∷ P.locations;
      start = P.start;
      start_bounds = P.start_bounds;
    }
parts_with action w P =
    record {
      bounds = [];
      edges = [];
      actions = record { guard = P.bounds; edges = P.edges } ∷ P.actions;
      locations = P.locations;
      start = P.start;
      start_bounds = P.start_bounds;
    }
parts_with edge w P =
    record {
      bounds = P.bounds;
      edges = edge_of w ∷ P.edges;
      actions = P.actions;
      locations = P.locations;
      start = P.start;
      start_bounds = P.start_bounds;
    }
parts_with bound w P =
    record {
      bounds = bound_of w ∷ P.bounds;
      edges = P.edges;
      actions = P.actions;
      locations = P.locations;
      start = P.start;
      start_bounds = P.start_bounds;
    }
parts_with start w P = record { bounds = []; edges = []; actions = []; locations = []; start = start_of w; start_bounds = P.bounds }

unfoldable pub parts_of : List ℕ → Parts
parts_of [] = no_parts
parts_of (w ∷ ws) = parts_with (kind_of w) w (parts_of ws)

-- C and D stand in the first word
unfoldable pub model_of : List ℕ → Model
model_of words =
    let P : Parts = parts_of words in
    record {
      clocks = clocks_of (get_or words 0 0);
      denominator = denominator_of (get_or words 0 0);
      locations = P.locations;
      start = P.start;
      start_bounds = P.start_bounds;
    }
