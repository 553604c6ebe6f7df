-- The entries of the index and the edge words that a pass keeps, and which no later word changes. Assumes nothing.
use Prim.Native.Nat.{ℕ, suc, ◌+◌, ◌≤◌, ◌<◌}
use mathlib.Core.Path.{◌≡◌, refl, ◌∙◌}
use mathlib.Core.Bool.{false}
use mathlib.Core.List.{List, [], ◌∷◌}
use native.Mathlib.Omega.{arith}
use lib.ListN.{length, get_or, replicate, length-set, length-replicate}
use lib.Seq.{get_or-set_other}
use Rattle.zone.specs.Squares.{universe}
use Rattle.zone.proofs.StoreLaws.{put-length, word-length}
use Rattle.model.specs.Kinds.{Kind, none, head, location, action, edge, bound, start, kind_of}
use Rattle.model.specs.Scan.{guards_at, start_bounds_at, zone_count, seen_with, seen_with_kind}
use Rattle.model.specs.Index.{steps, empty_index, emptied, kept_with_kind, kept_with, closed}
use Rattle.model.specs.declared.index.IndexedModel.{IndexedModel}
use Rattle.model.specs.declared.seen.Seen.{Seen}
use Rattle.model.specs.declared.index.Index.{Index}
use Rattle.pass.proofs.Run.{seen_end, kept_end}
use Rattle.zone.specs.declared.zones.TheConstants.Zone.{ZEROS}

-- ---- the arrays keep their lengths

pub record SameLengths (k m : IndexedModel) : Type 0 where
  pub edges : length m.edges ≡ length k.edges
  pub zones : length m.zones ≡ length k.zones

pub lengths_with : (k : Kind) (s : Seen) (w : ℕ) (m : IndexedModel) → SameLengths m (kept_with_kind k s w m)
unfolding kept_with_kind
lengths_with none s w m = record { edges = refl; zones = refl }
lengths_with head s w m = record { edges = refl; zones = refl }
lengths_with location s w m = record { edges = refl; zones = put-length universe s.locations m.zones }
lengths_with action s w m = record { edges = refl; zones = put-length universe (guards_at + s.actions) m.zones }
lengths_with edge s w m = record { edges = length-set m.edges s.edges w; zones = refl }
lengths_with bound s w m = record { edges = refl; zones = word-length w s.slot m.zones }
lengths_with start s w m = record { edges = refl; zones = put-length universe start_bounds_at m.zones }

pub record Sized (m : IndexedModel) : Type 0 where
  pub targets : length m.index.targets ≡ 16
  pub actions : length m.index.actions ≡ 17
  pub edges : length m.index.edges ≡ 33
  pub words : 128 ≤ length m.edges
  pub zones : zone_count ≤ length m.zones

pub sized-emptied : (m : IndexedModel) → Sized m → Sized (emptied m)
sized-emptied m h = record { targets = refl; actions = refl; edges = refl; words = h.words; zones = h.zones }

-- what stands there before a model is read into it
abbrev pub empty_model : IndexedModel
empty_model = record { index = empty_index; edges = replicate 128 0; zones = replicate 49 ZEROS }

pub sized-empty : Sized empty_model
sized-empty = let e = length-replicate {A = ℕ} 128 0 in let z = length-replicate 49 ZEROS in omega arith

pub sized_with : (k : Kind) (s : Seen) (w : ℕ) (m : IndexedModel) → Sized m → Sized (kept_with_kind k s w m)
unfolding kept_with_kind
sized_with k s w m h = let l = lengths_with k s w m in by k (omega arith) (omega arith)
  where
    by : (k : Kind) → 128 ≤ length (kept_with_kind k s w m).edges → zone_count ≤ length (kept_with_kind k s w m).zones →
        Sized (kept_with_kind k s w m)
    by none e z = h
    by head e z = h
    by location e z = record {
      targets = length-set m.index.targets s.locations _ ∙ h.targets;
      actions = length-set m.index.actions s.locations _ ∙ h.actions;
      edges = h.edges;
      words = e;
      zones = z;
    }
    by action e z = record {
      targets = h.targets;
      actions = h.actions;
      edges = length-set m.index.edges s.actions _ ∙ h.edges;
      words = e;
      zones = z;
    }
    by edge e z = record { targets = h.targets; actions = h.actions; edges = h.edges; words = e; zones = z }
    by bound e z = record { targets = h.targets; actions = h.actions; edges = h.edges; words = e; zones = z }
    by start e z = record { targets = h.targets; actions = h.actions; edges = h.edges; words = e; zones = z }

-- ---- n has the entries of m for the locations, actions and edges that were seen
pub record Lasts (s : Seen) (m n : IndexedModel) : Type 0 where
  pub targets : (l : ℕ) → l < s.locations → get_or n.index.targets l false ≡ get_or m.index.targets l false
  pub actions : (l : ℕ) → l < s.locations → get_or n.index.actions l 0 ≡ get_or m.index.actions l 0
  pub edges : (a : ℕ) → a < s.actions → get_or n.index.edges a 0 ≡ get_or m.index.edges a 0
  pub words : (e : ℕ) → e < s.edges → get_or n.edges e 0 ≡ get_or m.edges e 0

lasts_with : (k : Kind) (s : Seen) (w p : ℕ) (m n : IndexedModel) → Lasts (seen_with_kind k s w p) (kept_with_kind k s w m) n → Lasts s m n
unfolding seen_with_kind kept_with_kind
lasts_with none s w p m n h = h
lasts_with head s w p m n h = record { targets = h.targets; actions = h.actions; edges = h.edges; words = h.words }
lasts_with location s w p m n h = record {
  targets = λ l i. h.targets l (omega arith) ∙ get_or-set_other m.index.targets s.locations l _ false (omega arith);
  actions = λ l i. h.actions l (omega arith) ∙ get_or-set_other m.index.actions s.locations l _ 0 (omega arith);
  edges = h.edges;
  words = h.words;
}
lasts_with action s w p m n h = record {
  targets = h.targets;
  actions = h.actions;
  edges = λ a i. h.edges a (omega arith) ∙ get_or-set_other m.index.edges s.actions a _ 0 (omega arith);
  words = h.words;
}
lasts_with edge s w p m n h = record {
  targets = h.targets;
  actions = h.actions;
  edges = h.edges;
  words = λ e i. h.words e (omega arith) ∙ get_or-set_other m.edges s.edges e _ 0 (omega arith);
}
lasts_with bound s w p m n h = record { targets = h.targets; actions = h.actions; edges = h.edges; words = h.words }
lasts_with start s w p m n h = record { targets = h.targets; actions = h.actions; edges = h.edges; words = h.words }

pub lasts-end : (s : Seen) (m : IndexedModel) (p : ℕ) (ws : List ℕ) → Lasts s m (kept_end steps s m p ws)
unfolding kept_end seen_with kept_with closed
lasts-end s m p [] = record {
  targets = λ l i. refl;
  actions = λ l i. get_or-set_other m.index.actions s.locations l _ 0 (omega arith);
  edges = λ a i. get_or-set_other m.index.edges s.actions a _ 0 (omega arith);
  words = λ e i. refl;
}
lasts-end s m p (w ∷ ws) = lasts_with (kind_of w) s w p m _ (lasts-end (seen_with s w p) (kept_with s w m) (suc p) ws)

-- ---- the numbers of the index are what the words come to
pub record Numbers (x : Index) (s : Seen) : Type 0 where
  pub clocks : x.clocks ≡ s.clocks
  pub denominator : x.denominator ≡ s.denominator
  pub locations : x.locations ≡ s.locations
  pub start : x.start ≡ s.start

pub numbers-end : (s : Seen) (m : IndexedModel) (p : ℕ) (ws : List ℕ) → Numbers (kept_end steps s m p ws).index (seen_end steps s p ws)
unfolding kept_end seen_end closed
numbers-end s m p [] = record { clocks = refl; denominator = refl; locations = refl; start = refl }
numbers-end s m p (w ∷ ws) = numbers-end (seen_with s w p) (kept_with s w m) (suc p) ws
