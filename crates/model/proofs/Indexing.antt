-- What a pass without faults keeps describes the model that the words hold. Assumes nothing.
use Prim.Native.Nat.{ℕ, suc, ◌+◌, ◌≤◌}
use mathlib.Core.Path.{◌≡◌, refl, sym, ap, ◌∙◌}
use mathlib.Core.Logic.{◌≢◌}
use mathlib.Core.Bool.{false}
use mathlib.Core.List.{List, [], ◌∷◌}
use native.Mathlib.Nat.{add-zero, zero-add}
use native.Mathlib.Numerals.{add-one}
use native.Mathlib.Omega.{arith}
use lib.ListN.{length, get_or}
use lib.Seq.{get_or-set_same}
use Rattle.zone.specs.Squares.{universe}
use Rattle.zone.specs.Stores.{zone_at}
use Rattle.zone.proofs.Bools.{false_true}
use Rattle.zone.proofs.StoreLaws.{universe-put}
use Rattle.model.specs.Kinds.{Kind, none, head, location, action, edge, bound, start, number, kind_of}
use Rattle.model.specs.Grammar.{follows, numbered?, may_follow?, follows?}
use Rattle.model.specs.Fields.{target?}
use Rattle.model.specs.Model.{Edge, Action, Location, Parts, edge_of, parts_with, parts_of, model_of}
use Rattle.model.specs.Scan.{guards_at, start_bounds_at, nothing, WithinLimits, seen_with, seen_with_kind}
use Rattle.model.specs.Index.{steps, emptied, kept_with_kind, kept_with, closed}
use Rattle.model.specs.declared.index.IndexedModel.{IndexedModel}
use Rattle.model.specs.Indexed.{with_bounds, Each, EdgeAt, ActionAt, LocationAt, Indexed}
use Rattle.model.specs.declared.seen.Seen.{Seen}
use Rattle.pass.proofs.Run.{Run, seen_end, kept_end}
use Rattle.model.proofs.Limits.{limits-nothing}
use Rattle.model.proofs.Walk.{Bounded, Step, a-head, a-location, an-action, an-edge, a-bound, a-start, Walk, walk_of}
use Rattle.model.proofs.Walk.{limits-end, no_edges, Last, last_of}
use Rattle.model.proofs.Counts.{headed}
use Rattle.model.proofs.Slots.{Opened, opened_with, nowhere, own-end}
use Rattle.zone.proofs.Loops.{same_at}
use Rattle.model.proofs.ZoneLaws.{set_at}
use Rattle.model.proofs.Entries.{Sized, sized-emptied, sized_with, Lasts, lasts-end, numbers-end}

-- what is kept in the end, e, describes the parts P that follow the words seen
record Describes (e : IndexedModel) (s : Seen) (P : Parts) : Type 0 where
  locations : e.index.locations ≡ s.locations + length P.locations
  each : Each (LocationAt e) s.locations P.locations
  actions : Each (ActionAt e) s.actions P.actions
  actions-end : get_or e.index.actions s.locations 0 ≡ s.actions + length P.actions
  actions-limit : get_or e.index.actions s.locations 0 ≤ 32
  edges : Each (EdgeAt e) s.edges P.edges
  edges-end : get_or e.index.edges s.actions 0 ≡ s.edges + length P.edges
  start_bounds : number s.opener ≢ number start → zone_at e.zones start_bounds_at ≡ with_bounds P.start_bounds universe
  start : number s.opener ≢ number start → e.index.start ≡ P.start

-- what holds of what is kept while no check has failed
record Good (s : Seen) (m : IndexedModel) : Type 0 where
  sized : Sized m
  opened : Opened s

good_with : (k : Kind) (s : Seen) (m : IndexedModel) (w p : ℕ) → Good s m → Good (seen_with_kind k s w p) (kept_with_kind k s w m)
good_with k s m w p g = record { sized = sized_with k s w m g.sized; opened = opened_with k s w p g.opened }

-- what the words to come, which hold P and come to f in the end, leave in e of what is kept so far
record Rest (e : IndexedModel) (f s : Seen) (m : IndexedModel) (P : Parts) : Type 0 where
  kept : Lasts s m e
  own : Bounded s → zone_at e.zones s.slot ≡ with_bounds P.bounds (zone_at m.zones s.slot)
  free : number s.opener ≡ number location → P.edges ≡ []
  last : number s.opener ≡ number start → Last P s f
  starts : e.index.start ≡ f.start

module _ (e : IndexedModel) (f s : Seen) (m : IndexedModel) (w p : ℕ) (P : Parts) (h : WithinLimits s) (g : Good s m) where
  describes-with :
      (k : Kind) → Step s w k → Rest e f (seen_with_kind k s w p) (kept_with_kind k s w m) P →
      Describes e (seen_with_kind k s w p) P → Describes e s (parts_with k w P)
  unfolding seen_with_kind kept_with_kind parts_with Each follows? may_follow? numbered? follows
  describes-with head (a-head z) o d = record {
    locations = d.locations;
    each = d.each;
    actions = d.actions;
    actions-end = d.actions-end;
    actions-limit = d.actions-limit;
    edges = d.edges;
    edges-end = d.edges-end;
    start = λ n. d.start (omega arith);
    start_bounds = λ n. d.start_bounds (omega arith);
  }
  describes-with location (a-location n l) o d =
      let z = g.sized in
      let x = m.index in
      let first : get_or e.index.actions s.locations 0 ≡ s.actions =
      o.kept.actions s.locations (omega arith) ∙ get_or-set_same x.actions s.locations s.actions 0 (omega arith) in
      let free : P.edges ≡ [] = o.free refl in
      let this : LocationAt e s.locations (record { target = target? w; invariant = P.bounds; actions = P.actions }) = record {
        target = o.kept.targets s.locations (omega arith) ∙ get_or-set_same x.targets s.locations (target? w) false (omega arith);
        invariant = o.own refl ∙ ap (with_bounds P.bounds) (universe-put s.locations m.zones (omega arith));
        actions = rw first d.actions;
        ends = rw (first, ← add-one s.locations) d.actions-end;
        limit = rw (← add-one s.locations) d.actions-limit;
      } in
      record {
        locations = omega (arith, d.locations);
        each = (this, rw add-one at d.each);
        actions = tt;
        actions-end = omega arith;
        actions-limit = omega arith;
        edges = tt;
        edges-end = d.edges-end ∙ ap (λ (es : List Edge). s.edges + length es) free;
        start = λ n. d.start (omega arith);
        start_bounds = λ n. d.start_bounds (omega arith);
      }
  describes-with action (an-action n l) o d =
      let z = g.sized in
      let first : get_or e.index.edges s.actions 0 ≡ s.edges =
      o.kept.edges s.actions (omega arith) ∙ get_or-set_same m.index.edges s.actions s.edges 0 (omega arith) in
      let this : ActionAt e s.actions (record { guard = P.bounds; edges = P.edges }) = record {
        guard = o.own refl ∙ ap (with_bounds P.bounds) (universe-put (guards_at + s.actions) m.zones (omega arith));
        edges = rw first d.edges;
        ends = rw (first, ← add-one s.actions) d.edges-end;
      } in
      record {
        locations = d.locations;
        each = d.each;
        actions = (this, rw add-one at d.actions);
        actions-end = omega (arith, d.actions-end);
        actions-limit = d.actions-limit;
        edges = tt;
        edges-end = omega arith;
        start = λ n. d.start (omega arith);
        start_bounds = λ n. d.start_bounds (omega arith);
      }
  describes-with edge (an-edge n i l) o d =
      let z = g.sized in
      let this : EdgeAt e s.edges (edge_of w) = record {
        reads = ap edge_of (o.kept.words s.edges (omega arith) ∙ get_or-set_same m.edges s.edges w 0 (omega arith));
      } in
      record {
        locations = d.locations;
        each = d.each;
        actions = d.actions;
        actions-end = d.actions-end;
        actions-limit = d.actions-limit;
        edges = (this, rw add-one at d.edges);
        edges-end = omega (arith, d.edges-end);
        start = λ n. d.start (omega arith);
        start_bounds = λ n. d.start_bounds (omega arith);
      }
  describes-with bound (a-bound b i j) o d = record {
    locations = d.locations;
    each = d.each;
    actions = d.actions;
    actions-end = d.actions-end;
    actions-limit = d.actions-limit;
    edges = d.edges;
    edges-end = d.edges-end;
    start = d.start;
    start_bounds = d.start_bounds;
  }
  describes-with start (a-start n) o d =
      let z = g.sized in
      let l = o.last refl in
      record {
        locations = d.locations ∙ ap (λ (ls : List Location). s.locations + length ls) l.locations;
        each = tt;
        actions = tt;
        actions-end = d.actions-end ∙ ap (λ (xs : List Action). s.actions + length xs) l.actions;
        actions-limit = d.actions-limit;
        edges = tt;
        edges-end = d.edges-end ∙ ap (λ (es : List Edge). s.edges + length es) l.edges;
        start = λ i. o.starts ∙ l.start;
        start_bounds = λ i. o.own refl ∙ ap (with_bounds P.bounds) (universe-put start_bounds_at m.zones (omega arith));
      }
  describes-with none x3 o d = elim x3 [ ]

-- e is what is kept of the words from here on
record Ends (e : IndexedModel) (s : Seen) (m : IndexedModel) (p : ℕ) (ws : List ℕ) : Type 0 where
  locations : e.index.locations ≡ (seen_end steps s p ws).locations
  start : e.index.start ≡ (seen_end steps s p ws).start
  kept : e ≡ kept_end steps s m p ws

module _ (e : IndexedModel) where
  rest_of : (s : Seen) (m : IndexedModel) (p : ℕ) (ws : List ℕ) → Walk s p ws → Good s m → Ends e s m p ws → Rest e (seen_end steps s p ws) s m (parts_of ws)
  rest_of s m p ws t g n =
      let z = g.sized in
      record {
        kept = rw n.kept (lasts-end s m p ws);
        own = λ b. ap (λ (e : IndexedModel). zone_at e.zones s.slot) n.kept ∙ own-end s p m ws t g.opened z.zones b;
        free = no_edges s p ws t;
        last = last_of s p ws t;
        starts = n.start;
      }

  describes : (s : Seen) (m : IndexedModel) (p : ℕ) (ws : List ℕ) → Walk s p ws → Good s m → Ends e s m p ws → Describes e s (parts_of ws)
  unfolding parts_of seen_end kept_end closed seen_with kept_with Each
  describes s m p [] t g n =
      let z = g.sized in
      let h = t.0 in
      let actions : get_or e.index.actions s.locations 0 ≡ s.actions =
      ap (λ (e : IndexedModel). get_or e.index.actions s.locations 0) n.kept
      ∙ get_or-set_same m.index.actions s.locations s.actions 0 (omega arith) in
      let edges : get_or e.index.edges s.actions 0 ≡ s.edges =
      ap (λ (e : IndexedModel). get_or e.index.edges s.actions 0) n.kept
      ∙ get_or-set_same m.index.edges s.actions s.edges 0 (omega arith) in
      record {
        locations = n.locations ∙ sym (add-zero s.locations);
        each = tt;
        actions = tt;
        actions-end = actions ∙ sym (add-zero s.actions);
        actions-limit = omega arith;
        edges = tt;
        edges-end = edges ∙ sym (add-zero s.edges);
        start = λ i. absurd (i t.1);
        start_bounds = λ i. absurd (i t.1);
      }
  describes s m p (w ∷ ws) t g n =
      let good = good_with (kind_of w) s m w p g in
      let ends : Ends e (seen_with s w p) (kept_with s w m) (suc p) ws = record { locations = n.locations; start = n.start; kept = n.kept } in
      describes-with e (seen_end steps s p (w ∷ ws)) s m w p (parts_of ws) t.0 g (kind_of w) t.2
      (rest_of (seen_with s w p) (kept_with s w m) (suc p) ws t.3 good ends)
      (describes (seen_with s w p) (kept_with s w m) (suc p) ws t.3 good ends)

-- ---- the numbers of edges

-- those in the index are numbers of edges read so far
edges_with :
    (k : Kind) (s : Seen) (w : ℕ) (m : IndexedModel) → WithinLimits s → ((a : ℕ) → get_or m.index.edges a 0 ≤ 128) →
    (a : ℕ) → get_or (kept_with_kind k s w m).index.edges a 0 ≤ 128
unfolding kept_with_kind
edges_with none s w m h e a = e a
edges_with head s w m h e a = e a
edges_with location s w m h e a = e a
edges_with action s w m h e a = set_at (λ n. n ≤ 128) 0 s.edges m.index.edges s.actions a e (omega arith)
edges_with edge s w m h e a = e a
edges_with bound s w m h e a = e a
edges_with start s w m h e a = e a

edges-end :
    (s : Seen) (m : IndexedModel) (p : ℕ) (ws : List ℕ) → Walk s p ws → ((a : ℕ) → get_or m.index.edges a 0 ≤ 128) →
    (a : ℕ) → get_or (kept_end steps s m p ws).index.edges a 0 ≤ 128
unfolding kept_end kept_with closed
edges-end s m p [] t e a = let h = t.0 in set_at (λ n. n ≤ 128) 0 s.edges m.index.edges s.actions a e (omega arith)
edges-end s m p (w ∷ ws) t e a = edges-end (seen_with s w p) (kept_with s w m) (suc p) ws t.3 (edges_with (kind_of w) s w m t.0 e) a

-- ---- from the first word
module _ (words : List ℕ) (m : IndexedModel) (sized : Sized m) where
  good-nothing : Good nothing (emptied m)
  unfolding follows? may_follow? numbered? follows
  good-nothing = record { sized = sized-emptied m sized; opened = nowhere (λ b. false_true b) }

  pub indexed : Run steps nothing 0 words → Indexed (model_of words) (kept_end steps nothing (emptied m) 0 words)
  unfolding model_of
  indexed t =
      let walk : Walk nothing 0 words = walk_of nothing 0 words limits-nothing t in
      let n = numbers-end nothing (emptied m) 0 words in
      let d = describes _ nothing (emptied m) 0 words walk good-nothing
      (record { locations = n.locations; start = n.start; kept = refl }) in
      let h = headed words t in
      record {
        clocks = n.clocks ∙ h.clocks;
        denominator = n.denominator ∙ h.denominator;
        locations = d.locations ∙ zero-add (length (parts_of words).locations);
        each = d.each;
        start = d.start (omega arith);
        start_bounds = d.start_bounds (omega arith);
        limit = rw n.locations (limits-end nothing 0 words walk).locations;
        edge_limits = edges-end nothing (emptied m) 0 words walk (λ a. rw (same_at {A = ℕ} 33 a 0) (omega arith));
      }
