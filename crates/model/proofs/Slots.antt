-- The slots of the zones that a pass reads: which stand open, and which no later word changes. Assumes nothing.
use Prim.Native.Nat.{ℕ, suc, ◌+◌, ◌≤◌, ◌<◌}
use mathlib.Core.Path.{◌≡◌, refl, ap, ◌∙◌}
use mathlib.Core.Logic.{◌≢◌}
use mathlib.Core.List.{List, [], ◌∷◌}
use native.Mathlib.Omega.{arith}
use lib.ListN.{length}
use Rattle.zone.specs.Squares.{universe}
use Rattle.zone.specs.Reading.{with_word}
use Rattle.zone.specs.Stores.{zone_at}
use Rattle.zone.proofs.Bools.{false_true}
use Rattle.zone.proofs.StoreLaws.{put-apart, word-here, word-apart}
use Rattle.model.specs.Kinds.{Kind, none, head, location, action, edge, bound, start, number, kind_of}
use Rattle.model.specs.Grammar.{follows, numbered?, may_follow?, follows?}
use Rattle.model.specs.Model.{Parts, parts_of, parts_with}
use Rattle.model.specs.Scan.{guards_at, start_bounds_at, zone_count, WithinLimits, seen_with, seen_with_kind}
use Rattle.model.specs.Index.{steps, kept_with_kind, kept_with, closed}
use Rattle.model.specs.declared.index.IndexedModel.{IndexedModel}
use Rattle.model.specs.Indexed.{with_bounds}
use Rattle.model.specs.declared.seen.Seen.{Seen}
use Rattle.pass.proofs.Run.{kept_end}
use Rattle.model.proofs.Entries.{lengths_with}
use Rattle.model.proofs.Walk.{Bounded, Step, a-head, a-location, an-action, an-edge, a-bound, a-start, Walk, never, no-bounds}

-- a word changes the slot of the opener behind it alone, and only if a bound may follow there
same_with :
    (k : Kind) (s : Seen) (w p q : ℕ) (m : IndexedModel) → Step s w k → (Bounded (seen_with_kind k s w p) → q ≢ (seen_with_kind k s w p).slot) →
    zone_at (kept_with_kind k s w m).zones q ≡ zone_at m.zones q
unfolding kept_with_kind seen_with_kind follows? may_follow? numbered? follows
same_with head s w p q m (a-head z) n = refl
same_with location s w p q m (a-location a l) n = put-apart universe s.locations m.zones q (n refl)
same_with action s w p q m (an-action a l) n = put-apart universe (guards_at + s.actions) m.zones q (n refl)
same_with edge s w p q m (an-edge a i l) n = refl
same_with bound s w p q m (a-bound b i j) n = word-apart w s.slot m.zones q (n b)
same_with start s w p q m (a-start a) n = put-apart universe start_bounds_at m.zones q (n refl)
same_with none s w p q m x'' n = elim x'' [ ]

-- ---- the slot of the opener, where a bound may follow
pub data Opened (s : Seen) : Type 0 where
  at-location : number s.opener ≡ number location → s.locations ≡ suc s.slot → Opened s
  at-action : (a : ℕ) → number s.opener ≡ number action → s.actions ≡ suc a → s.slot ≡ guards_at + a → Opened s
  at-start : number s.opener ≡ number start → s.slot ≡ start_bounds_at → Opened s
  nowhere : (Bounded s → ⊥) → Opened s

pub opened_with : (k : Kind) (s : Seen) (w p : ℕ) → Opened s → Opened (seen_with_kind k s w p)
unfolding seen_with_kind follows? may_follow? numbered? follows
opened_with none s w p o = o
opened_with head s w p o = nowhere (λ b. false_true b)
opened_with location s w p o = at-location refl (omega arith)
opened_with action s w p o = at-action s.actions refl (omega arith) refl
opened_with edge s w p o = nowhere (λ b. false_true b)
opened_with bound s w p o = o
opened_with start s w p o = at-start refl refl

-- ---- the slots behind, which no later word changes
data Behind (s : Seen) (q : ℕ) : Type 0 where
  past-location : q < s.locations → Behind s q
  past-action : (a : ℕ) → a < s.actions → q ≡ guards_at + a → Behind s q

-- no later bound goes to the slot
record Settled (s : Seen) (q : ℕ) : Type 0 where
  behind : Behind s q
  apart : Bounded s → q ≢ s.slot

-- a word takes no location and no action away
grows : (k : Kind) (s : Seen) (w p : ℕ) → (s.locations ≤ (seen_with_kind k s w p).locations) × (s.actions ≤ (seen_with_kind k s w p).actions)
unfolding seen_with_kind
grows none s w p = omega arith
grows head s w p = omega arith
grows location s w p = omega arith
grows action s w p = omega arith
grows edge s w p = omega arith
grows bound s w p = omega arith
grows start s w p = omega arith

behind_with : (k : Kind) (s : Seen) (w p q : ℕ) → Behind s q → Behind (seen_with_kind k s w p) q
behind_with k s w p q (past-location l) = let g = grows k s w p in past-location (omega arith)
behind_with k s w p q (past-action a l e) = let g = grows k s w p in past-action a (omega arith) e

-- a word that is no bound has a slot of its own, or no bound may follow it
apart_with :
    (k : Kind) (s : Seen) (w p q : ℕ) → WithinLimits s → Step s w k → (k ≡ bound → Bounded s → q ≢ s.slot) → Behind s q →
    Bounded (seen_with_kind k s w p) → q ≢ (seen_with_kind k s w p).slot
unfolding seen_with_kind follows? may_follow? numbered? follows
apart_with head s w p q h (a-head z) n b c = false_true c
apart_with location s w p q h (a-location m l) n (past-location g) c = omega arith
apart_with location s w p q h (a-location m l) n (past-action a g e) c = omega arith
apart_with action s w p q h (an-action m l) n (past-location g) c = omega arith
apart_with action s w p q h (an-action m l) n (past-action a g e) c = omega arith
apart_with edge s w p q h (an-edge m i l) n b c = false_true c
apart_with bound s w p q h (a-bound m i j) n b c = n refl m
apart_with start s w p q h (a-start m) n (past-location g) c = omega arith
apart_with start s w p q h (a-start m) n (past-action a g e) c = omega arith
apart_with none s w p q h x5 n b c = elim x5 [ ]

-- behind a word, a slot that it settles, or that was settled before it
settled_with :
    (k : Kind) (s : Seen) (w p q : ℕ) → WithinLimits s → Step s w k → (k ≡ bound → Bounded s → q ≢ s.slot) → Behind s q →
    Settled (seen_with_kind k s w p) q
settled_with k s w p q h t n b = record { behind = behind_with k s w p q b; apart = apart_with k s w p q h t n b }

-- a settled slot stays as it is to the end
settled-end :
    (s : Seen) (p q : ℕ) (m : IndexedModel) (ws : List ℕ) → Walk s p ws → Settled s q → zone_at (kept_end steps s m p ws).zones q ≡ zone_at m.zones q
unfolding kept_end kept_with seen_with closed
settled-end s p q m [] r a = refl
settled-end s p q m (w ∷ ws) r a =
    let next : Settled (seen_with s w p) q = settled_with (kind_of w) s w p q r.0 r.2 (λ e. a.apart) a.behind in
    settled-end (seen_with s w p) (suc p) q (kept_with s w m) ws r.3 next ∙ same_with (kind_of w) s w p q m r.2 next.apart

-- ---- the zone of an opener, once its bounds are read

-- the slot of an opener that is not the start
behind-slot : (s : Seen) → Opened s → Bounded s → number s.opener ≢ number start → Behind s s.slot
behind-slot s (at-location e l) b n = past-location (omega arith)
behind-slot s (at-action a e l i) b n = past-action a (omega arith) i
behind-slot s (at-start e l) b n = absurd (n e)
behind-slot s (nowhere m) b n = absurd (m b)

module _
    (s : Seen) (w p : ℕ) (m end : IndexedModel) (P : Parts) (h : WithinLimits s) (o : Opened s) (z : zone_count ≤ length m.zones) (b : Bounded s)
  where
    -- behind a word that is no bound, the slot of the opener before it is settled
    kept-own :
        (k : Kind) → Step s w k → number s.opener ≢ number start → number k ≢ number bound →
        ((q : ℕ) → Settled (seen_with_kind k s w p) q → zone_at end.zones q ≡ zone_at (kept_with_kind k s w m).zones q) →
        zone_at end.zones s.slot ≡ zone_at m.zones s.slot
    kept-own k t n d f =
        let this : Settled (seen_with_kind k s w p) s.slot =
        settled_with k s w p s.slot h t (λ e. absurd (d (ap number e))) (behind-slot s o b n) in
        f s.slot this ∙ same_with k s w p s.slot m t this.apart

    own-with :
        (k : Kind) → Step s w k →
        ((q : ℕ) → Settled (seen_with_kind k s w p) q → zone_at end.zones q ≡ zone_at (kept_with_kind k s w m).zones q) →
        (Bounded (seen_with_kind k s w p) →
        zone_at end.zones (seen_with_kind k s w p).slot ≡
        with_bounds P.bounds (zone_at (kept_with_kind k s w m).zones (seen_with_kind k s w p).slot)) →
        (number (seen_with_kind k s w p).opener ≡ number edge → P.bounds ≡ []) →
        zone_at end.zones s.slot ≡ with_bounds (parts_with k w P).bounds (zone_at m.zones s.slot)
    unfolding seen_with_kind kept_with_kind parts_with with_bounds with_word follows? may_follow? numbered? follows
    own-with head (a-head i) f own e = absurd (never (number s.opener) bound none b refl i)
    own-with location (a-location n l) f own e = kept-own location (a-location n l) n (omega arith) f
    own-with action (an-action n l) f own e = kept-own action (an-action n l) n (omega arith) f
    own-with edge (an-edge n c l) f own e = rw (e refl) (kept-own edge (an-edge n c l) n (omega arith) f)
    own-with bound (a-bound c i j) f own e =
        let slot = h.slot in own b ∙ ap (with_bounds P.bounds) (word-here w s.slot m.zones (omega arith))
    own-with start (a-start n) f own e = kept-own start (a-start n) n (omega arith) f
    own-with none x4 f own e = elim x4 [ ]

pub own-end :
    (s : Seen) (p : ℕ) (m : IndexedModel) (ws : List ℕ) → Walk s p ws → Opened s → zone_count ≤ length m.zones → Bounded s →
    zone_at (kept_end steps s m p ws).zones s.slot ≡ with_bounds (parts_of ws).bounds (zone_at m.zones s.slot)
unfolding kept_end kept_with parts_of with_bounds seen_with closed
own-end s p m [] r o z b = refl
own-end s p m (w ∷ ws) r o z b =
    let l = lengths_with (kind_of w) s w m in
    own-with s w p m (kept_end steps (seen_with s w p) (kept_with s w m) (suc p) ws) (parts_of ws) r.0 o z b (kind_of w) r.2
    (λ q. settled-end (seen_with s w p) (suc p) q (kept_with s w m) ws r.3)
    (own-end (seen_with s w p) (suc p) (kept_with s w m) ws r.3 (opened_with (kind_of w) s w p o) (omega arith))
    (no-bounds (seen_with s w p) (suc p) ws r.3)
