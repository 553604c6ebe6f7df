-- A pass that meets no fault, word by word: what each word may stand behind, and what must follow. Assumes nothing.
use Prim.Native.Nat.{ℕ, suc, ◌<◌}
use mathlib.Core.Path.{◌≡◌, refl, sym, ap, ◌∙◌}
use mathlib.Core.Logic.{◌≢◌}
use mathlib.Core.Bool.{true, false}
use mathlib.Core.List.{List, [], ◌∷◌}
use native.Mathlib.Omega.{arith}
use borrow.Author.Tests.{eqb-true}
use Rattle.std.proofs.Common.{Ok}
use Rattle.zone.specs.Words.{kind, bound_of}
use Rattle.zone.proofs.Bools.{false_true}
use Rattle.model.specs.Kinds.{Kind, none, head, location, action, edge, bound, start, number, kind_of}
use Rattle.model.specs.Grammar.{follows, numbered?, may_follow?, follows?}
use Rattle.model.specs.Fields.{fields?}
use Rattle.model.specs.Model.{Parts, parts_of, parts_with}
use Rattle.model.specs.Scan.{WithinLimits, checked, seen_with, seen_with_kind}
use Rattle.model.specs.declared.seen.Seen.{Seen}
use Rattle.model.proofs.Counts.{ends}
use Rattle.model.proofs.KindLaws.{kind_is, head_first}
use Rattle.model.specs.Index.{steps}
use Rattle.pass.proofs.Run.{Run, seen_end}
use Rattle.model.proofs.Limits.{Passes, passes, limits_with, room_location, room_action, room_edge, bound_cell}

-- a bound may follow what was seen
abbrev pub Bounded : Seen → Type 0
Bounded s = follows? (number s.opener) (number bound) ≡ true

-- what a word w without a fault says of what was seen before it, by its kind
pub data Step (s : Seen) (w : ℕ) : Kind → Type 0 where
  a-head : number s.opener ≡ number none → Step s w head
  a-location : number s.opener ≢ number start → s.locations < 16 → Step s w location
  an-action : number s.opener ≢ number start → s.actions < 32 → Step s w action
  an-edge : number s.opener ≢ number start → number s.opener ≢ number location → s.edges < 128 → Step s w edge
  a-bound : Bounded s → (bound_of w).i < 5 → (bound_of w).j < 5 → Step s w bound
  a-start : number s.opener ≢ number start → Step s w start

-- an opener behind which a kind may not stand
pub never : (o : ℕ) (n m : Kind) → follows? o (number n) ≡ true → follows? (number m) (number n) ≡ false → o ≢ number m
never o n m h e q = false_true (sym e ∙ ap (λ (o : ℕ). follows? o (number n)) (sym q) ∙ h)

step_of : (k : Kind) (s : Seen) (w : ℕ) → WithinLimits s → checked s w ≡ Ok tt → Passes k s w → Step s w k
unfolding fields? follows? may_follow? numbered? follows
step_of none s w h f g = false_true g.fields
step_of head s w h f g = a-head (eqb-true (number s.opener) (number none) (head_first (number s.opener) (number head) g.follows))
step_of location s w h f g = a-location (never (number s.opener) location start g.follows refl) (room_location s w h f (kind_is location w g.named))
step_of action s w h f g = an-action (never (number s.opener) action start g.follows refl) (room_action s w h f (kind_is action w g.named))
step_of edge s w h f g =
    an-edge (never (number s.opener) edge start g.follows refl) (never (number s.opener) edge location g.follows refl) (room_edge s w h f (kind_is edge w g.named))
step_of bound s w h f g = let cell = bound_cell s w h f (kind_is bound w g.named) in a-bound g.follows cell.0 cell.1
step_of start s w h f g = a-start (never (number s.opener) start start g.follows refl)

-- no word fails a check, and none is missing at the end; what was seen is within the limits all along
abbrev pub Walk : Seen → ℕ → List ℕ → Type 0
Walk s p [] = WithinLimits s × (number s.opener ≡ number start)
Walk s p (w ∷ ws) = WithinLimits s × (kind w ≡ number (kind_of w)) × Step s w (kind_of w) × Walk (seen_with s w p) (suc p) ws

pub walk_of : (s : Seen) (p : ℕ) (ws : List ℕ) → WithinLimits s → Run steps s p ws → Walk s p ws
walk_of s p [] h r = (h, ends s r)
walk_of s p (w ∷ ws) h r =
    let g : Passes (kind_of w) s w = passes s w r.0 in
    (h, g.named, step_of (kind_of w) s w h r.0 g, walk_of (seen_with s w p) (suc p) ws (limits_with s w p h r.0) r.1)

pub limits-end : (s : Seen) (p : ℕ) (ws : List ℕ) → Walk s p ws → WithinLimits (seen_end steps s p ws)
unfolding seen_end
limits-end s p [] r = r.0
limits-end s p (w ∷ ws) r = limits-end (seen_with s w p) (suc p) ws r.3

-- ---- what follows an opener

module _ (s : Seen) (w p : ℕ) where
  no_bound : (k : Kind) (P : Parts) → number s.opener ≡ number edge → Step s w k → (number (seen_with_kind k s w p).opener ≡ number edge → P.bounds ≡ []) →
      (parts_with k w P).bounds ≡ []
  unfolding follows? may_follow? numbered? follows seen_with_kind parts_with
  no_bound head P e (a-head z) ih = absurd (omega arith)
  no_bound location P e (a-location n l) ih = refl
  no_bound action P e (an-action n l) ih = refl
  no_bound edge P e (an-edge n m l) ih = ih refl
  no_bound bound P e (a-bound b i j) ih = absurd (never (number s.opener) bound edge b refl e)
  no_bound start P e (a-start n) ih = refl
  no_bound none P e x3 ih = elim x3 [ ]

  no_edge : (k : Kind) (P : Parts) → number s.opener ≡ number location → Step s w k →
      (number (seen_with_kind k s w p).opener ≡ number location → P.edges ≡ []) → (parts_with k w P).edges ≡ []
  unfolding seen_with_kind parts_with
  no_edge head P e (a-head z) ih = absurd (omega arith)
  no_edge location P e (a-location n l) ih = refl
  no_edge action P e (an-action n l) ih = refl
  no_edge edge P e (an-edge n m l) ih = absurd (m e)
  no_edge bound P e (a-bound b i j) ih = ih e
  no_edge start P e (a-start n) ih = refl
  no_edge none P e x3 ih = elim x3 [ ]

-- an edge is not followed by bounds before the next opener
pub no-bounds : (s : Seen) (p : ℕ) (ws : List ℕ) → Walk s p ws → number s.opener ≡ number edge → (parts_of ws).bounds ≡ []
unfolding parts_of seen_with
no-bounds s p [] r e = refl
no-bounds s p (w ∷ ws) r e = no_bound s w p (kind_of w) (parts_of ws) e r.2 (no-bounds (seen_with s w p) (suc p) ws r.3)

-- nor a location by edges before the next opener
pub no_edges : (s : Seen) (p : ℕ) (ws : List ℕ) → Walk s p ws → number s.opener ≡ number location → (parts_of ws).edges ≡ []
unfolding parts_of seen_with
no_edges s p [] r e = refl
no_edges s p (w ∷ ws) r e = no_edge s w p (kind_of w) (parts_of ws) e r.2 (no_edges (seen_with s w p) (suc p) ws r.3)

-- only bounds follow the start
pub record Last (P : Parts) (s end : Seen) : Type 0 where
  pub edges : P.edges ≡ []
  pub actions : P.actions ≡ []
  pub locations : P.locations ≡ []
  pub start : end.start ≡ s.start

last_with :
    (s end : Seen) (w p : ℕ) (k : Kind) (P : Parts) → number s.opener ≡ number start → Step s w k →
    (number (seen_with_kind k s w p).opener ≡ number start → Last P (seen_with_kind k s w p) end) → Last (parts_with k w P) s end
unfolding seen_with_kind parts_with
last_with s end w p head P e (a-head z) ih = absurd (omega arith)
last_with s end w p location P e (a-location n l) ih = absurd (n e)
last_with s end w p action P e (an-action n l) ih = absurd (n e)
last_with s end w p edge P e (an-edge n m l) ih = absurd (n e)
last_with s end w p bound P e (a-bound b i j) ih =
    let r = ih e in
    record { edges = r.edges; actions = r.actions; locations = r.locations; start = r.start }
last_with s end w p start P e (a-start n) ih = absurd (n e)
last_with s end w p none P e x3 ih = elim x3 [ ]

pub last_of : (s : Seen) (p : ℕ) (ws : List ℕ) → Walk s p ws → number s.opener ≡ number start → Last (parts_of ws) s (seen_end steps s p ws)
unfolding parts_of seen_end seen_with
last_of s p [] r e = record { edges = refl; actions = refl; locations = refl; start = refl }
last_of s p (w ∷ ws) r e =
    last_with s (seen_end steps (seen_with s w p) (suc p) ws) w p (kind_of w) (parts_of ws) e r.2 (last_of (seen_with s w p) (suc p) ws r.3)
