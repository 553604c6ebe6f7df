-- What the pass counts, and where the start stands. Assumes nothing.
use Prim.Native.Nat.{ℕ, suc, ◌+◌, ◌<◌}
use mathlib.Core.Path.{◌≡◌, refl, ap, ◌∙◌}
use mathlib.Core.Logic.{◌⊎◌, inl, inr, ◌≢◌}
use mathlib.Core.Bool.{true, false}
use mathlib.Core.List.{List, [], ◌∷◌, reverse_aux}
use native.Mathlib.Omega.{arith}
use borrow.Author.Tests.{ltb-true, eqb-true}
use lib.Dec.{eqb}
use lib.ListN.{get_or, length}
use Rattle.std.proofs.Common.{Ok}
use Rattle.zone.specs.Words.{bits, kind}
use Rattle.zone.proofs.Bools.{false_true, right_true}
use Rattle.model.specs.Kinds.{Kind, none, head, location, action, edge, bound, start, number, is, kind_of}
use Rattle.model.specs.Fields.{clocks_of, denominator_of, fields?}
use Rattle.model.specs.Before.{opener_from, count_of, index_of}
use Rattle.model.specs.Reading.{counts_of}
use Rattle.model.specs.Scan.{nothing, checked, checked_end, seen_with_kind, seen_with}
use Rattle.model.specs.Index.{steps, counts_at}
use Rattle.model.specs.declared.seen.Seen.{Seen}
use Rattle.pass.proofs.Run.{Run, seen_end}
use Rattle.model.proofs.KindLaws.{kind_is, after-start}
use Rattle.model.proofs.Limits.{Passes, passes, all_pass}
use Rattle.model.proofs.Checking.{Headed, Agrees, Heads, agrees-nothing, agrees_with}

-- ---- the counts

agrees-end :
    (C D : ℕ) (before words : List ℕ) (s : Seen) (p : ℕ) → Agrees C D before s → Heads C D before (get_or words 0 0) → Run steps s p words →
    Agrees C D (reverse_aux words before) (seen_end steps s p words)
unfolding seen_end
agrees-end C D before [] s p a first r = a
agrees-end C D before (w ∷ ws) s p a first r =
    agrees-end C D (w ∷ before) ws (seen_with s w p) (suc p) (agrees_with C D before s w p a r.0 first)
    (λ e. absurd (omega (arith, ap length e))) r.1

-- counting goes either way round
count-onto : (n : ℕ) (words before : List ℕ) → count_of n (reverse_aux words before) ≡ count_of n before + count_of n words
unfolding count_of
count-onto n [] before = omega arith
count-onto n (w ∷ ws) before = count-onto n ws (w ∷ before) ∙ omega arith

pub count_reversed : (n : ℕ) (words : List ℕ) → count_of n (reverse_aux words []) ≡ count_of n words
unfolding count_of
count_reversed n words = count-onto n words [] ∙ omega arith

-- a pass without a fault ends behind the start
pub ends : (s : Seen) → checked_end s ≡ Ok tt → number s.opener ≡ number start
unfolding checked_end
ends s h = eqb-true (number s.opener) (number start) (all_pass (eqb (number s.opener) (number start)) true true true h).0

run_ends : (s : Seen) (p : ℕ) (words : List ℕ) → Run steps s p words → number (seen_end steps s p words).opener ≡ number start
unfolding seen_end
run_ends s p [] r = ends s r
run_ends s p (w ∷ ws) r = run_ends (seen_with s w p) (suc p) ws r.1

-- ---- the start

-- behind the start only a bound may stand, and it changes nothing
bound-stays : (s : Seen) (w p : ℕ) → number s.opener ≡ number start → checked s w ≡ Ok tt → seen_with s w p ≡ s
unfolding seen_with seen_with_kind
bound-stays s w p o f =
    let g = passes s w f in rw (kind_is bound w (g.named ∙ after-start (number (kind_of w)) (rw o at g.follows)))

start-stays : (s : Seen) (p : ℕ) (words : List ℕ) → number s.opener ≡ number start → Run steps s p words → seen_end steps s p words ≡ s
unfolding seen_end
start-stays s p [] o r = refl
start-stays s p (w ∷ ws) o r =
    let same = bound-stays s w p o r.0 in
    start-stays (seen_with s w p) (suc p) ws (ap (λ (s : Seen). number s.opener) same ∙ o) r.1 ∙ same

-- the start word has the index n, and its location exists
record Started (s : Seen) (n : ℕ) : Type 0 where
  place : s.place ≡ n
  below : s.start < s.locations

-- with the word w at the place p the words come to `next`: it is the start, or the start is still to come
data Starts (w p : ℕ) (next : Seen) : Type 0 where
  now : kind w ≡ number start → number next.opener ≡ number start → Started next p → Starts w p next
  later : is start w ≡ false → number next.opener ≢ number start → Starts w p next

starts : (k : Kind) (s : Seen) (w p : ℕ) → Passes k s w → number s.opener ≢ number start → Starts w p (seen_with_kind k s w p)
unfolding fields? seen_with_kind
starts none s w p g o = false_true g.fields
starts head s w p g o = later (rw g.named) λ e. omega arith
starts location s w p g o = later (rw g.named) λ e. omega arith
starts action s w p g o = later (rw g.named) λ e. omega arith
starts edge s w p g o = later (rw g.named) λ e. omega arith
starts bound s w p g o = later (rw g.named) o
starts start s w p g o =
    now g.named refl (record { place = refl; below = ltb-true _ _ (right_true (eqb (bits 27 4 w) 0) _ g.fields) })

started_with :
    (w p : ℕ) (ws : List ℕ) (next : Seen) → Starts w p next → Run steps next (suc p) ws →
    (number next.opener ≢ number start → Started (seen_end steps next (suc p) ws) (suc p + index_of (number start) ws)) →
    Started (seen_end steps next (suc p) ws) (p + index_of (number start) (w ∷ ws))
unfolding index_of
started_with w p ws next (now k o h) r rest = rw (start-stays next (suc p) ws o r, k) (omega arith)
started_with w p ws next (later n o) r rest = let h = rest o in rw n (omega arith)

started : (s : Seen) (p : ℕ) (words : List ℕ) → number s.opener ≢ number start → Run steps s p words →
    Started (seen_end steps s p words) (p + index_of (number start) words)
unfolding seen_end seen_with
started s p [] o r = absurd (o (ends s r))
started s p (w ∷ ws) o r =
    started_with w p ws (seen_with s w p) (starts (kind_of w) s w p (passes s w r.0) o) r.1 λ o. started (seen_with s w p) (suc p) ws o r.1

-- ---- where a pass without a fault ends
module _ (words : List ℕ) (r : Run steps nothing 0 words) where
  agrees : Agrees (clocks_of (get_or words 0 0)) (denominator_of (get_or words 0 0)) (reverse_aux words []) (seen_end steps nothing 0 words)
  agrees = agrees-end _ _ [] words nothing 0 (agrees-nothing _ _) (λ e. (refl, refl)) r

  pub counts_end : counts_at (seen_end steps nothing 0 words) ≡ counts_of words
  counts_end =
      let t = agrees.tallies in
      rw (
        t.locations,
        t.actions,
        t.edges,
        count_reversed (number location) words,
        count_reversed (number action) words,
        count_reversed (number edge) words,
      )

  pub headed : Headed (clocks_of (get_or words 0 0)) (denominator_of (get_or words 0 0)) (seen_end steps nothing 0 words)
  unfolding opener_from
  headed = by agrees.headed
    where
      by : {X : Type 0} → (reverse_aux words [] ≡ []) ⊎ X → X
      by (inl e) = absurd (omega (arith, run_ends nothing 0 words r, agrees.tallies.opener, ap (opener_from (number none)) e))
      by (inr h) = h

  begun : Started (seen_end steps nothing 0 words) (0 + index_of (number start) words)
  begun = started nothing 0 words (λ e. omega arith) r

  pub place_end : (seen_end steps nothing 0 words).place ≡ index_of (number start) words
  place_end = omega (arith, begun.place)

  pub start-below : (seen_end steps nothing 0 words).start < (seen_end steps nothing 0 words).locations
  start-below = begun.below
