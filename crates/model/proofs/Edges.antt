-- The edge words of a file: which refusal 5 names, and when the words need not be searched for it. Assumes nothing.
use Prim.Native.Nat.{ℕ, ◌<◌}
use mathlib.Core.Path.{◌≡◌, refl}
use mathlib.Core.Bool.{Bool, true, false, not, ◌&&◌, ◌||◌}
use mathlib.Core.List.{List, ◌++◌}
use native.Mathlib.Omega.{arith}
use borrow.Author.Tests.{eqb-true, lt-leb}
use lib.Dec.{leb, ltb}
use Rattle.std.proofs.Common.{Option, Some, None}
use Rattle.std.specs.List.{position, position_from}
use Rattle.std.proofs.lemmas.Bool.Decides.{nat_tests}
use Rattle.std.proofs.lemmas.Iterator.Adapters.{position_from-zero}
use Rattle.zone.specs.Words.{kind}
use Rattle.answers.specs.Checks.{Answer, refused, Check, First}
use Rattle.model.specs.Kinds.{Kind, none, head, location, action, edge, bound, start, number, is, kind_of}
use Rattle.model.specs.Fields.{lands_at}
use Rattle.model.specs.Reading.{edge_checks}
use Rattle.model.specs.Scan.{nothing, seen_with, seen_with_kind}
use Rattle.model.specs.Index.{steps, lacks_location?, missing_of}
use Rattle.model.specs.declared.seen.Seen.{Seen}
use Rattle.model.specs.declared.read.Counts.{Counts}
use Rattle.model.proofs.KindLaws.{kind_is}
use Rattle.pass.proofs.Run.{seen_end}
use Rattle.pass.proofs.Named.{from-first, searched}

-- the test of the definition is that of the call
lands : (L w : ℕ) → (not (is edge w) || ltb (lands_at w) L) ≡ not (lacks_location? L w)
lands L w = grind (arith, nat_tests)

-- the first edge whose location is missing is the one that refusal 5 names; f gives the answer to it: of words the first of which has index p
pub edges-from :
    (P : Counts → Type 0) (f : Option ℕ → Answer Counts) → ((p : ℕ) → f (Some p) ≡ refused 5 p) → (L p : ℕ) (ws : List ℕ) (more : List Check) →
    (position_from (lacks_location? L) p ws ≡ None → First more P (f None)) →
    First (edge_checks L p ws ++ more) P (f (position_from (lacks_location? L) p ws))
unfolding edge_checks
edges-from P f refuses L p ws more =
    from-first P f 5 refuses (lacks_location? L) _ (lands L) (edge_checks L) (λ p. refl) (λ p w ws. refl) more p ws

-- and of all words
pub edges-first :
    (P : Counts → Type 0) (f : Option ℕ → Answer Counts) → ((p : ℕ) → f (Some p) ≡ refused 5 p) → (L : ℕ) (ws : List ℕ) (more : List Check) →
    (position (lacks_location? L) ws ≡ None → First more P (f None)) → First (edge_checks L 0 ws ++ more) P (f (position (lacks_location? L) ws))
edges-first P f refuses L ws more h =
    rw (position_from-zero (lacks_location? L) ws) (edges-from P f refuses L 0 ws more (rw (position_from-zero (lacks_location? L) ws) at h))

-- ---- the furthest location that the edges name

module _ (L : ℕ) (s : Seen) (w p : ℕ) where
  -- a word takes nothing back, and an edge's location is named
  further : (k : Kind) → (seen_with_kind k s w p).furthest < L → (s.furthest < L) × (k ≡ edge → lands_at w < L)
  unfolding seen_with_kind
  further none h = (h, λ e. absurd (cc))
  further head h = (h, λ e. absurd (cc))
  further location h = (h, λ e. absurd (cc))
  further action h = (h, λ e. absurd (cc))
  further edge h = (omega arith, λ e. omega arith)
  further bound h = (h, λ e. absurd (cc))
  further start h = (h, λ e. absurd (cc))

  named : (seen_with s w p).furthest < L → (s.furthest < L) × (lacks_location? L w ≡ false)
  unfolding seen_with
  named h = let f = further (kind_of w) h in (f.0, by (is edge w) refl f.1)
    where
      by : (b : Bool) → is edge w ≡ b → (kind_of w ≡ edge → lands_at w < L) → (b && leb L (lands_at w)) ≡ false
      by true e f = lt-leb L (lands_at w) (f (kind_is edge w (eqb-true (kind w) (number edge) e)))
      by false e f = refl

-- if it exists, no edge leads nowhere, so the words need not be searched
pub missing-is : (words : List ℕ) →
    missing_of (seen_end steps nothing 0 words) words ≡ position (lacks_location? (seen_end steps nothing 0 words).locations) words
unfolding missing_of
missing-is words =
    let L = (seen_end steps nothing 0 words).locations in searched steps (λ s. s.furthest) L (lacks_location? L) (named L) nothing 0 words
