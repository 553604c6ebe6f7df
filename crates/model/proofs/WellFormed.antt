-- What holds of every accepted model: its numbers, the locations that its edges lead to, and their weights. Assumes nothing.
use Prim.Native.Nat.{ℕ, suc, ◌+◌, ◌*◌, ◌/◌, ◌^◌, ◌≤◌, ◌<◌}
use mathlib.Core.Path.{◌≡◌, refl, sym, ap, subst, ◌∙◌}
use mathlib.Core.Logic.{◌≢◌}
use mathlib.Core.Bool.{true, false, not, ◌&&◌, ◌||◌}
use mathlib.Core.List.{List, [], ◌∷◌}
use native.Mathlib.Nat.{div-lt_iff_lt-mul}
use native.Mathlib.Omega.{arith}
use borrow.Author.Tests.{eqb-true, leb-true, ltb-true}
use lib.Dec.{T, eqb, leb, ltb}
use lib.ListN.{get_or, length}
use lib.Pow.{pow_pos}
use Rattle.zone.specs.Words.{bits, kind}
use Rattle.std.proofs.Common.{Ok}
use Rattle.answers.specs.Checks.{accepted}
use Rattle.answers.specs.Refusals.{answer_of}
use Rattle.zone.proofs.Bools.{false_true, is_true, left_true, right_true}
use Rattle.answers.proofs.CheckLaws.{AllHold, first-accepted}
use Rattle.model.specs.Kinds.{Kind, none, head, location, action, edge, bound, start, number, is, kind_of}
use Rattle.model.specs.Grammar.{numbered?}
use Rattle.model.specs.Fields.{clocks_of, denominator_of, mask_of, lands_at, weight_of, head_fields?, fields?}
use Rattle.model.specs.Model.{Edge, Action, Model, Parts, edge_of, parts_with, parts_of, model_of}
use Rattle.model.specs.States.{location_at}
use Rattle.model.specs.Before.{count_of}
use Rattle.model.specs.Reading.{adds?, edge_checks, model_checks, counts_of, ReadModel}
use Rattle.model.specs.Openers.{edge_may_follow?}
use Rattle.model.specs.Scan.{nothing, adds_at?, seen_with, seen_with_kind, WithinLimits}
use Rattle.model.specs.Index.{steps, emptied}
use Rattle.model.specs.declared.seen.Seen.{Seen}
use Rattle.model.specs.declared.read.Counts.{Counts}
use Rattle.model.proofs.KindLaws.{kind_is, head_first, behind-edges}
use Rattle.pass.proofs.Run.{Run}
use Rattle.model.proofs.Limits.{Passes, passes, passes_as, limits-nothing, limits_with, head-ranges}
use Rattle.model.proofs.Entries.{empty_model, sized-empty, numbers-end}
use Rattle.model.proofs.Checking.{Headed, Agrees, Heads, agrees-nothing, agrees_with, begins, head-before, checks_of}
use Rattle.model.proofs.Counts.{ends, counts_end}
use Rattle.model.proofs.Indexing.{indexed}
use Rattle.model.proofs.ZoneLaws.{All, empty, more, all-at}
use Rattle.model.proofs.GoodModel.{GoodModel, good-model}
use Rattle.model.proofs.Answering.{start-exists, accepted-run, answered}
use Rattle.model.proofs.OneAnswer.{read_one}

-- the weights of edges, added
unfoldable pub weigh : List Edge → ℕ
weigh [] = 0
weigh (E ∷ Es) = E.weight + weigh Es

pub record FormedEdge (M : Model) (E : Edge) : Type 0 where
  pub to : E.to < length M.locations
  pub mask : E.mask < 2 ^ M.clocks
  pub weight : 1 ≤ E.weight

pub record FormedAction (M : Model) (A : Action) : Type 0 where
  pub edges : All (FormedEdge M) A.edges
  pub weights : weigh A.edges ≡ M.denominator
  pub some : 1 ≤ length A.edges
  pub few : length A.edges ≤ 4

pub record WellFormed (M : Model) : Type 0 where
  pub clock : 1 ≤ M.clocks
  pub clocks : M.clocks ≤ 4
  pub positive : 1 ≤ M.denominator
  pub denominator : M.denominator < 2 ^ 16
  pub start : M.start < length M.locations
  pub actions : (l : ℕ) → All (FormedAction M) (location_at M l).actions

-- ---- the words, from the last back to the first

-- what has weight has an edge
some-edge : (Es : List Edge) → 1 ≤ weigh Es → 1 ≤ length Es
unfolding weigh
some-edge [] h = h
some-edge (E ∷ Es) h = omega arith

-- the parts P behind words that come to s; where an edge may follow those, P begins with the rest of an action's edges
record Formed (M : Model) (s : Seen) (P : Parts) : Type 0 where
  edges : All (FormedEdge M) P.edges
  weights : edge_may_follow? (number s.opener) ≡ true → s.weights + weigh P.edges ≡ M.denominator
  few : edge_may_follow? (number s.opener) ≡ true → s.run + length P.edges ≤ 4
  actions : All (FormedAction M) P.actions
  locations : All (λ L. All (FormedAction M) L.actions) P.locations

mask_below : (m C : ℕ) → eqb (m / 2 ^ C) 0 ≡ true → m < 2 ^ C
mask_below m C h =
    let none : m / 2 ^ C ≡ 0 = eqb-true (m / 2 ^ C) 0 h in
    let below : m < 1 * 2 ^ C = (div-lt_iff_lt-mul (pow_pos C)).0 (omega arith) in
    omega arith

module _ (M : Model) (positive : 1 ≤ M.denominator) where
  module _ (before : List ℕ) (s : Seen) (w p : ℕ) (P : Parts) (h : WithinLimits s) (a : Agrees M.clocks M.denominator before s) where
    behind : (k : Kind) → Passes k s w → number k ≢ number head → Headed M.clocks M.denominator s
    behind k g n = head-before (begins M.clocks M.denominator before s (number k) a g.follows) n

    -- a word behind the edges of an action: their weights add to the denominator
    ended : (k : Kind) → Passes k s w → number k ≢ number head → eqb (number k) (number edge) ≡ false → eqb (number k) (number bound) ≡ false →
        edge_may_follow? (number s.opener) ≡ true → s.weights ≡ M.denominator
    unfolding adds_at? adds?
    ended k g n e b m =
        let last = behind-edges (number s.opener) (number k) g.follows m e b in
        eqb-true s.weights s.denominator (rw (last, g.named, e) at g.adds) ∙ (behind k g n).denominator

    formed-edge : Passes edge s w → lands_at w < length M.locations → FormedEdge M (edge_of w)
    unfolding fields?
    formed-edge g l =
        let C : ℕ = s.clocks in
        let same : C ≡ M.clocks = (behind edge g (λ n. omega arith)).clocks in
        let fields : (eqb (bits 27 24 w) 0 && eqb (mask_of w / 2 ^ C) 0 && leb 1 (weight_of w)) ≡ true = left_true _ _ g.fields in
        record {
          to = l;
          mask = rw (← same) (mask_below (mask_of w) C (right_true (eqb (bits 27 24 w) 0) _ (left_true _ _ fields)));
          weight = leb-true 1 (weight_of w) (right_true (eqb (bits 27 24 w) 0 && eqb (mask_of w / 2 ^ C) 0) _ fields);
        }

    formed-with :
        (k : Kind) → Passes k s w → (k ≡ edge → lands_at w < length M.locations) → Formed M (seen_with_kind k s w p) P → Formed M s (parts_with k w P)
    unfolding fields? seen_with_kind parts_with weigh numbered?
    formed-with none g l f = false_true g.fields
    formed-with head g l f =
        let first : number s.opener ≡ number none = eqb-true (number s.opener) (number none) (head_first (number s.opener) (number head) g.follows) in
        record {
          edges = f.edges;
          weights = λ i. false_true (rw first at i);
          few = λ i. false_true (rw first at i);
          actions = f.actions;
          locations = f.locations;
        }
    formed-with location g l f = record {
      edges = empty;
      weights = λ i. omega (arith, ended location g (λ n. omega arith) refl refl i);
      few = λ i. omega arith;
      actions = empty;
      locations = more f.actions f.locations;
    }
    formed-with action g l f =
        let sum : weigh P.edges ≡ M.denominator = omega (arith, f.weights refl) in
        let this : FormedAction M (record { guard = P.bounds; edges = P.edges }) = record {
          edges = f.edges;
          weights = sum;
          some = some-edge P.edges (omega arith);
          few = omega (arith, f.few refl);
        } in
        record {
          edges = empty;
          weights = λ i. omega (arith, ended action g (λ n. omega arith) refl refl i);
          few = λ i. omega arith;
          actions = more this f.actions;
          locations = f.locations;
        }
    formed-with edge g l f = record {
      edges = more (formed-edge g (l refl)) f.edges;
      weights = λ i. omega (arith, f.weights refl);
      few = λ i. omega (arith, f.few refl);
      actions = f.actions;
      locations = f.locations;
    }
    formed-with bound g l f =
        record { edges = f.edges; weights = f.weights; few = f.few; actions = f.actions; locations = f.locations }
    formed-with start g l f = record {
      edges = empty;
      weights = λ i. omega (arith, ended start g (λ n. omega arith) refl refl i);
      few = λ i. omega arith;
      actions = empty;
      locations = empty;
    }

  -- 5, of a word that passes the checks before
  lands : (L w : ℕ) → T (not (is edge w) || ltb (lands_at w) L) → kind w ≡ number (kind_of w) → kind_of w ≡ edge → lands_at w < L
  lands L w t e k =
      let e : kind w ≡ number edge = e ∙ ap number k in
      ltb-true (lands_at w) L (rw e at (is_true (not (is edge w) || ltb (lands_at w) L) t))

  formed-from :
      (before : List ℕ) (s : Seen) (p : ℕ) (ws : List ℕ) → WithinLimits s → Agrees M.clocks M.denominator before s →
      Heads M.clocks M.denominator before (get_or ws 0 0) → Run steps s p ws → AllHold (edge_checks (length M.locations) p ws) →
      Formed M s (parts_of ws)
  unfolding parts_of edge_checks seen_with numbered?
  formed-from before s p [] h a first r e =
      let last = ends s r in
      record { edges = empty; weights = λ i. false_true (rw last at i); few = λ i. false_true (rw last at i); actions = empty; locations = empty }
  formed-from before s p (w ∷ ws) h a first r e =
      let g = passes s w r.0 in
      formed-with before s w p (parts_of ws) h a (kind_of w) g (lands (length M.locations) w e.0 g.named)
      (formed-from (w ∷ before) (seen_with s w p) (suc p) ws (limits_with s w p h r.0)
      (agrees_with M.clocks M.denominator before s w p a r.0 first) (λ e. absurd (omega (arith, ap length e))) r.1 e.1)

-- ---- the whole file

first_head : (words : List ℕ) → Run steps nothing 0 words → head_fields? (get_or words 0 0) ≡ true
unfolding fields?
first_head [] r = absurd (omega (arith, ends nothing r))
first_head (w ∷ ws) r =
    let g = passes nothing w r.0 in
    let named : kind w ≡ number head =
    g.named ∙ eqb-true (number (kind_of w)) (number head) (sym (head_first (number none) (number (kind_of w)) g.follows)) in
    (passes_as head nothing w (kind_is head w named) r.0).fields

pub well-formed : (words : List ℕ) → Run steps nothing 0 words → AllHold (edge_checks (count_of (number location) words) 0 words) → WellFormed (model_of words)
unfolding model_of location_at
well-formed words r e = record {
  clock = ranges.0;
  clocks = ranges.1;
  positive = ranges.2;
  denominator = omega arith;
  start = start-exists words empty_model sized-empty r;
  actions = λ l. all-at l parts.locations empty;
}
  where
    ranges : (1 ≤ clocks_of (get_or words 0 0)) × (clocks_of (get_or words 0 0) ≤ 4) × (1 ≤ denominator_of (get_or words 0 0))
    ranges = head-ranges (get_or words 0 0) (first_head words r)

    locations : count_of (number location) words ≡ length (model_of words).locations
    locations = sym (ap (λ (c : Counts). c.locations) (counts_end words r))
        ∙ sym (numbers-end nothing (emptied empty_model) 0 words).locations ∙ (indexed words empty_model sized-empty r).locations

    parts : Formed (model_of words) nothing (parts_of words)
    parts =
        formed-from (model_of words) ranges.2 [] nothing 0 words limits-nothing (agrees-nothing _ _) (λ e. (refl, refl)) r
        (subst (λ (L : ℕ). AllHold (edge_checks L 0 words)) locations e)

-- ---- an accepted model
module _ (words : List ℕ) (counts : Counts) (h : ReadModel words (accepted counts)) where
  pub accepted-runs : Run steps nothing 0 words
  unfolding answer_of
  accepted-runs =
      accepted-run words empty_model sized-empty counts (read_one words _ (Ok counts) (answered words empty_model sized-empty) h)

  pub accepted-good : GoodModel (model_of words)
  accepted-good = good-model words accepted-runs

  pub accepted-formed : WellFormed (model_of words)
  unfolding model_checks
  accepted-formed =
      let behind = (first-accepted (checks_of words) _ (λ c. c ≡ counts_of words) counts h.says).1 in
      let edges = (first-accepted (edge_checks (count_of (number location) words) 0 words) _ (λ c. c ≡ counts_of words) counts behind).0 in
      well-formed words accepted-runs edges
