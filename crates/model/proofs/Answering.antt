-- What the pass leaves decides the answer of reading a model. Assumes nothing.
use Prim.Native.Nat.{ℕ, ◌<◌}
use mathlib.Core.Path.{◌≡◌, refl, sym, ap, subst, ◌∙◌}
use mathlib.Core.Bool.{Bool, true, false, cond}
use mathlib.Core.Logic.{inl, inr}
use mathlib.Core.List.{List, [], ◌∷◌, ◌++◌}
use lib.ListN.{length}
use Rattle.std.proofs.Common.{Option, Some, None, Result, Ok, Err}
use Rattle.answers.specs.Checks.{Answer, Check, check, First}
use Rattle.answers.specs.Refusals.{answer_of}
use Rattle.answers.specs.Refusals as refusals
use Rattle.answers.specs.declared.Reason.TheVariants as reason
use Rattle.answers.specs.declared.Refusal.{Refusal}
use Rattle.zone.specs.Squares.{universe, met, tightened, empty?, Tightens}
use Rattle.zone.specs.Stores.{zone_at}
use Rattle.zone.specs.declared.zones.Zone.{Zone as Square}
use Rattle.model.specs.Kinds.{location, start, number}
use Rattle.model.specs.Model.{Model, model_of}
use Rattle.model.specs.States.{location_at, HasStart}
use Rattle.model.specs.Before.{count_of, index_of}
use Rattle.model.specs.Reading.{edge_checks, model_checks, counts_of, ReadModel}
use Rattle.model.specs.Scan.{start_bounds_at, nothing}
use Rattle.answers.specs.Refusals.{refuse}
use Rattle.model.specs.Index.{steps, emptied, scanned, lacks_location?}
use Rattle.pass.specs.Steps.{Passed, passed_at}
use Rattle.std.specs.List.{position}
use Rattle.model.specs.declared.index.IndexedModel.{IndexedModel}
use Rattle.model.specs.Index.{missing_of, start_square, counts_at, read_at, whole_read, counted}
use Rattle.model.specs.Indexed.{with_bounds, Indexed, KeptFor, IndexedWhere}
use Rattle.model.specs.declared.seen.Seen.{Seen}
use Rattle.model.specs.declared.read.Counts.{Counts}
use Rattle.model.specs.declared.read.ModelRead.{ModelRead}
use Rattle.pass.proofs.Run.{Run, seen_end, kept_end, run_of, end_of}
use Rattle.model.proofs.Edges.{edges-first, missing-is}
use Rattle.model.proofs.Entries.{Sized, numbers-end}
use Rattle.model.proofs.Checking.{answer_behind, words-first}
use Rattle.model.proofs.Counts.{counts_end, place_end, start-below}
use Rattle.model.proofs.Indexing.{indexed}
use Rattle.model.proofs.GoodModel.{good-model}
use Rattle.model.proofs.Starting.{start_fits, start-yes, start-no}
use Rattle.model.proofs.IndexLaws.{location-at}

-- what a pass over these words leads to
unfoldable pub read_behind : List ℕ → Result Seen Refusal → IndexedModel → Result ModelRead Refusal
read_behind words (Err r) k = Err r
read_behind words (Ok s) k = whole_read (missing_of s words) (start_square s.start k.zones) s

-- what the call returns, as the definitions compute it from what the pass comes to
abbrev pub read_of : List ℕ → Passed Seen IndexedModel → Result ModelRead Refusal
read_of words q = read_behind words q.outcome q.kept

-- what 6 is about
abbrev start_check : List ℕ → Check
start_check words = check 6 (index_of (number start) words) (HasStart (model_of words))

-- 5 and 6
abbrev file_checks : List ℕ → List Check
file_checks words = edge_checks (count_of (number location) words) 0 words ++ (start_check words ∷ [])

-- the right counts
abbrev Right : List ℕ → Counts → Type 0
Right words counts = counts ≡ counts_of words

-- what the call answers where the words are good: m is the first edge that leads nowhere, z the table of the start valuations
abbrev pub whole_of : Square → Seen → Option ℕ → Answer Counts
whole_of z s m = answer_of (counted (whole_read m z s))

-- 6
start_first : (words : List ℕ) (z : Square) (s : Seen) → s.place ≡ index_of (number start) words → counts_at s ≡ counts_of words →
    (empty? z ≡ false → HasStart (model_of words)) → (empty? z ≡ true → HasStart (model_of words) → ⊥) →
    First (start_check words ∷ []) (Right words) (whole_of z s None)
unfolding whole_read answer_of refusals.number
start_first words z s place counts present absent = by (empty? z) present absent
  where
    by : (e : Bool) → (e ≡ false → HasStart (model_of words)) → (e ≡ true → HasStart (model_of words) → ⊥) →
        First (start_check words ∷ []) (Right words) (answer_of (counted (cond e (refuse reason.NoStart s.place) (Ok (read_at s z)))))
    by true present absent = inr (absent refl, rw place)
    by false present absent = inl (present refl, counts)

-- 5 and 6
whole-first : (words : List ℕ) (z : Square) (s : Seen) (m : Option ℕ) →
    m ≡ position (lacks_location? s.locations) words → s.place ≡ index_of (number start) words → counts_at s ≡ counts_of words →
    (empty? z ≡ false → HasStart (model_of words)) → (empty? z ≡ true → HasStart (model_of words) → ⊥) →
    First (file_checks words) (Right words) (whole_of z s m)
unfolding whole_read answer_of refusals.number
whole-first words z s m edges place counts present absent =
    subst (λ (m : Option ℕ). First (file_checks words) (Right words) (whole_of z s m))
    (ap (λ (L : ℕ). position (lacks_location? L) words) (sym (ap (λ (c : Counts). c.locations) counts)) ∙ sym edges)
    (edges-first (Right words) (whole_of z s) (λ p. refl) (count_of (number location) words) words (start_check words ∷ [])
    (λ h. start_first words z s place counts present absent))

-- an acceptance is of what was read
whole-ok : (m : Option ℕ) (z : Square) (s : Seen) (r : ModelRead) → whole_read m z s ≡ Ok r → r ≡ read_at s z
unfolding whole_read
whole-ok (Some p) z s r e = absurd (cc)
whole-ok None z s r e = by (empty? z) e
  where
    by : (c : Bool) → cond c (refuse reason.NoStart s.place) (Ok (read_at s z)) ≡ Ok r → r ≡ read_at s z
    by true e = absurd (cc)
    by false e = cc

-- ---- a pass without a fault
module _ (words : List ℕ) (m : IndexedModel) (sized : Sized m) where
  abbrev M : Model
  M = model_of words

  -- what it comes to, and what it keeps
  abbrev seen : Seen
  seen = seen_end steps nothing 0 words

  abbrev kept : IndexedModel
  kept = kept_end steps nothing (emptied m) 0 words

  module _ (run : Run steps nothing 0 words) where
    x : Indexed M kept
    x = indexed words m sized run

    starts : seen.start ≡ M.start
    starts = sym (numbers-end nothing (emptied m) 0 words).start ∙ x.start

    pub start-exists : M.start < length M.locations
    start-exists =
        rw (sym starts, sym x.locations, (numbers-end nothing (emptied m) 0 words).locations) (start-below words run)

    invariant : zone_at kept.zones M.start ≡ with_bounds (location_at M M.start).invariant universe
    invariant = (location-at x M.start start-exists).invariant

    tightens : Tightens 1 (met (zone_at kept.zones seen.start) (zone_at kept.zones start_bounds_at))
    tightens = rw starts (start_fits M kept.zones (good-model words run) invariant x.start_bounds)

    present : empty? (start_square seen.start kept.zones) ≡ false → HasStart M
    present e = start-yes M kept.zones (good-model words run) invariant x.start_bounds start-exists (rw (sym starts) e)

    absent : empty? (start_square seen.start kept.zones) ≡ true → HasStart M → ⊥
    absent e = start-no M kept.zones (good-model words run) invariant x.start_bounds (rw (sym starts) e)

    -- what a call returns and leaves in the struct says what the words hold
    kept_for : KeptFor words (read_at seen (start_square seen.start kept.zones)) kept
    kept_for =
        record {
          indexed = x;
          initial = ap (λ (l : ℕ). start_square l kept.zones) (sym (numbers-end nothing (emptied m) 0 words).start);
        }

  -- ---- every pass

  abbrev pass : Passed Seen IndexedModel
  pass = scanned words m

  pub run_where : (e : Seen) → pass.outcome ≡ Ok e → Run steps nothing 0 words
  unfolding scanned
  run_where = run_of steps nothing (emptied m) 0 words

  ended : Run steps nothing 0 words → pass ≡ passed_at (Ok seen) kept
  unfolding scanned
  ended run = end_of steps nothing (emptied m) 0 words run

  -- what holds of what the words of such a pass come to, and of what is kept, by what holds of the pass
  read-to-end : (P : Seen → IndexedModel → Type 0) (e : Seen) → pass.outcome ≡ Ok e → (Run steps nothing 0 words → P seen kept) → P e pass.kept
  read-to-end P e same h =
      let run : Run steps nothing 0 words = run_where e same in
      let end : pass ≡ passed_at (Ok seen) kept = ended run in
      let here : e ≡ seen = cc in
      rw (here, end) (h run)

  -- the zone of the start valuations can be tightened
  pub start-tightens : (e : Seen) (k : IndexedModel) → passed_at (Ok e) k ≡ pass → {y z m : Square} → y ≡ zone_at k.zones e.start →
      z ≡ zone_at k.zones start_bounds_at → m ≡ met y z → Tightens 1 m
  start-tightens e k same first second both =
      rw (both, first, second, ap (λ (q : Passed Seen IndexedModel). q.kept) same)
      (read-to-end (λ e k. Tightens 1 (met (zone_at k.zones e.start) (zone_at k.zones start_bounds_at))) e
      (sym (ap (λ (q : Passed Seen IndexedModel). q.outcome) same)) tightens)

  -- only a pass that nothing stops leads to an acceptance
  pub accepted-run : (c : Counts) → counted (read_of words pass) ≡ Ok c → Run steps nothing 0 words
  unfolding read_behind
  accepted-run c e = by pass.outcome refl e
    where
      by : (o : Result Seen Refusal) → pass.outcome ≡ o → counted (read_behind words o pass.kept) ≡ Ok c → Run steps nothing 0 words
      by (Ok s) same h = run_where s same
      by (Err r) same h = absurd (cc)

  -- the answer, by every check
  pub answered : ReadModel words (answer_of (counted (read_of words pass)))
  unfolding model_checks answer_behind answer_of read_behind
  answered =
      record { says = rw (behind pass.outcome) (words-first words m (file_checks words) (Right words) (answer_of (counted (read_of words pass))) good) }
    where
      behind : (o : Result Seen Refusal) →
          answer_of (counted (read_behind words o pass.kept)) ≡ answer_behind o (answer_of (counted (read_behind words o pass.kept)))
      behind (Ok s) = refl
      behind (Err r) = refl

      good : Run steps nothing 0 words → First (file_checks words) (Right words) (answer_of (counted (read_of words pass)))
      good run =
          rw (ended run)
          (whole-first words (start_square seen.start kept.zones) seen (missing_of seen words) (missing-is words) (place_end words run)
          (counts_end words run) (present run) (absent run))

  -- what is kept of an accepted model, for what the call returns as the definitions compute it
  pub index-of : IndexedWhere words (read_of words pass) pass.kept
  unfolding read_behind
  index-of = record { accepted = λ r h. by pass.outcome refl r h }
    where
      by : (o : Result Seen Refusal) → pass.outcome ≡ o → (r : ModelRead) → read_behind words o pass.kept ≡ Ok r →
          KeptFor words r pass.kept
      by (Ok s) same r h =
          rw (whole-ok _ _ s r h)
          (read-to-end (λ s k. KeptFor words (read_at s (start_square s.start k.zones)) k) s same kept_for)
      by (Err e) same r h = absurd (cc)

  -- the promises of the call, where it returns that and leaves what the pass has kept
  pub returned : (q : Passed Seen IndexedModel) → q ≡ pass → (r : Result ModelRead Refusal) → r ≡ read_of words q →
      ReadModel words (answer_of (counted r)) × (IndexedWhere words r q.kept × (q.kept ≡ pass.kept))
  returned q same r e = rw (e, same) (answered, (index-of, refl))

-- ---- what the call returns behind the pass
pub read-stopped : (words : List ℕ) (k : IndexedModel) (f : Refusal) → Err f ≡ read_of words (passed_at (Err f) k)
unfolding read_behind
read-stopped words k f = refl

pub read-whole : (words : List ℕ) (s : Seen) (k : IndexedModel) {m t : Square} → m ≡ met (zone_at k.zones s.start) (zone_at k.zones start_bounds_at) →
    t ≡ tightened m → whole_read (missing_of s words) t s ≡ read_of words (passed_at (Ok s) k)
unfolding read_behind start_square
read-whole words s k both tight = rw (tight, both)
