-- The pass decides the checks 1 to 4. Assumes nothing.
use Prim.Native.Nat.{ℕ, suc, ◌+◌}
use mathlib.Core.Path.{◌≡◌, refl, sym, ap, ◌∙◌}
use mathlib.Core.Logic.{◌⊎◌, inl, inr, ◌≢◌}
use mathlib.Core.Bool.{Bool, true, false, cond}
use mathlib.Core.List.{List, [], ◌∷◌, ◌++◌}
use native.Mathlib.Omega.{arith}
use borrow.Author.Tests.{eqb-true, eq-eqb, ne_eqb}
use lib.Dec.{eqb}
use lib.ListN.{get_or, length}
use Rattle.zone.specs.Words.{kind}
use Rattle.std.proofs.Common.{Result, Ok, Err}
use Rattle.answers.specs.Checks.{Answer, Check, test, First}
use Rattle.answers.specs.Refusals.{answer_of}
use Rattle.answers.specs.Refusals as refusals
use Rattle.answers.specs.declared.Reason.{Reason}
use Rattle.answers.specs.declared.Reason.TheVariants as reason
use Rattle.answers.specs.declared.Refusal.{Refusal}
use Rattle.zone.proofs.Bools.{true_false, false_true}
use Rattle.model.specs.Kinds.{Kind, none, head, location, action, edge, bound, start, number, is, kind_of}
use Rattle.model.specs.Grammar.{follows?}
use Rattle.model.specs.Fields.{clocks_of, denominator_of, weight_of, fields?}
use Rattle.model.specs.Before.{opener_from, count_of}
use Rattle.model.specs.Reading.{last_edges, weights, limit?, adds?, word_checks, words_checks}
use Rattle.model.specs.Scan.{nothing, fields_at?, limit_at?, adds_at?, checked, checked_end, seen_with_kind, seen_with}
use Rattle.model.specs.Index.{steps, emptied, kept_with, closed, scanned}
use Rattle.pass.specs.Steps.{Passed, passed_at, unless_refused, pass_end, pass_from}
use Rattle.model.specs.declared.index.IndexedModel.{IndexedModel}
use Rattle.model.specs.declared.seen.Seen.{Seen}
use Rattle.model.specs.declared.read.Counts.{Counts}
use Rattle.pass.proofs.Run.{Run}
use Rattle.model.proofs.KindLaws.{kind_is, head_first, before-bound}
use Rattle.model.proofs.Limits.{Passes, passes, first_fault}

-- ---- what the words before come to

-- the numbers of what stands before; `before` lists those words, the last one first
pub record Tallies (before : List ℕ) (s : Seen) : Type 0 where
  pub opener : number s.opener ≡ opener_from (number none) before
  pub locations : s.locations ≡ count_of (number location) before
  pub actions : s.actions ≡ count_of (number action) before
  pub edges : s.edges ≡ count_of (number edge) before
  pub run : s.run ≡ length (last_edges before)
  pub weights : s.weights ≡ weights (last_edges before)

-- a head with C and D stands before
pub record Headed (C D : ℕ) (s : Seen) : Type 0 where
  pub clocks : s.clocks ≡ C
  pub denominator : s.denominator ≡ D
  pub opened : number s.opener ≢ number none

-- s is what the words before come to, in a file whose first word gives C and D
pub record Agrees (C D : ℕ) (before : List ℕ) (s : Seen) : Type 0 where
  pub tallies : Tallies before s
  pub headed : (before ≡ []) ⊎ Headed C D s

pub agrees-nothing : (C D : ℕ) → Agrees C D [] nothing
unfolding opener_from count_of last_edges weights
agrees-nothing C D = record { tallies = omega arith; headed = inl refl }

-- ---- a word more

-- what a word of the kind with the number n adds
record Added (n : ℕ) (before : List ℕ) (w : ℕ) : Type 0 where
  opener : opener_from (number none) (w ∷ before) ≡ cond (eqb n (number bound)) (opener_from (number none) before) n
  locations : count_of (number location) (w ∷ before) ≡ cond (eqb n (number location)) 1 0 + count_of (number location) before
  actions : count_of (number action) (w ∷ before) ≡ cond (eqb n (number action)) 1 0 + count_of (number action) before
  edges : count_of (number edge) (w ∷ before) ≡ cond (eqb n (number edge)) 1 0 + count_of (number edge) before
  run : length (last_edges (w ∷ before)) ≡ cond (eqb n (number edge)) (suc (length (last_edges before))) 0
  weights : weights (last_edges (w ∷ before)) ≡ cond (eqb n (number edge)) (weight_of w + weights (last_edges before)) 0

added : (k : Kind) (before : List ℕ) (w : ℕ) → kind w ≡ number k → Added (number k) before w
unfolding opener_from count_of last_edges weights
added k before w e =
    record {
      opener = rw e;
      locations = rw e;
      actions = rw e;
      edges = rw e;
      run = rw e (by_bool (eqb (number k) (number edge)) length);
      weights = rw e (by_bool (eqb (number k) (number edge)) weights);
    }
  where
    by_bool : (c : Bool) (f : List ℕ → ℕ) → f (cond c (w ∷ last_edges before) []) ≡ cond c (f (w ∷ last_edges before)) (f [])
    by_bool true f = refl
    by_bool false f = refl

-- edges of the last action stand only behind an opener that is an edge
no_edges : (before : List ℕ) → opener_from (number none) before ≢ number edge → last_edges before ≡ []
unfolding last_edges
no_edges [] h = refl
no_edges (w ∷ before) h = by_bool (is edge w) λ e. h (added edge before w (eqb-true (kind w) (number edge) e)).opener
  where
    by_bool : (c : Bool) → (c ≡ true → ⊥) → cond c (w ∷ last_edges before) [] ≡ []
    by_bool true f = absurd (f refl)
    by_bool false f = refl

no_run : (before : List ℕ) → opener_from (number none) before ≢ number edge → (length (last_edges before) ≡ 0) × (weights (last_edges before) ≡ 0)
unfolding weights
no_run before h = (ap length (no_edges before h), ap weights (no_edges before h))

-- the word is the first and a head, or the head stands before it
pub data Begins (C D : ℕ) (before : List ℕ) (s : Seen) (n : ℕ) : Type 0 where
  here : before ≡ [] → number s.opener ≡ number none → n ≡ number head → Begins C D before s n
  there : Headed C D s → n ≢ number head → Begins C D before s n

pub begins : (C D : ℕ) (before : List ℕ) (s : Seen) (n : ℕ) → Agrees C D before s → follows? (number s.opener) n ≡ true → Begins C D before s n
unfolding opener_from
begins C D before s n a f = by a.headed
  where
    same : eqb (number s.opener) (number none) ≡ eqb n (number head)
    same = head_first (number s.opener) n f

    by : (before ≡ []) ⊎ Headed C D s → Begins C D before s n
    by (inl e) =
        let o : number s.opener ≡ number none = a.tallies.opener ∙ ap (opener_from (number none)) e in
        here e o (eqb-true n (number head) (sym same ∙ eq-eqb (number s.opener) (number none) o))
    by (inr h) =
        let apart : eqb (number s.opener) (number none) ≡ false = ne_eqb (number s.opener) (number none) h.opened in
        there h λ e. true_false (sym (eq-eqb n (number head) e) ∙ sym same ∙ apart)

tallies-kind : (k : Kind) (before : List ℕ) (s : Seen) (w p : ℕ) → Tallies before s → Passes k s w → Tallies (w ∷ before) (seen_with_kind k s w p)
unfolding fields? seen_with_kind
tallies-kind none before s w p h g = false_true g.fields
tallies-kind head before s w p h g =
    let first : number s.opener ≡ number none = eqb-true (number s.opener) (number none) (head_first (number s.opener) (number head) g.follows) in
    let zero = no_run before (λ e. omega arith) in
    let a = added head before w g.named in
    omega arith
tallies-kind location before s w p h g = let a = added location before w g.named in omega arith
tallies-kind action before s w p h g = let a = added action before w g.named in omega arith
tallies-kind edge before s w p h g = let a = added edge before w g.named in omega arith
tallies-kind bound before s w p h g =
    let zero = no_run before (λ e. before-bound (number s.opener) g.follows (h.opener ∙ e)) in
    let a = added bound before w g.named in
    omega arith
tallies-kind start before s w p h g = let a = added start before w g.named in omega arith

pub head-before : {C D : ℕ} {before : List ℕ} {s : Seen} {n : ℕ} → Begins C D before s n → n ≢ number head → Headed C D s
head-before (here e o n) m = absurd (m n)
head-before (there h n) m = h

-- C and D are those of the word w, if it is the first
abbrev pub Heads : ℕ → ℕ → List ℕ → ℕ → Type 0
Heads C D before w = before ≡ [] → (clocks_of w ≡ C) × (denominator_of w ≡ D)

headed-kind :
    (k : Kind) (C D : ℕ) (before : List ℕ) (s : Seen) (w p : ℕ) → Passes k s w → Heads C D before w → Begins C D before s (number k) →
    Headed C D (seen_with_kind k s w p)
unfolding fields? seen_with_kind
headed-kind none C D before s w p g first b = false_true g.fields
headed-kind head C D before s w p g first (here e o n) = let both = first e in omega arith
headed-kind head C D before s w p g first (there h n) = absurd (n refl)
headed-kind location C D before s w p g first b = let h = head-before b (λ n. omega arith) in omega arith
headed-kind action C D before s w p g first b = let h = head-before b (λ n. omega arith) in omega arith
headed-kind edge C D before s w p g first b = let h = head-before b (λ n. omega arith) in omega arith
headed-kind bound C D before s w p g first b = head-before b (λ n. omega arith)
headed-kind start C D before s w p g first b = let h = head-before b (λ n. omega arith) in omega arith

pub agrees_with :
    (C D : ℕ) (before : List ℕ) (s : Seen) (w p : ℕ) → Agrees C D before s → checked s w ≡ Ok tt → Heads C D before w →
    Agrees C D (w ∷ before) (seen_with s w p)
unfolding seen_with
agrees_with C D before s w p a f first =
    let g = passes s w f in
    let b = begins C D before s (number (kind_of w)) a g.follows in
    record {
      tallies = tallies-kind (kind_of w) before s w p a.tallies g;
      headed = inr (headed-kind (kind_of w) C D before s w p g first b);
    }

-- ---- a word's checks and its fault

-- the four tests on a word behind the words before
module _ (C D : ℕ) (before : List ℕ) (w : ℕ) where
  abbrev kind? : Bool
  kind? = follows? (opener_from (number none) before) (kind w)

  abbrev field? : Bool
  field? = fields? (kind_of w) C D (count_of (number location) before) (opener_from (number none) before) w

  abbrev under? : Bool
  under? = limit? (kind_of w) (count_of (number location) before) (count_of (number action) before) (length (last_edges before))

  abbrev sum? : Bool
  sum? = adds? D (opener_from (number none) before) (weights (last_edges before)) w

same_tests :
    (C D : ℕ) (before : List ℕ) (s : Seen) (w : ℕ) → Tallies before s → Begins C D before s (kind w) →
    (fields_at? s w ≡ field? C D before w) × (adds_at? s w ≡ sum? C D before w)
unfolding fields_at? adds_at? fields? adds?
same_tests C D before s w t (here e o n) =
    let o' : opener_from (number none) before ≡ number none = sym t.opener ∙ o in (rw (kind_is head w n), rw (o, o'))
same_tests C D before s w t (there h n) = (cc, cc)

same-fault :
    (a b c d a' b' c' d' : Bool) → a ≡ a' → c ≡ c' → (a ≡ true → (b ≡ b') × (d ≡ d')) → first_fault a b c d ≡ first_fault a' b' c' d'
same-fault true b c d a' b' c' d' e f h = let g = h refl in rw (← e, f, g.0, g.1)
same-fault false b c d a' b' c' d' e f h = rw (← e)

fault-is :
    (C D : ℕ) (before : List ℕ) (s : Seen) (w : ℕ) → Agrees C D before s →
    checked s w ≡ first_fault (kind? C D before w) (field? C D before w) (under? C D before w) (sum? C D before w)
unfolding checked limit_at?
fault-is C D before s w a =
    let t = a.tallies in
    same-fault (follows? (number s.opener) (kind w)) (fields_at? s w) (limit_at? s w) (adds_at? s w) (kind? C D before w) (field? C D before w)
    (under? C D before w) (sum? C D before w) (cc) (cc) λ f. same_tests C D before s w t (begins C D before s (kind w) a f)

-- ---- the pass

-- the answer of a pass, if `whole` is that on the whole file
unfoldable pub answer_behind : Result Seen Refusal → Answer Counts → Answer Counts
answer_behind (Ok s) whole = whole
answer_behind (Err r) whole = answer_of (Err r)

module _ (more : List Check) (P : Counts → Type 0) (whole : Answer Counts) where
  -- at a word
  step-first :
      (a b c d : Bool) (f : Result (Unit {0}) Reason) → f ≡ first_fault a b c d → (p : ℕ) (k : IndexedModel) (go : Passed Seen IndexedModel) →
      (f ≡ Ok tt → First more P (answer_behind go.outcome whole)) →
      First (test 1 p a ∷ test 2 p b ∷ test 3 p c ∷ test 4 p d ∷ more) P (answer_behind (unless_refused f p k go).outcome whole)
  unfolding unless_refused answer_behind answer_of refusals.number
  step-first true true true true f e p k go h = rw e (inl (tt, inl (tt, inl (tt, inl (tt, h e)))))
  step-first true true true false f e p k go h = rw e (inl (tt, inl (tt, inl (tt, inr (λ t. t, refl)))))
  step-first true true false d f e p k go h = rw e (inl (tt, inl (tt, inr (λ t. t, refl))))
  step-first true false c d f e p k go h = rw e (inl (tt, inr (λ t. t, refl)))
  step-first false b c d f e p k go h = rw e (inr (λ t. t, refl))

  -- at the end
  last-first :
      (c : Bool) (f : Result (Unit {0}) Reason) → f ≡ cond c (Ok tt) (Err reason.BadModelKind) → (p : ℕ) (s : Seen) (k : IndexedModel) →
      (f ≡ Ok tt → First more P whole) → First (test 1 p c ∷ more) P (answer_behind (unless_refused f p k (passed_at (Ok s) k)).outcome whole)
  unfolding unless_refused answer_behind answer_of refusals.number
  last-first true f e p s k h = rw e (inl (tt, h e))
  last-first false f e p s k h = rw e (inr (λ t. t, refl))

words-from :
    (C D : ℕ) (before words : List ℕ) (s : Seen) (k : IndexedModel) → Agrees C D before s → Heads C D before (get_or words 0 0) →
    (more : List Check) (P : Counts → Type 0) (whole : Answer Counts) → (Run steps s (length before) words → First more P whole) →
    First (words_checks C D before words ++ more) P (answer_behind (pass_from steps s k (length before) words).outcome whole)
unfolding pass_from pass_end words_checks word_checks checked_end
words-from C D before [] s k a first more P whole h =
    last-first more P whole (eqb (opener_from (number none) before) (number start)) (checked_end s) (rw a.tallies.opener) (length before) s
    (closed s k) h
words-from C D before (w ∷ ws) s k a first more P whole h =
    let p : ℕ = length before in
    step-first (words_checks C D (w ∷ before) ws ++ more) P whole (kind? C D before w) (field? C D before w) (under? C D before w)
    (sum? C D before w) (checked s w) (fault-is C D before s w a) p k (pass_from steps (seen_with s w p) (kept_with s w k) (suc p) ws) λ f.
    words-from C D (w ∷ before) ws (seen_with s w p) (kept_with s w k) (agrees_with C D before s w p a f first)
    (λ e. absurd (omega (arith, ap length e))) more P whole (λ r. h (f, r))

-- the checks 1 to 4 of a file
abbrev pub checks_of : List ℕ → List Check
checks_of words = words_checks (clocks_of (get_or words 0 0)) (denominator_of (get_or words 0 0)) [] words

pub words-first :
    (words : List ℕ) (m : IndexedModel) (more : List Check) (P : Counts → Type 0) (whole : Answer Counts) → (Run steps nothing 0 words → First more P whole) →
    First (checks_of words ++ more) P (answer_behind (scanned words m).outcome whole)
unfolding scanned
words-first words m =
    words-from (clocks_of (get_or words 0 0)) (denominator_of (get_or words 0 0)) [] words nothing (emptied m) (agrees-nothing _ _)
    (λ e. (refl, refl))
