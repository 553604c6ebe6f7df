-- The pass decides the checks 11 to 14. Assumes nothing.
use Prim.Native.Nat.{ℕ, suc}
use mathlib.Core.Path.{◌≡◌, refl, ap, ◌∙◌}
use mathlib.Core.Logic.{inl, inr}
use mathlib.Core.Bool.{Bool, true, false, ◌&&◌}
use mathlib.Core.List.{List, [], ◌∷◌, ◌++◌, reverse_aux}
use native.Mathlib.Omega.{arith}
use lib.Dec.{eqb}
use Rattle.std.proofs.Common.{Result, Ok}
use Rattle.answers.specs.Refusals.{number, answer_of}
use Rattle.answers.specs.declared.Reason.{Reason}
use Rattle.answers.specs.declared.Refusal.{Refusal}
use lib.ListN.{get_or, length}
use Rattle.zone.specs.Words.{kind}
use Rattle.answers.specs.Checks.{Answer, Check, test, First}
use Rattle.zone.proofs.Bools.{left_true}
use Rattle.model.specs.declared.table_kinds.TableKind.{TableKind}
use Rattle.model.specs.declared.table_kinds.TableKind.TheVariants.{None as no_kind, Head as table_head, Node as node, StartNode as start_node, Cut as cut}
use Rattle.model.specs.TableKinds.{table_kind_of, table_number}
use Rattle.model.specs.Before.{opener_from, count_of}
use Rattle.model.specs.Grammar.{table_follows, numbered?, table_follows?}
use Rattle.model.specs.Model.{Model}
use Rattle.model.specs.Indexed.{Indexed}
use Rattle.model.proofs.Counts.{count_reversed}
use Rattle.model.specs.declared.index.Index.{Index}
use Rattle.model.specs.declared.index.IndexedModel.{IndexedModel}
use Rattle.table.specs.Fields.{whole_of, fields?}
use Rattle.table.specs.Reading.{due, rows_allow?, limit?, word_checks, words_checks, number_checks, read_checks}
use Rattle.table.specs.Scan.{nothing, row_openers, rows_allow_kind?, rows_allow_at?, fields_at?, limit_at?, checked, checked_end, seen_with}
use Rattle.table.specs.Nodes.{begun}
use Rattle.table.specs.Index.{kept_with, steps, scanned, and_numbers, read_of}
use Rattle.table.specs.declared.seen.Seen.{Seen}
use Rattle.model.proofs.TableKindLaws.{kind-is, by_kind}
use Rattle.pass.specs.Steps.{Passed, passed_at, unless_refused, pass_end, pass_from}
use Rattle.pass.proofs.Run.{Run, seen_end, goes, run_of, ended}
use Rattle.table.proofs.Passing.{first_refused, behind}
use Rattle.table.proofs.Missing.{numbers-first}
use Rattle.table.proofs.Rows.{same_rows}
use Rattle.table.proofs.Agreeing.{Agrees, Begins, here, there, Heads, agrees-nothing, begins, agrees_with}
use Rattle.table.specs.declared.nodes.IndexedTable.{IndexedTable}

-- ---- a word's checks

same-checks : (a b c a' b' c' : Bool) → a ≡ a' → c ≡ c' → (a ≡ true → b ≡ b') → first_refused a b c ≡ first_refused a' b' c'
same-checks true b c a' b' c' e f h = rw (← e, f, h refl)
same-checks false b c a' b' c' e f h = rw (← e)

-- the three tests on a word behind the words before
module _ (M : Model) (whole : ℕ) (before : List ℕ) (w : ℕ) where
  abbrev kind? : Bool
  kind? = table_follows? (opener_from (table_number no_kind) before) (kind w) && rows_allow? (table_kind_of w) (due M before)

  abbrev field? : Bool
  field? = fields? (table_kind_of w) M.clocks (length M.locations) whole w

  abbrev under? : Bool
  under? = limit? (table_kind_of w) (count_of (table_number node) before)

module _ (M : Model) (m : IndexedModel) (i : Indexed M m) (whole : ℕ) (before : List ℕ) (s : Seen) (w : ℕ) where
  abbrev x : Index
  x = m.index

  same-fields : Begins whole before s (kind w) → fields_at? x s w ≡ field? M whole before w
  same-fields (here e o n) = rw (kind-is table_head w n)
  same-fields (there h n) = rw (h.whole, i.clocks, i.locations)

  -- where a cut may follow, both know whether the location is a target
  same-kinds : Agrees M m whole before s → (table_follows? (table_number s.opener) (kind w) && rows_allow_at? s w) ≡ kind? M whole before w
  unfolding table_follows numbered?
  same-kinds a = rw (← a.tallies.opener) (by (table_follows? (table_number s.opener) (kind w)) refl)
    where
      named : table_number (table_kind_of w) ≡ table_number cut → kind w ≡ table_number cut
      named = by_kind (λ (k : TableKind). table_number k ≡ table_number cut → kind w ≡ table_number cut) w (λ e. absurd (omega arith)) (λ k n e. n ∙ e)

      by : (c : Bool) → table_follows? (table_number s.opener) (kind w) ≡ c →
          (c && rows_allow_kind? (table_kind_of w) s) ≡ (c && rows_allow? (table_kind_of w) (due M before))
      by true f = same_rows m (due M before) s a.rows (table_kind_of w) λ e. a.target (behind cut (table_number s.opener) (rw (named e) at f) row_openers tt)
      by false f = refl

  check_is : Agrees M m whole before s →
      checked x s w ≡ first_refused (kind? M whole before w) (field? M whole before w) (under? M whole before w)
  unfolding checked
  check_is a =
      same-checks (table_follows? (table_number s.opener) (kind w) && rows_allow_at? s w) (fields_at? x s w) (limit_at? s w)
      (kind? M whole before w) (field? M whole before w) (under? M whole before w)
      (same-kinds a)
      (rw a.tallies.nodes)
      λ f. same-fields (begins M m whole before s a (kind w) (left_true _ _ f))

-- ---- the pass

-- an acceptance has no value to judge
abbrev any : Unit {0} → Type 0
any t = Unit {0}

-- what reading the words answers, where the pass comes to this
abbrev answered : List ℕ → Result Seen Refusal → Answer (Unit {0})
answered words o = answer_of (and_numbers o words)

module _ (more : List Check) (words : List ℕ) where
  -- at a word
  step-first :
      (a b c : Bool) (r : Result (Unit {0}) Reason) → r ≡ first_refused a b c → (k : IndexedTable) (p : ℕ) (go : Passed Seen IndexedTable) →
      (r ≡ Ok tt → First more any (answered words go.outcome)) →
      First (test 11 p a ∷ test 12 p b ∷ test 13 p c ∷ more) any (answered words (unless_refused r p k go).outcome)
  unfolding unless_refused and_numbers answer_of number
  step-first true true true r e k p go h = rw e (inl (tt, inl (tt, inl (tt, h e))))
  step-first true true false r e k p go h = rw e (inl (tt, inl (tt, inr (λ t. t, refl))))
  step-first true false c r e k p go h = rw e (inl (tt, inr (λ t. t, refl)))
  step-first false b c r e k p go h = rw e (inr (λ t. t, refl))

  -- at the end
  last-first :
      (c : Bool) (r : Result (Unit {0}) Reason) → r ≡ first_refused c true true → (k : IndexedTable) (p : ℕ) (go : Passed Seen IndexedTable) →
      (r ≡ Ok tt → First more any (answered words go.outcome)) →
      First (test 11 p c ∷ more) any (answered words (unless_refused r p k go).outcome)
  unfolding unless_refused and_numbers answer_of number
  last-first true r e k p go h = rw e (inl (tt, h e))
  last-first false r e k p go h = rw e (inr (λ t. t, refl))

-- the checks 11 to 13 of a table
abbrev pub checks_of : Model → List ℕ → List Check
checks_of M words = words_checks M (whole_of (get_or words 0 0)) [] words

module _ (M : Model) (m : IndexedModel) (i : Indexed M m) where
  words-from :
      (whole : ℕ) (before words : List ℕ) (s : Seen) (k : IndexedTable) → Agrees M m whole before s →
      Heads whole before (get_or words 0 0) → (more : List Check) (all : List ℕ) →
      ((t : Seen) → (pass_from (steps m.index) s k (length before) words).outcome ≡ Ok t → First more any (answered all (Ok t))) →
      First (words_checks M whole before words ++ more) any (answered all (pass_from (steps m.index) s k (length before) words).outcome)
  unfolding pass_from pass_end words_checks word_checks checked_end
  words-from whole before [] s k a first more all h =
      let go : Passed Seen IndexedTable = passed_at (Ok s) k in
      last-first more all (eqb (opener_from (table_number no_kind) before) (table_number start_node)) (checked_end s) (rw a.tallies.opener) k
      (length before) go λ n. h s (ap (λ (q : Passed Seen IndexedTable). q.outcome) (goes (checked_end s) (length before) k go n))
  words-from whole before (w ∷ ws) s k a first more all h =
      let p : ℕ = length before in
      let x : Index = m.index in
      let r : Result (Unit {0}) Reason = checked x s w in
      let go : Passed Seen IndexedTable = pass_from (steps x) (seen_with x s w) (kept_with s w p k) (suc p) ws in
      step-first (words_checks M whole (w ∷ before) ws ++ more) all (kind? M whole before w) (field? M whole before w) (under? M whole before w)
      r (check_is M m i whole before s w a) k p go λ n.
      words-from whole (w ∷ before) ws (seen_with x s w) (kept_with s w p k) (agrees_with M m i whole before s w a n first)
      (λ e. absurd (omega (arith, ap length e))) more all
      λ t g. h t (ap (λ (q : Passed Seen IndexedTable). q.outcome) (goes r p k go n) ∙ g)

  pub words-first :
      (words : List ℕ) (k : IndexedTable) (more : List Check) →
      ((t : Seen) → (scanned m.index words k).outcome ≡ Ok t → First more any (answered words (Ok t))) →
      First (checks_of M words ++ more) any (answered words (scanned m.index words k).outcome)
  unfolding scanned
  words-first words k more =
      words-from (whole_of (get_or words 0 0)) [] words nothing (begun k) (agrees-nothing M m _) (λ e. refl) more words

  -- ---- the nodes that the pass counts

  pub agrees-end :
      (whole : ℕ) (before words : List ℕ) (s : Seen) (p : ℕ) → Agrees M m whole before s → Heads whole before (get_or words 0 0) →
      Run (steps m.index) s p words → Agrees M m whole (reverse_aux words before) (seen_end (steps m.index) s p words)
  unfolding seen_end
  agrees-end whole before [] s p a first g = a
  agrees-end whole before (w ∷ ws) s p a first g =
      agrees-end whole (w ∷ before) ws (seen_with m.index s w) (suc p) (agrees_with M m i whole before s w a g.0 first)
      (λ e. absurd (omega (arith, ap length e))) g.1

module _ (M : Model) (m : IndexedModel) (i : Indexed M m) (words : List ℕ) where
  pub nodes-end : Run (steps m.index) nothing 0 words → (seen_end (steps m.index) nothing 0 words).nodes ≡ count_of (table_number node) words
  nodes-end g =
      let a = agrees-end M m i (whole_of (get_or words 0 0)) [] words nothing 0 (agrees-nothing M m _) (λ e. refl) g in
      a.tallies.nodes ∙ count_reversed (table_number node) words

  pub nodes-scanned : (k : IndexedTable) (t : Seen) → (scanned m.index words k).outcome ≡ Ok t → t.nodes ≡ count_of (table_number node) words
  unfolding scanned
  nodes-scanned k t n =
      let g = run_of (steps m.index) nothing (begun k) 0 words t n in
      let e : t ≡ seen_end (steps m.index) nothing 0 words = ended (steps m.index) nothing (begun k) 0 words t n in
      rw e (nodes-end g)

-- ---- on the whole file

pub read-says : (M : Model) (m : IndexedModel) → Indexed M m → (words : List ℕ) (k : IndexedTable) →
    First (read_checks M words) any (answer_of (read_of (scanned m.index words k) words))
unfolding read_checks read_of and_numbers
read-says M m i words k =
    words-first M m i words k (number_checks (count_of (table_number node) words) 0 words)
    λ t n. rw (nodes-scanned M m i words k t n) (numbers-first (count_of (table_number node) words) words)
