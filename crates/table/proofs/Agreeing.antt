-- What the pass keeps of the words read so far, against what stands before a word. Assumes nothing.
use Prim.Native.Nat.{ℕ, ◌+◌, ◌<◌}
use mathlib.Core.Path.{◌≡◌, refl, sym, ap, ◌∙◌}
use mathlib.Core.Logic.{◌⊎◌, inl, inr, ◌≢◌}
use mathlib.Core.Bool.{true, false, cond}
use mathlib.Core.List.{List, [], ◌∷◌}
use native.Mathlib.Omega.{arith}
use Rattle.std.proofs.Common.{Ok}
use borrow.Author.Tests.{eqb-true, eq-eqb, ne_eqb, ltb-true}
use lib.Dec.{eqb}
use lib.ListN.{length}
use Rattle.zone.specs.Words.{bits, kind}
use Rattle.zone.proofs.Bools.{true_false, false_true, left_true, right_true}
use Rattle.model.specs.declared.table_kinds.TableKind.{TableKind}
use Rattle.model.specs.declared.table_kinds.TableKind.TheVariants.{None as no_kind, Head as table_head, Node as node, Bound as node_bound, Value as value, Blocked as blocked, Successor as successor, StartNode as start_node, Cut as cut}
use Rattle.model.specs.TableKinds.{table_number, table_kind_of}
use Rattle.model.specs.Before.{opener_from, count_of}
use Rattle.model.specs.Grammar.{table_follows, numbered?, table_follows?}
use Rattle.model.specs.Model.{Model}
use Rattle.model.specs.States.{location_at}
use Rattle.model.specs.Indexed.{LocationAt, Indexed}
use Rattle.model.specs.declared.index.Index.{Index}
use Rattle.model.specs.declared.index.IndexedModel.{IndexedModel}
use Rattle.model.proofs.IndexLaws.{location-at}
use Rattle.table.specs.Fields.{whole_of, location_of}
use Rattle.table.specs.Reading.{last_location, all_due, due_after_row, two_due, due_with, due}
use Rattle.table.specs.Scan.{nothing, checked, seen_with_kind, seen_with, with_number, row_openers, one_of?}
use Rattle.table.specs.declared.seen.Seen.{Seen}
use Rattle.table.proofs.Passing.{Passes, passes, behind, behind-only, not-one, head_first, before-bound, before-value}
use Rattle.table.proofs.ScanLaws.{in_row}
use Rattle.table.proofs.ReadLaws.{target-stays}
use Rattle.table.proofs.Rows.{LeftDue, none_left, left-row, left-number, left-successor, left-value, left_cut}

-- ---- what the words before come to

-- the numbers of what stands before; `before` lists those words, the last one first
pub record Tallies (before : List ℕ) (s : Seen) : Type 0 where
  pub opener : (table_number s.opener) ≡ opener_from (table_number no_kind) before
  pub nodes : s.nodes ≡ count_of (table_number node) before
  pub location : s.location ≡ last_location before

-- a head that gives V stands before
pub record Headed (n : ℕ) (s : Seen) : Type 0 where
  pub whole : s.whole ≡ n
  pub opened : (table_number s.opener) ≢ table_number no_kind

-- s is what the words before come to, in a table whose first word gives V
pub record Agrees (M : Model) (m : IndexedModel) (whole : ℕ) (before : List ℕ) (s : Seen) : Type 0 where
  pub tallies : Tallies before s
  pub headed : (before ≡ []) ⊎ Headed whole s
  -- behind a node's word and its bounds the location exists
  pub exists : (table_number s.opener) ≡ table_number node → s.location < length M.locations
  pub rows : LeftDue m (due M before) s
  -- rows are due behind a value, a cut and rows alone
  pub behind : (s.rows ≡ 0) ⊎ (one_of? row_openers (table_number s.opener) ≡ true)
  pub target : one_of? row_openers (table_number s.opener) ≡ true → s.target ≡ (due M before).target

pub agrees-nothing : (M : Model) (m : IndexedModel) (whole : ℕ) → Agrees M m whole [] nothing
unfolding opener_from count_of last_location due numbered?
agrees-nothing M m whole =
    record {
      tallies = omega arith;
      headed = inl refl;
      exists = λ e. absurd (omega arith);
      rows = none_left refl refl;
      behind = inl refl;
      target = λ o. false_true o;
    }

-- ---- a word more

-- what a word of the kind with the number n adds
record Added (n : ℕ) (before : List ℕ) (w : ℕ) : Type 0 where
  opener : opener_from (table_number no_kind) (w ∷ before) ≡ cond (eqb n (table_number node_bound)) (opener_from (table_number no_kind) before) n
  nodes : count_of (table_number node) (w ∷ before) ≡ cond (eqb n (table_number node)) 1 0 + count_of (table_number node) before
  location : last_location (w ∷ before) ≡ cond (eqb n (table_number node)) (location_of w) (last_location before)

added : (n : ℕ) (before : List ℕ) (w : ℕ) → kind w ≡ n → Added n before w
unfolding opener_from count_of last_location
added n before w e = record { opener = rw e; nodes = rw e; location = rw e }

-- the word is the first and a head, or the head stands before it
pub data Begins (whole : ℕ) (before : List ℕ) (s : Seen) (n : ℕ) : Type 0 where
  here : before ≡ [] → (table_number s.opener) ≡ table_number no_kind → n ≡ table_number table_head → Begins whole before s n
  there : Headed whole s → n ≢ table_number table_head → Begins whole before s n

module _ (M : Model) (m : IndexedModel) (whole : ℕ) (before : List ℕ) (s : Seen) (a : Agrees M m whole before s) where
  pub begins : (n : ℕ) → table_follows? (table_number s.opener) n ≡ true → Begins whole before s n
  unfolding opener_from
  begins n f = by a.headed
    where
      same : eqb (table_number s.opener) (table_number no_kind) ≡ eqb n (table_number table_head)
      same = head_first (table_number s.opener) n f

      by : (before ≡ []) ⊎ Headed whole s → Begins whole before s n
      by (inl e) =
          let o : (table_number s.opener) ≡ table_number no_kind = a.tallies.opener ∙ ap (opener_from (table_number no_kind)) e in
          here e o (eqb-true n (table_number table_head) (sym same ∙ eq-eqb (table_number s.opener) (table_number no_kind) o))
      by (inr h) =
          let apart : eqb (table_number s.opener) (table_number no_kind) ≡ false = ne_eqb (table_number s.opener) (table_number no_kind) h.opened in
          there h λ e. true_false (sym (eq-eqb n (table_number table_head) e) ∙ sym same ∙ apart)

pub head-before : {whole : ℕ} {before : List ℕ} {s : Seen} {n : ℕ} → Begins whole before s n → n ≢ table_number table_head → Headed whole s
head-before (here e o n) m = absurd (m n)
head-before (there h n) m = h

-- V is that of the word w, if it is the first
abbrev pub Heads : ℕ → List ℕ → ℕ → Type 0
Heads whole before w = before ≡ [] → whole_of w ≡ whole

module _ (M : Model) (m : IndexedModel) (i : Indexed M m) (whole : ℕ) (before : List ℕ) (s : Seen) (w : ℕ) (a : Agrees M m whole before s) where
  abbrev x : Index
  x = m.index

  abbrev Goes : TableKind → Type 0
  Goes k = Passes k x s w

  tallies-kind : (k : TableKind) → Goes k → Tallies (w ∷ before) (seen_with_kind k x s w)
  unfolding seen_with_kind
  tallies-kind no_kind g = false_true g.fields
  tallies-kind table_head g = let b = added (table_number table_head) before w g.named in let h = a.tallies in omega arith
  tallies-kind node g = let b = added (table_number node) before w g.named in let h = a.tallies in omega arith
  tallies-kind node_bound g = let b = added (table_number node_bound) before w g.named in let h = a.tallies in omega arith
  tallies-kind value g = let b = added (table_number value) before w g.named in let h = a.tallies in omega arith
  tallies-kind blocked g = let b = added (table_number blocked) before w g.named in let h = a.tallies in omega arith
  tallies-kind successor g =
      let b = added (table_number successor) before w g.named in let h = a.tallies in let r = in_row x (with_number s w) in omega arith
  tallies-kind start_node g = let b = added (table_number start_node) before w g.named in let h = a.tallies in omega arith
  tallies-kind cut g = let b = added (table_number cut) before w g.named in let h = a.tallies in omega arith

  headed-kind : (k : TableKind) → Goes k → Heads whole before w → Begins whole before s (table_number k) → Headed whole (seen_with_kind k x s w)
  unfolding seen_with_kind
  headed-kind no_kind g first b = false_true g.fields
  headed-kind table_head g first (here e o n) = record { whole = first e; opened = λ o. omega arith }
  headed-kind table_head g first (there h n) = absurd (n refl)
  headed-kind node g first b = record { whole = (head-before b (λ n. omega arith)).whole; opened = λ o. omega arith }
  headed-kind node_bound g first b = head-before b (λ n. omega arith)
  headed-kind value g first b = record { whole = (head-before b (λ n. omega arith)).whole; opened = λ o. omega arith }
  headed-kind blocked g first b = record { whole = (head-before b (λ n. omega arith)).whole; opened = λ o. omega arith }
  headed-kind successor g first b =
      let r = in_row x (with_number s w) in
      record { whole = r.whole ∙ (head-before b (λ n. omega arith)).whole; opened = λ o. omega (arith, r.opener) }
  headed-kind start_node g first b = record { whole = (head-before b (λ n. omega arith)).whole; opened = λ o. omega arith }
  headed-kind cut g first b = record { whole = (head-before b (λ n. omega arith)).whole; opened = λ o. omega arith }

  exists-kind : (k : TableKind) → Goes k → (table_number (seen_with_kind k x s w).opener) ≡ table_number node → (seen_with_kind k x s w).location < length M.locations
  unfolding seen_with_kind
  exists-kind no_kind g e = false_true g.fields
  exists-kind table_head g e = absurd (omega arith)
  exists-kind node g e = rw (← i.locations) (ltb-true (location_of w) x.locations (right_true (eqb (bits 23 0 w) 0) _ g.fields))
  exists-kind node_bound g e = a.exists e
  exists-kind value g e = absurd (omega arith)
  exists-kind blocked g e = absurd (omega arith)
  exists-kind successor g e = absurd (omega (arith, (in_row x (with_number s w)).opener))
  exists-kind start_node g e = absurd (omega arith)
  exists-kind cut g e = absurd (omega arith)

  -- no row is due where the next node or the start node may stand, nor before the first value
  not_yet : (n : ℕ) → (table_number s.opener) ≡ n → one_of? row_openers n ≡ false → s.rows ≡ 0
  not_yet n o e = by a.behind
    where
      by : (s.rows ≡ 0) ⊎ (one_of? row_openers (table_number s.opener) ≡ true) → s.rows ≡ 0
      by (inl e) = e
      by (inr b) = absurd (not-one row_openers (table_number s.opener) n b e o)

  at_head : Goes table_head → s.rows ≡ 0
  unfolding table_follows numbered?
  at_head g = not_yet (table_number no_kind) (behind-only table_head (table_number s.opener) g.follows no_kind tt) refl

  at_bound : Goes node_bound → s.rows ≡ 0
  unfolding numbered?
  at_bound g = not_yet (table_number node) (before-bound (table_number s.opener) g.follows) refl

  behind-kind : (k : TableKind) → Goes k → let n : Seen = seen_with_kind k x s w in (n.rows ≡ 0) ⊎ (one_of? row_openers (table_number n.opener) ≡ true)
  unfolding seen_with_kind numbered?
  behind-kind no_kind g = false_true g.fields
  behind-kind table_head g = inl (at_head g)
  behind-kind node g = inl (eqb-true s.rows 0 g.rows)
  behind-kind node_bound g = inl (at_bound g)
  behind-kind value g = inr refl
  behind-kind blocked g = inr refl
  behind-kind successor g = inr (ap (one_of? row_openers) (in_row x (with_number s w)).opener)
  behind-kind start_node g = inl (eqb-true s.rows 0 g.rows)
  behind-kind cut g = inr refl

  located : Goes value → LocationAt m s.location (location_at M s.location)
  located g = location-at i s.location (a.exists (before-value (table_number s.opener) g.follows))

  rows-kind : (k : TableKind) → Goes k → LeftDue m (due_with k M s.location (due M before)) (seen_with_kind k x s w)
  unfolding seen_with_kind due_with
  rows-kind no_kind g = false_true g.fields
  rows-kind table_head g = none_left refl (at_head g)
  rows-kind node g = none_left refl (eqb-true s.rows 0 g.rows)
  rows-kind node_bound g = none_left refl (at_bound g)
  rows-kind value g = left-value M m s (located g)
  rows-kind blocked g = left-row m (due M before) s blocked a.rows (left_true _ _ g.rows)
  rows-kind successor g = left-successor m (due M before) (with_number s w) (left-number m (due M before) s w a.rows) g.rows
  rows-kind start_node g = none_left refl (eqb-true s.rows 0 g.rows)
  rows-kind cut g = left_cut m (due M before) s

  target-kind : (k : TableKind) → Goes k → one_of? row_openers (table_number (seen_with_kind k x s w).opener) ≡ true →
      (seen_with_kind k x s w).target ≡ (due_with k M s.location (due M before)).target
  unfolding seen_with_kind due_with all_due due_after_row two_due table_follows numbered?
  target-kind no_kind g o = false_true g.fields
  target-kind table_head g o = false_true o
  target-kind node g o = false_true o
  target-kind node_bound g o = absurd (not-one row_openers (table_number s.opener) (table_number node) o refl (before-bound (table_number s.opener) g.follows))
  target-kind value g o = (located g).target
  target-kind blocked g o = a.target (behind blocked (table_number s.opener) g.follows row_openers tt)
  target-kind successor g o =
      (in_row x (with_number s w)).target ∙ a.target (behind successor (table_number s.opener) g.follows row_openers tt) ∙ sym (target-stays (due M before))
  target-kind start_node g o = false_true o
  target-kind cut g o = a.target (behind cut (table_number s.opener) g.follows row_openers tt)

  pub agrees_with : checked x s w ≡ Ok tt → Heads whole before w → Agrees M m whole (w ∷ before) (seen_with x s w)
  unfolding seen_with due
  agrees_with f first =
      let g = passes x s w f in
      let k : TableKind = table_kind_of w in
      record {
        tallies = tallies-kind k g;
        headed = inr (headed-kind k g first (begins M m whole before s a (table_number k) g.follows));
        exists = exists-kind k g;
        rows = rw (← a.tallies.location) (rows-kind k g);
        behind = behind-kind k g;
        target = λ o. rw (← a.tallies.location) (target-kind k g o);
      }
