-- A word that fails no check, and what may stand before it. Assumes nothing.
use Prim.Native.Nat.{ℕ, ◌≤◌, ◌<◌}
use mathlib.Core.Path.{◌≡◌, refl, sym, ap, subst, ◌∙◌}
use mathlib.Core.Logic.{◌≢◌}
use mathlib.Core.Bool.{Bool, true, false, not, cond, ◌&&◌, ◌||◌}
use mathlib.Core.List.{List}
use Rattle.std.proofs.Common.{Result, Ok, Err}
use Rattle.answers.specs.declared.Reason.{Reason}
use Rattle.answers.specs.declared.Reason.TheVariants as reason
use native.Mathlib.Omega.{arith}
use borrow.Author.Tests.{eq-eqb}
use lib.Dec.{T, eqb, eqb→eq}
use Rattle.zone.specs.Words.{kind, bound_of, bound_fields?, good_bound?}
use Rattle.zone.proofs.Bools.{false_true, is_true, left_true, right_true}
use Rattle.zone.proofs.WordLaws.{good-first, good-second}
use Rattle.model.specs.declared.table_kinds.TableKind.{TableKind}
use Rattle.model.specs.declared.table_kinds.TableKind.TheVariants.{None as no_kind, Head as table_head, Node as node, Bound as node_bound, Value as value}
use Rattle.model.specs.TableKinds.{table_number, table_kinds, table_kind_of}
use Rattle.model.specs.Grammar.{table_follows, table_follows?}
use Rattle.model.specs.declared.index.Index.{Index}
use Rattle.model.proofs.KindLaws.{same?, same}
use Rattle.model.proofs.KindLaws.{each?, row?, each_row}
use Rattle.table.specs.Fields.{fields?}
use Rattle.table.specs.Reading.{limit?}
use Rattle.table.specs.Scan.{rows_allow_kind?, rows_allow_at?, fields_at?, limit_at?, checked, one_of?}
use Rattle.table.specs.declared.seen.Seen.{Seen}
use Rattle.model.proofs.TableKindLaws.{kind-is, by_kind}

-- three tests in their order
abbrev pub first_refused : Bool → Bool → Bool → Result (Unit {0}) Reason
first_refused a b c = cond a (cond b (cond c (Ok tt) (Err reason.OverTableLimit)) (Err reason.BadTableField)) (Err reason.BadTableKind)

pub all_pass : (a b c : Bool) → first_refused a b c ≡ Ok tt → (a ≡ true) × (b ≡ true) × (c ≡ true)
all_pass true true true h = (refl, refl, refl)
all_pass true true false h = absurd cc
all_pass true false c h = absurd cc
all_pass false b c h = absurd cc

-- the word w, of the kind k, passes the checks behind words that come to s
pub record Passes (k : TableKind) (x : Index) (s : Seen) (w : ℕ) : Type 0 where
  pub named : kind w ≡ table_number k
  pub follows : table_follows? (table_number s.opener) (table_number k) ≡ true
  pub rows : rows_allow_kind? k s ≡ true
  pub fields : fields? k x.clocks x.locations s.whole w ≡ true
  pub limit : limit? k s.nodes ≡ true

pub passes : (x : Index) (s : Seen) (w : ℕ) → checked x s w ≡ Ok tt → Passes (table_kind_of w) x s w
unfolding checked
passes x s w h =
    let follows : Bool = table_follows? (table_number s.opener) (kind w) in
    let all = all_pass (follows && rows_allow_at? s w) (fields_at? x s w) (limit_at? s w) h in
    let named : kind w ≡ table_number (table_kind_of w) =
    by_kind (λ (k : TableKind). fields? k x.clocks x.locations s.whole w ≡ true → kind w ≡ table_number k) w
    (λ e. false_true e) (λ k n e. n) all.1 in
    record {
      named = named;
      follows = rw (← named) (left_true _ _ all.0);
      rows = right_true follows _ all.0;
      fields = all.1;
      limit = all.2;
    }

pub passes_as : (k : TableKind) (x : Index) (s : Seen) (w : ℕ) → table_kind_of w ≡ k → checked x s w ≡ Ok tt → Passes k x s w
passes_as k x s w e h = subst (λ (k : TableKind). Passes k x s w) e (passes x s w h)

-- the clocks of a bound
pub bound-clocks : (x : Index) (s : Seen) (w : ℕ) → x.clocks ≤ 4 → Passes node_bound x s w → ((bound_of w).i < 5) × ((bound_of w).j < 5)
unfolding good_bound?
bound-clocks x s w clocks g =
    let good : good_bound? x.clocks w ≡ true = rw (eq-eqb _ _ g.named) g.fields in
    let i = good-first x.clocks w good in
    let j = good-second x.clocks w good in
    (omega arith, omega arith)

-- a bound that may stand behind the opener and has good fields passes: no row asks for it, and it has no limit
pub bound_passes : (x : Index) (s : Seen) (w : ℕ) → kind w ≡ table_number node_bound → table_follows? (table_number s.opener) (kind w) ≡ true →
    bound_fields? x.clocks w ≡ true → checked x s w ≡ Ok tt
unfolding checked
bound_passes x s w e f g = rw (f, kind-is node_bound w e, g) refl

-- ---- what may follow what

pub table : (P : ℕ → ℕ → Bool) → T (each? (row? table_number table_follows P) table_kinds) → (o n : ℕ) → table_follows? o n ≡ true → T (P o n)
unfolding table_follows?
table P t o n h = each_row table_number table_follows P table_kinds o n t h

-- a kind stands behind these alone, or behind one alone
module _ (k : TableKind) (o : ℕ) (h : table_follows? o (table_number k) ≡ true) where
  pub behind :
      (ks : List TableKind) → T (each? (row? table_number table_follows (λ o n. not (eqb n (table_number k)) || one_of? ks o)) table_kinds) →
      one_of? ks o ≡ true
  behind ks t =
      let s : T (not (eqb (table_number k) (table_number k)) || one_of? ks o) =
      table (λ o n. not (eqb n (table_number k)) || one_of? ks o) t o (table_number k) h in
      is_true (one_of? ks o) (rw (eq-eqb (table_number k) (table_number k) refl) at s)

  pub behind-only :
      (j : TableKind) → T (each? (row? table_number table_follows (λ o n. not (eqb n (table_number k)) || eqb o (table_number j))) table_kinds) →
      o ≡ table_number j
  behind-only j t =
      let s : T (not (eqb (table_number k) (table_number k)) || eqb o (table_number j)) =
      table (λ o n. not (eqb n (table_number k)) || eqb o (table_number j)) t o (table_number k) h in
      eqb→eq o (table_number j) (rw (eq-eqb (table_number k) (table_number k) refl) at s)

-- the number of one of some kinds is not a number of none of them
pub not-one : (ks : List TableKind) (o n : ℕ) → one_of? ks o ≡ true → one_of? ks n ≡ false → o ≢ n
not-one ks o n h e q = false_true (sym e ∙ ap (one_of? ks) (sym q) ∙ h)

-- a head stands first, and nothing else does
pub head_first : (o n : ℕ) → table_follows? o n ≡ true → eqb o (table_number no_kind) ≡ eqb n (table_number table_head)
unfolding table_follows
head_first o n h =
    same (eqb o (table_number no_kind)) (eqb n (table_number table_head))
    (is_true _ (table (λ o n. same? (eqb o (table_number no_kind)) (eqb n (table_number table_head))) tt o n h))

-- bounds and the value stand behind a node's word
pub before-bound : (o : ℕ) → table_follows? o (table_number node_bound) ≡ true → o ≡ table_number node
unfolding table_follows
before-bound o h = behind-only node_bound o h node tt

pub before-value : (o : ℕ) → table_follows? o (table_number value) ≡ true → o ≡ table_number node
unfolding table_follows
before-value o h = behind-only value o h node tt
