-- Laws of the kinds of words, and of what may follow what. Assumes nothing.
use Prim.Native.Nat.{ℕ, ◌<◌}
use mathlib.Core.Path.{◌≡◌, refl, sym, ap, ◌∙◌}
use mathlib.Core.Logic.{◌≢◌}
use mathlib.Core.Bool.{Bool, true, false, not, cond, ◌&&◌, ◌||◌}
use mathlib.Core.List.{List, [], ◌∷◌}
use borrow.Author.Tests.{eqb-true, ltb-true, not-true}
use lib.Dec.{T, eqb, ltb, eqb→eq}
use lib.ListN.{get_or}
use native.Mathlib.Nat.{zero-add}
use denote.Enum.Bare.{sameb}
use Rattle.zone.specs.Words.{kind}
use Rattle.zone.proofs.Bools.{false_true, both, is_true, left_true, right_true}
use Rattle.model.specs.Kinds.{Kind, none, head, location, action, edge, bound, start, number, kinds, among, kind_of}
use Rattle.model.specs.contracts.kinds.Kind.{the_type}
use Rattle.model.specs.TableKinds.{table_number, table_kinds}
use Rattle.model.specs.Grammar.{follows, table_follows, numbered?, may_follow?, follows?, table_follows?}
use Rattle.model.specs.Openers.{openers, opener?, table_openers, table_opener?, edge_may_follow?}
use Rattle.std.proofs.lemmas.List.FromFn.{get_or-map-range_with_len}
use Rattle.model.specs.Follows.{follows_row, follows_rows}

-- a word with the number of a kind is of that kind
pub kind_is : (k : Kind) (w : ℕ) → kind w ≡ number k → kind_of w ≡ k
unfolding kind_of among
kind_is none w e = rw e
kind_is head w e = rw e
kind_is location w e = rw e
kind_is action w e = rw e
kind_is edge w e = rw e
kind_is bound w e = rw e
kind_is start w e = rw e

-- ---- what holds of none, and of each kind whose number a word has, holds of the word's kind
module _ {K : Type 0} (number_of : K → ℕ) (other : K) (P : K → Type 0) where
  choose : (b : Bool) (k r : K) → (b ≡ true → P k) → P r → P (cond b k r)
  choose true k r f p = f refl
  choose false k r f p = p

  pub by-among : (w : ℕ) (ks : List K) → P other → ((k : K) → kind w ≡ number_of k → P k) → P (among number_of other ks w)
  unfolding among
  by-among w [] n f = n
  by-among w (k ∷ ks) n f =
      choose (eqb (kind w) (number_of k)) k (among number_of other ks w) (λ e. f k (eqb-true (kind w) (number_of k) e)) (by-among w ks n f)

pub by_kind : (P : Kind → Type 0) (w : ℕ) → P none → ((k : Kind) → kind w ≡ number k → P k) → P (kind_of w)
unfolding kind_of
by_kind P w n f = by-among number none P w kinds n f

-- a word that has the number of none of the six kinds is of no kind
pub no_kind_lem :
    (w : ℕ) → kind w ≢ number head → kind w ≢ number location → kind w ≢ number action → kind w ≢ number edge → kind w ≢ number bound →
    kind w ≢ number start → kind_of w ≡ none
no_kind_lem w h l a e b s = by_kind (λ (k : Kind). k ≡ none) w refl other
  where
    other : (k : Kind) → kind w ≡ number k → k ≡ none
    other none q = refl
    other head q = absurd (h q)
    other location q = absurd (l q)
    other action q = absurd (a q)
    other edge q = absurd (e q)
    other bound q = absurd (b q)
    other start q = absurd (s q)

-- ---- two kinds are the same, as the code tests it, if their numbers are
pub same_edge : (k : Kind) → sameb the_type k edge ≡ eqb (number k) (number edge)
same_edge none = refl
same_edge head = refl
same_edge location = refl
same_edge action = refl
same_edge edge = refl
same_edge bound = refl
same_edge start = refl

pub same_start : (k : Kind) → sameb the_type k start ≡ eqb (number k) (number start)
same_start none = refl
same_start head = refl
same_start location = refl
same_start action = refl
same_start edge = refl
same_start bound = refl
same_start start = refl

-- ---- what may follow what

-- two truth values are the same
abbrev pub same? : Bool → Bool → Bool
same? true b = b
same? false b = not b

pub same : (a b : Bool) → same? a b ≡ true → a ≡ b
same true b t = sym t
same false b t = sym (not-true b t)

either : {X : Type 0} (a b : Bool) → (a ≡ true → X) → (b ≡ true → X) → (a || b) ≡ true → X
either true b f g h = f refl
either false b f g h = g h

-- a test of every kind in a list
abbrev pub each? : {K : Type 0} → (K → Bool) → List K → Bool
each? P [] = true
each? P (k ∷ ks) = P k && each? P ks

module _ {K : Type 0} (number_of : K → ℕ) where
  -- what holds of the number of a kind in a list, by a test that passes for each
  pub each-numbered : (P : ℕ → Bool) (ks : List K) (n : ℕ) → T (each? (λ k. P (number_of k)) ks) → numbered? number_of n ks ≡ true → T (P n)
  unfolding numbered?
  each-numbered P [] n t h = false_true h
  each-numbered P (k ∷ ks) n t h =
      let ts = both (P (number_of k)) (each? (λ k. P (number_of k)) ks) t in
      either (eqb n (number_of k)) (numbered? number_of n ks) (λ e. rw (eqb-true n (number_of k) e) ts.0) (each-numbered P ks n ts.1) h

  module _ (after : K → List K) where
    -- a test of a kind with each that may follow it
    abbrev pub row? : (ℕ → ℕ → Bool) → K → Bool
    row? P k = each? (λ j. P (number_of k) (number_of j)) (after k)

    -- what the table says of an opener o and a kind n, by a test that passes for each two kinds of which one may follow the other
    pub each_row : (P : ℕ → ℕ → Bool) (ks : List K) (o n : ℕ) → T (each? (row? P) ks) → may_follow? number_of after ks o n ≡ true → T (P o n)
    unfolding may_follow?
    each_row P [] o n t h = false_true h
    each_row P (k ∷ ks) o n t h =
        let ts = both (row? P k) (each? (row? P) ks) t in
        either (eqb o (number_of k) && numbered? number_of n (after k)) (may_follow? number_of after ks o n)
        (λ e.
        rw (eqb-true o (number_of k) (left_true _ _ e))
        (each-numbered (P (number_of k)) (after k) n ts.0 (right_true (eqb o (number_of k)) _ e)))
        (each_row P ks o n ts.1) h

table : (P : ℕ → ℕ → Bool) → T (each? (row? number follows P) kinds) → (o n : ℕ) → follows? o n ≡ true → T (P o n)
unfolding follows?
table P t o n h = each_row number follows P kinds o n t h

-- ---- one table for both files: behind an opener of one file, the other file allows nothing that this one does not
left-of : (a b : Bool) → (b ≡ true → a ≡ true) → (a || b) ≡ a
left-of true b h = refl
left-of false true h = sym (h refl)
left-of false false h = refl

right_of : (a b : Bool) → (a ≡ true → b ≡ true) → (a || b) ≡ b
right_of true b h = sym (h refl)
right_of false b h = refl

pub of_model : (o n : ℕ) → opener? o ≡ true → (follows? o n || table_follows? o n) ≡ follows? o n
unfolding follows table_follows numbered? may_follow? follows? table_follows?
of_model o n h = left-of (follows? o n) (table_follows? o n) too
  where
    allowed? : ℕ → ℕ → Bool
    allowed? o n = not (opener? o) || follows? o n

    too : table_follows? o n ≡ true → follows? o n ≡ true
    too t = rw h at (is_true (allowed? o n) (each_row table_number table_follows allowed? table_kinds o n tt t))

pub of_table : (o n : ℕ) → table_opener? o ≡ true → (follows? o n || table_follows? o n) ≡ table_follows? o n
unfolding follows table_follows numbered? may_follow? follows? table_follows?
of_table o n h = right_of (follows? o n) (table_follows? o n) too
  where
    allowed? : ℕ → ℕ → Bool
    allowed? o n = not (table_opener? o) || table_follows? o n

    too : follows? o n ≡ true → table_follows? o n ≡ true
    too t = rw h at (is_true (allowed? o n) (table allowed? tt o n t))

-- ---- the constant table: it has a row for each opener
pub opener_row : (o : ℕ) → opener? o ≡ true → o < 17
opener_row o h = ltb-true o 17 (is_true _ (each-numbered number (λ o. ltb o 17) openers o tt h))

pub table_opener_row : (o : ℕ) → table_opener? o ≡ true → o < 17
table_opener_row o h = ltb-true o 17 (is_true _ (each-numbered table_number (λ o. ltb o 17) table_openers o tt h))

-- and in it an entry for each kind
pub looked-up : (o n : ℕ) → o < 17 → n < 16 → get_or (get_or follows_rows o []) n false ≡ (follows? o n || table_follows? o n)
looked-up o n h k =
    ap (λ (row : List Bool). get_or row n false) (get_or-map-range_with_len follows_row 0 17 o o [] h (zero-add o))
    ∙ get_or-map-range_with_len (λ (n : ℕ). follows? o n || table_follows? o n) 0 16 n n false k (zero-add n)

-- a head stands first, and nothing else does
pub head_first : (o n : ℕ) → follows? o n ≡ true → eqb o (number none) ≡ eqb n (number head)
unfolding follows
head_first o n h =
    same (eqb o (number none)) (eqb n (number head)) (is_true _ (table (λ o n. same? (eqb o (number none)) (eqb n (number head))) tt o n h))

-- behind what an edge follows, an edge may follow
pub before-edge : (o : ℕ) → follows? o (number edge) ≡ true → edge_may_follow? o ≡ true
unfolding follows numbered?
before-edge o h = is_true _ (table (λ o n. not (eqb n (number edge)) || edge_may_follow? o) tt o (number edge) h)

-- behind an action come its bounds and edges alone, so another word where an edge may follow stands behind an edge
pub behind-edges : (o n : ℕ) → follows? o n ≡ true → edge_may_follow? o ≡ true → eqb n (number edge) ≡ false → eqb n (number bound) ≡ false →
    o ≡ number edge
unfolding follows numbered?
behind-edges o n h m e b = eqb-true o (number edge) (rw (m, e, b) at (is_true (last? o n) (table last? tt o n h)))
  where
    last? : ℕ → ℕ → Bool
    last? o n = not (edge_may_follow? o) || eqb n (number edge) || eqb n (number bound) || eqb o (number edge)

-- a bound follows no edge
pub before-bound : (o : ℕ) → follows? o (number bound) ≡ true → o ≢ number edge
unfolding follows
before-bound o h e = rw e at (table (λ o n. not (eqb n (number bound)) || not (eqb o (number edge))) tt o (number bound) h)

-- only a bound follows the start
pub after-start : (n : ℕ) → follows? (number start) n ≡ true → n ≡ number bound
unfolding follows
after-start n h = eqb→eq n (number bound) (table (λ o n. not (eqb o (number start)) || eqb n (number bound)) tt (number start) n h)
