-- The words of a draft pass the checks 11 to 14. Assumes nothing.
use Prim.Native.Nat.{ℕ, suc, ◌+◌, ◌*◌, ◌^◌, ◌≤◌, ◌<◌}
use mathlib.Core.Path.{◌≡◌, refl, sym, ap, subst, ◌∙◌}
use mathlib.Core.Bool.{Bool, true, false, not, cond, ◌||◌}
use mathlib.Core.List.{List, [], ◌∷◌, ◌++◌, map, append_assoc}
use native.Mathlib.Nat as N
use native.Mathlib.Omega.{arith}
use borrow.Author.Tests.{eq-eqb, ne_eqb, lt-ltb}
use lib.Dec.{T, eqb, ltb, le→leb, lt→ltb}
use lib.ListN.{length}
use Rattle.zone.specs.Scale.{Zone}
use Rattle.zone.specs.Words.{bits, kind, bound_fields?, good_bound?}
use Rattle.zone.proofs.Bools.{and, right_true}
use Rattle.answers.proofs.CheckLaws.{AllHold, all_join}
use Rattle.model.specs.declared.table_kinds.TableKind.{TableKind}
use Rattle.model.specs.declared.table_kinds.TableKind.TheVariants.{Head as table_head, Node as node, Bound as node_bound, Value as value, Blocked as blocked, Successor as successor, StartNode as start_node}
use Rattle.model.specs.TableKinds.{table_number, is_table, table_kind_of}
use Rattle.model.specs.Before.{opener_from, count_of}
use Rattle.model.specs.Grammar.{table_follows, numbered?, may_follow?, table_follows?}
use Rattle.model.specs.Model.{Action, Model}
use Rattle.model.specs.States.{location_at}
use Rattle.table.specs.Fields.{location_of, number_of, fields?}
use Rattle.table.specs.Table.{row_actions, Table, table_of}
use Rattle.table.specs.Reading.{last_location, Due, none_due, edge_counts, all_due, due_after_row, due_after_successor, due_with, due}
use Rattle.table.specs.Reading.{none?, rows_allow?, limit?, word_checks, words_checks, number_checks, read_checks}
use Rattle.model.proofs.TableKindLaws.{kind-is}
use Rattle.table.proofs.ReadLaws.{opener_with, location_with, opener_with_lem, location_with_lem, due_with_lem, counted}
use Rattle.drafting.specs.Exploring.{Found, FoundRow, to_nodes}
use Rattle.drafting.specs.Exploring as exploring
use Rattle.drafting.specs.Words.{whole, word, bound_word, front_words, row_words, rows_words, node_words, nodes_words, words_of}
use Rattle.drafting.proofs.WordBack.{AllFit, bound-kind, bound-good}
use Rattle.drafting.proofs.WordBack.{node-kind, node-fields, value-kind, value-fields, successor-kind, successor-fields}
use Rattle.drafting.proofs.ReadBack.{Numbers, RowsWritable, NodeFit, NodesFit, nodes-count, EachWord, each-join, Inner, nodes-each, table-back}

-- truth of a test
T_of : (b : Bool) → b ≡ true → T b
T_of b e = subst T (sym e) tt

-- the rows that are due, each by the number of its B words; so many stand in the first
abbrev rows_due : Bool → List ℕ → ℕ → Due
rows_due t ns begun = record { rows = ns; begun = begun; target = t }

-- behind these words the opener is o, the last node has the location l, the rows d are due, and c nodes stand
record At (M : Model) (before : List ℕ) (o l : ℕ) (d : Due) (c : ℕ) : Type 0 where
  opener : opener_from 16 before ≡ o
  location : last_location before ≡ l
  due : due M before ≡ d
  count : count_of 8 before ≡ c

module _ (M : Model) where
  -- the checks of the words ws hold behind those before
  abbrev Holds : List ℕ → List ℕ → Type 0
  Holds before ws = AllHold (words_checks M whole before ws)

  -- a word of a kind that may stand here
  module _ {before : List ℕ} {o l : ℕ} {d : Due} {c : ℕ} (at : At M before o l d c) (w : ℕ) (k : TableKind) (named : kind w ≡ table_number k) where
    at_with : At M (w ∷ before) (opener_with k o) (location_with k w l) (due_with k M l d) (cond (eqb (table_number k) 8) 1 0 + c)
    unfolding count_of
    at_with = record {
      opener = opener_with_lem before w k named ∙ ap (opener_with k) at.opener;
      location = location_with_lem before w k named ∙ ap (location_with k w) at.location;
      due = due_with_lem M before w k named ∙ rw (at.location, at.due);
      count = rw (named, at.count);
    }

    pass : (ws : List ℕ) → table_follows? o (table_number k) ≡ true → T (rows_allow? k d) →
        T (fields? k M.clocks (length M.locations) whole w) → T (limit? k c) → Holds (w ∷ before) ws → Holds before (w ∷ ws)
    unfolding words_checks word_checks
    pass ws f r g i rest = (
      and (table_follows? (opener_from 16 before) (kind w)) (rows_allow? (table_kind_of w) (due M before))
          (rw (at.opener, named) (T_of (table_follows? o (table_number k)) f)) (rw (kind-is k w named, at.due) r),
      (rw (kind-is k w named) g, (rw (kind-is k w named, at.count) i, rest)),
    )

  -- what may follow a value or a row's word
  record RowOpener (o : ℕ) : Type 0 where
    node : table_follows? o 8 ≡ true
    blocked : table_follows? o 10 ≡ true
    successor : table_follows? o 11 ≡ true
    start : table_follows? o 12 ≡ true

  opens-value : RowOpener 9
  unfolding table_follows? may_follow? numbered? table_follows
  opens-value = record { node = refl; blocked = refl; successor = refl; start = refl }

  opens-blocked : RowOpener 10
  unfolding table_follows? may_follow? numbered? table_follows
  opens-blocked = record { node = refl; blocked = refl; successor = refl; start = refl }

  opens-successor : RowOpener 11
  unfolding table_follows? may_follow? numbered? table_follows
  opens-successor = record { node = refl; blocked = refl; successor = refl; start = refl }

  follows-head : (table_follows? 16 7 ≡ true) × (table_follows? 7 8 ≡ true) × (table_follows? 8 5 ≡ true) × (table_follows? 8 9 ≡ true)
  unfolding table_follows? may_follow? numbered? table_follows
  follows-head = (refl, refl, refl, refl)

  -- ---- the bounds of a node
  module _ (clocks : M.clocks ≤ 4) where
    bounds-pass : (Z : Zone) → AllFit M.clocks Z → (rest : List ℕ) {l c : ℕ} (before : List ℕ) → At M before 8 l none_due c →
        ((after : List ℕ) → At M after 8 l none_due c → Holds after rest) → Holds before (map bound_word Z ++ rest)
    unfolding good_bound? rows_allow? due_with
    bounds-pass [] h rest before at go = go before at
    bounds-pass (b ∷ Z) h rest {l} {c} before at go =
        pass at (bound_word b) node_bound (bound-kind M.clocks clocks b h.0) (map bound_word Z ++ rest) follows-head.2 tt
        (good M.clocks (bound_word b) (bound-good M.clocks clocks b h.0)) tt
        (bounds-pass Z h.1 rest (bound_word b ∷ before) (next (at_with at (bound_word b) node_bound (bound-kind M.clocks clocks b h.0))) go)
      where
        good : (C w : ℕ) → good_bound? C w ≡ true → T (fields? node_bound C (length M.locations) whole w)
        good C w e = T_of (bound_fields? C w) (right_true (eqb (kind w) 5) (bound_fields? C w) e)

        next : At M (bound_word b ∷ before) 8 l none_due (0 + c) → At M (bound_word b ∷ before) 8 l none_due c
        next a = subst (At M (bound_word b ∷ before) 8 l none_due) (N.zero-add c) a

  -- ---- the rows of a node; so many nodes are numbered
  module _ (count : ℕ) (few : count ≤ 64) where
    kind-of : (n : ℕ) → n < count → kind (word 11 n) ≡ 11
    kind-of n h = successor-kind n (N.lt_of_lt_of_le h few)

    number-fields : (n : ℕ) → n < count → T (eqb (bits 27 6 (word 11 n)) 0)
    number-fields n h = T_of _ (eq-eqb (bits 27 6 (word 11 n)) 0 (successor-fields n (N.lt_of_lt_of_le h few)).1)

    -- the B words that a row lacks, b of them being there
    numbers-pass : (ns : List ℕ) → Numbers count ns → 1 ≤ length ns → (rest : List ℕ) {o l c : ℕ} {t : Bool} (before : List ℕ) (b m : ℕ)
        (ms : List ℕ) →
        b + length ns ≡ m → RowOpener o → At M before o l (rows_due t (m ∷ ms) b) c →
        ((after : List ℕ) → At M after 11 l (rows_due t ms 0) c → Holds after rest) → Holds before (map (word 11) ns ++ rest)
    unfolding rows_allow? due_with due_after_successor due_after_row
    numbers-pass [] h some rest before b m ms e op at go = absurd (N.not-suc-le-zero some)
    numbers-pass (n ∷ []) h some rest {o} {l} {c} {t} before b m ms e op at go =
        pass at (word 11 n) successor (kind-of n h.0) rest op.successor tt (number-fields n h.0) tt
        (go (word 11 n ∷ before) (next (at_with at (word 11 n) successor (kind-of n h.0))))
      where
        last : eqb (suc b) m ≡ true
        last = eq-eqb (suc b) m (omega arith)

        next : At M (word 11 n ∷ before) 11 l (cond (eqb (suc b) m) (rows_due t ms 0) (rows_due t (m ∷ ms) (suc b))) (0 + c) →
            At M (word 11 n ∷ before) 11 l (rows_due t ms 0) c
        next a = rw (last, N.zero-add c) at a
    numbers-pass (n ∷ n' ∷ ns) h some rest {o} {l} {c} {t} before b m ms e op at go =
        pass at (word 11 n) successor (kind-of n h.0) (map (word 11) (n' ∷ ns) ++ rest) op.successor tt (number-fields n h.0) tt
        (numbers-pass (n' ∷ ns) h.1 (omega arith) rest (word 11 n ∷ before) (suc b) m ms (omega arith) opens-successor
        (next (at_with at (word 11 n) successor (kind-of n h.0))) go)
      where
        more : eqb (suc b) m ≡ false
        more = ne_eqb (suc b) m (λ q. omega arith)

        next : At M (word 11 n ∷ before) 11 l (cond (eqb (suc b) m) (rows_due t ms 0) (rows_due t (m ∷ ms) (suc b))) (0 + c) →
            At M (word 11 n ∷ before) 11 l (rows_due t (m ∷ ms) (suc b)) c
        next a = rw (more, N.zero-add c) at a

    rows_pass : (As : List Action) (rs : List FoundRow) → RowsWritable count As rs → (rest : List ℕ) {o l c : ℕ} {t : Bool} (before : List ℕ) →
        RowOpener o → At M before o l (rows_due t (edge_counts As) 0) c →
        ((after : List ℕ) (o' : ℕ) → RowOpener o' → At M after o' l (rows_due t [] 0) c → Holds after rest) →
        Holds before (rows_words rs ++ rest)
    unfolding rows_words row_words edge_counts rows_allow? due_with due_after_row
    rows_pass [] [] h rest {o} before op at go = go before o op at
    rows_pass [] (r ∷ rs) h rest before op at go = absurd h
    rows_pass (A ∷ As) [] h rest before op at go = absurd h
    rows_pass (A ∷ As) (exploring.blocked ∷ rs) h rest {o} {l} {c} {t} before op at go =
        pass at (word 10 0) blocked refl (rows_words rs ++ rest) op.blocked tt tt tt
        (rows_pass As rs h.1 rest (word 10 0 ∷ before) opens-blocked (next (at_with at (word 10 0) blocked refl)) go)
      where
        next : At M (word 10 0 ∷ before) 10 l (rows_due t (edge_counts As) 0) (0 + c) →
            At M (word 10 0 ∷ before) 10 l (rows_due t (edge_counts As) 0) c
        next a = rw (N.zero-add c) at a
    rows_pass (A ∷ As) (to_nodes ns ∷ rs) h rest before op at go =
        subst (Holds before) (sym (append_assoc (map (word 11) ns) (rows_words rs) rest))
        (numbers-pass ns h.0.2 h.0.0 (rows_words rs ++ rest) before 0 (length A.edges) (edge_counts As)
        (N.zero-add (length ns) ∙ h.0.1) op at
        (λ after a. rows_pass As rs h.1 rest after opens-successor a go))

    -- ---- a node
    module _ (clocks : M.clocks ≤ 4) (locations : length M.locations ≤ 16) where
      node-pass : (F : Found) (v : ℕ) (rs : List FoundRow) → NodeFit M count F v rs → (rest : List ℕ) {o l c : ℕ} {d : Due} (before : List ℕ) →
          table_follows? o 8 ≡ true → T (none? d.rows) → c < 64 → At M before o l d c →
          ((after : List ℕ) (o' : ℕ) → RowOpener o' → At M after o' F.location (rows_due (location_at M F.location).target [] 0) (suc c) →
          Holds after rest) →
          Holds before (node_words F v rs ++ rest)
      unfolding node_words front_words rows_allow? due_with all_due
      node-pass F v rs h rest {o} {l} {c} {d} before f none less at go =
          pass at w₈ node k₈ _ f none
          (and (eqb (bits 23 0 w₈) 0) (ltb (location_of w₈) (length M.locations)) (T_of _ (eq-eqb _ 0 fields₈.1))
          (lt→ltb _ _ (subst (λ x. x < length M.locations) (sym fields₈.0) h.location)))
          (lt→ltb c 64 less)
          (subst (Holds (w₈ ∷ before)) (sym (append_assoc (map bound_word F.zone) (word 9 v ∷ rows_words rs) rest))
          (bounds-pass clocks F.zone h.zone (word 9 v ∷ (rows_words rs ++ rest)) (w₈ ∷ before) (next (at_with at w₈ node k₈))
          (λ after a. pass a (word 9 v) value k₉ (rows_words rs ++ rest) follows-head.3 tt
          (le→leb _ whole (subst (λ x. x ≤ whole) (sym (value-fields v h.value)) h.value)) tt
          (rows_pass (row_actions (location_at M F.location)) rs h.rows rest (word 9 v ∷ after) opens-value
          (rw (N.zero-add (suc c)) at (at_with a (word 9 v) value k₉)) go))))
        where
          w₈ : ℕ
          w₈ = word 8 (F.location * 2 ^ 24)

          inside : F.location < 16
          inside = N.lt_of_lt_of_le h.location locations

          k₈ : kind w₈ ≡ 8
          k₈ = node-kind F.location inside

          k₉ : kind (word 9 v) ≡ 9
          k₉ = value-kind v h.value

          fields₈ : (location_of w₈ ≡ F.location) × (bits 23 0 w₈ ≡ 0)
          fields₈ = node-fields F.location inside

          next : At M (w₈ ∷ before) 8 (location_of w₈) none_due (1 + c) → At M (w₈ ∷ before) 8 F.location none_due (suc c)
          next a = rw (fields₈.0, N.suc-add 0 c, N.zero-add c) at a

      nodes-pass : (Fs : List Found) (vs : List ℕ) (rows : List (List FoundRow)) → NodesFit M count Fs vs rows → (rest : List ℕ)
          {o l c : ℕ} {t : Bool} (before : List ℕ) → RowOpener o → c + length Fs ≤ 64 → At M before o l (rows_due t [] 0) c →
          ((after : List ℕ) (o' l' c' : ℕ) (t' : Bool) → RowOpener o' → At M after o' l' (rows_due t' [] 0) c' → Holds after rest) →
          Holds before (nodes_words Fs vs rows ++ rest)
      unfolding nodes_words
      nodes-pass [] [] [] h rest {o} {l} {c} {t} before op less at go = go before o l c t op at
      nodes-pass [] [] (rs ∷ rows) h rest before op less at go = absurd h
      nodes-pass [] (v ∷ vs) rows h rest before op less at go = absurd h
      nodes-pass (F ∷ Fs) [] rows h rest before op less at go = absurd h
      nodes-pass (F ∷ Fs) (v ∷ vs) [] h rest before op less at go = absurd h
      nodes-pass (F ∷ Fs) (v ∷ vs) (rs ∷ rows) h rest {o} {l} {c} before op less at go =
          subst (Holds before) (sym (append_assoc (node_words F v rs) (nodes_words Fs vs rows) rest))
          (node-pass F v rs h.0 (nodes_words Fs vs rows ++ rest) before op.node tt (omega arith) at
          (λ after o' op' a. nodes-pass Fs vs rows h.1 rest after op' (omega arith) a go))

      -- all words: 7, one node or more, C
      words-pass : (F : Found) (Fs : List Found) (v : ℕ) (vs : List ℕ) (rs : List FoundRow) (rows : List (List FoundRow)) →
          NodesFit M count (F ∷ Fs) (v ∷ vs) (rs ∷ rows) → suc (length Fs) ≤ 64 → Holds [] (words_of (F ∷ Fs) (v ∷ vs) (rs ∷ rows))
      unfolding words_of nodes_words rows_allow? due_with words_checks opener_from last_location due count_of
      words-pass F Fs v vs rs rows h less =
          pass first (word 7 whole) table_head refl (nodes_words (F ∷ Fs) (v ∷ vs) (rs ∷ rows) ++ (word 12 0 ∷ [])) follows-head.0 tt tt tt
          (subst (Holds (word 7 whole ∷ [])) (sym (append_assoc (node_words F v rs) (nodes_words Fs vs rows) (word 12 0 ∷ [])))
          (node-pass F v rs h.0 (nodes_words Fs vs rows ++ (word 12 0 ∷ [])) (word 7 whole ∷ []) follows-head.1 tt (omega arith)
          (at_with first (word 7 whole) table_head refl)
          (λ after o op a. nodes-pass Fs vs rows h.1 (word 12 0 ∷ []) after op (omega arith) a
          (λ after o l c t op a. pass a (word 12 0) start_node refl [] op.start tt tt tt
          (T_of _ (eq-eqb _ 12 (at_with a (word 12 0) start_node refl).opener), tt)))))
        where
          first : At M [] 16 0 none_due 0
          first = record { opener = refl; location = refl; due = refl; count = refl }

-- ---- the numbers of nodes
abbrev Named : ℕ → ℕ → Type 0
Named count w = T (not (is_table successor w || is_table start_node w) || ltb (number_of w) count)

numbers_checks : (count p : ℕ) (ws : List ℕ) → EachWord (Named count) ws → AllHold (number_checks count p ws)
unfolding number_checks
numbers_checks count p [] h = tt
numbers_checks count p (w ∷ ws) h = (h.0, numbers_checks count (suc p) ws h.1)

-- a word that names no node
no_name : (count w k : ℕ) → kind w ≡ k → eqb k 11 ≡ false → eqb k 12 ≡ false → Named count w
no_name count w k e f g = rw (e, f, g) tt

named : (count : ℕ) → count ≤ 64 → Inner (Named count) count
named count few = record {
  bound = λ w e. no_name count w 5 e refl refl;
  value = λ w e. no_name count w 9 e refl refl;
  blocked = tt;
  successor = λ n h.
      let small : n < 64 = N.lt_of_lt_of_le h few in
      rw (successor-kind n small, (successor-fields n small).0, lt-ltb n count h) tt;
}

-- the words of a draft pass the checks 11 to 14
pub draft-passes : (M : Model) → M.clocks ≤ 4 → length M.locations ≤ 16 →
    (F : Found) (Fs : List Found) (v : ℕ) (vs : List ℕ) (rs : List FoundRow) (rows : List (List FoundRow)) → suc (length Fs) ≤ 64 →
    NodesFit M (suc (length Fs)) (F ∷ Fs) (v ∷ vs) (rs ∷ rows) → AllHold (read_checks M (words_of (F ∷ Fs) (v ∷ vs) (rs ∷ rows)))
unfolding read_checks words_of table_of
draft-passes M clocks locations F Fs v vs rs rows few h =
    all_join (words_checks M whole [] words) (number_checks (count_of 8 words) 0 words)
    (words-pass M (suc (length Fs)) few clocks locations F Fs v vs rs rows h few)
    (subst (λ (n : ℕ). AllHold (number_checks n 0 words)) (sym counts)
    (numbers_checks (suc (length Fs)) 0 words (
      tt,
      each-join _ (nodes_words (F ∷ Fs) (v ∷ vs) (rs ∷ rows)) (word 12 0 ∷ [])
          (nodes-each _ (suc (length Fs)) (named (suc (length Fs)) few) M clocks (λ w e. no_name _ w 8 e refl refl) locations (F ∷ Fs) (v ∷ vs)
          (rs ∷ rows) h) (start, tt),
    )))
  where
    words : List ℕ
    words = words_of (F ∷ Fs) (v ∷ vs) (rs ∷ rows)

    start : T (ltb 0 (suc (length Fs)))
    start = lt→ltb 0 (suc (length Fs)) (omega arith)

    counts : count_of 8 words ≡ suc (length Fs)
    counts =
        sym (counted M 0 words)
        ∙ ap (λ (W : Table). length W.nodes) (table-back (suc (length Fs)) few M clocks locations (F ∷ Fs) (v ∷ vs) (rs ∷ rows) h)
        ∙ nodes-count M (suc (length Fs)) 1 (F ∷ Fs) (v ∷ vs) (rs ∷ rows) h
