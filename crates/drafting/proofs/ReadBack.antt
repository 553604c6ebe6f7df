-- The words of a draft hold the table that was drafted. Assumes nothing.
use Prim.Native.Nat.{ℕ, suc, ◌+◌, ◌*◌, ◌^◌, ◌≤◌, ◌<◌}
use mathlib.Core.Path.{◌≡◌, refl, sym, ap, ap₂, ◌∙◌}
use mathlib.Core.Bool.{false}
use mathlib.Core.List.{List, [], ◌∷◌, ◌++◌, map, append_assoc}
use native.Mathlib.Nat as N
use native.Mathlib.Omega.{arith}
use borrow.Author.Tests.{eq-eqb}
use lib.Dec.{eqb}
use lib.ListN.{get_or, length, drop, length-map}
use lib.Seq.{drop-append_seam, drop_at, get_or-append_seam}
use Rattle.zone.specs.Scale.{Zone}
use Rattle.zone.specs.Words.{kind}
use Rattle.model.specs.declared.table_kinds.TableKind.{TableKind}
use Rattle.model.specs.declared.table_kinds.TableKind.TheVariants.{Node as node, Bound as node_bound, StartNode as start_node, Cut as cut}
use Rattle.model.specs.TableKinds.{table_number, is_table}
use Rattle.model.specs.Before.{index_of}
use Rattle.model.specs.Model.{Action, Location, Model}
use Rattle.model.specs.States.{location_at}
use Rattle.table.specs.Fields.{whole_of, location_of, value_of, number_of}
use Rattle.table.specs.Table.{Successor, Row, blocked_row, successor_row, Body, rows_body, Node, Table}
use Rattle.table.specs.Table.{successors_of, rows_of, leading_bounds, row_actions, body_of, node_of, nodes_of, table_of}
use Rattle.drafting.specs.Exploring.{Found, FoundRow, blocked, to_nodes}
use Rattle.drafting.specs.Words.{whole, word, bound_word, front_words, row_words, rows_words, node_words, nodes_words, words_of}
use Rattle.drafting.proofs.WordBack.{AllFit, bound-kind, zone-back}
use Rattle.drafting.proofs.WordBack.{node-kind, node-fields, value-kind, value-fields, successor-kind, successor-fields}

-- ---- the table that was drafted, with the places of its words

abbrev pub successors_at : ℕ → List ℕ → List Successor
successors_at p [] = []
successors_at p (n ∷ ns) = record { node = n; place = p } ∷ successors_at (suc p) ns

abbrev pub rows_at : ℕ → List FoundRow → List Row
rows_at p [] = []
rows_at p (blocked ∷ rs) = blocked_row p ∷ rows_at (suc p) rs
rows_at p (to_nodes ns ∷ rs) = successor_row p (successors_at p ns) ∷ rows_at (p + length ns) rs

abbrev pub node_at_place : ℕ → Found → ℕ → List FoundRow → Node
node_at_place p F v rs =
    record {
      location = F.location;
      zone = F.zone;
      value = v;
      place = suc p + length F.zone;
      body = rows_body (rows_at (suc (suc p + length F.zone)) rs);
    }

abbrev pub nodes_at : ℕ → List Found → List ℕ → List (List FoundRow) → List Node
nodes_at p [] vs rows = []
nodes_at p (F ∷ Fs) [] rows = []
nodes_at p (F ∷ Fs) (v ∷ vs) [] = []
nodes_at p (F ∷ Fs) (v ∷ vs) (rs ∷ rows) = node_at_place p F v rs ∷ nodes_at (p + length (node_words F v rs)) Fs vs rows

-- ---- what words can hold: a row for each action, numbers of nodes, bounds and values in their ranges

-- numbers of nodes, of which there are so many
abbrev pub Numbers : ℕ → List ℕ → Type 0
Numbers count [] = Unit {0}
Numbers count (n ∷ ns) = (n < count) × Numbers count ns

abbrev pub RowWritable : ℕ → Action → FoundRow → Type 0
RowWritable count A blocked = Unit {0}
RowWritable count A (to_nodes ns) = (1 ≤ length ns) × (length ns ≡ length A.edges) × Numbers count ns

abbrev pub RowsWritable : ℕ → List Action → List FoundRow → Type 0
RowsWritable count [] [] = Unit {0}
RowsWritable count [] (r ∷ rs) = ⊥
RowsWritable count (A ∷ As) [] = ⊥
RowsWritable count (A ∷ As) (r ∷ rs) = RowWritable count A r × RowsWritable count As rs

pub record NodeFit (M : Model) (count : ℕ) (F : Found) (v : ℕ) (rs : List FoundRow) : Type 0 where
  pub location : F.location < length M.locations
  pub zone : AllFit M.clocks F.zone
  pub value : v ≤ whole
  pub rows : RowsWritable count (row_actions (location_at M F.location)) rs

abbrev pub NodesFit : Model → ℕ → List Found → List ℕ → List (List FoundRow) → Type 0
NodesFit M count [] [] [] = Unit {0}
NodesFit M count [] [] (rs ∷ rows) = ⊥
NodesFit M count [] (v ∷ vs) rows = ⊥
NodesFit M count (F ∷ Fs) [] rows = ⊥
NodesFit M count (F ∷ Fs) (v ∷ vs) [] = ⊥
NodesFit M count (F ∷ Fs) (v ∷ vs) (rs ∷ rows) = NodeFit M count F v rs × NodesFit M count Fs vs rows

-- one node for each that is found
pub nodes-count : (M : Model) (count p : ℕ) (Fs : List Found) (vs : List ℕ) (rows : List (List FoundRow)) → NodesFit M count Fs vs rows →
    length (nodes_at p Fs vs rows) ≡ length Fs
nodes-count M count p [] vs rows h = refl
nodes-count M count p (F ∷ Fs) [] rows h = absurd h
nodes-count M count p (F ∷ Fs) (v ∷ vs) [] h = absurd h
nodes-count M count p (F ∷ Fs) (v ∷ vs) (rs ∷ rows) h = ap suc (nodes-count M count (p + length (node_words F v rs)) Fs vs rows h.1)

-- ---- reading back
module _ (count : ℕ) (few : count ≤ 64) where
  successors-back : (p : ℕ) (ns : List ℕ) (rest : List ℕ) → Numbers count ns →
      successors_of (length ns) p (map (word 11) ns ++ rest) ≡ successors_at p ns
  unfolding successors_of
  successors-back p [] rest h = refl
  successors-back p (n ∷ ns) rest h =
      ap₂ (λ (m : ℕ) (ss : List Successor). record { node = m; place = p } ∷ ss) (successor-fields n (N.lt_of_lt_of_le h.0 few)).0
      (successors-back (suc p) ns rest h.1)

  rows_back : (p : ℕ) (As : List Action) (rs : List FoundRow) (rest : List ℕ) → RowsWritable count As rs →
      rows_of As p (rows_words rs ++ rest) ≡ rows_at p rs
  unfolding rows_of rows_words row_words
  rows_back p [] [] rest h = refl
  rows_back p [] (r ∷ rs) rest h = absurd h
  rows_back p (A ∷ As) [] rest h = absurd h
  rows_back p (A ∷ As) (blocked ∷ rs) rest h = ap (λ (xs : List Row). blocked_row p ∷ xs) (rows_back (suc p) As rs rest h.1)
  rows_back p (A ∷ As) (to_nodes [] ∷ rs) rest h = absurd (N.not-suc-le-zero h.0.0)
  rows_back p (A ∷ As) (to_nodes (n ∷ ns) ∷ rs) rest h =
      rw (successor-kind n (N.lt_of_lt_of_le h.0.2.0 few), ← h.0.1)
      (ap₂ (λ (ss : List Successor) (xs : List Row). successor_row p ss ∷ xs) (ap (successors_of (suc (length ns)) p) split ∙ successors-back p (n ∷ ns) (rows_words rs ++ rest) h.0.2)
      (ap (rows_of As (p + suc (length ns))) (ap (drop (suc (length ns))) split ∙ behind)
      ∙ rows_back (p + suc (length ns)) As rs rest h.1))
    where
      ws : List ℕ
      ws = map (word 11) (n ∷ ns)

      split : (ws ++ rows_words rs) ++ rest ≡ ws ++ (rows_words rs ++ rest)
      split = append_assoc ws (rows_words rs) rest

      behind : drop (suc (length ns)) (ws ++ (rows_words rs ++ rest)) ≡ rows_words rs ++ rest
      behind = drop_at ws (rows_words rs ++ rest) (suc (length ns)) (length-map (n ∷ ns) (word 11))

-- the bounds at the front
leading-back : (C : ℕ) → C ≤ 4 → (Z : Zone) → AllFit C Z → (w : ℕ) (rest : List ℕ) → is_table node_bound w ≡ false →
    leading_bounds (map bound_word Z ++ (w ∷ rest)) ≡ map bound_word Z
unfolding leading_bounds
leading-back C few [] h w rest e = rw e
leading-back C few (b ∷ Z) h w rest e =
    rw (bound-kind C few b h.0) (ap (λ (xs : List ℕ). bound_word b ∷ xs) (leading-back C few Z h.1 w rest e))

-- ---- what holds of each word

abbrev pub EachWord : (ℕ → Type 0) → List ℕ → Type 0
EachWord P [] = Unit {0}
EachWord P (w ∷ ws) = P w × EachWord P ws

pub each-join : (P : ℕ → Type 0) (xs ys : List ℕ) → EachWord P xs → EachWord P ys → EachWord P (xs ++ ys)
each-join P [] ys g h = h
each-join P (x ∷ xs) ys g h = (g.0, each-join P xs ys g.1 h)

-- the words behind a node's first word
abbrev inner : Found → ℕ → List FoundRow → List ℕ
inner F v rs = map bound_word F.zone ++ (word 9 v ∷ rows_words rs)

-- P holds of those, where so many nodes are numbered
pub record Inner (P : ℕ → Type 0) (count : ℕ) : Type 0 where
  pub bound : (w : ℕ) → kind w ≡ 5 → P w
  pub value : (w : ℕ) → kind w ≡ 9 → P w
  pub blocked : P (word 10 0)
  pub successor : (n : ℕ) → n < count → P (word 11 n)

module _ (P : ℕ → Type 0) (count : ℕ) (i : Inner P count) where
  bounds-each : (C : ℕ) → C ≤ 4 → (Z : Zone) → AllFit C Z → EachWord P (map bound_word Z)
  bounds-each C few [] h = tt
  bounds-each C few (b ∷ Z) h = (i.bound (bound_word b) (bound-kind C few b h.0), bounds-each C few Z h.1)

  numbers-each : (ns : List ℕ) → Numbers count ns → EachWord P (map (word 11) ns)
  numbers-each [] h = tt
  numbers-each (n ∷ ns) h = (i.successor n h.0, numbers-each ns h.1)

  rows-each : (As : List Action) (rs : List FoundRow) → RowsWritable count As rs → EachWord P (rows_words rs)
  unfolding rows_words row_words
  rows-each [] [] h = tt
  rows-each [] (r ∷ rs) h = absurd h
  rows-each (A ∷ As) [] h = absurd h
  rows-each (A ∷ As) (blocked ∷ rs) h = (i.blocked, rows-each As rs h.1)
  rows-each (A ∷ As) (to_nodes ns ∷ rs) h = each-join P (map (word 11) ns) (rows_words rs) (numbers-each ns h.0.2) (rows-each As rs h.1)

  module _ (M : Model) (clocks : M.clocks ≤ 4) where
    inner-each : (F : Found) (v : ℕ) (rs : List FoundRow) → NodeFit M count F v rs → EachWord P (inner F v rs)
    inner-each F v rs h =
        each-join P (map bound_word F.zone) (word 9 v ∷ rows_words rs) (bounds-each M.clocks clocks F.zone h.zone)
        (i.value (word 9 v) (value-kind v h.value), rows-each (row_actions (location_at M F.location)) rs h.rows)

    pub nodes-each : ((w : ℕ) → kind w ≡ 8 → P w) → length M.locations ≤ 16 → (Fs : List Found) (vs : List ℕ) (rows : List (List FoundRow)) →
        NodesFit M count Fs vs rows → EachWord P (nodes_words Fs vs rows)
    unfolding nodes_words node_words front_words
    nodes-each first locations [] [] [] h = tt
    nodes-each first locations [] [] (rs ∷ rows) h = absurd h
    nodes-each first locations [] (v ∷ vs) rows h = absurd h
    nodes-each first locations (F ∷ Fs) [] rows h = absurd h
    nodes-each first locations (F ∷ Fs) (v ∷ vs) [] h = absurd h
    nodes-each first locations (F ∷ Fs) (v ∷ vs) (rs ∷ rows) h = (
      first (word 8 (F.location * 2 ^ 24)) (node-kind F.location (N.lt_of_lt_of_le h.0.location locations)),
      each-join P (inner F v rs) (nodes_words Fs vs rows) (inner-each F v rs h.0) (nodes-each first locations Fs vs rows h.1),
    )

-- no word of a kind
abbrev NoKind : TableKind → List ℕ → Type 0
NoKind k = EachWord (λ w. is_table k w ≡ false)

-- the first word, or 0 where there is none
first-none : (k : TableKind) (ws : List ℕ) → is_table k 0 ≡ false → NoKind k ws → is_table k (get_or ws 0 0) ≡ false
first-none k [] e h = e
first-none k (w ∷ ws) e h = h.0

-- words that are no nodes are passed over
passed_over : (M : Model) (p : ℕ) (xs ys : List ℕ) → NoKind node xs → nodes_of M p (xs ++ ys) ≡ nodes_of M (p + length xs) ys
unfolding nodes_of
passed_over M p [] ys h = ap (λ (q : ℕ). nodes_of M q ys) (sym (N.add-zero p))
passed_over M p (x ∷ xs) ys h =
    let e : suc p + length xs ≡ p + suc (length xs) = omega arith in
    rw h.0 (passed_over M (suc p) xs ys h.1 ∙ ap (λ (q : ℕ). nodes_of M q ys) e)

index-over : (k : TableKind) (xs : List ℕ) (w : ℕ) (ys : List ℕ) → NoKind k xs → kind w ≡ table_number k →
    index_of (table_number k) (xs ++ (w ∷ ys)) ≡ length xs
unfolding index_of
index-over k [] w ys h e = rw (eq-eqb (kind w) (table_number k) e)
index-over k (x ∷ xs) w ys h e = rw h.0 (ap suc (index-over k xs w ys h.1 e))

-- the number of a word's kind, in a test for the kind k
not-of : (k : TableKind) (w n : ℕ) → kind w ≡ n → eqb n (table_number k) ≡ false → is_table k w ≡ false
not-of k w n e f = rw e f

module _ (count : ℕ) (few : count ≤ 64) where
  -- a kind that no bound, value or word of a row has
  outer : (k : TableKind) → eqb 5 (table_number k) ≡ false → eqb 9 (table_number k) ≡ false → eqb 10 (table_number k) ≡ false →
      eqb 11 (table_number k) ≡ false → Inner (λ w. is_table k w ≡ false) count
  outer k five nine ten eleven = record {
    bound = λ w e. not-of k w 5 e five;
    value = λ w e. not-of k w 9 e nine;
    blocked = ten;
    successor = λ n h. not-of k (word 11 n) 11 (successor-kind n (N.lt_of_lt_of_le h few)) eleven;
  }

  module _ (M : Model) (clocks : M.clocks ≤ 4) (locations : length M.locations ≤ 16) where
    -- rows, in front of words without a cut
    body_back : (L : Location) (p : ℕ) (rs : List FoundRow) (rest : List ℕ) → RowsWritable count (row_actions L) rs → NoKind cut rest →
        body_of L p (rows_words rs ++ rest) ≡ rows_body (rows_at p rs)
    unfolding body_of
    body_back L p rs rest h g =
        rw (first-none cut (rows_words rs ++ rest) refl (each-join _ (rows_words rs) rest (rows-each _ count (outer cut refl refl refl refl) (row_actions L) rs h) g))
        (ap rows_body (rows_back count few p (row_actions L) rs rest h))

    -- a node, in front of such words
    node-back : (p : ℕ) (F : Found) (v : ℕ) (rs : List FoundRow) (rest : List ℕ) → NodeFit M count F v rs → NoKind cut rest →
        node_of M p (word 8 (F.location * 2 ^ 24)) (map bound_word F.zone ++ (word 9 v ∷ (rows_words rs ++ rest))) ≡ node_at_place p F v rs
    unfolding node_of
    node-back p F v rs rest h g =
        rw (leading, behind, size, location, zone-back M.clocks clocks F.zone h.zone)
        (made (value-fields v h.value) (body_back (location_at M F.location) _ rs rest h.rows g))
      where
        ws : List ℕ
        ws = word 9 v ∷ (rows_words rs ++ rest)

        leading : leading_bounds (map bound_word F.zone ++ ws) ≡ map bound_word F.zone
        leading =
            leading-back M.clocks clocks F.zone h.zone (word 9 v) (rows_words rs ++ rest)
            (not-of node_bound (word 9 v) 9 (value-kind v h.value) refl)

        location : location_of (word 8 (F.location * 2 ^ 24)) ≡ F.location
        location = (node-fields F.location (N.lt_of_lt_of_le h.location locations)).0

        size : length (map bound_word F.zone) ≡ length F.zone
        size = length-map F.zone bound_word

        behind : drop (length (map bound_word F.zone)) (map bound_word F.zone ++ ws) ≡ ws
        behind = drop-append_seam (map bound_word F.zone) ws

        made : value_of (word 9 v) ≡ v → {x y : Body} → x ≡ y →
            ◌≡◌ {A = Node}
            (record { location = F.location; zone = F.zone; value = value_of (word 9 v); place = suc p + length F.zone; body = x })
            (record { location = F.location; zone = F.zone; value = v; place = suc p + length F.zone; body = y })
        made e f = rw (e, f)

    one-back : (p : ℕ) (F : Found) (v : ℕ) (rs : List FoundRow) (rest : List ℕ) → NodeFit M count F v rs → NoKind cut rest →
        nodes_of M p (node_words F v rs ++ rest) ≡ node_at_place p F v rs ∷ nodes_of M (p + length (node_words F v rs)) rest
    unfolding node_words front_words nodes_of
    one-back p F v rs rest h g =
        rw (node-kind F.location (N.lt_of_lt_of_le h.location locations))
        (ap₂ ◌∷◌ (ap (node_of M p (word 8 (F.location * 2 ^ 24))) split ∙ node-back p F v rs rest h g)
        (passed_over M (suc p) (inner F v rs) rest (inner-each _ count (outer node refl refl refl refl) M clocks F v rs h) ∙ ap (λ (q : ℕ). nodes_of M q rest) place))
      where
        split : inner F v rs ++ rest ≡ map bound_word F.zone ++ (word 9 v ∷ (rows_words rs ++ rest))
        split = append_assoc (map bound_word F.zone) (word 9 v ∷ rows_words rs) rest

        place : suc p + length (inner F v rs) ≡ p + suc (length (inner F v rs))
        place = omega arith

    nodes-none : (k : TableKind) → Inner (λ w. is_table k w ≡ false) count → eqb 8 (table_number k) ≡ false → (Fs : List Found) (vs : List ℕ)
        (rows : List (List FoundRow)) → NodesFit M count Fs vs rows → NoKind k (nodes_words Fs vs rows)
    nodes-none k o e = nodes-each _ count o M clocks (λ w q. not-of k w 8 q e) locations

    nodes-back : (p : ℕ) (Fs : List Found) (vs : List ℕ) (rows : List (List FoundRow)) (rest : List ℕ) →
        NodesFit M count Fs vs rows → NoKind node rest → NoKind cut rest → nodes_of M p (nodes_words Fs vs rows ++ rest) ≡ nodes_at p Fs vs rows
    unfolding nodes_words nodes_of
    nodes-back p [] [] [] rest h g c = over p rest g
      where
        over : (p : ℕ) (ys : List ℕ) → NoKind node ys → nodes_of M p ys ≡ []
        over p [] g = refl
        over p (y ∷ ys) g = rw g.0 (over (suc p) ys g.1)
    nodes-back p [] [] (rs ∷ rows) rest h g c = absurd h
    nodes-back p [] (v ∷ vs) rows rest h g c = absurd h
    nodes-back p (F ∷ Fs) [] rows rest h g c = absurd h
    nodes-back p (F ∷ Fs) (v ∷ vs) [] rest h g c = absurd h
    nodes-back p (F ∷ Fs) (v ∷ vs) (rs ∷ rows) rest h g c =
        ap (nodes_of M p) (append_assoc (node_words F v rs) (nodes_words Fs vs rows) rest)
        ∙ one-back p F v rs (nodes_words Fs vs rows ++ rest) h.0
        (each-join _ (nodes_words Fs vs rows) rest (nodes-none cut (outer cut refl refl refl refl) refl Fs vs rows h.1) c)
        ∙ ap (λ (xs : List Node). node_at_place p F v rs ∷ xs) (nodes-back (p + length (node_words F v rs)) Fs vs rows rest h.1 g c)

    -- the words of a draft hold its table
    pub table-back : (Fs : List Found) (vs : List ℕ) (rows : List (List FoundRow)) → NodesFit M count Fs vs rows →
        table_of M (words_of Fs vs rows)
        ≡ record { whole = whole; nodes = nodes_at 1 Fs vs rows; start = 0; place = suc (length (nodes_words Fs vs rows)) }
    unfolding table_of words_of nodes_of index_of
    table-back Fs vs rows h =
        made (nodes-back 1 Fs vs rows (word 12 0 ∷ []) h (refl, tt) (refl, tt))
        (index-over start_node (nodes_words Fs vs rows) (word 12 0) [] (nodes-none start_node (outer start_node refl refl refl refl) refl Fs vs rows h) refl)
        (get_or-append_seam (nodes_words Fs vs rows) (word 12 0) [] 0)
      where
        ws : List ℕ
        ws = nodes_words Fs vs rows ++ (word 12 0 ∷ [])

        made : {xs ys : List Node} → xs ≡ ys → {p q : ℕ} → p ≡ q → get_or ws q 0 ≡ word 12 0 →
            ◌≡◌ {A = Table}
            (record { whole = whole_of (word 7 whole); nodes = xs; start = number_of (get_or ws p 0); place = suc p })
            (record { whole = whole; nodes = ys; start = 0; place = suc q })
        made e f g = rw (e, f, g)
