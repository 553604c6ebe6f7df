-- What holds of the table of words that pass the checks 11 to 14: a row for each action, a successor for each edge, or a cut in place of the rows,
-- numbers of nodes that are there, values of at most V, good zones. Assumes nothing.
use Prim.Native.Nat.{ℕ, zero, suc, ◌+◌, ◌-◌, ◌≤◌, ◌<◌, ◌^◌}
use mathlib.Core.Path.{◌≡◌, refl, sym, ap, subst, ◌∙◌}
use mathlib.Core.Logic.{◌⊎◌, inl, inr, ◌≢◌}
use mathlib.Core.Bool.{Bool, true, false, not, ◌&&◌, ◌||◌}
use mathlib.Core.List.{List, [], ◌∷◌}
use native.Mathlib.Omega.{arith}
use borrow.Author.Tests.{eqb-true, ne_eqb, not-true}
use lib.Dec.{T, eqb, ltb, leb→le, ltb→lt, eqb→eq}
use lib.ListN.{get_or, length, drop, length-drop}
use lib.Seq.{drop-drop}
use Rattle.zone.specs.Words.{bits, kind, bound_of, bound_fields?, zone_of}
use Rattle.answers.specs.Checks.{Check}
use Rattle.zone.proofs.Bools.{by-test, false_true, both, is_true}
use Rattle.answers.proofs.CheckLaws.{AllHold, all_left, all_right}
use Rattle.model.specs.declared.table_kinds.TableKind.{TableKind}
use Rattle.model.specs.declared.table_kinds.TableKind.TheVariants.{None as no_kind, Head as table_head, Node as node, Bound as node_bound, Value as value, Blocked as blocked, Successor as successor, StartNode as start_node, Cut as cut}
use Rattle.model.specs.TableKinds.{table_number, is_table, table_kind_of}
use Rattle.model.specs.Before.{opener_from, count_of, index_of}
use Rattle.model.specs.Grammar.{table_follows, numbered?, table_follows?}
use Rattle.model.specs.Model.{Action, Location, Model}
use Rattle.model.specs.States.{location_at}
use Rattle.model.proofs.ZoneLaws.{All, empty, more, GoodBound, GoodZone, good-word}
use Rattle.model.proofs.WellFormed.{WellFormed}
use Rattle.table.specs.Fields.{whole_of, location_of, value_of, number_of, fields?}
use Rattle.table.specs.Table.{Node, Table, leading_bounds, row_actions, body_of, node_of, nodes_of, table_of}
use Rattle.table.specs.Reading.{last_location, Due, edge_counts, all_due, due_after_row, due_after_successor, two_due, due_with, due}
use Rattle.table.specs.Reading.{none?, rows_allow?, word_checks, words_checks, number_checks, read_checks}
use Rattle.table.specs.Scan.{row_size, row_openers, one_of?}
use Rattle.table.proofs.Passing.{behind, behind-only, not-one, before-bound, before-value}
use Rattle.table.proofs.ReadLaws.{Lacking, LackingDue, lacking_with}
use Rattle.table.proofs.ReadLaws.{next, opener_with, location_with, opener_with_lem, location_with_lem, due_with_lem, named, counted}

-- one row at the front of the words, for an action with so many edges: one A, or one B per edge, each naming one of so many nodes
unfoldable pub RowStands : ℕ → Bool → ℕ → List ℕ → Type 0
RowStands nodes true edges ws = 1 ≤ length ws
RowStands nodes false edges ws = (1 ≤ edges) × (edges ≤ length ws) × ((i : ℕ) → i < edges → number_of (get_or ws i 0) < nodes)

-- the words from here on are rows for these actions
unfoldable pub RowsStand : ℕ → List Action → List ℕ → Type 0
RowsStand nodes [] ws = Unit {0}
RowsStand nodes (A ∷ As) ws =
    RowStands nodes (is_table blocked (get_or ws 0 0)) (length A.edges) ws ×
    RowsStand nodes As (drop (row_size (is_table blocked (get_or ws 0 0)) (length A.edges)) ws)

-- the words from here on are a cut at a location that is no target: a good bound, and two words that name one of so many nodes
pub record CutStands (nodes : ℕ) (L : Location) (ws : List ℕ) : Type 0 where
  pub elsewhere : L.target ≡ false
  pub bound : GoodBound (bound_of (get_or ws 0 0))
  pub there : 3 ≤ length ws
  pub holding : number_of (get_or ws 1 0) < nodes
  pub rest : number_of (get_or ws 2 0) < nodes

-- the words from here on are a cut, or rows for the actions of a location
unfoldable pub BodyStands : ℕ → Bool → Location → List ℕ → Type 0
BodyStands nodes true L ws = CutStands nodes L ws
BodyStands nodes false L ws = RowsStand nodes (row_actions L) ws

-- a word stands behind the value
pub record NodeShaped (M : Model) (W : Table) (words : List ℕ) (N : Node) : Type 0 where
  pub exists : N.location < length M.locations
  pub value : N.value ≤ W.whole
  pub place : suc N.place < length words
  pub zone : GoodZone N.zone
  pub body : N.body ≡ body_of (location_at M N.location) (suc N.place) (drop (suc N.place) words)
  pub stands :
      let ws : List ℕ = drop (suc N.place) words in
      BodyStands (length W.nodes) (is_table cut (get_or ws 0 0)) (location_at M N.location) ws

pub record Shaped (M : Model) (words : List ℕ) (W : Table) : Type 0 where
  pub whole : 1 ≤ W.whole
  pub small : W.whole < 2 ^ 28
  pub nodes : All (NodeShaped M W words) W.nodes
  pub start : W.start < length W.nodes

-- ---- the rows that are due

module _ (nodes : ℕ) where
  -- so many words that name nodes
  abbrev Onward : ℕ → List ℕ → Type 0
  Onward n ws = (n ≤ length ws) × ((i : ℕ) → i < n → number_of (get_or ws i 0) < nodes)

  onward-more : (n w : ℕ) (ws : List ℕ) → number_of w < nodes → Onward n ws → Onward (suc n) (w ∷ ws)
  onward-more n w ws l h = (omega (arith, h.0), at)
    where
      at : (i : ℕ) → i < suc n → number_of (get_or (w ∷ ws) i 0) < nodes
      at zero j = l
      at (suc i) j = h.1 i (omega arith)

  -- the words from here on are the rows that are due
  abbrev DueStand : ℕ → List ℕ → List ℕ → Type 0
  DueStand begun [] ws = Unit {0}
  DueStand zero (n ∷ ns) ws =
      RowStands nodes (is_table blocked (get_or ws 0 0)) n ws × DueStand 0 ns (drop (row_size (is_table blocked (get_or ws 0 0)) n) ws)
  DueStand (suc begun) (n ∷ ns) ws = Onward (n - suc begun) ws × DueStand 0 ns (drop (n - suc begun) ws)

  rows-due : (As : List Action) (ws : List ℕ) → DueStand 0 (edge_counts As) ws → RowsStand nodes As ws
  unfolding RowsStand edge_counts
  rows-due [] ws h = tt
  rows-due (A ∷ As) ws h = (h.0, rows-due As _ h.1)

  module _ (w : ℕ) (ws : List ℕ) where
    due-blocked :
        (begun : ℕ) (ns : List ℕ) → kind w ≡ table_number blocked → T (not (none? ns) && eqb begun 0) → DueStand 0 (drop 1 ns) ws →
        DueStand begun ns (w ∷ ws)
    unfolding RowStands row_size
    due-blocked begun [] e t h = tt
    due-blocked zero (n ∷ ns) e t h = rw e (omega arith, h)
    due-blocked (suc begun) (n ∷ ns) e t h = let z : suc begun ≡ 0 = eqb→eq (suc begun) 0 t in absurd (omega arith)

    -- behind a B, what its row lacks stands, and the rows behind it
    left : (d : Due) → DueStand (due_after_successor d).begun (due_after_successor d).rows ws → DueStand (suc d.begun) d.rows ws
    unfolding due_after_successor due_after_row
    left d =
        by-test (λ (e : Due). DueStand e.begun e.rows ws → DueStand (suc d.begun) d.rows ws)
        (eqb (suc d.begun) (get_or d.rows 0 0)) (due_after_row d) _ (λ e. last d.begun d.rows (eqb-true _ _ e)) λ e h. h
      where
        last : (begun : ℕ) (ns : List ℕ) → suc begun ≡ get_or ns 0 0 → DueStand 0 (drop 1 ns) ws → DueStand (suc begun) ns ws
        last begun [] e h = tt
        last begun (n ∷ ns) e h =
            let z : n - suc begun ≡ 0 = omega arith in
            subst (λ (m : ℕ). Onward m ws × DueStand 0 ns (drop m ws)) (sym z) ((omega arith, λ i l. absurd (omega arith)), h)

    due-successor :
        (begun : ℕ) (ns : List ℕ) → kind w ≡ table_number successor → number_of w < nodes → Lacking begun ns → DueStand (suc begun) ns ws →
        DueStand begun ns (w ∷ ws)
    unfolding RowStands row_size
    due-successor begun [] e l g h = tt
    due-successor zero (n ∷ ns) e l g h =
        let z : suc (n - 1) ≡ n = omega (arith, g.0) in
        let both : Onward n (w ∷ ws) × DueStand 0 ns (drop n (w ∷ ws)) =
        subst (λ (m : ℕ). Onward m (w ∷ ws) × DueStand 0 ns (drop m (w ∷ ws))) z (onward-more (n - 1) w ws l h.0, h.1) in
        rw e ((g.0, both.0.0, both.0.1), both.1)
    due-successor (suc begun) (n ∷ ns) e l g h =
        let z : suc (n - suc (suc begun)) ≡ n - suc begun = omega (arith, g.0) in
        subst (λ (m : ℕ). Onward m (w ∷ ws) × DueStand 0 ns (drop m (w ∷ ws))) z (onward-more (n - suc (suc begun)) w ws l h.0, h.1)

-- ---- the words, from the last back to the first

module _ (M : Model) (W : Table) (words : List ℕ) where
  -- a word of a kind that passes the checks, behind an opener with these rows due
  record Passes (k : TableKind) (o : ℕ) (d : Due) (w : ℕ) : Type 0 where
    named : kind w ≡ table_number k
    follows : table_follows? o (table_number k) ≡ true
    rows : T (rows_allow? k d)
    fields : T (fields? k M.clocks (length M.locations) W.whole w)
    number : T (not (is_table successor w || is_table start_node w) || ltb (number_of w) (length W.nodes))

  -- the words behind a value: the cut or the rows of a node of the location l
  abbrev Behind : ℕ → List ℕ → Type 0
  Behind l ws = BodyStands (length W.nodes) (is_table cut (get_or ws 0 0)) (location_at M l) ws

  -- the words behind a node word: good bounds, a value, and behind it some word
  record NodeStands (l : ℕ) (ws : List ℕ) : Type 0 where
    bounds : GoodZone (zone_of (leading_bounds ws))
    there : suc (length (leading_bounds ws)) < length ws
    value : value_of (get_or (drop (length (leading_bounds ws)) ws) 0 0) ≤ W.whole
    body : Behind l (drop 1 (drop (length (leading_bounds ws)) ws))

  with_bound_lem : (l w : ℕ) (ws : List ℕ) → kind w ≡ table_number node_bound → GoodBound (bound_of w) → NodeStands l ws → NodeStands l (w ∷ ws)
  unfolding leading_bounds zone_of
  with_bound_lem l w ws e g r =
      let there : suc (suc (length (leading_bounds ws))) < suc (length ws) = omega (arith, r.there) in
      record { bounds = rw e (more g r.bounds); there = rw e there; value = rw e r.value; body = rw e r.body }

  with_value :
      (l w : ℕ) (ws : List ℕ) → kind w ≡ table_number value → value_of w ≤ W.whole → 1 ≤ length ws → Behind l ws → NodeStands l (w ∷ ws)
  unfolding leading_bounds zone_of
  with_value l w ws e h m r =
      let there : 1 < suc (length ws) = omega arith in
      record { bounds = rw e empty; there = rw e there; value = rw e h; body = rw e r }

  node-shaped :
      (p w : ℕ) (ws : List ℕ) → drop (suc p) words ≡ ws → location_of w < length M.locations → NodeStands (location_of w) ws →
      NodeShaped M W words (node_of M p w ws)
  unfolding node_of
  node-shaped p w ws e h r = record {
    exists = h;
    value = r.value;
    place = omega (arith, r.there, ap length e, length-drop (suc p) words);
    zone = r.bounds;
    body = ap (body_of (location_at M (location_of w)) (suc (suc p + n))) rest;
    stands = subst (Behind (location_of w)) rest r.body;
  }
    where
      n : ℕ
      n = length (leading_bounds ws)

      rest : drop 1 (drop n ws) ≡ drop (suc (suc p + n)) words
      rest =
          let behind : drop 1 (drop n ws) ≡ drop (suc p + n + 1) words =
          ap (λ (v : List ℕ). drop 1 (drop n v)) (sym e) ∙ ap (drop 1) (drop-drop n (suc p) words) ∙ drop-drop 1 (suc p + n) words in
          let next : suc p + n + 1 ≡ suc (suc p + n) = omega arith in
          rw (← next) behind

  -- behind words whose opener is o and where the rows d are due: a cut stands behind a value alone, and behind it no blocked row
  record CutsStand (o : ℕ) (d : Due) (ws : List ℕ) : Type 0 where
    uncut : o ≢ table_number value → is_table cut (get_or ws 0 0) ≡ false
    cuts : o ≡ table_number value → is_table cut (get_or ws 0 0) ≡ true → (L : Location) → d.target ≡ L.target → CutStands (length W.nodes) L ws
    onward : o ≡ table_number cut → is_table blocked (get_or ws 0 0) ≡ false

  -- behind words whose last node has the location l as well
  record Stands (o l : ℕ) (d : Due) (p : ℕ) (ws : List ℕ) : Type 0 where
    head : o ≡ table_number no_kind → 1 ≤ whole_of (get_or ws 0 0)
    behind : o ≡ table_number node → NodeStands l ws
    rows : one_of? row_openers o ≡ true → is_table cut (get_or ws 0 0) ≡ false → DueStand (length W.nodes) d.begun d.rows ws
    parts : CutsStand o d ws
    more : o ≢ table_number start_node → 1 ≤ length ws
    nodes : All (NodeShaped M W words) (nodes_of M p ws)
    start : o ≢ table_number start_node → number_of (get_or ws (index_of (table_number start_node) ws) 0) < length W.nodes

  -- behind which an A may stand
  abbrev blocked_openers : List TableKind
  blocked_openers = value ∷ blocked ∷ successor ∷ []

  module _ (formed : WellFormed M) (o l : ℕ) (d : Due) (w p : ℕ) (ws : List ℕ) where
    good-bound : Passes node_bound o d w → GoodBound (bound_of w)
    good-bound g = good-word M.clocks w formed.clocks (is_true (bound_fields? M.clocks w) g.fields)

    good-cut : Passes cut o d w → GoodBound (bound_of w)
    good-cut g = good-word M.clocks w formed.clocks (is_true (bound_fields? M.clocks w) (both (bound_fields? M.clocks w) _ g.fields).0)

    location-exists : Passes node o d w → location_of w < length M.locations
    location-exists g = ltb→lt (location_of w) (length M.locations) (both (eqb (bits 23 0 w) 0) _ g.fields).1

    number-there : (k : TableKind) → (table_number k ≡ table_number successor ⊎ table_number k ≡ table_number start_node) → Passes k o d w → number_of w < length W.nodes
    number-there k (inl i) g = ltb→lt (number_of w) (length W.nodes) (rw (g.named, i) at g.number)
    number-there k (inr i) g = ltb→lt (number_of w) (length W.nodes) (rw (g.named, i) at g.number)

    -- behind a value: the cut or the rows
    behind-value : (ws : List ℕ) → (is_table cut (get_or ws 0 0) ≡ false → DueStand (length W.nodes) 0 (edge_counts (row_actions (location_at M l))) ws) →
        (is_table cut (get_or ws 0 0) ≡ true → (L : Location) → (location_at M l).target ≡ L.target → CutStands (length W.nodes) L ws) → Behind l ws
    unfolding BodyStands
    behind-value ws rows cuts = by (is_table cut (get_or ws 0 0)) rows cuts
      where
        by : (c : Bool) → (c ≡ false → DueStand (length W.nodes) 0 (edge_counts (row_actions (location_at M l))) ws) →
            (c ≡ true → (L : Location) → (location_at M l).target ≡ L.target → CutStands (length W.nodes) L ws) →
            BodyStands (length W.nodes) c (location_at M l) ws
        by true rows cuts = cuts refl (location_at M l) refl
        by false rows cuts = rows-due (length W.nodes) (row_actions (location_at M l)) ws (rows refl)

    -- a cut with its two B words
    cut_stands : (L : Location) → T (not L.target) → GoodBound (bound_of w) → RowStands (length W.nodes) false 2 ws →
        CutStands (length W.nodes) L (w ∷ ws)
    unfolding RowStands
    cut_stands L t g h = record {
      elsewhere = not-true L.target (is_true _ t);
      bound = g;
      there = omega (arith, h.1);
      holding = h.2 0 (omega arith);
      rest = h.2 1 (omega arith);
    }

    -- a word of another kind, no A where a cut is its opener
    no_cut : (k : TableKind) → kind w ≡ table_number k → table_number k ≢ table_number cut → (o ≡ table_number cut → table_number k ≢ table_number blocked) →
        CutsStand o d (w ∷ ws)
    no_cut k n c b = record {
      uncut = λ i. ne_eqb _ _ (λ q. c (sym n ∙ q));
      cuts = λ i t. absurd (c (sym n ∙ eqb-true _ _ t));
      onward = λ i. ne_eqb _ _ (λ q. b i (sym n ∙ q));
    }

    none-due : (ns : List ℕ) → T (none? ns) → DueStand (length W.nodes) d.begun ns (w ∷ ws)
    none-due [] t = tt
    none-due (n ∷ ns) t = absurd t

    stands_with :
        (k : TableKind) → Passes k o d w → LackingDue d → drop (suc p) words ≡ ws →
        Stands (opener_with k o) (location_with k w l) (due_with k M l d) (suc p) ws → Stands o l d p (w ∷ ws)
    unfolding table_follows numbered? rows_allow? due_with all_due due_after_row two_due nodes_of index_of BodyStands
    stands_with no_kind g n e r = absurd g.fields
    stands_with table_head g n e r =
        let first = behind-only table_head o g.follows no_kind tt in
        record {
          head = λ i. leb→le 1 (whole_of w) g.fields;
          behind = λ i. absurd (omega arith);
          rows = λ i u. absurd (not-one row_openers o (table_number no_kind) i refl first);
          parts = no_cut table_head g.named (λ q. omega arith) (λ i q. omega arith);
          more = λ i. omega arith;
          nodes = rw g.named r.nodes;
          start = λ i. rw g.named (r.start (λ j. omega arith));
        }
    stands_with node g n e r =
        let within = behind node o g.follows (table_head ∷ row_openers) tt in
        record {
          head = λ i. absurd (not-one (table_head ∷ row_openers) o (table_number no_kind) within refl i);
          behind = λ i. absurd (not-one (table_head ∷ row_openers) o (table_number node) within refl i);
          rows = λ i u. none-due d.rows g.rows;
          parts = no_cut node g.named (λ q. omega arith) (λ i q. omega arith);
          more = λ i. omega arith;
          nodes = rw g.named (more (node-shaped p w ws e (location-exists g) (r.behind refl)) r.nodes);
          start = λ i. rw g.named (r.start (λ j. omega arith));
        }
    stands_with node_bound g n e r =
        let last = before-bound o g.follows in
        record {
          head = λ i. absurd (omega arith);
          behind = λ i. with_bound_lem l w ws g.named (good-bound g) (r.behind i);
          rows = λ i u. absurd (not-one row_openers o (table_number node) i refl last);
          parts = no_cut node_bound g.named (λ q. omega arith) (λ i q. omega arith);
          more = λ i. omega arith;
          nodes = rw g.named r.nodes;
          start = λ i. rw g.named (r.start i);
        }
    stands_with value g n e r =
        let last = before-value o g.follows in
        record {
          head = λ i. absurd (omega arith);
          behind = λ i.
              with_value l w ws g.named (leb→le (value_of w) W.whole g.fields) (r.more (λ j. omega arith))
              (behind-value ws (r.rows refl) (r.parts.cuts refl));
          rows = λ i u. absurd (not-one row_openers o (table_number node) i refl last);
          parts = no_cut value g.named (λ q. omega arith) (λ i q. omega arith);
          more = λ i. omega arith;
          nodes = rw g.named r.nodes;
          start = λ i. rw g.named (r.start (λ j. omega arith));
        }
    stands_with blocked g n e r =
        let within = behind blocked o g.follows blocked_openers tt in
        record {
          head = λ i. absurd (not-one blocked_openers o (table_number no_kind) within refl i);
          behind = λ i. absurd (not-one blocked_openers o (table_number node) within refl i);
          rows = λ i u. due-blocked (length W.nodes) w ws d.begun d.rows g.named g.rows (r.rows refl (r.parts.uncut (λ j. omega arith)));
          parts = no_cut blocked g.named (λ q. omega arith) (λ i q. not-one blocked_openers o (table_number cut) within refl i);
          more = λ i. omega arith;
          nodes = rw g.named r.nodes;
          start = λ i. rw g.named (r.start (λ j. omega arith));
        }
    stands_with successor g n e r =
        let within = behind successor o g.follows row_openers tt in
        record {
          head = λ i. absurd (not-one row_openers o (table_number no_kind) within refl i);
          behind = λ i. absurd (not-one row_openers o (table_number node) within refl i);
          rows = λ i u.
              due-successor (length W.nodes) w ws d.begun d.rows g.named (number-there successor (inl refl) g) n
              (left (length W.nodes) w ws d (r.rows refl (r.parts.uncut (λ j. omega arith))));
          parts = no_cut successor g.named (λ q. omega arith) (λ i q. omega arith);
          more = λ i. omega arith;
          nodes = rw g.named r.nodes;
          start = λ i. rw g.named (r.start (λ j. omega arith));
        }
    stands_with start_node g n e r =
        let within = behind start_node o g.follows row_openers tt in
        record {
          head = λ i. absurd (not-one row_openers o (table_number no_kind) within refl i);
          behind = λ i. absurd (not-one row_openers o (table_number node) within refl i);
          rows = λ i u. none-due d.rows g.rows;
          parts = no_cut start_node g.named (λ q. omega arith) (λ i q. omega arith);
          more = λ i. omega arith;
          nodes = rw g.named r.nodes;
          start = λ i. rw g.named (number-there start_node (inr refl) g);
        }
    stands_with cut g n e r =
        let last = behind-only cut o g.follows value tt in
        let two = (r.rows refl (r.parts.uncut (λ j. omega arith))).0 in
        record {
          head = λ i. absurd (omega arith);
          behind = λ i. absurd (omega arith);
          rows = λ i u. false_true (sym u ∙ rw g.named);
          parts = record {
            uncut = λ i. absurd (i last);
            cuts = λ i t L same. cut_stands L (rw same at g.rows) (good-cut g) (rw (r.parts.onward refl) at two);
            onward = λ i. absurd (omega arith);
          };
          more = λ i. omega arith;
          nodes = rw g.named r.nodes;
          start = λ i. rw g.named (r.start (λ j. omega arith));
        }

  -- ---- what the checks say

  stands_from :
      WellFormed M → (before : List ℕ) (p : ℕ) (ws : List ℕ) → AllHold (words_checks M W.whole before ws) →
      AllHold (number_checks (length W.nodes) p ws) → LackingDue (due M before) → drop p words ≡ ws →
      Stands (opener_from (table_number no_kind) before) (last_location before) (due M before) p ws
  unfolding words_checks word_checks number_checks nodes_of numbered?
  stands_from formed before p [] c n k e =
      let o : ℕ = opener_from (table_number no_kind) before in
      let last : o ≡ table_number start_node = eqb→eq o (table_number start_node) c.0 in
      record {
        head = λ i. absurd (omega arith);
        behind = λ i. absurd (omega arith);
        rows = λ i u. absurd (not-one row_openers o (table_number start_node) i refl last);
        parts = record { uncut = λ i. refl; cuts = λ i t. absurd (omega arith); onward = λ i. refl };
        more = λ i. absurd (i last);
        nodes = empty;
        start = λ i. absurd (i last);
      }
  stands_from formed before p (w ∷ ws) c n k e =
      let o : ℕ = opener_from (table_number no_kind) before in
      let l : ℕ = last_location before in
      let d : Due = due M before in
      let q : TableKind = table_kind_of w in
      let m : kind w ≡ table_number q = named w M.clocks (length M.locations) W.whole c.1.0 in
      let (f, a) = both (table_follows? o (kind w)) (rows_allow? q d) c.0 in
      let g : Passes q o d w = record {
        named = m;
        follows = subst (λ (i : ℕ). table_follows? o i ≡ true) m (is_true _ f);
        rows = a;
        fields = c.1.0;
        number = n.0;
      } in
      let due-next : due M (w ∷ before) ≡ due_with q M l d = due_with_lem M before w q m in
      let k-next : LackingDue (due M (w ∷ before)) = rw due-next (lacking_with q M l d formed k) in
      let at : drop (suc p) words ≡ ws = next p words w ws e in
      let r : Stands (opener_from (table_number no_kind) (w ∷ before)) (last_location (w ∷ before)) (due M (w ∷ before)) (suc p) ws =
      stands_from formed (w ∷ before) (suc p) ws c.1.1.1 n.1 k-next at in
      stands_with formed o l d w p ws q g k at (rw (opener_with_lem before w q m, location_with_lem before w q m, due-next) at r)

-- ---- the table

pub shaped : (M : Model) (words : List ℕ) → WellFormed M → AllHold (read_checks M words) → Shaped M words (table_of M words)
unfolding table_of read_checks opener_from due
shaped M words formed h = record {
  whole = stands.head refl;
  small = omega arith;
  nodes = stands.nodes;
  start = stands.start (λ e. omega arith);
}
  where
    W : Table
    W = table_of M words

    first : List Check
    first = words_checks M W.whole [] words

    numbers : AllHold (number_checks (length W.nodes) 0 words)
    numbers =
        subst (λ (n : ℕ). AllHold (number_checks n 0 words)) (sym (counted M 0 words))
        (all_right first (number_checks (count_of (table_number node) words) 0 words) h)

    stands : Stands M W words (table_number no_kind) (last_location []) (due M []) 0 words
    stands = stands_from M W words formed [] 0 words (all_left first _ h) numbers tt refl
