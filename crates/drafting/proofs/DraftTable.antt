-- What exploring finds, with a value of at most V for each node, can be written; and the table that those words hold. Assumes nothing.
use Prim.Native.Nat.{◌+◌, ℕ, zero, suc, ◌≤◌, ◌<◌}
use mathlib.Core.Path.{◌≡◌, refl, ap, ◌∙◌}
use mathlib.Core.List.{List, [], ◌∷◌}
use native.Mathlib.Nat as N
use native.Mathlib.Omega.{arith}
use lib.ListN.{get_or, length}
use Rattle.answers.proofs.CheckLaws.{AllHold}
use Rattle.model.specs.Model.{Edge, Action, Model}
use Rattle.model.specs.States.{location_at}
use Rattle.model.proofs.ZoneLaws.{All, empty, more}
use Rattle.model.proofs.WellFormed.{FormedAction, WellFormed}
use Rattle.table.specs.Table.{Node, no_node, Table, node_at, row_actions, table_of}
use Rattle.table.specs.Reading.{read_checks}
use Rattle.acceptance.specs.Acceptance.{Pairwise}
use Rattle.drafting.specs.Words.{node_words}
use Rattle.drafting.specs.Exploring.{Found, FoundRow, blocked, to_nodes, no_found}
use Rattle.drafting.specs.Words.{whole, nodes_words, words_of}
use Rattle.drafting.proofs.RoundLaws.{Limited}
use Rattle.drafting.proofs.ReadBack.{node_at_place, nodes_at, Numbers, RowsWritable, NodesFit, nodes-count, table-back}
use Rattle.drafting.proofs.PassingWords.{draft-passes}
use Rattle.drafting.proofs.ExploreLaws.{Writable, SuccessorGood, RowGood, RowsGood, AllFound, rows-formed}

-- ---- the nodes of a table drafted
module _ (M : Model) (count : ℕ) where
  values-at : (p : ℕ) (Fs : List Found) (vs : List ℕ) (rows : List (List FoundRow)) → NodesFit M count Fs vs rows → (n : ℕ) →
      (get_or (nodes_at p Fs vs rows) n no_node).value ≡ get_or vs n 0
  values-at p [] [] [] h n = refl
  values-at p [] [] (rs ∷ rows) h n = absurd h
  values-at p [] (v ∷ vs) rows h n = absurd h
  values-at p (F ∷ Fs) [] rows h n = absurd h
  values-at p (F ∷ Fs) (v ∷ vs) [] h n = absurd h
  values-at p (F ∷ Fs) (v ∷ vs) (rs ∷ rows) h zero = refl
  values-at p (F ∷ Fs) (v ∷ vs) (rs ∷ rows) h (suc n) = values-at (p + length (node_words F v rs)) Fs vs rows h.1 n

  nodes-at : (p : ℕ) (Fs : List Found) (vs : List ℕ) (rows : List (List FoundRow)) → NodesFit M count Fs vs rows → (n : ℕ) → n < length Fs →
      (q : ℕ) × (get_or (nodes_at p Fs vs rows) n no_node ≡ node_at_place q (get_or Fs n no_found) (get_or vs n 0) (get_or rows n []))
  nodes-at p [] vs rows h n l = absurd (N.not-suc-le-zero l)
  nodes-at p (F ∷ Fs) [] rows h n l = absurd h
  nodes-at p (F ∷ Fs) (v ∷ vs) [] h n l = absurd h
  nodes-at p (F ∷ Fs) (v ∷ vs) (rs ∷ rows) h zero l = (p, refl)
  nodes-at p (F ∷ Fs) (v ∷ vs) (rs ∷ rows) h (suc n) l = nodes-at (p + length (node_words F v rs)) Fs vs rows h.1 n (N.le_of_suc-le-suc l)

-- what holds of pairs holds of those at a place
pub pairwise_in : {A B : Type 0} (P : A → B → Type 0) (xs : List A) (ys : List B) (d : A) (c : B) (i : ℕ) → Pairwise P xs ys → i < length xs →
    P (get_or xs i d) (get_or ys i c)
pairwise_in P [] ys d c i h l = absurd (N.not-suc-le-zero l)
pairwise_in P (x ∷ xs) [] d c i h l = absurd h
pairwise_in P (x ∷ xs) (y ∷ ys) d c zero h l = h.0
pairwise_in P (x ∷ xs) (y ∷ ys) d c (suc i) h l = pairwise_in P xs ys d c i h.1 (N.le_of_suc-le-suc l)

-- ---- the rows of what is found can be written
module _ (M : Model) (Fs : List Found) where
  abbrev count : ℕ
  count = length Fs

  numbers_fit : (F : Found) (A : Action) (es : List Edge) (ns : List ℕ) → Pairwise (SuccessorGood M Fs F A) es ns →
      (length ns ≡ length es) × Numbers count ns
  numbers_fit F A [] [] h = (refl, tt)
  numbers_fit F A [] (n ∷ ns) h = absurd h
  numbers_fit F A (e ∷ es) [] h = absurd h
  numbers_fit F A (e ∷ es) (n ∷ ns) h = let rest = numbers_fit F A es ns h.1 in (ap suc rest.0, (h.0.there, rest.1))

  rows_fit : (F : Found) (As : List Action) → All (FormedAction M) As → (rs : List FoundRow) → Pairwise (RowGood M Fs F) As rs →
      RowsWritable count As rs
  rows_fit F [] empty [] h = tt
  rows_fit F [] empty (r ∷ rs) h = h
  rows_fit F (A ∷ As) (more f fs) [] h = h
  rows_fit F (A ∷ As) (more f fs) (blocked ∷ rs) h = (tt, rows_fit F As fs rs h.1)
  rows_fit F (A ∷ As) (more f fs) (to_nodes ns ∷ rs) h =
      let numbers = numbers_fit F A A.edges ns h.0 in
      ((omega (arith, f.some, numbers.0), numbers.0, numbers.1), rows_fit F As fs rs h.1)

pub rows_writable : {M : Model} {Fs : List Found} {rows : List (List FoundRow)} → WellFormed M → AllFound M Fs rows → (n : ℕ) → n < length Fs →
    RowsWritable (length Fs) (row_actions (location_at M (get_or Fs n no_found).location)) (get_or rows n [])
rows_writable {M} {Fs} {rows} formed found n l =
    rows_fit M Fs (get_or Fs n no_found) _ (rows-formed formed (get_or Fs n no_found).location) (get_or rows n [])
    (pairwise_in (RowsGood M Fs) Fs rows no_found [] n found.each l)

-- ---- with values of at most V
module _ (M : Model) (formed : WellFormed M) (locations : length M.locations ≤ 16) (Fs : List Found) (rows : List (List FoundRow))
    (found : AllFound M Fs rows) where
  nodes-fit : (Gs : List Found) (us : List ℕ) (rs : List (List FoundRow)) → length us ≡ length Gs → Limited us → All (Writable M) Gs →
      Pairwise (RowsGood M Fs) Gs rs → NodesFit M (length Fs) Gs us rs
  nodes-fit [] [] [] e l ws h = tt
  nodes-fit [] [] (r ∷ rs) e l ws h = h
  nodes-fit [] (u ∷ us) rs e l ws h = absurd (omega arith)
  nodes-fit (G ∷ Gs) [] rs e l ws h = absurd (omega arith)
  nodes-fit (G ∷ Gs) (u ∷ us) [] e l ws h = absurd h
  nodes-fit (G ∷ Gs) (u ∷ us) (r ∷ rs) e l (more w ws) h = (
    record {
      location = w.location;
      zone = w.zone;
      value = l.at 0;
      rows = rows_fit M Fs G (row_actions (location_at M G.location)) (rows-formed formed G.location) r h.0;
    },
    nodes-fit Gs us rs (N.suc_inj e) (record { at = λ i. l.at (suc i) }) ws h.1,
  )

  module _ (vs : List ℕ) (size : length vs ≡ length Fs) (limited : Limited vs) where
    fit : NodesFit M (length Fs) Fs vs rows
    fit = nodes-fit Fs vs rows size limited found.ready.all found.each

    -- ---- the table that the words hold
    abbrev W : Table
    W = table_of M (words_of Fs vs rows)

    back : W ≡ record { whole = whole; nodes = nodes_at 1 Fs vs rows; start = 0; place = suc (length (nodes_words Fs vs rows)) }
    back = table-back (length Fs) found.ready.few M formed.clocks locations Fs vs rows fit

    pub whole_is : W.whole ≡ whole
    whole_is = ap (λ (W : Table). W.whole) back

    pub nodes-are : W.nodes ≡ nodes_at 1 Fs vs rows
    nodes-are = ap (λ (W : Table). W.nodes) back

    pub start_is : W.start ≡ 0
    start_is = ap (λ (W : Table). W.start) back

    pub count-is : length W.nodes ≡ length Fs
    count-is = ap length nodes-are ∙ nodes-count M (length Fs) 1 Fs vs rows fit

    pub value-is : (n : ℕ) → (node_at W n).value ≡ get_or vs n 0
    unfolding node_at
    value-is n = ap (λ (Ns : List Node). (get_or Ns n no_node).value) nodes-are ∙ values-at M (length Fs) 1 Fs vs rows fit n

    -- of each node, its place with it
    pub node-is : (n : ℕ) → n < length Fs → (p : ℕ) × (node_at W n ≡ node_at_place p (get_or Fs n no_found) (get_or vs n 0) (get_or rows n []))
    unfolding node_at
    node-is n l = let at = nodes-at M (length Fs) 1 Fs vs rows fit n l in (at.0, ap (λ (Ns : List Node). get_or Ns n no_node) nodes-are ∙ at.1)

    -- the words pass the checks 11 to 14
    pub passes : AllHold (read_checks M (words_of Fs vs rows))
    passes = by Fs vs rows found.start.there found.ready.few fit
      where
        by : (Fs : List Found) (vs : List ℕ) (rows : List (List FoundRow)) → 0 < length Fs → length Fs ≤ 64 → NodesFit M (length Fs) Fs vs rows →
            AllHold (read_checks M (words_of Fs vs rows))
        by [] vs rows h l f = absurd (N.not-suc-le-zero h)
        by (F ∷ Fs) [] rows h l f = absurd f
        by (F ∷ Fs) (v ∷ vs) [] h l f = absurd f
        by (F ∷ Fs) (v ∷ vs) (rs ∷ rows) h l f = draft-passes M formed.clocks locations F Fs v vs rs rows l f
