-- The words put together from the nodes are those of the draft. Assumes nothing.
use Prim.Native.Nat.{ℕ, suc, ◌+◌, ◌%◌, ◌≤◌, ◌<◌}
use mathlib.Core.Path.{◌≡◌, refl, ap, ap₂, ◌∙◌}
use mathlib.Core.Bool.{Bool, true, false}
use mathlib.Core.List.{List, [], ◌∷◌, ◌++◌, map, map-append}
use native.Mathlib.Nat as N
use native.Mathlib.Omega.{arith}
use borrow.Author.Tests.{ne_eqb}
use lib.ListN.{get_or, length, take}
use Rattle.model.specs.Model.{Edge, Action, Model}
use Rattle.model.specs.States.{location_at}
use Rattle.model.proofs.WellFormed.{WellFormed}
use Rattle.table.specs.Table.{row_actions}
use Rattle.drafting.specs.Exploring.{Found, FoundRow, no_found}
use Rattle.drafting.specs.Words.{whole, word, front_words, row_words, rows_words, node_words, nodes_words, words_of}
use Rattle.drafting.proofs.Shares.{Share, Valued}
use Rattle.drafting.proofs.ReadBack.{Numbers, RowsWritable}
use Rattle.drafting.proofs.ExploreLaws.{AllFound}
use Rattle.drafting.proofs.ValuedRows.{SharesOf, no_edge, next_edge, ShareRows, no_row, pass_blocked, next_row, ValuedAll, no_node, next_node}
use Rattle.drafting.proofs.DraftTable.{rows_writable}
use Rattle.draft.specs.Nodes.{fronts_of, rows_of}
use Rattle.draft.specs.Exploration.{code_of}
use Rattle.draft.specs.Writing.{row_word, front_text, node_text, nodes_text, draft_text}
use Rattle.draft.specs.declared.nodes.Front.{Front}
use Rattle.draft.specs.declared.nodes.Node.{Node}
use Rattle.draft.proofs.Coding.{front_of, share_codes, rows_codes, all_rows, Stored}

-- ---- a node
node-words : (F : Found) (rs : List FoundRow) (n : Node) → n.front ≡ front_of F → map row_word n.rows.items ≡ rows_words rs → (v : ℕ) →
    node_text n v ≡ node_words F v rs
unfolding node_text node_words front_words
node-words F rs n e f v = ap₂ (λ (g : Front) (ws : List ℕ). front_text g ++ (word 9 v ∷ ws)) e f

-- ---- its rows: a code has the number of its node
row_word_lem : (n : ℕ) (o : Bool) → n < 64 → row_word (code_of n o) ≡ word 11 n
unfolding row_word
row_word_lem n true h =
    let number : (n + 64) % 64 ≡ n = omega arith in
    rw (ne_eqb (n + 64) 255 (λ e. omega arith), number)
row_word_lem n false h =
    let number : n % 64 ≡ n = omega arith in
    rw (ne_eqb n 255 (λ e. omega arith), number)

module _ (count : ℕ) (few : count ≤ 64) {M : Model} where
  shares-words : {F : Found} {A : Action} {es : List Edge} {ns : List ℕ} {ss : List Share} → SharesOf M F A es ns ss → Numbers count ns →
      map row_word (share_codes ss) ≡ map (word 11) ns
  unfolding share_codes
  shares-words no_edge g = refl
  shares-words (next_edge {e} {n} {s} h hs) g =
      ap₂ ◌∷◌ (ap (λ (k : ℕ). row_word (code_of k s.outside)) h.node ∙ row_word_lem n s.outside (N.lt_of_lt_of_le g.0 few))
      (shares-words hs g.1)

  rows_words_lem : {F : Found} {As : List Action} {rs : List FoundRow} {sss : List (List Share)} → ShareRows M F As rs sss → RowsWritable count As rs →
      map row_word (rows_codes rs sss) ≡ rows_words rs
  unfolding rows_codes rows_words row_words row_word
  rows_words_lem no_row g = refl
  rows_words_lem (pass_blocked h) g = ap (λ (ws : List ℕ). word 10 0 ∷ ws) (rows_words_lem h g.1)
  rows_words_lem (next_row {ss = ss} {rs = rs} {sss} s h) g =
      map-append row_word (share_codes ss) (rows_codes rs sss) ∙ ap₂ ◌++◌ (shares-words s g.0.2) (rows_words_lem h g.1)

  -- ---- nodes, each with the value at its place
  nodes-words : {Fs : List Found} {rows : List (List FoundRow)} {qs : List Valued} → ValuedAll M Fs rows qs →
      ((i : ℕ) → i < length Fs → RowsWritable count (row_actions (location_at M (get_or Fs i no_found).location)) (get_or rows i [])) →
      (nodes : List Node) → fronts_of nodes ≡ map front_of Fs → rows_of nodes ≡ all_rows rows qs → (vs : List ℕ) → length Fs ≤ length vs →
      nodes_text nodes vs ≡ nodes_words Fs (take (length Fs) vs) rows
  unfolding all_rows nodes_text nodes_words
  nodes-words no_node writable [] e f vs h = refl
  nodes-words no_node writable (n ∷ ns) e f vs h = let z : ◌≡◌ {A = ℕ} 0 1 = cc in absurd (omega arith)
  nodes-words (next_node s v) writable [] e f vs h = let z : ◌≡◌ {A = ℕ} 0 1 = cc in absurd (omega arith)
  nodes-words (next_node s v) writable (n ∷ ns) e f [] h = absurd (omega arith)
  nodes-words (next_node {F} {rs} {q} {Fs} {rows} {qs} s v) writable (n ∷ ns) e f (u ∷ us) h =
      let codes : n.rows.items ≡ rows_codes rs q.rows = cc in
      ap₂ ◌++◌ (node-words F rs n (cc) (ap (map row_word) codes ∙ rows_words_lem s.rows (writable 0 (omega arith))) u)
      (nodes-words v (λ i l. writable (suc i) (omega arith)) ns (cc) (cc) us (N.le_of_suc-le-suc h))

-- the words put together from the nodes, with the values vs
pub text-right : {M : Model} {Fs : List Found} {rows : List (List FoundRow)} {qs : List Valued} {nodes : List Node} → WellFormed M → AllFound M Fs rows →
    ValuedAll M Fs rows qs → Stored Fs rows qs nodes → (vs : List ℕ) → length Fs ≤ length vs → draft_text nodes vs ≡ words_of Fs (take (length Fs) vs) rows
unfolding draft_text words_of
text-right {Fs = Fs} {nodes = nodes} formed found valued stored vs enough =
    ap (λ (ws : List ℕ). word 7 whole ∷ (ws ++ (word 12 0 ∷ [])))
    (nodes-words (length Fs) found.ready.few valued (rows_writable formed found) nodes stored.fronts stored.rows_are vs enough)
