-- No draft has more than 9,602 words, and where as many are lent 60 is not given. Assumes nothing.
use Prim.Native.Nat.{ℕ, zero, suc, ◌*◌, ◌≤◌, ◌<◌, zero-le}
use mathlib.Core.Path.{◌≡◌}
use mathlib.Core.Logic.{inl, inr}
use mathlib.Core.Bool.{Bool, true, false, cond}
use mathlib.Core.List.{List, [], ◌∷◌, ◌++◌, map}
use native.Mathlib.Omega.{arith}
use lib.Dec.{le→leb}
use lib.ListN.{get_or, length, length-append, length-map}
use Rattle.zone.specs.Scale.{Zone, Region}
use Rattle.answers.specs.Checks.{refused, accepted, Check, First}
use Rattle.model.specs.Model.{Edge, Action, Model, model_of}
use Rattle.model.specs.States.{location_at}
use Rattle.model.specs.Reading.{word_checks, words_checks, edge_checks, model_checks, counts_of, ReadModel}
use Rattle.model.specs.declared.read.Counts.{Counts}
use Rattle.model.proofs.Entries.{empty_model, sized-empty}
use Rattle.model.proofs.IndexLaws.{location-at}
use Rattle.model.proofs.Indexing.{indexed}
use Rattle.model.proofs.ZoneLaws.{All, more}
use Rattle.model.proofs.WellFormed.{FormedAction, WellFormed, accepted-runs, accepted-formed}
use Rattle.table.specs.Table.{row_actions}
use Rattle.acceptance.specs.Acceptance.{Pairwise}
use Rattle.drafting.specs.Bounding.{Pair, pairs_from, pairs, others, AllTightened, BoundsOf}
use Rattle.drafting.specs.Exploring.{
  Found,
  FoundRow,
  blocked,
  to_nodes,
  Progress,
  Explores,
  done,
  on_from,
  and_then,
  no_found,
  new_checks,
  node_for,
  successor_for,
  successors_for,
  row_for,
  rows_for,
  nodes_from,
  start_zone,
  exploring,
}
use Rattle.drafting.specs.Words.{word, bound_word, front_words, row_words, rows_words, node_words, nodes_words, words_of}
use Rattle.drafting.specs.Drafting.{Ends, Drafts}
use Rattle.drafting.proofs.ExploreLaws.{Writable, SuccessorGood, RowGood, RowsGood, rows-formed, exploring-found}
use Rattle.drafting.proofs.DraftJudged.{good-draft}

-- ---- the bounds of a node: one for each pair of clocks at most
tightened-few : (R : Region) (ps : List Pair) (Z : Zone) → AllTightened R ps Z → length Z ≤ length ps
tightened-few R [] [] a = zero-le
tightened-few R [] (b ∷ Z) a = absurd a
tightened-few R (p ∷ ps) [] a = zero-le
tightened-few R (p ∷ ps) (b ∷ Z) (inl a) = let h = tightened-few R ps (b ∷ Z) a.1 in omega arith
tightened-few R (p ∷ ps) (b ∷ Z) (inr a) = let h = tightened-few R ps Z a.3 in omega arith

pairs-few : (C : ℕ) → C ≤ 4 → length (pairs C) ≤ 20
unfolding pairs pairs_from others
pairs-few zero h = omega arith
pairs-few (suc zero) h = omega arith
pairs-few (suc (suc zero)) h = omega arith
pairs-few (suc (suc (suc zero))) h = omega arith
pairs-few (suc (suc (suc (suc zero)))) h = omega arith
pairs-few (suc (suc (suc (suc (suc C))))) h = absurd (omega arith)

bounds-few : (R : Region) (C : ℕ) → C ≤ 4 → (Z : Zone) → BoundsOf C R Z → length Z ≤ 20
bounds-few R C h Z (inl b) = rw b.1 (omega arith)
bounds-few R C h Z (inr b) = let t = tightened-few R (pairs C) Z b.1 in let p = pairs-few C h in omega arith

-- ---- the rows of a node: four words to an action at most
pairwise-length : {A B : Type 0} (P : A → B → Type 0) (xs : List A) (ys : List B) → Pairwise P xs ys → length ys ≡ length xs
pairwise-length P [] [] h = omega arith
pairwise-length P [] (y ∷ ys) h = absurd h
pairwise-length P (x ∷ xs) [] h = absurd h
pairwise-length P (x ∷ xs) (y ∷ ys) h = let e = pairwise-length P xs ys h.1 in omega arith

module _ (M : Model) (found : List Found) (F : Found) where
  rows_few : (As : List Action) → All (FormedAction M) As → (rs : List FoundRow) → Pairwise (RowGood M found F) As rs →
      length (rows_words rs) ≤ 4 * length As
  unfolding rows_words row_words
  rows_few [] fs [] h = zero-le
  rows_few [] fs (r ∷ rs) h = absurd h
  rows_few (A ∷ As) fs [] h = absurd h
  rows_few (A ∷ As) (more f fs) (blocked ∷ rs) h = let t = rows_few As fs rs h.1 in omega arith
  rows_few (A ∷ As) (more f fs) (to_nodes ns ∷ rs) h =
      let t = rows_few As fs rs h.1 in
      let e = pairwise-length (SuccessorGood M found F A) A.edges ns h.0 in
      let few = f.few in
      rw (length-append (map (word 11) ns) (rows_words rs), length-map ns (word 11)) (omega arith)

-- ---- all words
module _ (model : List ℕ) (counts : Counts) (reads : ReadModel model (accepted counts)) where
  abbrev M : Model
  M = model_of model

  formed : WellFormed M
  formed = accepted-formed model counts reads

  actions-few : (l : ℕ) → l < length M.locations → length (row_actions (location_at M l)) ≤ 32
  unfolding row_actions
  actions-few l h =
      let at = location-at (indexed model empty_model sized-empty (accepted-runs model counts reads)) l h in
      by (location_at M l).target (omega (arith, at.ends, at.limit))
    where
      by : (c : Bool) → length (location_at M l).actions ≤ 32 → length (cond c [] (location_at M l).actions) ≤ 32
      by true few = zero-le
      by false few = few

  node-few : (found : List Found) (F : Found) → Writable M F → (v : ℕ) (rs : List FoundRow) → RowsGood M found F rs → length (node_words F v rs) ≤ 150
  unfolding node_words front_words
  node-few found F w v rs h =
      let As : List Action = row_actions (location_at M F.location) in
      let bounds = bounds-few _ M.clocks formed.clocks F.zone w.own in
      let rows = rows_few M found F As (rows-formed formed F.location) rs h in
      let actions = actions-few F.location w.location in
      rw (length-append (map bound_word F.zone) (word 9 v ∷ rows_words rs), length-map F.zone bound_word) (omega arith)

  nodes-few : (found Fs : List Found) → All (Writable M) Fs → (vs : List ℕ) (rows : List (List FoundRow)) → Pairwise (RowsGood M found) Fs rows →
      length (nodes_words Fs vs rows) ≤ 150 * length Fs
  unfolding nodes_words
  nodes-few found [] ws vs rows h = zero-le
  nodes-few found (F ∷ Fs) ws [] rows h = zero-le
  nodes-few found (F ∷ Fs) ws (v ∷ vs) [] h = zero-le
  nodes-few found (F ∷ Fs) (more w ws) (v ∷ vs) (rs ∷ rows) h =
      let first = node-few found F w v rs h.0 in
      let rest = nodes-few found Fs ws vs rows h.1 in
      rw (length-append (node_words F v rs) (nodes_words Fs vs rows)) (omega arith)

  module _ (t : Progress (List (List FoundRow))) (explores : exploring M [] (accepted t)) where
    pub words-few : (vs : List ℕ) → length (words_of t.found vs t.result) ≤ 9602
    unfolding words_of
    words-few vs =
        let all = exploring-found M formed t explores in
        let nodes = nodes-few t.found t.found all.ready.all vs t.result all.each in
        let few = all.ready.few in
        rw (length-append (nodes_words t.found vs t.result) (word 12 0 ∷ [])) (omega arith)

    -- where 9,602 words are lent, nothing is refused at the end
    enough : (rounds room number place : ℕ) → 9602 ≤ room → Ends M rounds room t (refused number place) → ⊥
    enough rounds room number place h (vs, _, inl (_, none)) = none
    enough rounds room number place h (vs, _, inr (over, _)) =
        let few = words-few vs in
        over (le→leb (length (words_of t.found vs t.result)) room (omega arith))

pub draft-few : {model words : List ℕ} {rounds room : ℕ} → Drafts model rounds room (accepted words) → length words ≤ 9602
draft-few {model} d =
    let g = good-draft d in
    rw g.wrote.2 (words-few model (counts_of model) g.reads g.progress g.explores g.wrote.0)

-- ---- the refusals before the end have other numbers: 1 to 6 of the model

-- checks with those numbers
abbrev Low : List Check → Type 0
Low [] = Unit {0}
Low (c ∷ cs) = (c.number ≤ 6) × Low cs

low-join : (cs ds : List Check) → Low cs → Low ds → Low (cs ++ ds)
low-join [] ds g h = h
low-join (c ∷ cs) ds g h = (g.0, low-join cs ds g.1 h)

low-words : (C D : ℕ) (before words : List ℕ) → Low (words_checks C D before words)
unfolding words_checks word_checks
low-words C D before [] = (omega arith, tt)
low-words C D before (w ∷ ws) = (omega arith, (omega arith, (omega arith, (omega arith, low-words C D (w ∷ before) ws))))

low-edges : (L p : ℕ) (words : List ℕ) → Low (edge_checks L p words)
unfolding edge_checks
low-edges L p [] = tt
low-edges L p (w ∷ ws) = (omega arith, low-edges L (suc p) ws)

first-low : (cs : List Check) (P : Counts → Type 0) (n p : ℕ) → Low cs → First cs P (refused n p) → n ≤ 6
first-low [] P n p l x = absurd x
first-low (c ∷ cs) P n p l (inl x) = first-low cs P n p l.1 x.1
first-low (c ∷ cs) P n p l (inr x) = let same : n ≡ c.number = cc x.1 in let few = l.0 in omega arith

reading-number : (model : List ℕ) (n p : ℕ) → ReadModel model (refused n p) → n ≤ 6
unfolding model_checks
reading-number model n p h =
    first-low (model_checks model) (λ counts. counts ≡ counts_of model) n p
    (low-join _ _ (low-words _ _ [] model) (low-join _ _ (low-edges _ 0 model) (omega arith, tt))) h.says

-- 58 and 59 of exploring
abbrev Numbers : {A : Type 0} → Explores A → Type 0
Numbers E = (found : List Found) (n p : ℕ) → E found (refused n p) → n < 60

done-numbers : {A : Type 0} (a : A) → Numbers (done a)
done-numbers a found n p e = let z : ◌≡◌ {A = ℕ} 0 1 = cc e in absurd (omega arith)

then-numbers : {A B : Type 0} (first : Explores A) (next : A → Explores B) → Numbers first → ((a : A) → Numbers (next a)) →
    Numbers (and_then first next)
then-numbers first next f g found n p (inl h) = g h.0.result h.0.found n p h.2
then-numbers first next f g found n p (inr h) = let z : n ≡ h.0 = cc h.3 in let l = f found h.0 h.1 h.2 in omega arith

module _ (M : Model) where
  node-numbers : (l : ℕ) (S : Zone) → Numbers (node_for M.clocks l S)
  unfolding new_checks
  node-numbers l S found n p (inl h) = done-numbers h.0 found n p h.3
  node-numbers l S found n p (inr (_, (Z, b, inl (_, inl (_, none))))) = absurd none
  node-numbers l S found n p (inr (_, (Z, b, inl (_, inr (_, e))))) = let z : n ≡ 59 = cc e in omega arith
  node-numbers l S found n p (inr (_, (Z, b, inr (_, e)))) = let z : n ≡ 58 = cc e in omega arith

  successors-numbers : (F : Found) (A : Action) (es : List Edge) → Numbers (successors_for M F A es)
  successors-numbers F A [] = done-numbers []
  successors-numbers F A (e ∷ es) =
      then-numbers (successor_for M F A e) (λ n. and_then (successors_for M F A es) (λ ns. done (n ∷ ns)))
      (λ found n p h. node-numbers e.to h.0 found n p h.2)
      (λ n. then-numbers (successors_for M F A es) (λ ns. done (n ∷ ns)) (successors-numbers F A es) (λ ns. done-numbers (n ∷ ns)))

  row-numbers : (F : Found) (A : Action) → Numbers (row_for M F A)
  row-numbers F A found n p (inl h) = done-numbers blocked found n p h.1
  row-numbers F A found n p (inr h) =
      then-numbers (successors_for M F A A.edges) (λ ns. done (to_nodes ns)) (successors-numbers F A A.edges) (λ ns. done-numbers (to_nodes ns))
      found n p h.1

  rows-numbers : (F : Found) (As : List Action) → Numbers (rows_for M F As)
  rows-numbers F [] = done-numbers []
  rows-numbers F (A ∷ As) =
      then-numbers (row_for M F A) (λ r. and_then (rows_for M F As) (λ rs. done (r ∷ rs))) (row-numbers F A)
      (λ r. then-numbers (rows_for M F As) (λ rs. done (r ∷ rs)) (rows-numbers F As) (λ rs. done-numbers (r ∷ rs)))

  nodes-numbers : (m k : ℕ) → Numbers (nodes_from M m k)
  nodes-numbers zero k found n p h = done-numbers [] found n p h
  nodes-numbers (suc m) k found n p (inl h) = done-numbers [] found n p h.1
  nodes-numbers (suc m) k found n p (inr h) =
      let F : Found = get_or found k no_found in
      let As : List Action = row_actions (location_at M F.location) in
      then-numbers (rows_for M F As) (λ rs. and_then (nodes_from M m (suc k)) (λ rest. done (rs ∷ rest))) (rows-numbers F As)
      (λ rs. then-numbers (nodes_from M m (suc k)) (λ rest. done (rs ∷ rest)) (nodes-numbers m (suc k)) (λ rest. done-numbers (rs ∷ rest)))
      found n p h.1

  exploring-numbers : Numbers (exploring M)
  exploring-numbers =
      then-numbers (node_for M.clocks M.start (start_zone M)) (λ n. nodes_from M 64 0) (node-numbers M.start (start_zone M))
      (λ n. nodes-numbers 64 0)

-- ---- where 9,602 words are lent, 60 is not given
pub never-60 : {model : List ℕ} {rounds room place : ℕ} → 9602 ≤ room → Drafts model rounds room (refused 60 place) → ⊥
never-60 {model} {rounds} {room} {place} h d = by d.says
  where
    by : on_from (ReadModel model) (λ counts. on_from (exploring (model_of model) []) (Ends (model_of model) rounds room)) (refused 60 place) → ⊥
    by (inl (counts, reads, inl (t, explores, ends))) = enough model counts reads t explores rounds room 60 place h ends
    by (inl (counts, reads, inr (n, p, e, q))) =
        let z : 60 ≡ n = cc q in let l = exploring-numbers (model_of model) [] n p e in absurd (omega arith)
    by (inr (n, p, r, q)) = let z : 60 ≡ n = cc q in let l = reading-number model n p r in absurd (omega arith)
