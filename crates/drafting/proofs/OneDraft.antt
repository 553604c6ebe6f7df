-- At most one answer, and one state of the lent words, meets what is said of a draft. Assumes nothing.
use Prim.Native.Nat.{ℕ, zero, suc, ◌≤◌, ◌<◌, min}
use mathlib.Core.Path.{◌≡◌, refl, sym, ap, subst, ◌∙◌}
use mathlib.Core.Logic.{◌⊎◌, inl, inr}
use mathlib.Core.Bool.{Bool, true, false, not}
use mathlib.Core.List.{List, [], ◌∷◌, ◌++◌}
use native.Mathlib.Omega.{arith}
use lib.Dec.{T, leb}
use lib.ListN.{get_or, length, replicate}
use Rattle.zone.specs.Scale.{Zone, within}
use Rattle.answers.specs.Checks.{Answer, refused, accepted, Check, test, First}
use Rattle.zone.proofs.Integers.{lt-or-ge}
use Rattle.answers.proofs.CheckLaws.{first_one, same_refusal}
use Rattle.model.specs.Model.{Edge, Action, Model, model_of}
use Rattle.model.specs.States.{location_at}
use Rattle.model.specs.Reading.{model_checks, counts_of, ReadModel}
use Rattle.table.specs.Table.{Row, blocked_row, successor_row, Body, rows_body, cut_body, Node, Table, row_actions, table_of}
use Rattle.acceptance.specs.Acceptance.{Pairwise}
use Rattle.acceptance.proofs.SumLaws.{sum_one}
use Rattle.drafting.specs.Bounding.{Same}
use Rattle.drafting.specs.Exploring.{
  Found,
  FoundRow,
  blocked,
  to_nodes,
  Progress,
  Explores,
  done,
  on_from,
  and_then,
  no_found,
  Known,
  new_checks,
  node_for,
  successor_for,
  successors_for,
  row_for,
  rows_for,
  nodes_from,
  start_zone,
  exploring,
}
use Rattle.drafting.specs.Words.{whole, words_of}
use Rattle.drafting.specs.Rounds.{Largest, LargestOf, Replaces, Rounds}
use Rattle.drafting.specs.Drafting.{Ends, Drafts, length_of, lent_after, Drafted}
use Rattle.drafting.proofs.BoundingLaws.{same_refl, same_sym, same-trans, bounds-one, smallest_one}

-- at most one answer
abbrev pub One : {A : Type 0} → (Answer A → Type 0) → Type 0
One {A} P = (a b : Answer A) → P a → P b → a ≡ b

accepted-refused : {A X : Type 0} {a : A} {n p : ℕ} → ◌≡◌ {A = Answer A} (accepted a) (refused n p) → X
accepted-refused e = let z : ◌≡◌ {A = ℕ} 0 1 = cc e in absurd (omega arith)

on_one : {A B : Type 0} (first : Answer A → Type 0) (next : A → Answer B → Type 0) → One first → ((a : A) → One (next a)) → One (on_from first next)
on_one {A} first next f g a b (inl x) (inl y) =
    let same : x.0 ≡ y.0 = cc (f (accepted x.0) (accepted y.0) x.1 y.1) in
    g y.0 a b (subst (λ c. next c a) same x.2) y.2
on_one first next f g a b (inl x) (inr y) = accepted-refused (f (accepted x.0) (refused y.0 y.1) x.1 y.2)
on_one first next f g a b (inr x) (inl y) = accepted-refused (f (accepted y.0) (refused x.0 x.1) y.1 x.2)
on_one first next f g a b (inr x) (inr y) =
    x.3 ∙ same_refusal x.0 x.1 y.0 y.1 (f (refused x.0 x.1) (refused y.0 y.1) x.2 y.2) ∙ sym y.3

done-one : {A : Type 0} (x : A) (found : List Found) → One (done x found)
done-one x found a b f g = f ∙ sym g

then_one : {A B : Type 0} (first : Explores A) (next : A → Explores B) → ((found : List Found) → One (first found)) →
    ((a : A) (found : List Found) → One (next a found)) → (found : List Found) → One (and_then first next found)
then_one first next f g found = on_one (first found) (λ s. next s.result s.found) (f found) (λ s. g s.result s.found)

-- ---- a zone's node
known_same : {found : List Found} {l : ℕ} {S Y : Zone} {n : ℕ} → Same (within S) (within Y) → Known found l S n → Known found l Y n
known_same s k = record { there = k.there; location = k.location; same = same-trans k.same s }

node-one : (C l : ℕ) (S Y : Zone) → Same (within S) (within Y) → (found : List Found) (a b : Answer (Progress ℕ)) →
    node_for C l S found a → node_for C l Y found b → a ≡ b
node-one C l S Y s found a b (inl x) (inl y) = x.3 ∙ ap (λ (n : ℕ). accepted (record { found = found; result = n })) same ∙ sym y.3
  where
    same : x.0 ≡ y.0
    same = by (lt-or-ge x.0 y.0) (lt-or-ge y.0 x.0)
      where
        by : (x.0 < y.0) ⊎ (y.0 ≤ x.0) → (y.0 < x.0) ⊎ (x.0 ≤ y.0) → x.0 ≡ y.0
        by (inl h) k = absurd (y.2 x.0 h (known_same s x.1))
        by (inr h) (inl k) = absurd (x.2 y.0 k (known_same (same_sym s) y.1))
        by (inr h) (inr k) = omega arith
node-one C l S Y s found a b (inl x) (inr y) = absurd (y.0 x.0 (known_same s x.1))
node-one C l S Y s found a b (inr x) (inl y) = absurd (x.0 y.0 (known_same (same_sym s) y.1))
node-one C l S Y s found a b (inr x) (inr y) = by x.1.0 y.1.0 (bounds-one C x.1.0 y.1.0 s x.1.1 y.1.1) x.1.2 y.1.2
  where
    -- with the new node
    grown : Zone → Progress ℕ
    grown Z = record { found = found ++ (record { location = l; zone = Z } ∷ []); result = length found }

    by : (Z Z' : Zone) → Z ≡ Z' → First (new_checks found Z) (λ t. t ≡ grown Z) a → First (new_checks found Z') (λ t. t ≡ grown Z') b → a ≡ b
    by Z Z' e f g =
        first_one (new_checks found Z') (λ t. t ≡ grown Z') (λ t u p q. p ∙ sym q) a b
        (subst (λ (Z : Zone). First (new_checks found Z) (λ t. t ≡ grown Z) a) e f) g

-- ---- exploring
module _ (M : Model) where
  successor-one : (F : Found) (A : Action) (e : Edge) (found : List Found) → One (successor_for M F A e found)
  successor-one F A e found a b x y =
      node-one M.clocks e.to x.0 y.0 (smallest_one M.clocks x.0 y.0 x.1 y.1) found a b x.2 y.2

  successors-one : (F : Found) (A : Action) (es : List Edge) (found : List Found) → One (successors_for M F A es found)
  successors-one F A [] found = done-one [] found
  successors-one F A (e ∷ es) found =
      then_one (successor_for M F A e) (λ n. and_then (successors_for M F A es) (λ ns. done (n ∷ ns))) (successor-one F A e)
      (λ n. then_one (successors_for M F A es) (λ ns. done (n ∷ ns)) (successors-one F A es) (λ ns. done-one (n ∷ ns))) found

  row_one : (F : Found) (A : Action) (found : List Found) → One (row_for M F A found)
  row_one F A found a b (inl x) (inl y) = done-one blocked found a b x.1 y.1
  row_one F A found a b (inl x) (inr y) = absurd (y.0 x.0)
  row_one F A found a b (inr x) (inl y) = absurd (x.0 y.0)
  row_one F A found a b (inr x) (inr y) =
      then_one (successors_for M F A A.edges) (λ ns. done (to_nodes ns)) (successors-one F A A.edges) (λ ns. done-one (to_nodes ns)) found a b
      x.1 y.1

  rows-one : (F : Found) (As : List Action) (found : List Found) → One (rows_for M F As found)
  rows-one F [] found = done-one [] found
  rows-one F (A ∷ As) found =
      then_one (row_for M F A) (λ r. and_then (rows_for M F As) (λ rs. done (r ∷ rs))) (row_one F A)
      (λ r. then_one (rows_for M F As) (λ rs. done (r ∷ rs)) (rows-one F As) (λ rs. done-one (r ∷ rs))) found

  nodes-one : (m n : ℕ) (found : List Found) → One (nodes_from M m n found)
  nodes-one zero n found a b f g = f ∙ sym g
  nodes-one (suc m) n found a b (inl x) (inl y) = done-one [] found a b x.1 y.1
  nodes-one (suc m) n found a b (inl x) (inr y) = let g = x.0 in let h = y.0 in absurd (omega arith)
  nodes-one (suc m) n found a b (inr x) (inl y) = let g = x.0 in let h = y.0 in absurd (omega arith)
  nodes-one (suc m) n found a b (inr x) (inr y) =
      let F : Found = get_or found n no_found in
      let As : List Action = row_actions (location_at M F.location) in
      then_one (rows_for M F As) (λ rs. and_then (nodes_from M m (suc n)) (λ rest. done (rs ∷ rest))) (rows-one F As)
      (λ rs. then_one (nodes_from M m (suc n)) (λ rest. done (rs ∷ rest)) (nodes-one m (suc n)) (λ rest. done-one (rs ∷ rest))) found a b x.1 y.1

  pub exploring-one : (found : List Found) → One (exploring M found)
  exploring-one =
      then_one (node_for M.clocks M.start (start_zone M)) (λ n. nodes_from M 64 0)
      (node-one M.clocks M.start (start_zone M) (start_zone M) (same_refl (within (start_zone M))))
      (λ n. nodes-one 64 0)

  -- ---- rounds
  largest-one : (W : Table) (N : Node) (As : List Action) (rs : List Row) (u v : ℕ) → Largest M W N As rs u → Largest M W N As rs v → u ≡ v
  largest-one W N [] rs u v f g = f ∙ sym g
  largest-one W N (A ∷ As) [] u v f g = f ∙ sym g
  largest-one W N (A ∷ As) (blocked_row p ∷ rs) u v f g = largest-one W N As rs u v f g
  largest-one W N (A ∷ As) (successor_row p ss ∷ rs) u v f g =
      rw (f.4, g.4, sum_one M W N A A.edges ss f.0 g.0 f.2 g.2, largest-one W N As rs f.1 g.1 f.3 g.3)

  body-one : (W : Table) (N : Node) (As : List Action) (b : Body) (u v : ℕ) → LargestOf M W N As b u → LargestOf M W N As b v → u ≡ v
  body-one W N As (rows_body rs) u v f g = largest-one W N As rs u v f g
  body-one W N As (cut_body c) u v f g = f ∙ sym g

  replaces-one : (W : Table) (N : Node) (u v : ℕ) → Replaces M W N u → Replaces M W N v → u ≡ v
  replaces-one W N u v f g = by (location_at M N.location).target f.0 f.1 g.0 g.1
    where
      As : List Action
      As = (location_at M N.location).actions

      by : (c : Bool) → (T c → u ≡ N.value) → (T (not c) → LargestOf M W N As N.body u) →
          (T c → v ≡ N.value) → (T (not c) → LargestOf M W N As N.body v) → u ≡ v
      by true f f' g g' = f tt ∙ sym (g tt)
      by false f f' g g' = body-one W N As N.body u v (f' tt) (g' tt)

  round-one : (W : Table) (Ns : List Node) (us vs : List ℕ) → Pairwise (Replaces M W) Ns us → Pairwise (Replaces M W) Ns vs → us ≡ vs
  round-one W [] [] [] f g = refl
  round-one W [] [] (v ∷ vs) f g = absurd g
  round-one W [] (u ∷ us) vs f g = absurd f
  round-one W (N ∷ Ns) [] vs f g = absurd f
  round-one W (N ∷ Ns) (u ∷ us) [] f g = absurd g
  round-one W (N ∷ Ns) (u ∷ us) (v ∷ vs) f g = rw (replaces-one W N u v f.0 g.0, round-one W Ns us vs f.1 g.1)

  pub rounds-one : (Fs : List Found) (rows : List (List FoundRow)) (n : ℕ) (vs us ws : List ℕ) → Rounds M Fs rows n vs us →
      Rounds M Fs rows n vs ws → us ≡ ws
  rounds-one Fs rows zero vs us ws f g = f ∙ sym g
  rounds-one Fs rows (suc n) vs us ws f g =
      let W : Table = table_of M (words_of Fs vs rows) in
      let same : f.0 ≡ g.0 = round-one W W.nodes f.0 g.0 f.1 g.1 in
      rounds-one Fs rows n g.0 us ws (subst (λ xs. Rounds M Fs rows n xs us) same f.2) g.2

  abbrev last_check : ℕ → Progress (List (List FoundRow)) → List ℕ → List Check
  last_check room s vs = test 60 0 (leb (length (words_of s.found vs s.result)) room) ∷ []

  ends-one : (rounds room : ℕ) (s : Progress (List (List FoundRow))) → One (Ends M rounds room s)
  ends-one rounds room s a b f g =
      by f.0 g.0 (rounds-one s.found s.result (min rounds 1000) (replicate (length s.found) whole) f.0 g.0 f.1 g.1)
      f.2 g.2
    where
      by : (us vs : List ℕ) → us ≡ vs → First (last_check room s us) (λ ws. ws ≡ words_of s.found us s.result) a →
          First (last_check room s vs) (λ ws. ws ≡ words_of s.found vs s.result) b → a ≡ b
      by us vs e f g =
          first_one (last_check room s vs) (λ ws. ws ≡ words_of s.found vs s.result) (λ t u p q. p ∙ sym q) a b
          (subst (λ (xs : List ℕ). First (last_check room s xs) (λ ws. ws ≡ words_of s.found xs s.result) a) e f) g

-- ---- the call
pub drafts-one : (model : List ℕ) (rounds room : ℕ) (a b : Answer (List ℕ)) → Drafts model rounds room a → Drafts model rounds room b → a ≡ b
drafts-one model rounds room a b f g =
    on_one (ReadModel model) (λ counts. on_from (exploring (model_of model) []) (Ends (model_of model) rounds room))
    (λ x y p q. first_one (model_checks model) (λ counts. counts ≡ counts_of model) (λ c d e f. e ∙ sym f) x y p.says q.says)
    (λ _. on_one (exploring (model_of model) []) (Ends (model_of model) rounds room) (exploring-one (model_of model) [])
    (ends-one (model_of model) rounds room))
    a b f.says g.says

pub drafted-one : (model : List ℕ) (rounds : ℕ) (lent : List ℕ) (a b : Answer ℕ) (us vs : List ℕ) → Drafted model rounds lent a us →
    Drafted model rounds lent b vs → (a ≡ b) × (us ≡ vs)
drafted-one model rounds lent a b us vs f g =
    let same : f.draft ≡ g.draft = drafts-one model rounds (length lent) f.draft g.draft f.drafts g.drafts in
    (f.answers ∙ ap length_of same ∙ sym g.answers, f.writes ∙ ap (λ (d : Answer (List ℕ)). lent_after d lent) same ∙ sym g.writes)
