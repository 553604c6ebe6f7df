-- Exploring by square tables, fronts and codes explores as the definition says: node after node, from the start zone. Assumes nothing.
use Prim.Native.Nat.{ℕ, zero, suc, ◌+◌, ◌≤◌, ◌<◌, zero-le}
use mathlib.Core.Path.{◌≡◌, refl, ap, ◌∙◌}
use mathlib.Core.Logic.{inl, inr}
use mathlib.Core.Bool.{Bool, true, false, cond}
use mathlib.Core.List.{List, [], ◌∷◌, ◌++◌, map}
use native.Mathlib.Nat as N
use native.Mathlib.Omega.{arith}
use borrow.Author.Tests.{ltb-true, ltb-false}
use lib.Dec.{ltb}
use lib.ListN.{get_or, length, drop, length-map}
use lib.Seq.{drop-cons}
use Rattle.answers.specs.Checks.{Answer, refused, accepted}
use Rattle.zone.specs.declared.zones.Zone.{Zone as Square}
use Rattle.model.specs.Model.{Action, Model}
use Rattle.model.specs.States.{location_at}
use Rattle.model.specs.Index.{start_square}
use Rattle.model.specs.declared.index.IndexedModel.{IndexedModel}
use Rattle.model.specs.Indexed.{Indexed}
use Rattle.model.proofs.ZoneLaws.{empty}
use Rattle.model.proofs.GoodModel.{GoodModel}
use Rattle.model.proofs.WellFormed.{WellFormed}
use Rattle.table.specs.Table.{row_actions}
use Rattle.drafting.specs.Exploring.{Found, FoundRow, Progress, no_found, node_for, rows_for, nodes_from, start_zone, exploring}
use Rattle.drafting.proofs.ExploreLaws.{Ready, Grown, grown-ready, grown-trans, grown-length, grown-at, node-found, rows-formed, rows-found, nodes-found}
use Rattle.std.proofs.lemmas.List.{get_or-map}
use Rattle.draft.specs.Fronts.{front, zone_from}
use Rattle.draft.specs.Nodes.{Placing}
use Rattle.draft.specs.Exploration.{Graph, graph, with_node, Explored, explored_as, go_on, start_from, explored_from}
use Rattle.draft.specs.Exploration.{nodes_from as explored_nodes}
use Rattle.std.specs.Prelude.{Result, Ok, Err}
use Rattle.answers.specs.Refusals.{number}
use Rattle.answers.specs.declared.Reason.{Reason}
use Rattle.draft.proofs.Coding.{front_of, ExploredRight}
use Rattle.draft.proofs.SmallestLaws.{zone-bounds}
use Rattle.draft.proofs.LandedLaws.{start-square}
use Rattle.draft.proofs.PlacingLaws.{Places, placed, not_placed, placed_first}
use Rattle.draft.proofs.GraphLaws.{Builds, built, not_built, RowsBuilt, AllBuilt, none-built, node-cons}
use Rattle.draft.proofs.ExploringLaws.{node-right}

-- what is built of the nodes from number n on, behind the rows `before`; or P refuses
data BuildsNodes (M : Model) (P : Answer (Progress (List (List FoundRow))) → Type 0) (n : ℕ) (before : List (List ℕ)) : Result Explored Reason → Type 0 where
  nodes-built : (s : Progress (List (List FoundRow))) (rows : List (List ℕ)) → P (accepted s) → AllBuilt M n before s rows →
      BuildsNodes M P n before (Ok (explored_as (map front_of s.found) rows))
  none_built : (r : Reason) → P (refused (number r) 0) → BuildsNodes M P n before (Err r)

-- what is built first, and then the nodes
nodes-then : {A : Type 0} {M : Model} (P : Answer (Progress A) → Type 0) {Q : Progress A → List ℕ → Type 0}
    (P' : Answer (Progress (List (List FoundRow))) → Type 0) (n : ℕ) (before : List (List ℕ))
    (f : Graph → Result Explored Reason) {d : Result Graph Reason} → Builds P Q d → ((r : Reason) → P (refused (number r) 0) → P' (refused (number r) 0)) →
    ((s : Progress A) (cs : List ℕ) → P (accepted s) → Q s cs → BuildsNodes M P' n before (f (graph (map front_of s.found) cs))) →
    BuildsNodes M P' n before (go_on d f)
nodes-then P P' n before f (built s cs p q) refuse go = go s cs p q
nodes-then P P' n before f (not_built r p) refuse go = none_built r (refuse r p)

module _ {M : Model} {m : IndexedModel} (x : Indexed M m) (good : GoodModel M) (formed : WellFormed M) where
  -- ---- the nodes from number n on, k of them at most
  nodes-right : (k n : ℕ) → 64 ≤ k + n → (found : List Found) → Ready M found → (before : List (List ℕ)) →
      BuildsNodes M (nodes_from M k n found) n before (explored_nodes m k n before (map front_of found))
  unfolding explored_nodes
  nodes-right zero n all found ready before =
      nodes-built (record { found = found; result = [] }) before refl (none-built n found before (let g = ready.few in omega arith))
  nodes-right (suc k) n all found ready before =
      rw (length-map found front_of) (by (ltb n (length found)) refl (λ s r rows. nodes-right k (suc n) (omega arith) s r rows))
    where
      F : Found
      F = get_or found n no_found

      As : List Action
      As = row_actions (location_at M F.location)

      more : Graph → Result Explored Reason
      more d = explored_nodes m k (suc n) (before ++ (d.codes ∷ [])) d.fronts

      by : (c : Bool) → ltb n (length found) ≡ c →
          ((later : List Found) → Ready M later → (rows : List (List ℕ)) →
          BuildsNodes M (nodes_from M k (suc n) later) (suc n) rows (explored_nodes m k (suc n) rows (map front_of later))) →
          BuildsNodes M (nodes_from M (suc k) n found) n before
          (cond c (go_on (with_node m (get_or (map front_of found) n (front 0 [])) (map front_of found)) more)
          (Ok (explored_as (map front_of found) before)))
      by false e rest =
          let over : length found ≤ n = ltb-false n (length found) e in
          nodes-built (record { found = found; result = [] }) before (inl (over, refl)) (none-built n found before over)
      by true e rest =
          let less : n < length found = ltb-true n (length found) e in
          rw (get_or-map front_of found n no_found (front 0 []) less)
          (nodes-then (rows_for M F As found) (nodes_from M (suc k) n found) n before more (node-right x good formed found ready n less)
          (λ r p. inr (less, inr (number r, 0, p, refl)))
          (λ s bs p q.
          let first = (rows-found M formed F As (rows-formed formed F.location) ready s p).grown in
          behind s bs p q first (rest s.found (grown-ready first) (before ++ (bs ∷ [])))))
        where
          behind : (s : Progress (List FoundRow)) (bs : List ℕ) → rows_for M F As found (accepted s) → RowsBuilt M F [] As s.result bs →
              Grown M found s.found → {X : Result Explored Reason} →
              BuildsNodes M (nodes_from M k (suc n) s.found) (suc n) (before ++ (bs ∷ [])) X →
              BuildsNodes M (nodes_from M (suc k) n found) n before X
          behind s bs p q first (nodes-built t rows p' q') =
              let less : n < length found = ltb-true n (length found) e in
              let all : Grown M found t.found = grown-trans first (nodes-found M formed k (suc n) (omega arith) (grown-ready first) t p').grown in
              nodes-built (record { found = t.found; result = s.result ∷ t.result }) rows (inr (less, inl (s, p, inl (t, p', refl))))
              (node-cons n t
              (drop-cons t.found n no_found (N.lt_of_lt_of_le less (grown-length all)) ∙ ap (λ (G : Found). G ∷ drop (suc n) t.found) (grown-at all n less))
              q q')
          behind s bs p q first (none_built r p') =
              none_built r (inr (ltb-true n (length found) e, inl (s, p, inr (number r, 0, p', refl))))

  -- ---- from the start zone, whose table is y
  module _ (y : Square) (initial : y ≡ start_square m.index.start m.zones) where
    start_right : Places (node_for M.clocks M.start (start_zone M) []) (start_from m y)
    unfolding start_from
    start_right =
        rw (initial, x.start, x.clocks)
        (placed_first M.clocks M.start (start_zone M) (zone_from M.clocks (start_square M.start m.zones))
        (zone-bounds M.clocks formed.clocks (start-square x good formed.start)))

    all_right : BuildsNodes M (exploring M []) 0 [] (explored_from m y)
    unfolding explored_from
    all_right = by (start_from m y) start_right
      where
        started : (s : Progress ℕ) → node_for M.clocks M.start (start_zone M) [] (accepted s) → {X : Result Explored Reason} →
            BuildsNodes M (nodes_from M 64 0 s.found) 0 [] X → BuildsNodes M (exploring M []) 0 [] X
        started s p (nodes-built t rows p' q) = nodes-built t rows (inl (s, p, p')) q
        started s p (none_built r p') = none_built r (inl (s, p, p'))

        by : (p : Result Placing Reason) → Places (node_for M.clocks M.start (start_zone M) []) p →
            BuildsNodes M (exploring M []) 0 [] (go_on p (λ p. explored_nodes m 64 0 [] p.fronts))
        by _ (placed Fs n h) =
            let s : Progress ℕ = record { found = Fs; result = n } in
            started s h
            (nodes-right 64 0 (omega arith) Fs
            (grown-ready (node-found formed formed.start (start_zone M) (record { few = zero-le; all = empty }) s h).grown) [])
        by _ (not_placed r h) = none_built r (inr (number r, 0, h, refl))

-- ---- what is found, with its rows, or the definition refuses
by-result : {M : Model} (X : Result Explored Reason) → BuildsNodes M (exploring M []) 0 [] X → ExploredRight M X
by-result _ (nodes-built s rows p q) =
    record { found = s.found; rows = s.result; valued = q.valued; explores = p; fronts = refl; values = q.are; coded = q.codes }
by-result _ (none_built r p) = p

pub explored_right : {M : Model} {m : IndexedModel} → Indexed M m → GoodModel M → WellFormed M → (y : Square) →
    y ≡ start_square m.index.start m.zones → ExploredRight M (explored_from m y)
explored_right {m = m} x good formed y initial = by-result (explored_from m y) (all_right x good formed y initial)
