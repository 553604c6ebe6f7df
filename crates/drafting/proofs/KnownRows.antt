-- What exploring finds for an accepted model can be read as rounds read it: of every edge of every node found it is known whether it can land
-- outside. Assumes nothing.
use Prim.Native.Nat.{ℕ, suc, ◌≤◌}
use mathlib.Core.Path.{refl}
use mathlib.Core.Logic.{inl, inr}
use mathlib.Core.Bool.{Bool, true, false, cond}
use mathlib.Core.List.{List, [], ◌∷◌}
use native.Mathlib.Omega.{arith}
use lib.ListN.{get_or, length}
use Rattle.zone.specs.Scale.{Zone}
use Rattle.answers.specs.Checks.{accepted}
use Rattle.model.specs.Model.{Edge, Action, Location, Model, model_of}
use Rattle.model.specs.States.{location_at}
use Rattle.model.specs.Reading.{ReadModel}
use Rattle.model.specs.declared.index.IndexedModel.{IndexedModel}
use Rattle.model.specs.Indexed.{Each, Indexed}
use Rattle.model.specs.declared.read.Counts.{Counts}
use Rattle.model.proofs.Entries.{empty_model, sized-empty}
use Rattle.model.proofs.Indexing.{indexed}
use Rattle.model.proofs.ZoneLaws.{All, empty, more, GoodBound, GoodZone}
use Rattle.model.proofs.GoodModel.{GoodModel}
use Rattle.model.proofs.WellFormed.{WellFormed, accepted-runs, accepted-good, accepted-formed}
use Rattle.table.specs.Table.{row_actions}
use Rattle.acceptance.specs.Acceptance.{Pairwise}
use Rattle.acceptance.proofs.SumLaws.{Known}
use Rattle.judge.proofs.RowReach.{reached}
use Rattle.judge.proofs.OutsideLaws.{all_known}
use Rattle.judge.proofs.RowLaws.{ActionIs, actions-at}
use Rattle.drafting.specs.Exploring.{Found, FoundRow, blocked, to_nodes, as_node}
use Rattle.drafting.proofs.Shares.{Share, Valued}
use Rattle.drafting.proofs.WordBack.{AllFit}
use Rattle.drafting.proofs.ExploreLaws.{Writable, SuccessorGood, RowGood, RowsGood, AllFound}
use Rattle.drafting.proofs.ValuedRows.{
  ShareIs,
  SharesOf,
  no_edge,
  next_edge,
  ShareRows,
  no_row,
  pass_blocked,
  next_row,
  ValuedIs,
  ValuedAll,
  no_node,
  next_node,
}

-- bounds that words can hold are good
pub fit-good : (C : ℕ) → C ≤ 4 → (Z : Zone) → AllFit C Z → GoodZone Z
fit-good C few [] f = empty
fit-good C few (b ∷ Z) f =
    let first = f.0.first in
    let second = f.0.second in
    let small = f.0.small in
    let one : GoodBound b = record { first = omega arith; second = omega arith; small = omega arith } in
    more one (fit-good C few Z f.1)

module _ (M : Model) (m : IndexedModel) (x : Indexed M m) (good : GoodModel M) (formed : WellFormed M) (found : List Found) where
  share-of : (F : Found) (A : Action) (e : Edge) (n : ℕ) → Known M (as_node F) A e → (s : Share) × ShareIs M F A e n s
  share-of F A e n (inl o) = (record { weight = e.weight; node = n; outside = true }, record { weight = refl; node = refl; outside = o })
  share-of F A e n (inr i) = (record { weight = e.weight; node = n; outside = false }, record { weight = refl; node = refl; outside = i })

  shares_of : (F : Found) (A : Action) (es : List Edge) (ns : List ℕ) → All (Known M (as_node F) A) es → Pairwise (SuccessorGood M found F A) es ns →
      (ss : List Share) × SharesOf M F A es ns ss
  shares_of F A [] [] empty h = ([], no_edge)
  shares_of F A [] (n ∷ ns) empty h = absurd h
  shares_of F A (e ∷ es) [] (more k ks) h = absurd h
  shares_of F A (e ∷ es) (n ∷ ns) (more k ks) h =
      let one = share-of F A e n k in
      let rest = shares_of F A es ns ks h.1 in
      (one.0 ∷ rest.0, next_edge one.1 rest.1)

  module _ (F : Found) (w : Writable M F) where
    edges-known : (a : ℕ) (A : Action) → ActionIs M m a A → All (Known M (as_node F) A) A.edges
    edges-known a A i =
        all_known good
        (reached x good (as_node F) w.location (fit-good M.clocks formed.clocks F.zone w.zone) i.at i.good) A.edges

    rows_of : (a : ℕ) (As : List Action) → Each (ActionIs M m) a As → (rs : List FoundRow) → Pairwise (RowGood M found F) As rs →
        (sss : List (List Share)) × ShareRows M F As rs sss
    unfolding Each
    rows_of a [] i [] h = ([], no_row)
    rows_of a [] i (r ∷ rs) h = absurd h
    rows_of a (A ∷ As) i [] h = absurd h
    rows_of a (A ∷ As) i (blocked ∷ rs) h = let rest = rows_of (suc a) As i.1 rs h.1 in (rest.0, pass_blocked rest.1)
    rows_of a (A ∷ As) i (to_nodes ns ∷ rs) h =
        let one = shares_of F A A.edges ns (edges-known a A i.0) h.0 in
        let rest = rows_of (suc a) As i.1 rs h.1 in
        (one.0 ∷ rest.0, next_row one.1 rest.1)

    node_of : (rs : List FoundRow) → RowsGood M found F rs → (q : Valued) × ValuedIs M F rs q
    unfolding Each row_actions
    node_of rs h =
        let rows = by L.target h in
        (record { target = L.target; rows = rows.0 }, record { target = refl; rows = rows.1 })
      where
        L : Location
        L = location_at M F.location

        actions : Each (ActionIs M m) (get_or m.index.actions F.location 0) L.actions
        actions = actions-at M m x good formed F.location w.location

        by : (c : Bool) → Pairwise (RowGood M found F) (cond c [] L.actions) rs →
            (sss : List (List Share)) × ShareRows M F (cond c [] L.actions) rs sss
        by true h = rows_of 0 [] tt rs h
        by false h = rows_of _ L.actions actions rs h

  nodes-of : (Fs : List Found) → All (Writable M) Fs → (rows : List (List FoundRow)) → Pairwise (RowsGood M found) Fs rows →
      (qs : List Valued) × ValuedAll M Fs rows qs
  nodes-of [] empty [] h = ([], no_node)
  nodes-of [] empty (rs ∷ rows) h = absurd h
  nodes-of (F ∷ Fs) (more w ws) [] h = absurd h
  nodes-of (F ∷ Fs) (more w ws) (rs ∷ rows) h =
      let one = node_of F w rs h.0 in
      let rest = nodes-of Fs ws rows h.1 in
      (one.0 ∷ rest.0, next_node one.1 rest.1)

module _ (model : List ℕ) (counts : Counts) (reads : ReadModel model (accepted counts)) where
  abbrev M : Model
  M = model_of model

  pub all-valued : (Fs : List Found) (rows : List (List FoundRow)) → AllFound M Fs rows → (qs : List Valued) × ValuedAll M Fs rows qs
  all-valued Fs rows f =
      nodes-of M _ (indexed model empty_model sized-empty (accepted-runs model counts reads)) (accepted-good model counts reads)
      (accepted-formed model counts reads) Fs Fs f.ready.all rows f.each

  pub few-locations : length M.locations ≤ 16
  few-locations = let x = indexed model empty_model sized-empty (accepted-runs model counts reads) in omega (arith, x.limit, x.locations)
