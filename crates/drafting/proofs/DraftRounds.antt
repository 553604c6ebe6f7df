-- The rounds of the definition are those over the rows found: the judge's sum in the table that the present values make is the sum over the row's
-- shares. Assumes nothing.
use Prim.Native.Nat.{ℕ, zero, suc, ◌+◌, ◌≤◌}
use mathlib.Core.Path.{◌≡◌, refl, sym, subst, ◌∙◌}
use mathlib.Core.Logic.{inl, inr}
use mathlib.Core.Bool.{Bool, true, false, not, cond}
use mathlib.Core.List.{List, [], ◌∷◌}
use lib.Dec.{T}
use lib.ListN.{get_or, length}
use Rattle.zone.specs.Scale.{Valuation, Zone, within}
use Rattle.zone.proofs.Bools.{false_true, true_false}
use Rattle.model.specs.Model.{Edge, Action, Model}
use Rattle.model.specs.States.{location_at}
use Rattle.model.proofs.WellFormed.{WellFormed}
use Rattle.table.specs.Table.{Node, Table, node_at, row_actions, table_of}
use Rattle.acceptance.specs.Acceptance.{Reach, Pairwise, landings, CanLandOutside, Worth, SumOf}
use Rattle.drafting.specs.Exploring.{Found, FoundRow, as_node}
use Rattle.drafting.specs.Words.{whole, words_of}
use Rattle.drafting.specs.Rounds.{Largest, Replaces, Rounds}
use Rattle.drafting.proofs.Shares.{Share, Valued, sum_of, largest, round_at, round_each, round, rounds}
use Rattle.drafting.proofs.RoundLaws.{Limited, round-length, round-limits}
use Rattle.drafting.proofs.ReadBack.{successors_at, rows_at, node_at_place, nodes_at}
use Rattle.drafting.proofs.OneDraft.{rounds-one}
use Rattle.drafting.proofs.ExploreLaws.{AllFound}
use Rattle.drafting.proofs.ValuedRows.{
  Tells,
  SharesOf,
  no_edge,
  next_edge,
  ShareRows,
  no_row,
  pass_blocked,
  next_row,
  ValuedIs,
  ValuedAll,
  no_node,
  next_node,
  valued-length,
  weighed,
}
use Rattle.drafting.proofs.DraftTable.{whole_is, nodes-are, value-is}

-- ---- a reach reads the location and the zone of a node alone
module _ (M : Model) (P O : Node) (here : P.location ≡ O.location) (there : P.zone ≡ O.zone) (A : Action) where
  pub reach-same : (k : ℕ) (v : Valuation) → Reach M P A k v → Reach M O A k v
  reach-same k v p = record {
    state = p.state;
    location = p.location ∙ here;
    is_state = p.is_state;
    zone = subst (λ (z : Zone). within z k p.state.valuation) there p.zone;
    delay = p.delay;
    allowed = p.allowed;
    attains = p.attains;
  }

  pub landings-same : (e : Edge) (k : ℕ) (v : Valuation) → landings M P A e k v → landings M O A e k v
  landings-same e k v r = record { before = r.before; was = reach-same k r.before r.was; lands = r.lands }

  pub outside-same : (e : Edge) → CanLandOutside M P A e → CanLandOutside M O A e
  outside-same e o = record {
    scale = o.scale;
    positive = o.positive;
    valuation = o.valuation;
    lands = landings-same e o.scale o.valuation o.lands;
    outside = o.outside;
  }

-- ---- a round, in a table whose nodes have the values vs
module _ {M : Model} (W : Table) (vs : List ℕ) (top : W.whole ≡ whole) (same : (n : ℕ) → (node_at W n).value ≡ get_or vs n 0) where
  -- at a node with the location and zone of F
  module _ (O : Node) (F : Found) (here : O.location ≡ F.location) (there : O.zone ≡ F.zone) where
    worth-holds : (A : Action) (e : Edge) (n p : ℕ) (o : Bool) → Tells M F A e o →
        Worth M W O A e (record { node = n; place = p }) (cond o whole (get_or vs n 0))
    worth-holds A e n p true t = inl (outside-same M (as_node F) O (sym here) (sym there) A e t, sym top)
    worth-holds A e n p false t = inr ((λ o. t (outside-same M O (as_node F) here there A e o)), sym (same n))

    pub sum-holds : {A : Action} {es : List Edge} {ns : List ℕ} {ss : List Share} → SharesOf M F A es ns ss → (p : ℕ) →
        SumOf M W O A es (successors_at p ns) (sum_of vs ss)
    unfolding sum_of
    sum-holds no_edge p = refl
    sum-holds {A} (next_edge {e} {n} {s} {es} {ns} {ss} h hs) p = (
      cond s.outside whole (get_or vs n 0),
      sum_of vs ss,
      worth-holds A e n p s.outside h.outside,
      sum-holds hs (suc p),
      rw (h.weight, h.node),
    )

    largest-holds : {As : List Action} {rs : List FoundRow} {sss : List (List Share)} → ShareRows M F As rs sss → (p : ℕ) →
        Largest M W O As (rows_at p rs) (largest M.denominator vs sss)
    unfolding largest
    largest-holds no_row p = refl
    largest-holds (pass_blocked h) p = largest-holds h (suc p)
    largest-holds (next_row {A} {ns} {ss} {As} {rs} {sss} s h) p =
        (sum_of vs ss, largest M.denominator vs sss, sum-holds s p, largest-holds h (p + length ns), refl)

  replaces-holds : (p : ℕ) (F : Found) (v : ℕ) (rs : List FoundRow) (q : Valued) → ValuedIs M F rs q →
      Replaces M W (node_at_place p F v rs) (round_at M.denominator vs q v)
  unfolding round_at row_actions
  replaces-holds p F v rs q h = by (location_at M F.location).target q.target h.target h.rows
    where
      As : List Action
      As = (location_at M F.location).actions

      O : Node
      O = node_at_place p F v rs

      after : Bool → ℕ
      after d = cond d v (largest M.denominator vs q.rows)

      by : (c d : Bool) → d ≡ c → ShareRows M F (cond c [] As) rs q.rows →
          (T c → after d ≡ v) × (T (not c) → Largest M W O As (rows_at (suc (suc p + length F.zone)) rs) (after d))
      by true true e l = ((λ t. refl), λ t. absurd t)
      by true false e l = false_true e
      by false true e l = true_false e
      by false false e l = ((λ t. absurd t), λ t. largest-holds O F refl refl l (suc (suc p + length F.zone)))

  round-holds : {Fs : List Found} {rows : List (List FoundRow)} {qs : List Valued} → ValuedAll M Fs rows qs → (p : ℕ) (us : List ℕ) →
      Pairwise (Replaces M W) (nodes_at p Fs us rows) (round_each M.denominator vs qs us)
  unfolding round_each
  round-holds no_node p us = tt
  round-holds (next_node h hs) p [] = tt
  round-holds (next_node {F} {rs} {q} h hs) p (u ∷ us) = (replaces-holds p F u rs q h, round-holds hs _ us)

-- ---- any number of rounds
module _ (M : Model) (formed : WellFormed M) (locations : length M.locations ≤ 16) (Fs : List Found) (rows : List (List FoundRow))
    (found : AllFound M Fs rows) (qs : List Valued) (valued : ValuedAll M Fs rows qs) where
  next-size : (vs : List ℕ) → length vs ≡ length Fs → length (round M.denominator qs vs) ≡ length Fs
  next-size vs e = round-length M.denominator qs (weighed formed valued) vs (e ∙ sym (valued-length valued)) ∙ valued-length valued

  round-made : (vs : List ℕ) → length vs ≡ length Fs → Limited vs →
      let W : Table = table_of M (words_of Fs vs rows) in
      Pairwise (Replaces M W) W.nodes (round M.denominator qs vs)
  unfolding round
  round-made vs e l =
      let W : Table = table_of M (words_of Fs vs rows) in
      subst (λ (Ns : List Node). Pairwise (Replaces M W) Ns (round_each M.denominator vs qs vs))
      (sym (nodes-are M formed locations Fs rows found vs e l))
      (round-holds W vs (whole_is M formed locations Fs rows found vs e l) (value-is M formed locations Fs rows found vs e l) valued 1 vs)

  pub rounds-hold : (n : ℕ) (vs : List ℕ) → length vs ≡ length Fs → Limited vs → Rounds M Fs rows n vs (rounds M.denominator qs n vs)
  unfolding rounds
  rounds-hold zero vs e l = refl
  rounds-hold (suc n) vs e l = (
    round M.denominator qs vs,
    round-made vs e l,
    rounds-hold n (round M.denominator qs vs) (next-size vs e) (round-limits M.denominator qs (weighed formed valued) vs l),
  )

  pub rounds-same : (n : ℕ) (vs us : List ℕ) → length vs ≡ length Fs → Limited vs → Rounds M Fs rows n vs us → us ≡ rounds M.denominator qs n vs
  rounds-same n vs us e l h = rounds-one M Fs rows n vs us (rounds M.denominator qs n vs) h (rounds-hold n vs e l)
