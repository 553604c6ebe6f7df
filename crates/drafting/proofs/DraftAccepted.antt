-- Every table drafted is accepted, after any number of rounds. Assumes nothing.
use Prim.Native.Nat.{ℕ, suc, ◌+◌, ◌*◌, ◌≤◌, ◌<◌, zero-le, suc-le-suc}
use mathlib.Core.Path.{◌≡◌, refl, sym, ap, subst, ◌∙◌}
use mathlib.Core.Bool.{Bool, true, false, not, cond}
use mathlib.Core.List.{List, [], ◌∷◌}
use native.Mathlib.Omega.{arith}
use lib.Dec.{T}
use lib.ListN.{get_or, length}
use Rattle.zone.specs.Scale.{Valuation, within}
use Rattle.model.specs.Model.{Edge, Action, Location, Model}
use Rattle.model.specs.States.{location_at}
use Rattle.model.proofs.WellFormed.{WellFormed}
use Rattle.table.specs.Table.{Node, Table, node_at, row_actions, table_of}
use Rattle.acceptance.specs.Acceptance.{
  Pairwise,
  landings_inside,
  SuccessorFits,
  RowFits,
  NodeFits,
  start_valuations,
  Accepted,
}
use Rattle.judge.proofs.RowLaws.{all-below}
use Rattle.drafting.specs.Exploring.{Found, FoundRow, no_found, as_node, start_zone}
use Rattle.drafting.specs.Words.{whole, words_of}
use Rattle.drafting.proofs.BoundingLaws.{within-append}
use Rattle.drafting.proofs.Shares.{Share, Valued, no_valued, sum_of, values_after}
use Rattle.drafting.proofs.RoundLaws.{Limited, Fits, values_length, values_limited, values-fit, target_keeps}
use Rattle.drafting.proofs.ReadBack.{successors_at, rows_at, node_at_place}
use Rattle.drafting.proofs.ExploreLaws.{SuccessorGood, RowGood, RowsGood, AllFound}
use Rattle.drafting.proofs.ValuedRows.{
  ShareRows,
  no_row,
  pass_blocked,
  next_row,
  ValuedIs,
  ValuedAll,
  valued-length,
  valued-at,
  weighed,
}
use Rattle.drafting.proofs.DraftTable.{pairwise_in, whole_is, start_is, count-is, value-is, node-is}
use Rattle.drafting.proofs.DraftRounds.{reach-same, landings-same, sum-holds}

-- ---- the start zone holds the start valuations
starts_in : (M : Model) (k : ℕ) (u : Valuation) → start_valuations M k u → within (start_zone M) k u
unfolding start_valuations start_zone
starts_in M k u s = (within-append M.start_bounds (location_at M M.start).invariant k u).1 (s.bounds, s.state.invariant)

-- ---- with values of at most V
module _ (M : Model) (formed : WellFormed M) (locations : length M.locations ≤ 16) (Fs : List Found) (rows : List (List FoundRow))
    (found : AllFound M Fs rows) (vs : List ℕ) (size : length vs ≡ length Fs) (limited : Limited vs) where
  abbrev W : Table
  W = table_of M (words_of Fs vs rows)

  top : W.whole ≡ whole
  top = whole_is M formed locations Fs rows found vs size limited

  there : (n : ℕ) → n < length Fs → n < length W.nodes
  there n h = rw (count-is M formed locations Fs rows found vs size limited) h

  values : (n : ℕ) → (node_at W n).value ≡ get_or vs n 0
  values = value-is M formed locations Fs rows found vs size limited

  -- a node of the table, by what was found
  at : (n : ℕ) → n < length Fs → (p : ℕ) × (node_at W n ≡ node_at_place p (get_or Fs n no_found) (get_or vs n 0) (get_or rows n []))
  at = node-is M formed locations Fs rows found vs size limited

  -- ---- the rows of a node
  module _ (F : Found) (v q : ℕ) (rs : List FoundRow) where
    abbrev here : Node
    here = node_at_place q F v rs

    successors-fit : (A : Action) (es : List Edge) (p : ℕ) (ns : List ℕ) → Pairwise (SuccessorGood M Fs F A) es ns →
        Pairwise (SuccessorFits M W here A) es (successors_at p ns)
    unfolding landings_inside
    successors-fit A [] p [] h = tt
    successors-fit A [] p (n ∷ ns) h = h
    successors-fit A (e ∷ es) p [] h = h
    successors-fit A (e ∷ es) p (n ∷ ns) h = (
      record {
        exists = there n h.0.there;
        location = ap (λ (O : Node). O.location) same ∙ h.0.location;
        inside = record {
          at = λ k k₁ u r.
              subst (λ (O : Node). within O.zone k u) (sym same)
              (h.0.inside.at k k₁ u (landings-same M here (as_node F) refl refl A e k u r.0, r.1));
        };
      },
      successors-fit A es (suc p) ns h.1,
    )
      where
        same : node_at W n ≡ node_at_place (at n h.0.there).0 (get_or Fs n no_found) (get_or vs n 0) (get_or rows n [])
        same = (at n h.0.there).1

    -- where every sum is at most D times the node's value
    rows_fit : {As : List Action} {ls : List FoundRow} {sss : List (List Share)} → ShareRows M F As ls sss → (p : ℕ) →
        Pairwise (RowGood M Fs F) As ls → ((r : ℕ) → r < length sss → sum_of vs (get_or sss r []) ≤ M.denominator * v) →
        Pairwise (RowFits M W here) As (rows_at p ls)
    rows_fit no_row p h s = tt
    rows_fit (pass_blocked {A} w) p h s = (
      record { at = λ k k₁ u r. h.0.at k k₁ u (reach-same M here (as_node F) refl refl A k u r) },
      rows_fit w (suc p) h.1 s,
    )
    rows_fit (next_row {A} {ns} {ss} t w) p h s = (
      record {
        successors = successors-fit A A.edges p ns h.0;
        sum = (sum_of vs ss, sum-holds W vs top values here F refl refl t p, s 0 (suc-le-suc zero-le));
      },
      rows_fit w (p + length ns) h.1 (λ r l. s (suc r) (suc-le-suc l)),
    )

    -- a target has none
    body-fits : (c : Bool) (As : List Action) {ls : List FoundRow} {sss : List (List Share)} → ShareRows M F (cond c [] As) ls sss → (p : ℕ) →
        Pairwise (RowGood M Fs F) (cond c [] As) ls →
        (T (not c) → (r : ℕ) → r < length sss → sum_of vs (get_or sss r []) ≤ M.denominator * v) →
        Pairwise (RowFits M W here) (cond c [] As) (rows_at p ls)
    body-fits true As no_row p h s = tt
    body-fits false As w p h s = rows_fit w p h (s tt)

  -- ---- where the values are such that every sum fits, and targets have V
  module _ (qs : List Valued) (valued : ValuedAll M Fs rows qs) (sums : Fits M.denominator qs (weighed formed valued) vs)
      (targets : (n : ℕ) → n < length qs → T (get_or qs n no_valued).target → get_or vs n 0 ≡ whole) where
    node-fits : (n : ℕ) → n < length Fs → NodeFits M W n (node_at W n)
    unfolding row_actions
    node-fits n l =
        subst (NodeFits M W n) (sym (at n l).1) (record {
          exists = (all-below no_found n found.ready.all l).location;
          value = rw top (limited.at n);
          target = λ t. targets n inside (rw is.target t) ∙ sym top;
          body =
              body-fits F (get_or vs n 0) (at n l).0 (get_or rows n []) L.target L.actions is.rows _
              (pairwise_in (RowsGood M Fs) Fs rows no_found [] n found.each l) (λ t. sums n inside (rw is.target t));
        })
      where
        F : Found
        F = get_or Fs n no_found

        L : Location
        L = location_at M F.location

        inside : n < length qs
        inside = rw (valued-length valued) l

        is : ValuedIs M F (get_or rows n []) (get_or qs n no_valued)
        is = valued-at valued n l

    pub accepts : Accepted M W
    accepts = record {
      whole = rw top (omega arith);
      nodes = λ n l. node-fits n (rw (count-is M formed locations Fs rows found vs size limited) at l);
      start = record {
        exists = rw start (there 0 found.start.there);
        location = ap (λ (O : Node). O.location) first ∙ found.start.location;
        inside = record {
          at = λ k k₁ u s. subst (λ (O : Node). within O.zone k u) (sym first) (found.start.inside.at k k₁ u (starts_in M k u s));
        };
      };
    }
      where
        start : W.start ≡ 0
        start = start_is M formed locations Fs rows found vs size limited

        first : node_at W W.start ≡ node_at_place (at 0 found.start.there).0 (get_or Fs 0 no_found) (get_or vs 0 0) (get_or rows 0 [])
        first = ap (node_at W) start ∙ (at 0 found.start.there).1

-- ---- after any number of rounds
module _ (M : Model) (formed : WellFormed M) (locations : length M.locations ≤ 16) (Fs : List Found) (rows : List (List FoundRow))
    (found : AllFound M Fs rows) (qs : List Valued) (valued : ValuedAll M Fs rows qs) (r : ℕ) where
  abbrev after : List ℕ
  after = values_after M.denominator qs r

  pub after-size : length after ≡ length Fs
  after-size = values_length M.denominator qs (weighed formed valued) r ∙ valued-length valued

  pub after_limited : Limited after
  after_limited = values_limited M.denominator qs (weighed formed valued) r

  pub rounds_accept : Accepted M (table_of M (words_of Fs after rows))
  rounds_accept =
      accepts M formed locations Fs rows found after after-size after_limited qs valued (values-fit M.denominator qs (weighed formed valued) r)
      (target_keeps M.denominator qs (weighed formed valued) r)
