-- The checks 15 to 21, with 51 to 53, and acceptance say the same: for the table of words that pass 11 to 14, all of the checks hold exactly where
-- the table is accepted. Assumes nothing.
use Prim.Native.Nat.{ℕ, zero, suc, ◌+◌, ◌<◌, zero-le, suc-le-suc}
use mathlib.Core.Path.{◌≡◌}
use mathlib.Core.Bool.{Bool, true, false, not, cond}
use mathlib.Core.List.{List, [], ◌∷◌}
use native.Mathlib.Omega.{arith}
use native.Mathlib.Nat.{le_of_suc-le-suc, not-suc-le-zero, add-zero, zero-add}
use lib.Dec.{T}
use lib.ListN.{get_or, length, drop}
use Rattle.answers.specs.Checks.{Check, check}
use Rattle.answers.proofs.CheckLaws.{AllHold, all_left, all_right, all_join}
use Rattle.zone.specs.Scale.{Region}
use Rattle.model.specs.declared.table_kinds.TableKind.TheVariants.{Blocked as blocked, Cut as cut}
use Rattle.model.specs.TableKinds.{is_table}
use Rattle.model.specs.Model.{Edge, Action, Location, Model}
use Rattle.model.specs.States.{location_at}
use Rattle.model.proofs.ZoneLaws.{All, more}
use Rattle.table.specs.Fields.{number_of}
use Rattle.table.specs.Table.{Successor, Row, blocked_row, successor_row, Body, rows_body, cut_body, Node, no_node, Table, node_at}
use Rattle.table.specs.Table.{successors_of, rows_of, cut_of, row_actions, body_of}
use Rattle.table.specs.Scan.{row_size}
use Rattle.table.proofs.Shape.{RowStands, RowsStand, BodyStands, NodeShaped, Shaped}
use Rattle.acceptance.specs.Acceptance.{Pairwise, SumFits, SuccessorFits, RowFits, holding_part, PartFits, BodyFits, HasWhole, NodeFits, Accepted}
use Rattle.acceptance.specs.Judging.{successor_checks, row_checks, rows_checks, part_checks, cut_checks, body_checks, node_checks, nodes_checks}
use Rattle.acceptance.specs.Judging.{start_checks, table_checks}

-- ---- the rows of words that pass: one for each action, with a successor for each edge, which names one of so many nodes

abbrev SuccessorThere : ℕ → Edge → Successor → Type 0
SuccessorThere nodes e s = s.node < nodes

abbrev RowThere : ℕ → Action → Row → Type 0
RowThere nodes A (blocked_row p) = Unit {0}
RowThere nodes A (successor_row p ss) = Pairwise (SuccessorThere nodes) A.edges ss

successors-pair : (nodes : ℕ) (es : List Edge) (p : ℕ) (ws : List ℕ) → ((i : ℕ) → i < length es → number_of (get_or ws i 0) < nodes) →
    Pairwise (SuccessorThere nodes) es (successors_of (length es) p ws)
unfolding successors_of
successors-pair nodes [] p ws h = tt
successors-pair nodes (e ∷ es) p ws h =
    (h 0 (suc-le-suc zero-le), successors-pair nodes es (suc p) (drop 1 ws) (λ i l. behind ws i (h (suc i) (suc-le-suc l))))
  where
    behind : (ws : List ℕ) (i : ℕ) → number_of (get_or ws (suc i) 0) < nodes → number_of (get_or (drop 1 ws) i 0) < nodes
    behind [] i l = l
    behind (w ∷ ws) i l = l

rows-pair : (nodes : ℕ) (As : List Action) (p : ℕ) (ws : List ℕ) → RowsStand nodes As ws → Pairwise (RowThere nodes) As (rows_of As p ws)
unfolding rows_of RowStands row_size RowsStand
rows-pair nodes [] p ws h = tt
rows-pair nodes (A ∷ As) p ws h =
    by (is_table blocked (get_or ws 0 0)) h.0 h.1 (λ q vs. rows-pair nodes As q vs)
  where
    by : (c : Bool) → RowStands nodes c (length A.edges) ws → RowsStand nodes As (drop (row_size c (length A.edges)) ws) →
        ((q : ℕ) (vs : List ℕ) → RowsStand nodes As vs → Pairwise (RowThere nodes) As (rows_of As q vs)) →
        Pairwise (RowThere nodes) (A ∷ As)
        (cond c (blocked_row p ∷ rows_of As (suc p) (drop 1 ws))
        (successor_row p (successors_of (length A.edges) p ws) ∷ rows_of As (p + length A.edges) (drop (length A.edges) ws)))
    by true g gs rest = (tt, rest (suc p) (drop 1 ws) gs)
    by false g gs rest =
        (successors-pair nodes A.edges p ws g.2, rest (p + length A.edges) (drop (length A.edges) ws) gs)

-- what a node of words that pass carries: such rows, or a cut at a location that is no target, both of whose successors are there
abbrev BodyThere : ℕ → Location → Body → Type 0
BodyThere nodes L (rows_body rs) = Pairwise (RowThere nodes) (row_actions L) rs
BodyThere nodes L (cut_body c) = T (not L.target) × (c.holding.node < nodes) × (c.rest.node < nodes)

body-there : (nodes : ℕ) (L : Location) (p : ℕ) (ws : List ℕ) → BodyStands nodes (is_table cut (get_or ws 0 0)) L ws → BodyThere nodes L (body_of L p ws)
unfolding body_of BodyStands cut_of
body-there nodes L p ws = by (is_table cut (get_or ws 0 0))
  where
    by : (c : Bool) → BodyStands nodes c L ws → BodyThere nodes L (cond c (cut_body (cut_of p ws)) (rows_body (rows_of (row_actions L) p ws)))
    by true h = (rw h.elsewhere tt, h.holding, h.rest)
    by false h = rows-pair nodes (row_actions L) p ws h

-- ---- both ways, part by part
module _ (M : Model) (W : Table) where
  successors-fit : (N : Node) (A : Action) (es : List Edge) (ss : List Successor) → Pairwise (SuccessorThere (length W.nodes)) es ss →
      AllHold (successor_checks M W N A es ss) → Pairwise (SuccessorFits M W N A) es ss
  unfolding successor_checks
  successors-fit N A [] [] t h = tt
  successors-fit N A [] (s ∷ ss) t h = t
  successors-fit N A (e ∷ es) [] t h = t
  successors-fit N A (e ∷ es) (s ∷ ss) t h =
      (record { exists = t.0; location = h.0; inside = h.1.0 }, successors-fit N A es ss t.1 h.1.1)

  successors-hold : (N : Node) (A : Action) (es : List Edge) (ss : List Successor) → Pairwise (SuccessorFits M W N A) es ss →
      AllHold (successor_checks M W N A es ss)
  unfolding successor_checks
  successors-hold N A [] [] f = tt
  successors-hold N A [] (s ∷ ss) f = tt
  successors-hold N A (e ∷ es) [] f = tt
  successors-hold N A (e ∷ es) (s ∷ ss) f = (f.0.location, (f.0.inside, successors-hold N A es ss f.1))

  row_fits : (N : Node) (A : Action) (r : Row) → RowThere (length W.nodes) A r → AllHold (row_checks M W N A r) → RowFits M W N A r
  unfolding row_checks
  row_fits N A (blocked_row p) t h = h.0
  row_fits N A (successor_row p ss) t h = record {
    successors = successors-fit N A A.edges ss t (all_left (successor_checks M W N A A.edges ss) _ h);
    sum = (all_right (successor_checks M W N A A.edges ss) (check 19 p (SumFits M W N A ss) ∷ []) h).0;
  }

  row-holds : (N : Node) (A : Action) (r : Row) → RowFits M W N A r → AllHold (row_checks M W N A r)
  unfolding row_checks
  row-holds N A (blocked_row p) f = (f, tt)
  row-holds N A (successor_row p ss) f =
      all_join (successor_checks M W N A A.edges ss) _ (successors-hold N A A.edges ss f.successors) (f.sum, tt)

  rows-in-range : (N : Node) (As : List Action) (rs : List Row) → Pairwise (RowThere (length W.nodes)) As rs → AllHold (rows_checks M W N As rs) →
      Pairwise (RowFits M W N) As rs
  unfolding rows_checks
  rows-in-range N [] [] t h = tt
  rows-in-range N [] (r ∷ rs) t h = t
  rows-in-range N (A ∷ As) [] t h = t
  rows-in-range N (A ∷ As) (r ∷ rs) t h =
      (row_fits N A r t.0 (all_left (row_checks M W N A r) _ h), rows-in-range N As rs t.1 (all_right (row_checks M W N A r) _ h))

  rows-hold : (N : Node) (As : List Action) (rs : List Row) → Pairwise (RowFits M W N) As rs → AllHold (rows_checks M W N As rs)
  unfolding rows_checks
  rows-hold N [] [] f = tt
  rows-hold N [] (r ∷ rs) f = tt
  rows-hold N (A ∷ As) [] f = tt
  rows-hold N (A ∷ As) (r ∷ rs) f = all_join (row_checks M W N A r) _ (row-holds N A r f.0) (rows-hold N As rs f.1)

  part-fits : (n : ℕ) (N : Node) (P : Region) (t : Successor) → t.node < length W.nodes → AllHold (part_checks W n N P t) → PartFits W n N P t
  unfolding part_checks
  part-fits n N P t l h = record { exists = l; above = h.0; matching = h.1.0; inside = h.1.1.0 }

  part-holds : (n : ℕ) (N : Node) (P : Region) (t : Successor) → PartFits W n N P t → AllHold (part_checks W n N P t)
  unfolding part_checks
  part-holds n N P t f = (f.above, (f.matching, (f.inside, tt)))

  -- the node numbered n, where its location has the actions As and is a target or not
  abbrev checks_at : ℕ → Node → Bool → List Action → Body → List Check
  checks_at n N target As B = cond target (check 15 N.place (HasWhole W N) ∷ []) (body_checks M W n N As B)

  module _ (n : ℕ) (N : Node) where
    abbrev As : List Action
    As = (location_at M N.location).actions

    body-fits : (B : Body) → BodyThere (length W.nodes) (location_at M N.location) B →
        AllHold (checks_at n N (location_at M N.location).target As B) → BodyFits M W n N B
    unfolding row_actions body_checks cut_checks
    body-fits (rows_body rs) t h = by (location_at M N.location).target rs t h
      where
        by : (c : Bool) (rs : List Row) → Pairwise (RowThere (length W.nodes)) (cond c [] As) rs → AllHold (checks_at n N c As (rows_body rs)) →
            Pairwise (RowFits M W N) (cond c [] As) rs
        by true [] t h = tt
        by true (r ∷ rs) t h = t
        by false rs t h = rows-in-range N As rs t h
    body-fits (cut_body c) t h = record {
      elsewhere = t.0;
      holding = part-fits n _ _ c.holding t.1 (all_left (part_checks W n N (holding_part N c.bound) c.holding) _ holds);
      rest = part-fits n _ _ c.rest t.2 (all_right (part_checks W n N (holding_part N c.bound) c.holding) _ holds);
    }
      where
        by : (o : Bool) → T (not o) → AllHold (checks_at n N o As (cut_body c)) → AllHold (body_checks M W n N As (cut_body c))
        by true t h = absurd t
        by false t h = h

        holds : AllHold (cut_checks W n N c)
        holds = by (location_at M N.location).target t.0 h

    body-holds : (B : Body) → (T (location_at M N.location).target → HasWhole W N) → BodyFits M W n N B →
        AllHold (checks_at n N (location_at M N.location).target As B)
    unfolding row_actions body_checks cut_checks
    body-holds (rows_body rs) v f = by (location_at M N.location).target v f
      where
        by : (c : Bool) → (T c → HasWhole W N) → Pairwise (RowFits M W N) (cond c [] As) rs → AllHold (checks_at n N c As (rows_body rs))
        by true v f = (v tt, tt)
        by false v f = rows-hold N As rs f
    body-holds (cut_body c) v f = by (location_at M N.location).target f.elsewhere
      where
        by : (o : Bool) → T (not o) → AllHold (checks_at n N o As (cut_body c))
        by true t = absurd t
        by false t =
            all_join (part_checks W n N (holding_part N c.bound) c.holding) _ (part-holds n _ _ c.holding f.holding)
            (part-holds n _ _ c.rest f.rest)

    node-in-range : (words : List ℕ) → NodeShaped M W words N → AllHold (node_checks M W n N) → NodeFits M W n N
    unfolding node_checks
    node-in-range words s h = record {
      exists = s.exists;
      value = s.value;
      target = sure (location_at M N.location).target h;
      body = body-fits N.body (rw s.body (body-there (length W.nodes) _ _ _ s.stands)) h;
    }
      where
        sure : (c : Bool) → AllHold (checks_at n N c As N.body) → T c → HasWhole W N
        sure true h t = h.0
        sure false h t = absurd t

    node-holds : NodeFits M W n N → AllHold (node_checks M W n N)
    unfolding node_checks
    node-holds f = body-holds N.body f.target f.body

  -- the nodes Ns are numbered from m on
  nodes-fit : (words : List ℕ) (m : ℕ) (Ns : List Node) → All (NodeShaped M W words) Ns → AllHold (nodes_checks M W m Ns) → (n : ℕ) →
      n < length Ns → NodeFits M W (m + n) (get_or Ns n no_node)
  unfolding nodes_checks
  nodes-fit words m [] ss h n l = absurd (not-suc-le-zero l)
  nodes-fit words m (N ∷ Ns) (more s ss) h zero l = rw (add-zero m) (node-in-range m N words s (all_left (node_checks M W m N) _ h))
  nodes-fit words m (N ∷ Ns) (more s ss) h (suc n) l =
      let past : m + suc n ≡ suc m + n = omega arith in
      rw past (nodes-fit words (suc m) Ns ss (all_right (node_checks M W m N) _ h) n (le_of_suc-le-suc l))

  nodes-hold : (m : ℕ) (Ns : List Node) → ((n : ℕ) → n < length Ns → NodeFits M W (m + n) (get_or Ns n no_node)) → AllHold (nodes_checks M W m Ns)
  unfolding nodes_checks
  nodes-hold m [] f = tt
  nodes-hold m (N ∷ Ns) f =
      all_join (node_checks M W m N) _ (node-holds m N (rw (add-zero m) at (f zero (suc-le-suc zero-le))))
      (nodes-hold (suc m) Ns (λ n l. let past : m + suc n ≡ suc m + n = omega arith in rw past at (f (suc n) (suc-le-suc l))))

  pub checks_accept : (words : List ℕ) → Shaped M words W → AllHold (table_checks M W) → Accepted M W
  unfolding table_checks start_checks node_at
  checks_accept words s h =
      let last = all_right (nodes_checks M W 0 W.nodes) (start_checks M W) h in
      let first = all_left (nodes_checks M W 0 W.nodes) (start_checks M W) h in
      record {
        whole = s.whole;
        nodes = λ n l. rw (zero-add n) at (nodes-fit words 0 W.nodes s.nodes first n l);
        start = record { exists = s.start; location = last.0; inside = last.1.0 };
      }

  pub accept_checks : Accepted M W → AllHold (table_checks M W)
  unfolding table_checks start_checks node_at
  accept_checks ok =
      all_join (nodes_checks M W 0 W.nodes) (start_checks M W) (nodes-hold 0 W.nodes (λ n l. rw (zero-add n) (ok.nodes n l)))
      (ok.start.location, (ok.start.inside, tt))
