-- The walk decides the checks 15 to 19, and 51 to 53 of cuts. Assumes nothing.
use Prim.Native.Nat.{ℕ, suc, ◌+◌, ◌*◌, ◌≤◌, ◌<◌}
use Rattle.std.specs.Prelude.{Ok}
use mathlib.Core.Path.{◌≡◌, refl, sym, ap, ap₂, ◌∙◌}
use mathlib.Core.Logic.{◌↔◌}
use mathlib.Core.Bool.{Bool, true, false, cond, ◌&&◌, ◌||◌}
use mathlib.Core.List.{List, [], ◌∷◌, ◌++◌}
use native.Mathlib.Omega.{arith}
use borrow.Author.Tests.{eqb-true, eqb-false, eq-eqb, leb-true, leb-false, le-leb, ltb-true, ltb-false}
use lib.Dec.{eqb, leb, ltb}
use lib.ListN.{get_or, length, drop}
use Rattle.zone.specs.Scale.{Zone, Region}
use Rattle.answers.specs.Checks.{check, First}
use Rattle.answers.specs.Refusals.{number, answer_of}
use Rattle.answers.specs.declared.Reason.TheVariants as reason
use Rattle.zone.specs.Squares.{universe, empty?, inside?}
use Rattle.zone.specs.Stores.{zone_at}
use Rattle.zone.specs.declared.zones.Zone.{Zone as Square}
use Rattle.zone.proofs.Bools.{true_false, left_true, right_true}
use Rattle.model.specs.declared.table_kinds.TableKind.TheVariants.{Blocked as blocked, Cut as cut}
use Rattle.model.specs.TableKinds.{is_table}
use Rattle.model.specs.Scan.{guards_at}
use Rattle.model.specs.Model.{Edge, Action, Location, Model}
use Rattle.model.specs.States.{location_at}
use Rattle.model.specs.declared.index.IndexedModel.{IndexedModel}
use Rattle.model.specs.Indexed.{Each, with_bounds, EdgeAt, LocationAt, Indexed}
use Rattle.model.proofs.ZoneLaws.{All, empty, more}
use Rattle.model.proofs.GoodModel.{GoodModel}
use Rattle.model.proofs.WellFormed.{FormedEdge, WellFormed}
use Rattle.model.proofs.IndexLaws.{location-at}
use Rattle.table.specs.Fields.{number_of}
use Rattle.table.specs.Table.{Successor, blocked_row, successor_row, rows_body, cut_body, Node, Table, node_at}
use Rattle.table.specs.Table.{successors_of, rows_of, cut_of, row_actions, body_of, table_of}
use Rattle.table.specs.Scan.{edges_at, row_size}
use Rattle.table.specs.declared.nodes.IndexedTable.{IndexedTable}
use Rattle.table.specs.Indexed.{NodeIs, TableIndexed}
use Rattle.table.specs.Nodes.{entry_at}
use Rattle.table.specs.declared.nodes.Node.{Node as Entry}
use Rattle.table.proofs.Shape.{RowStands, RowsStand, CutStands, BodyStands, NodeShaped, Shaped}
use Rattle.acceptance.specs.Acceptance.{SumOf, SumFits, Matches}
use Rattle.acceptance.specs.Judging.{successor_checks, row_checks, rows_checks, part_checks, cut_checks, body_checks, node_checks, nodes_checks}
use Rattle.acceptance.proofs.SumLaws.{sum_one, sum-there}
use Rattle.judge.specs.Reaching.{common, waited_square}
use Rattle.answers.specs.Refusals.{refuse}
use Rattle.judge.specs.Steps.{Checked, and_then}
use Rattle.judge.specs.Cutting.{part_checked, cut_checked}
use Rattle.judge.specs.Walk.{successors_from, rows_from, rows_checked, node_checked, nodes_from, walked}
use Rattle.judge.proofs.StepLaws.{Finds, comes-first, none_found, decides, found_as}
use Rattle.judge.proofs.EdgeLaws.{comes}
use Rattle.judge.proofs.RowLaws.{front, beyond, behind, node_at_lem, shaped-at, ActionIs, actions-at, actions-count, edges-at}
use Rattle.judge.proofs.PartLaws.{Decides, holding-decides, rest-decides}
use Rattle.judge.proofs.RowReach.{Reached, reached}
use Rattle.judge.proofs.OutsideLaws.{all_known}

-- ---- the words from a place on

next : (at : ℕ) (words ws : List ℕ) → drop at words ≡ ws → drop (suc at) words ≡ drop 1 ws
next at words ws e = let z : at + 1 ≡ suc at = omega arith in rw (← z) (behind 1 at words ws e)

-- the number that stands k behind the second word stands k + 1 behind the first
number-next : (k : ℕ) (ws : List ℕ) → number_of (get_or (drop 1 ws) k 0) ≡ number_of (get_or ws (suc k) 0)
number-next k [] = refl
number-next k (w ∷ ws) = refl

-- what is kept of a node
abbrev entry_for : Node → Entry
entry_for N = record { location = N.location; value = N.value; place = N.place; zone = with_bounds N.zone universe }

-- the row at the front of the words, and those behind it
rows_split : (A : Action) (As : List Action) (at : ℕ) (ws : List ℕ) →
    let n : ℕ = length A.edges in
    let b : Bool = is_table blocked (get_or ws 0 0) in
    rows_of (A ∷ As) at ws ≡ cond b (blocked_row at) (successor_row at (successors_of n at ws)) ∷ rows_of As (at + row_size b n) (drop (row_size b n) ws)
unfolding rows_of row_size
rows_split A As at ws = by (is_table blocked (get_or ws 0 0))
  where
    n : ℕ
    n = length A.edges

    by : (b : Bool) →
        cond b (blocked_row at ∷ rows_of As (suc at) (drop 1 ws)) (successor_row at (successors_of n at ws) ∷ rows_of As (at + n) (drop n ws)) ≡
        cond b (blocked_row at) (successor_row at (successors_of n at ws)) ∷ rows_of As (at + row_size b n) (drop (row_size b n) ws)
    by true = let e : suc at ≡ at + 1 = omega arith in rw e
    by false = refl

module _ (M : Model) (words : List ℕ) (m : IndexedModel) (k : IndexedTable) (x : Indexed M m) (good : GoodModel M) (formed : WellFormed M)
    (W : Table) (i : TableIndexed W k) (sh : Shaped M words W) where
  -- ---- the successors of a row
  module _ (N : Node) (A : Action) (reach : Square) (z : Reached M N A reach) where
    -- the sum so far with what the edges add is at most the limit exactly where Q holds
    successors-found :
        (limit first : ℕ) (Q : Type 0) (Es : List Edge) (e at sum : ℕ) (ws : List ℕ) → Each (EdgeAt m) e Es → All (FormedEdge M) Es →
        drop at words ≡ ws → ((j : ℕ) → j < length Es → number_of (get_or ws j 0) < length W.nodes) →
        ((r : ℕ) → SumOf M W N A Es (successors_of (length Es) at ws) r → (sum + r ≤ limit) ↔ Q) →
        Finds (successor_checks M W N A Es (successors_of (length Es) at ws) ++ (check 19 first Q ∷ []))
        (successors_from words m k reach limit first (length Es) e at sum)
    unfolding Each successor_checks successors_of successors_from answer_of number
    successors-found limit first Q [] e at sum ws ys empty d l q =
        let all : sum + 0 ≡ sum = omega arith in
        let same : (sum ≤ limit) ↔ Q = rw all at (q 0 refl) in
        decides (leb sum limit) (refuse reason.SumTooLarge first) _ (λ b. same.0 (leb-true sum limit b))
        (λ b h. let g : limit < sum = leb-false sum limit b in let n : sum ≤ limit = same.1 h in omega arith) refl none_found
    successors-found limit first Q (E ∷ Es) e at sum ws ys (more f fs) d l q =
        let w : ℕ = get_or m.edges e 0 in
        let s : ℕ = number_of (get_or ws 0 0) in
        rw (front at words ws d) (comes-first (_ ∷ _ ∷ []) _ _ _ _ _
        (comes M words m k x good W i sh N A reach z E f s at (l 0 (omega arith)) w ys.0.reads) (λ share a.
        successors-found limit first Q Es (suc e) (suc at) (sum + share) (drop 1 ws) ys.1 fs (next at words ws d)
        (λ j h. rw (number-next j ws) (l (suc j) (omega arith)))
        (λ r o.
        let plus : sum + share + r ≡ sum + (E.weight * a.0 + r) = omega (arith, a.2) in
        rw plus (q (E.weight * a.0 + r) (a.0, r, a.1, o, refl)))))

  -- ---- the rows of a node
  module _ (N : Node) (g : NodeShaped M W words N) where
    abbrev waited : Square
    waited = waited_square (with_bounds N.zone universe) (zone_at m.zones N.location)

    abbrev row_reach : ℕ → Square
    row_reach a = common waited (zone_at m.zones (guards_at + a))

    row-reached : (a : ℕ) (A : Action) → ActionIs M m a A → Reached M N A (row_reach a)
    row-reached a A y = reached x good N g.exists g.zone y.at y.good

    -- each row has a sum, and by `sum_one` no other
    pub row-sum : (a : ℕ) (A : Action) → ActionIs M m a A → (ss : List Successor) → (r : ℕ) × SumOf M W N A A.edges ss r
    row-sum a A y ss = sum-there M W N A A.edges ss (all_known good (row-reached a A y) A.edges)

    -- n successors of the action a from a place on, where D is the denominator
    abbrev successors_checked : ℕ → ℕ → ℕ → ℕ → Checked
    successors_checked D n a at =
        successors_from words m k (row_reach a) (D * N.value) at n (get_or m.index.edges a 0) at 0

    -- the row of the action a at a place
    abbrev row_checked : Bool → ℕ → ℕ → Checked
    row_checked b a at =
        cond b (cond (empty? (row_reach a)) (Ok tt) (refuse reason.NotBlocked at))
        (successors_checked m.index.denominator (edges_at m.index a) a at)

    -- the walk takes the first row, and goes on behind it
    rows_walked :
        (c a at w n : ℕ) → get_or words at 0 ≡ w → edges_at m.index a ≡ n →
        let b : Bool = is_table blocked w in
        rows_from words m k waited N.value (suc c) a at ≡
        and_then (row_checked b a at) (λ _. rows_from words m k waited N.value c (suc a) (at + row_size b n))
    unfolding rows_from row_size and_then
    rows_walked c a at w n e j = rw (← e, ← j) (by (is_table blocked (get_or words at 0)) (empty? (row_reach a)))
      where
        rest : ℕ → Checked
        rest at = rows_from words m k waited N.value c (suc a) at

        by : (b none : Bool) →
            cond b (cond none (rest (suc at)) (refuse reason.NotBlocked at)) (and_then (row_checked false a at) (λ _. rest (at + edges_at m.index a))) ≡
            and_then (cond b (cond none (Ok tt) (refuse reason.NotBlocked at)) (row_checked false a at)) (λ _. rest (at + row_size b (edges_at m.index a)))
        by true true = let e : suc at ≡ at + 1 = omega arith in rw e
        by true false = refl
        by false none = refl

    row-found :
        (b : Bool) (a : ℕ) (A : Action) (at : ℕ) (ws : List ℕ) → ActionIs M m a A → drop at words ≡ ws →
        RowStands (length W.nodes) b (length A.edges) ws →
        Finds (row_checks M W N A (cond b (blocked_row at) (successor_row at (successors_of (length A.edges) at ws)))) (row_checked b a at)
    unfolding row_checks RowStands answer_of number
    row-found true a A at ws y d s =
        let z = row-reached a A y in
        decides _ (refuse reason.NotBlocked at) _ z.blocked-pass z.blocked-fail refl none_found
    row-found false a A at ws y d s =
        let ss : List Successor = successors_of (length A.edges) at ws in
        found_as
        (successors-found N A (row_reach a) (row-reached a A y) (M.denominator * N.value) at (SumFits M W N A ss) A.edges
        (get_or m.index.edges a 0) at 0 ws y.at.edges y.formed.edges d s.2
        (λ r o.
        let none : 0 + r ≡ r = omega arith in
        rw none ((λ h. (r, o, h)), λ f. rw (sum_one M W N A A.edges ss r f.0 o f.1) f.2)))
        refl (ap₂ (λ (D n : ℕ). successors_checked D n a at) x.denominator (edges-at y.at))

    rows-found :
        (As : List Action) (a at : ℕ) (ws : List ℕ) → Each (ActionIs M m) a As → drop at words ≡ ws → RowsStand (length W.nodes) As ws →
        Finds (rows_checks M W N As (rows_of As at ws)) (rows_from words m k waited N.value (length As) a at)
    unfolding Each rows_checks rows_of rows_from RowsStand answer_of number
    rows-found [] a at ws y d s = record { says = tt }
    rows-found (A ∷ As) a at ws y d s =
        let b : Bool = is_table blocked (get_or ws 0 0) in
        let n : ℕ = length A.edges in
        let rest = rows-found As (suc a) (at + row_size b n) (drop (row_size b n) ws) y.1 (behind (row_size b n) at words ws d) s.1 in
        found_as (comes-first _ _ _ _ _ _ (row-found b a A at ws y.0 d s.0) (λ _ _. rest))
        (ap (rows_checks M W N (A ∷ As)) (rows_split A As at ws))
        (rows_walked (length As) a at (get_or ws 0 0) n (front at words ws d) (edges-at y.0.at))

  -- ---- the cut of a node
  module _ (n : ℕ) (N : Node) (g : NodeShaped M W words N) where
    -- the successor has the node's location and no larger value
    abbrev matches? : ℕ → Bool
    matches? s = eqb (node_at W s).location N.location && leb (node_at W s).value N.value

    matches-yes : (s p : ℕ) → matches? s ≡ true → Matches W N (record { node = s; place = p })
    matches-yes s p e = record {
      location = eqb-true _ _ (left_true (eqb (node_at W s).location N.location) _ e);
      value = leb-true _ _ (right_true (eqb (node_at W s).location N.location) _ e);
    }

    matches-no : (s p : ℕ) → matches? s ≡ false → Matches W N (record { node = s; place = p }) → ⊥
    matches-no s p e h =
        let same : eqb (node_at W s).location N.location ≡ true = eq-eqb _ _ h.location in
        let below : leb (node_at W s).value N.value ≡ true = le-leb _ _ h.value in
        true_false (rw (same, below) at e)

    part-found :
        (P : Region) (z : Square) → Decides P z → (s p : ℕ) → s < length W.nodes →
        Finds (part_checks W n N P (record { node = s; place = p })) (part_checked k z n (entry_for N) s p)
    unfolding part_checks part_checked answer_of number
    part-found P z d s p l =
        let S : Zone = (node_at W s).zone in
        rw ((node_at_lem i s l).location, (node_at_lem i s l).value, (node_at_lem i s l).zone)
        (decides (ltb n s) (refuse reason.PartNotAbove p) _ (ltb-true n s) (λ b h. omega (arith, ltb-false n s b)) refl
        (decides (matches? s) (refuse reason.PartMismatch p) _ (matches-yes s p) (matches-no s p) refl
        (decides (empty? z || inside? z (with_bounds S universe)) (refuse reason.PartNotInside p) _ (d.pass S (shaped-at sh s l).zone)
        (d.fail S (shaped-at sh s l).zone) refl none_found)))

    -- the words ws of the cut stand behind its value
    cut-found : (ws : List ℕ) → drop (suc N.place) words ≡ ws → CutStands (length W.nodes) (location_at M N.location) ws →
        Finds (cut_checks W n N (cut_of (suc N.place) ws)) (cut_checked words k n (entry_for N))
    unfolding cut_checks cut_of cut_checked
    cut-found ws e c =
        rw (front (suc N.place) words ws e, beyond 1 (suc N.place) words ws e, beyond 2 (suc N.place) words ws e)
        (comes-first _ _ _ _ _ _ (part-found _ _ (holding-decides N g.zone (get_or ws 0 0) c.bound) _ _ c.holding)
        (λ _ _. part-found _ _ (rest-decides N g.zone (get_or ws 0 0) c.bound) _ _ c.rest))

  -- ---- the nodes

  entry-is : (n : ℕ) (N : Node) → NodeIs k.nodes n N → entry_at k.nodes n ≡ entry_for N
  entry-is n N y = rw (← y.location, ← y.value, ← y.place, ← y.zone) refl

  node-found : (n : ℕ) (N : Node) → NodeIs k.nodes n N → NodeShaped M W words N → Finds (node_checks M W n N) (node_checked words m k n)
  unfolding node_checks body_checks node_checked rows_checked answer_of number row_actions body_of BodyStands
  node-found n N y g =
      rw (
        entry-is n N y,
        at.target,
        actions-count M m x good formed N.location g.exists,
        front (suc N.place) words ws refl,
      ) (by L.target refl)
    where
      L : Location
      L = location_at M N.location

      ws : List ℕ
      ws = drop (suc N.place) words

      at : LocationAt m N.location L
      at = location-at x N.location g.exists

      -- the cut, or the rows
      body : (c : Bool) → L.target ≡ false → BodyStands (length W.nodes) c L ws →
          Finds
          (body_checks M W n N L.actions
          (cond c (cut_body (cut_of (suc N.place) ws)) (rows_body (rows_of (row_actions L) (suc N.place) ws))))
          (cond c (cut_checked words k n (entry_for N))
          (rows_from words m k (waited N g) N.value (length L.actions) (get_or m.index.actions N.location 0) (suc N.place)))
      body true e s = cut-found n N g ws refl s
      body false e s =
          let all : row_actions L ≡ L.actions = rw e in
          found_as
          (rows-found N g L.actions _ (suc N.place) ws (actions-at M m x good formed N.location g.exists) refl (rw all at s))
          (ap (λ (As : List Action). rows_checks M W N L.actions (rows_of As (suc N.place) ws)) all) refl

      by : (b : Bool) → L.target ≡ b →
          Finds (cond b (check 15 N.place (N.value ≡ W.whole) ∷ []) (body_checks M W n N L.actions N.body))
          (cond b (cond (eqb N.value k.whole) (Ok tt) (refuse reason.BadTargetValue N.place))
          (cond (is_table cut (get_or ws 0 0)) (cut_checked words k n (entry_for N))
          (rows_from words m k (waited N g) N.value (length L.actions) (get_or m.index.actions N.location 0) (suc N.place))))
      by true e =
          decides (eqb N.value k.whole) _ _ (λ h. eqb-true N.value k.whole h ∙ i.whole)
          (λ h q. eqb-false N.value k.whole h (q ∙ sym i.whole)) refl none_found
      by false e = found_as (body (is_table cut (get_or ws 0 0)) e g.stands) (ap (body_checks M W n N L.actions) g.body) refl

  nodes-found :
      (Ns : List Node) (n : ℕ) → Each (NodeIs k.nodes) n Ns → All (NodeShaped M W words) Ns →
      Finds (nodes_checks M W n Ns) (nodes_from words m k (length Ns) n)
  unfolding Each nodes_checks nodes_from answer_of number
  nodes-found [] n y empty = record { says = tt }
  nodes-found (N ∷ Ns) n y (more g gs) = comes-first _ _ _ _ _ _ (node-found n N y.0 g) (λ _ _. nodes-found Ns (suc n) y.1 gs)

module _ (M : Model) (words : List ℕ) (m : IndexedModel) (k : IndexedTable) (x : Indexed M m) (good : GoodModel M) (formed : WellFormed M)
    (i : TableIndexed (table_of M words) k) (sh : Shaped M words (table_of M words)) where
  pub walk_first :
      First (nodes_checks M (table_of M words) 0 (table_of M words).nodes) (λ (_ : Unit {0}). Unit {0})
      (answer_of (walked words m k))
  walk_first =
      let W : Table = table_of M words in
      (found_as (nodes-found M words m k x good formed W i sh W.nodes 0 i.each sh.nodes) refl
      (ap (λ (n : ℕ). nodes_from words m k n 0) i.count)).says
