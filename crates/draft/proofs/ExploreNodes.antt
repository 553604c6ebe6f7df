-- Laws of the code that explores node by node: the rows of a node, and what each turn of the loop leaves to be explored. Assumes nothing.
use Prim.Native.Nat.{ℕ, zero, suc, ◌+◌, ◌-◌, ◌≤◌, ◌<◌}
use mathlib.Core.Path.{◌≡◌, refl, sym, ap, subst, ◌∙◌}
use mathlib.Core.Bool.{true, false}
use mathlib.Core.List.{List, [], ◌∷◌, ◌++◌, map, append-nil}
use native.Mathlib.Numerals.{add-one}
use native.Mathlib.Omega.{arith}
use borrow.Author.Tests.{lt-ltb, le-ltb}
use lib.ListN.{length, get_or, set, take, length-map, length-set}
use lib.Seq.{take-suc-set, map-set_same, drop-length}
use native.Mathlib.Nat.{le_refl, le_trans}
use Rattle.zone.specs.Stores.{zone_at}
use Rattle.zone.specs.Reading.{zone_read}
use Rattle.zone.specs.declared.zones.Zone.{Zone as Square}
use Rattle.model.specs.declared.index.IndexedModel.{IndexedModel}
use Rattle.judge.specs.Reaching.{waited_square}
use Rattle.std.specs.Prelude.{Option, Result, Ok, Err, IfOk}
use Rattle.std.specs.List.{refill}
use Rattle.std.proofs.lemmas.List.{get_or-map, take_all, take-take, take-map, map-set}
use Rattle.answers.specs.declared.Reason.{Reason}
use Rattle.draft.specs.Fronts.{front, zone_from, front_for}
use Rattle.draft.specs.Nodes.{node, no_node, Keeps, fronts_of, rows_of, Placing, placed_in}
use Rattle.draft.specs.Exploration.{Graph, graph, rows_at, with_node, nodes_from, explored_from, start_from, Explored, explored_as, go_on}
use Rattle.draft.specs.Asked.{ModelAsked, Located}
use Rattle.draft.specs.declared.nodes.Front.{Front}
use Rattle.draft.specs.declared.nodes.Node.{Node}
use Rattle.draft.proofs.ExploreCode.{one_left, keeps-length}
use Rattle.draft.proofs.LocatedLaws.{There, located-nodes, there-nodes, there-start, there-node, ThereIn}

-- ---- a node
module _ (m : IndexedModel) (f : Front) (fs : List Front) where
  pub node-target : get_or m.index.targets f.location false ≡ true → {rows : List ℕ} → rows ≡ [] → Ok (graph fs rows) ≡ with_node m f fs
  unfolding with_node
  node-target t e = sym (rw (t, e))

  pub node-rows : {y i waited : Square} → get_or m.index.targets f.location false ≡ false → y ≡ zone_read m.index.clocks f.bounds.items →
      i ≡ zone_at m.zones f.location → waited ≡ waited_square y i → rows_at m waited f.location fs ≡ with_node m f fs
  unfolding with_node
  node-rows t ey ei ew = sym (rw (t, ← ey, ← ei, ← ew))

-- what a write leaves of nodes
pub refilled : (nodes written : List Node) → length written ≡ length nodes → refill (length nodes) nodes written ≡ written
refilled nodes written e =
    rw (e, drop-length nodes, append-nil written) (take_all (length nodes) written (rw e (le_refl (length nodes))))

-- ---- node by node
module _ (m : IndexedModel) (asked : ModelAsked m) where
  -- before the node n: the nodes before it are explored, and all of it comes to `goal`
  pub record AtNode (goal : Result Explored Reason) (nodes : List Node) (n : ℕ) : Type 0 where
    pub within : n ≤ 64
    pub few : 1 ≤ n → length nodes ≤ 64
    pub found : n ≤ length nodes
    pub located : Located m.index.locations nodes
    pub onward : goal ≡ nodes_from m (64 - n) n (take n (rows_of nodes)) (fronts_of nodes)

  -- the start node
  module _ (y : Square) where
    pub start-is : {f : Option Front} {nodes : List Node} → f ≡ front_for m.index.start (zone_from m.index.clocks y) → nodes ≡ [] →
        placed_in f (fronts_of nodes) ≡ start_from m y
    unfolding start_from
    start-is ef en = rw (ef, en) refl

    pub start-stops : (r : Reason) → Err r ≡ start_from m y → Err r ≡ explored_from m y
    unfolding explored_from
    start-stops r e = sym (rw (← e) refl)

    pub nodes_begin : (nodes : List Node) (k : ℕ) → Ok (record { number = k; fronts = fronts_of nodes }) ≡ start_from m y → AtNode (explored_from m y) nodes 0
    unfolding explored_from
    nodes_begin nodes k e = record {
      within = omega arith;
      few = λ h. absurd (omega arith);
      found = omega arith;
      located = located-nodes (subst (λ (r : Result Placing Reason). IfOk r (λ p. There m.index.locations p.fronts)) (sym e) (there-start m asked y));
      onward = rw (← e) refl;
    }

  module _ {goal : Result Explored Reason} {nodes : List Node} {n : ℕ} (i : AtNode goal nodes n) where
    -- every node is explored
    pub nodes-end : length nodes ≤ n → Ok (explored_as (fronts_of nodes) (rows_of nodes)) ≡ goal
    unfolding nodes_from
    nodes-end all =
        sym (i.onward ∙ no_more (64 - n) ∙ rw (take_all n (rows_of nodes) (rw (length-map nodes (λ (n : Node). n.rows.items)) all)) refl)
      where
        no_more : (k : ℕ) → nodes_from m k n (take n (rows_of nodes)) (fronts_of nodes) ≡ Ok (explored_as (fronts_of nodes) (take n (rows_of nodes)))
        no_more zero = refl
        no_more (suc k) = rw (length-map nodes (λ (n : Node). n.front), le-ltb n (length nodes) all) refl

    module _ (h : n < 64) (there : n < length nodes) where
      abbrev here : Front
      here = (get_or nodes n no_node).front

      front_is : get_or (fronts_of nodes) n (front 0 []) ≡ here
      front_is = get_or-map (λ (n : Node). n.front) nodes n no_node (front 0 []) there

      one-node : (r : Result Graph Reason) → r ≡ with_node m here (fronts_of nodes) →
          go_on r (λ d. nodes_from m (64 - suc n) (suc n) (take n (rows_of nodes) ++ (d.codes ∷ [])) d.fronts) ≡ goal
      unfolding nodes_from
      one-node r e =
          sym (i.onward ∙ rw (one_left 64 n h, length-map nodes (λ (n : Node). n.front), lt-ltb n (length nodes) there, front_is, ← e) refl)

      pub node-stops : (r : Reason) → Err r ≡ with_node m here (fronts_of nodes) → Err r ≡ goal
      node-stops r e = one-node (Err r) e

      -- the node with its rows, behind its turn
      pub node-next : (after : List Node) (rows : List ℕ) (now : List Node) → Keeps nodes after → length after ≤ 64 →
          Ok (graph (fronts_of after) rows) ≡ with_node m here (fronts_of nodes) →
          now ≡ set after n (node (get_or after n no_node).front rows) → AtNode goal now (n + 1)
      node-next after rows now keeps few e put =
          rw (add-one n, put) (record {
            within = omega arith;
            few = λ _. rw size few;
            found = rw size (le_trans there more);
            located = located-nodes (rw fronts (subst (ThereIn m.index.locations) (sym e)
                (there-node m asked here (fronts_of nodes) (i.located.at n there) (there-nodes i.located))));
            onward = sym (rw (fronts, codes) (one-node (Ok (graph (fronts_of after) rows)) e));
          })
        where
          new : Node
          new = node (get_or after n no_node).front rows

          more : length nodes ≤ length after
          more = keeps-length after keeps

          size : length (set after n new) ≡ length after
          size = length-set after n new

          fronts : fronts_of (set after n new) ≡ fronts_of after
          fronts = map-set_same (λ (n : Node). n.front) after n new no_node refl

          before : take n after ≡ take n nodes
          before = sym (take-take n (length nodes) after (omega arith)) ∙ ap (take n) keeps

          codes : take (suc n) (rows_of (set after n new)) ≡ take n (rows_of nodes) ++ (rows ∷ [])
          codes =
              let f : Node → List ℕ = λ n. n.rows.items in
              ap (take (suc n)) (map-set f after n new)
              ∙ take-suc-set (rows_of after) n rows (rw (length-map after f) (le_trans there more))
              ∙ ap (λ (rs : List (List ℕ)). rs ++ (rows ∷ [])) (take-map f n after ∙ ap (map f) before ∙ sym (take-map f n nodes))
