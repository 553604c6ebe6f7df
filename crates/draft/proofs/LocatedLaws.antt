-- Every node that exploring finds is at a location that exists. Assumes nothing.
use Prim.Native.Nat.{ℕ, zero, suc, ◌+◌, ◌-◌, ◌≤◌, ◌<◌}
use mathlib.Core.Path.{◌≡◌, ap}
use mathlib.Core.Logic.{◌⊎◌, inl, inr}
use mathlib.Core.Bool.{Bool, false}
use mathlib.Core.List.{List, [], ◌∷◌, ◌++◌}
use native.Mathlib.Nat.{eq-or-lt_of_le, not-suc-le-zero}
use native.Mathlib.Omega.{arith}
use lib.ListN.{length, get_or, length-append, get_or-append, length-map}
use lib.Seq.{get_or-append_seam}
use Rattle.zone.specs.Scale.{Zone}
use Rattle.zone.specs.Squares.{reset_square, empty?}
use Rattle.zone.specs.Stores.{zone_at}
use Rattle.zone.specs.declared.zones.Zone.{Zone as Square}
use Rattle.zone.proofs.Bools.{by-test}
use Rattle.model.specs.Fields.{lands_at, mask_of}
use Rattle.model.specs.Scan.{guards_at}
use Rattle.model.specs.declared.index.IndexedModel.{IndexedModel}
use Rattle.judge.specs.Reaching.{common}
use Rattle.drafting.specs.Exploring.{narrow?}
use Rattle.drafting.specs.Words.{bound_word}
use Rattle.std.specs.Prelude.{cond, map, Some, None, Result, Ok, Err, IfOk}
use Rattle.std.proofs.lemmas.List.{get_or-map}
use Rattle.std.proofs.lemmas.Option.{cond_some}
use Rattle.answers.specs.declared.Reason.{Reason}
use Rattle.draft.specs.Fronts.{front, zone_from, front_for}
use Rattle.draft.specs.Nodes.{no_node, fronts_of, Placing, placed_in}
use Rattle.draft.specs.Exploration.{Graph, graph, go_on, outside?, coded, landed_square, start_from}
use Rattle.draft.specs.Exploration.{with_successor, successors_from, with_row, rows_from, with_node}
use Rattle.draft.specs.Asked.{edges_of, ActionAsked, ModelAsked, Located}
use Rattle.draft.specs.declared.nodes.Front.{Front}
use Rattle.draft.specs.declared.nodes.Node.{Node}
use Rattle.draft.proofs.NodeLaws.{placed-keeps}

-- the locations of fronts are among the first L
pub record There (L : ℕ) (fs : List Front) : Type 0 where
  pub at : (n : ℕ) → n < length fs → (get_or fs n (front 0 [])).location < L

-- those of nodes
pub located-nodes : {L : ℕ} {nodes : List Node} → There L (fronts_of nodes) → Located L nodes
located-nodes {L} {nodes} i =
    let f : Node → Front = λ n. n.front in
    record {
      at = λ n h.
          rw (ap (λ (g : Front). g.location) (get_or-map f nodes n no_node (front 0 []) h)) at (i.at n (rw (length-map nodes f) h));
    }

pub there-nodes : {L : ℕ} {nodes : List Node} → Located L nodes → There L (fronts_of nodes)
there-nodes {L} {nodes} i =
    let f : Node → Front = λ n. n.front in
    record {
      at = λ n h.
          let l : n < length nodes = rw (length-map nodes f) at h in
          rw (ap (λ (g : Front). g.location) (get_or-map f nodes n no_node (front 0 []) l)) (i.at n l);
    }

module _ (L : ℕ) where
  there-none : There L []
  there-none = record { at = λ n h. absurd (not-suc-le-zero h) }

  -- a node more
  module _ (f : Front) (at : f.location < L) (fs : List Front) (i : There L fs) where
    there-more : There L (fs ++ (f ∷ []))
    there-more = record { at = λ n h. by n (eq-or-lt_of_le (omega (arith, length-append fs (f ∷ [])))) }
      where
        by : (n : ℕ) → (n ≡ length fs) ⊎ (n < length fs) → (get_or (fs ++ (f ∷ [])) n (front 0 [])).location < L
        by n (inl e) = rw (e, get_or-append_seam fs f [] (front 0 [])) at
        by n (inr l) = rw (get_or-append fs (f ∷ []) (front 0 []) n l) (i.at n l)

  -- what is found is at locations that are there
  abbrev pub ThereIn : Result Graph Reason → Type 0
  ThereIn r = IfOk r (λ d. There L d.fronts)

  -- with the node of a front whose location is there
  there-placed : (l : ℕ) (Z : Zone) → l < L → (fs : List Front) → There L fs → IfOk (placed_in (front_for l Z) fs) (λ p. There L p.fronts)
  unfolding front_for
  there-placed l Z h fs i = placed-keeps (There L) fs i (front_for l Z) (λ f e. there-more f (at (narrow? Z) f e) fs i)
    where
      at : (c : Bool) (f : Front) → cond c (Some (front l (map bound_word Z))) None ≡ Some f → f.location < L
      at c f e = rw (← (cond_some c _ f e).1) h

  there_going : {A B : Type 0} (P : A → Type 0) (Q : B → Type 0) (r : Result A Reason) (f : A → Result B Reason) → IfOk r P →
      ((d : A) → P d → IfOk (f d) Q) → IfOk (go_on r f) Q
  there_going P Q (Ok d) f i j = j d i
  there_going P Q (Err r) f i j = tt

-- ---- exploring
module _ (m : IndexedModel) (asked : ModelAsked m) where
  abbrev L : ℕ
  L = m.index.locations

  -- the start node
  pub there-start : (y : Square) → IfOk (start_from m y) (λ p. There L p.fronts)
  unfolding start_from
  there-start y = there-placed L m.index.start (zone_from m.index.clocks y) asked.start [] (there-none L)

  there-successor : (reach : Square) (w : ℕ) (fs : List Front) → lands_at w < L → There L fs → IfOk (with_successor m reach w fs) (λ p. There L p.fronts)
  unfolding with_successor
  there-successor reach w fs h i =
      there_going L (λ (p : Placing). There L p.fronts) (λ (p : Placing). There L p.fronts)
      (placed_in (front_for (lands_at w) (zone_from m.index.clocks (landed_square (reset_square (mask_of w) reach) (zone_at m.zones (lands_at w))))) fs)
      (coded (outside? (reset_square (mask_of w) reach) (zone_at m.zones (lands_at w))))
      (there-placed L (lands_at w) _ h fs i) (λ p j. j)

  there-successors : (reach : Square) (ws : List ℕ) (d : Graph) → ((k : ℕ) → k < length ws → lands_at (get_or ws k 0) < L) → There L d.fronts →
      ThereIn L (successors_from m reach ws d)
  unfolding successors_from
  there-successors reach [] d lands i = i
  there-successors reach (w ∷ ws) d lands i =
      there_going L (λ (p : Placing). There L p.fronts) (λ (d : Graph). There L d.fronts) (with_successor m reach w d.fronts)
      (λ p. successors_from m reach ws (graph p.fronts (d.codes ++ (p.number ∷ []))))
      (there-successor reach w d.fronts (lands 0 (omega arith)) i)
      (λ p j. there-successors reach ws (graph p.fronts (d.codes ++ (p.number ∷ []))) (λ k h. lands (suc k) (omega arith)) j)

  there-row : (waited : Square) (a : ℕ) (d : Graph) → ActionAsked m a → There L d.fronts → ThereIn L (with_row m waited a d)
  unfolding with_row
  there-row waited a d action i =
      by-test (ThereIn L) (empty? (common waited (zone_at m.zones (guards_at + a)))) _ _ (λ _. i)
      (λ _. there-successors (common waited (zone_at m.zones (guards_at + a))) (edges_of m a) d action.lands i)

  there-rows : (waited : Square) (n a : ℕ) (d : Graph) → ((k : ℕ) → a ≤ k → k < a + n → ActionAsked m k) → There L d.fronts →
      ThereIn L (rows_from m waited n a d)
  unfolding rows_from
  there-rows waited zero a d actions i = i
  there-rows waited (suc n) a d actions i =
      there_going L (λ (d : Graph). There L d.fronts) (λ (d : Graph). There L d.fronts) (with_row m waited a d) (rows_from m waited n (suc a))
      (there-row waited a d (actions a (omega arith) (omega arith)) i)
      (λ d j. there-rows waited n (suc a) d (λ k g h. actions k (omega arith) (omega arith)) j)

  -- the nodes after one of them is explored
  pub there-node : (f : Front) (fs : List Front) → f.location < L → There L fs → ThereIn L (with_node m f fs)
  unfolding with_node
  there-node f fs h i =
      let l = f.location in
      let first = get_or m.index.actions l 0 in
      let end = get_or m.index.actions (l + 1) 0 in
      by-test (ThereIn L) (get_or m.index.targets l false) _ _ (λ _. i)
      (λ _. there-rows _ (end - first) first (graph fs []) (λ k g q. asked.actions l h k g (omega arith)) i)
