-- What is kept of an accepted model is what exploring and the rounds ask of it. Assumes nothing.
use Prim.Native.Nat.{ℕ, suc, ◌+◌, ◌≤◌, ◌<◌}
use mathlib.Core.Path.{◌≡◌, refl, sym, ap, subst, ◌∙◌}
use mathlib.Core.Logic.{◌⊎◌, inl, inr}
use mathlib.Core.List.{List, [], ◌∷◌, map}
use native.Mathlib.Nat as N
use native.Mathlib.Numerals.{add-one}
use native.Mathlib.Omega.{arith}
use lib.ListN.{get_or, length}
use Rattle.std.proofs.lemmas.List.{get_or-map}
use Rattle.zone.proofs.Sizes.{tightens-fewer}
use Rattle.model.specs.Fields.{lands_at, weight_of}
use Rattle.model.specs.Model.{Edge, Action, Model, edge_of}
use Rattle.model.specs.States.{location_at}
use Rattle.model.specs.declared.index.IndexedModel.{IndexedModel}
use Rattle.model.specs.Indexed.{Each, Indexed}
use Rattle.model.proofs.ZoneLaws.{tightens-bounds}
use Rattle.model.proofs.GoodModel.{GoodModel}
use Rattle.model.proofs.IndexLaws.{location-at}
use Rattle.model.proofs.WellFormed.{weigh, WellFormed}
use Rattle.judge.proofs.RowLaws.{ActionIs, actions-at, all-below}
use Rattle.draft.specs.Asked.{edges_of, weights_of, ActionAsked, ModelAsked}
use Rattle.draft.proofs.EdgeLaws.{edges-read, edges-many}

-- what every element tells of its number holds of the numbers of all
each_number : {A : Type 0} {P : ℕ → A → Type 0} (Q : ℕ → Type 0) → ((n : ℕ) (y : A) → P n y → Q n) → (k : ℕ) (ys : List A) → Each P k ys →
    (n : ℕ) → k ≤ n → n < k + length ys → Q n
unfolding Each
each_number Q f k [] h n low high = absurd (omega arith)
each_number Q f k (y ∷ ys) h n low high = by (N.eq-or-lt_of_le low) (λ l. each_number Q f (suc k) ys h.1 n l (omega arith))
  where
    by : (k ≡ n) ⊎ (k < n) → (k < n → Q n) → Q n
    by (inl e) rest = subst Q e (f k y h.0)
    by (inr l) rest = rest l

-- the weights of edges by their words
weights-are : (ws : List ℕ) → weights_of ws ≡ weigh (map edge_of ws)
unfolding weights_of weigh
weights-are [] = refl
weights-are (w ∷ ws) = ap (λ n. weight_of w + n) (weights-are ws)

module _ {M : Model} {m : IndexedModel} (x : Indexed M m) (good : GoodModel M) (formed : WellFormed M) where
  action-asked : (a : ℕ) (A : Action) → ActionIs M m a A → a < 32 → ActionAsked m a
  action-asked a A i there =
      let read = edges-read i.at i.formed.edges in
      let many = edges-many i.at i.formed.edges in
      let ends : get_or m.index.edges (a + 1) 0 ≡ get_or m.index.edges a 0 + length A.edges = rw (add-one a) i.at.ends in
      record {
        there = there;
        rises = omega arith;
        limit = x.edge_limits (a + 1);
        few = rw many i.formed.few;
        weights = rw (weights-are (edges_of m a), read, i.formed.weights, x.denominator) (N.le_refl M.denominator);
        lands = λ k h. rw x.locations (lands k h);
        guard = rw i.at.guard (tightens-fewer 2 3 _ (omega arith) (tightens-bounds A.guard i.good.guard));
      }
    where
      first : Edge
      first = edge_of 0

      lands : (k : ℕ) → k < length (edges_of m a) → lands_at (get_or (edges_of m a) k 0) < length M.locations
      lands k h =
          let read = edges-read i.at i.formed.edges in
          let is : get_or A.edges k first ≡ edge_of (get_or (edges_of m a) k 0) =
          sym (ap (λ (es : List Edge). get_or es k first) read) ∙ get_or-map edge_of (edges_of m a) k 0 first h in
          rw (ap (λ (e : Edge). e.to) is) at (all-below first k i.formed.edges (rw (edges-many i.at i.formed.edges) at h)).to

  pub model-asked : ModelAsked m
  model-asked = record {
    clocks = (rw x.clocks formed.clock, rw x.clocks formed.clocks);
    locations = x.limit;
    denominator = rw x.denominator formed.positive;
    start = rw (x.start, x.locations) formed.start;
    invariants = λ l h. rw (location-at x l (there l h)).invariant (tightens-bounds (location_at M l).invariant (good.invariants l));
    limits = λ l h. rw (add-one l) (location-at x l (there l h)).limit;
    actions = λ l h a low high.
        let at = location-at x l (there l h) in
        let end : a < get_or m.index.actions (suc l) 0 = rw (add-one l) at high in
        each_number (λ a. a < 32 → ActionAsked m a) action-asked _ _ (actions-at M m x good formed l (there l h)) a low (rw at.ends at end)
        (N.lt_of_lt_of_le end at.limit);
  }
    where
      there : (l : ℕ) → l < m.index.locations → l < length M.locations
      there l h = rw x.locations at h
