-- The words of an action's edges, where a model is kept. Assumes nothing.
use Prim.Native.Nat.{ℕ, suc, ◌+◌, ◌-◌, ◌≤◌, ◌<◌}
use mathlib.Core.Path.{◌≡◌, refl, sym, ap, ap₂, ◌∙◌}
use mathlib.Core.Logic.{◌⊎◌, inl, inr}
use mathlib.Core.List.{List, [], ◌∷◌, map}
use native.Mathlib.Nat.{not-suc-le-zero}
use native.Mathlib.Numerals.{add-one}
use native.Mathlib.Omega.{arith}
use lib.ListN.{get_or, length, take, drop, length-map, get_or-eq_default}
use lib.Seq.{drop-cons}
use Rattle.model.specs.Model.{Edge, Action, Model, edge_of}
use Rattle.model.specs.declared.index.IndexedModel.{IndexedModel}
use Rattle.model.specs.Indexed.{Each, EdgeAt, ActionAt}
use Rattle.model.proofs.ZoneLaws.{All, empty, more}
use Rattle.model.proofs.WellFormed.{FormedEdge}
use Rattle.zone.proofs.Integers.{lt-or-ge}
use Rattle.draft.specs.Asked.{edges_of}

module _ {M : Model} (m : IndexedModel) where
  -- an edge has a weight, so its word is there
  edge-there : (k : ℕ) (e : Edge) → EdgeAt m k e → FormedEdge M e → k < length m.edges
  edge-there k e h f = by (lt-or-ge k (length m.edges))
    where
      by : (k < length m.edges) ⊎ (length m.edges ≤ k) → k < length m.edges
      by (inl l) = l
      by (inr l) =
          let none : edge_of 0 ≡ e = rw (get_or-eq_default m.edges 0 l) at h.reads in
          let weight = ap (λ (e : Edge). e.weight) none in
          absurd (not-suc-le-zero (rw (← weight) at f.weight))

  taken-edges : (k : ℕ) (es : List Edge) → Each (EdgeAt m) k es → All (FormedEdge M) es → map edge_of (take (length es) (drop k m.edges)) ≡ es
  unfolding Each
  taken-edges k [] h empty = refl
  taken-edges k (e ∷ es) h (more f fs) =
      rw (drop-cons m.edges k 0 (edge-there k e h.0 f)) (ap₂ ◌∷◌ h.0.reads (taken-edges (suc k) es h.1 fs))

-- they are those of the action's edges
module _ {M : Model} {m : IndexedModel} {a : ℕ} {A : Action} (i : ActionAt m a A) (formed : All (FormedEdge M) A.edges) where
  pub edges-read : map edge_of (edges_of m a) ≡ A.edges
  edges-read =
      let first = get_or m.index.edges a 0 in
      let ends : get_or m.index.edges (a + 1) 0 ≡ first + length A.edges = rw (add-one a) i.ends in
      let many : get_or m.index.edges (a + 1) 0 - first ≡ length A.edges = omega arith in
      rw many (taken-edges m first A.edges i.edges formed)

  pub edges-many : length (edges_of m a) ≡ length A.edges
  edges-many = sym (length-map (edges_of m a) edge_of) ∙ ap length edges-read
