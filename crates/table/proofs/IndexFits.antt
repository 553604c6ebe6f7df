-- The index of an accepted model is one that a table may be read against. Assumes nothing.
use Prim.Native.Nat.{ℕ, suc, ◌+◌, ◌≤◌, ◌<◌}
use mathlib.Core.Path.{◌≡◌, refl}
use mathlib.Core.Bool.{Bool, true, false}
use mathlib.Core.List.{List, [], ◌∷◌}
use native.Mathlib.Numerals.{add-one}
use native.Mathlib.Omega.{arith}
use borrow.Author.Tests.{eqb-true, eqb-false}
use lib.Dec.{eqb}
use lib.ListN.{get_or, length}
use Rattle.model.specs.Model.{Action, Model}
use Rattle.model.specs.States.{location_at}
use Rattle.model.specs.Indexed.{Each, ActionAt, LocationAt, Indexed}
use Rattle.model.specs.declared.index.Index.{Index}
use Rattle.model.specs.declared.index.IndexedModel.{IndexedModel}
use Rattle.model.proofs.IndexLaws.{location-at}
use Rattle.model.proofs.ZoneLaws.{All, more}
use Rattle.model.proofs.WellFormed.{FormedAction, WellFormed}
use Rattle.table.specs.Scan.{IndexFits}

-- the first of them, or one behind it
here-or-later : {X : Type 0} (n a : ℕ) → n ≤ a → (n ≡ a → X) → (suc n ≤ a → X) → X
here-or-later {X} n a h f g = by (eqb n a) refl
  where
    by : (c : Bool) → eqb n a ≡ c → X
    by true e = f (eqb-true n a e)
    by false e = g (omega (arith, eqb-false n a e))

module _ {M : Model} {m : IndexedModel} (g : WellFormed M) (i : Indexed M m) where
  abbrev x : Index
  x = m.index

  at : (l : ℕ) → l < x.locations → LocationAt m l (location_at M l)
  at l h = location-at i l (rw (← i.locations) h)

  -- an action among those numbered from n on has an edge, and its edges are places in the array of edge words
  edges-of : (a n : ℕ) (As : List Action) → All (FormedAction M) As → Each (ActionAt m) n As → n ≤ a → a < n + length As →
      (get_or x.edges a 0 < get_or x.edges (suc a) 0) × (get_or x.edges (suc a) 0 ≤ 128)
  unfolding Each
  edges-of a n [] f e h l = absurd (omega arith)
  edges-of a n (A ∷ As) (more f fs) e h l =
      here-or-later n a h
      (λ same. let A' = e.0 in let some = f.some in rw (← same) (omega (arith, A'.ends), i.edge_limits _))
      (λ later. edges-of a (suc n) As fs e.1 later (omega arith))

  pub index-fits : IndexFits x
  index-fits =
      record {
        clocks = rw i.clocks g.clocks;
        locations = i.limit;
        actions = λ l h. let L = at l h in rw (add-one l) (omega (arith, L.ends), L.limit);
        edges = λ l a h b e.
            let L = at l h in
            rw (add-one a)
            (edges-of a (get_or x.actions l 0) (location_at M l).actions (g.actions l) L.actions b (rw (add-one l, L.ends) at e));
      }
