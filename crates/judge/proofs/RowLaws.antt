-- The words from a place on, nodes by their numbers, and the actions of a location with theirs, as the walk meets them. Assumes nothing.
use Prim.Native.Nat.{ℕ, zero, suc, ◌+◌, ◌-◌, ◌<◌}
use mathlib.Core.Path.{◌≡◌, sym, ap, subst, ◌∙◌}
use mathlib.Core.List.{List, [], ◌∷◌}
use native.Mathlib.Omega.{arith}
use native.Mathlib.Nat.{zero-add}
use lib.ListN.{get_or, length, drop}
use lib.Seq.{get_or-drop, drop-drop}
use Rattle.model.specs.Model.{Action, Model}
use Rattle.model.specs.States.{location_at}
use Rattle.model.specs.declared.index.IndexedModel.{IndexedModel}
use Rattle.model.specs.Indexed.{Each, ActionAt, Indexed}
use Rattle.model.proofs.ZoneLaws.{All, empty, more}
use Rattle.model.proofs.GoodModel.{GoodAction, GoodModel}
use Rattle.model.proofs.WellFormed.{FormedAction, WellFormed}
use Rattle.model.proofs.IndexLaws.{each_at, location-at}
use Rattle.table.specs.Scan.{edges_at}
use Rattle.table.specs.Table.{Table, no_node, node_at}
use Rattle.table.specs.declared.nodes.IndexedTable.{IndexedTable}
use Rattle.table.specs.Indexed.{NodeIs, TableIndexed}
use Rattle.table.proofs.Shape.{NodeShaped, Shaped}

-- ---- the words from a place on

-- n words further on
pub beyond : (n at : ℕ) (words ws : List ℕ) → drop at words ≡ ws → get_or words (at + n) 0 ≡ get_or ws n 0
beyond n at words ws e = sym (get_or-drop at words n 0) ∙ ap (λ (v : List ℕ). get_or v n 0) e

pub front : (at : ℕ) (words ws : List ℕ) → drop at words ≡ ws → get_or words at 0 ≡ get_or ws 0 0
front at words ws e = let z : at + 0 ≡ at = omega arith in rw z at (beyond 0 at words ws e)

pub behind : (n at : ℕ) (words ws : List ℕ) → drop at words ≡ ws → drop (at + n) words ≡ drop n ws
behind n at words ws e = sym (drop-drop n at words) ∙ ap (drop n) e

-- ---- the nodes

-- what holds of all holds of the one at i
pub all-below : {A : Type 0} {P : A → Type 0} {xs : List A} (d : A) (i : ℕ) → All P xs → i < length xs → P (get_or xs i d)
all-below d i empty l = absurd (omega arith)
all-below d zero (more p ps) l = p
all-below d (suc i) (more p ps) l = all-below d i ps (omega arith)

pub node_at_lem : {W : Table} {k : IndexedTable} → TableIndexed W k → (s : ℕ) → s < length W.nodes → NodeIs k.nodes s (node_at W s)
unfolding node_at
node_at_lem {W} {k} i s l =
    subst (λ (n : ℕ). NodeIs k.nodes n (get_or W.nodes s no_node)) (zero-add s) (each_at (NodeIs k.nodes) 0 W.nodes no_node i.each s l)

pub shaped-at : {M : Model} {words : List ℕ} {W : Table} → Shaped M words W → (s : ℕ) → s < length W.nodes → NodeShaped M W words (node_at W s)
unfolding node_at
shaped-at sh s l = all-below no_node s sh.nodes l

-- ---- the actions

-- an action with its number, and what holds of it in an accepted model
pub record ActionIs (M : Model) (m : IndexedModel) (a : ℕ) (A : Action) : Type 0 where
  pub at : ActionAt m a A
  pub good : GoodAction A
  pub formed : FormedAction M A

module _ (M : Model) (m : IndexedModel) (x : Indexed M m) (good : GoodModel M) (formed : WellFormed M) where
  actions-from : (As : List Action) (a : ℕ) → Each (ActionAt m) a As → All GoodAction As → All (FormedAction M) As → Each (ActionIs M m) a As
  unfolding Each
  actions-from [] a e empty empty = tt
  actions-from (A ∷ As) a e (more g gs) (more f fs) = (record { at = e.0; good = g; formed = f }, actions-from As (suc a) e.1 gs fs)

  pub actions-at : (l : ℕ) → l < length M.locations → Each (ActionIs M m) (get_or m.index.actions l 0) (location_at M l).actions
  actions-at l h =
      actions-from (location_at M l).actions (get_or m.index.actions l 0) (location-at x l h).actions (good.guards l) (formed.actions l)

  -- how many they are
  pub actions-count : (l : ℕ) → l < length M.locations →
      get_or m.index.actions (l + 1) 0 - get_or m.index.actions l 0 ≡ length (location_at M l).actions
  actions-count l h =
      let e : l + 1 ≡ suc l = omega arith in
      let ends = (location-at x l h).ends in
      rw e (omega (arith, ends))

pub edges-at : {m : IndexedModel} {a : ℕ} {A : Action} → ActionAt m a A → edges_at m.index a ≡ length A.edges
unfolding edges_at
edges-at {a = a} x = let e : a + 1 ≡ suc a = omega arith in rw e (omega (arith, x.ends))
