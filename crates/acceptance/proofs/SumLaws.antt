-- What a wrong definition of a row's sum would break (document 02, card 4): it is one at most, and there is one where it is known of each edge
-- whether it can land outside; it is document 01's own where no edge can, and never below that. Assumes nothing.
use Prim.Native.Nat.{ℕ, ◌+◌, ◌*◌, ◌≤◌, zero-le}
use mathlib.Core.Path.{◌≡◌, refl, sym, ◌∙◌}
use mathlib.Core.Logic.{◌⊎◌, inl, inr}
use mathlib.Core.List.{List, [], ◌∷◌}
use native.Mathlib.Nat.{le_refl, add-le-add, mul-le-mul_left}
use Rattle.zone.proofs.Bools.{not-untrue, not-both}
use Rattle.zone.specs.Scale.{in?, within, Inside}
use Rattle.model.specs.Model.{Edge, Action, Model}
use Rattle.model.specs.States.{location_at}
use Rattle.model.proofs.ZoneLaws.{All, more}
use Rattle.table.specs.Table.{Successor, Node, Table, node_at}
use Rattle.acceptance.specs.Acceptance.{landings, CanLandOutside, Worth, SumOf}

module _ (M : Model) (N : Node) (A : Action) where
  -- ---- an edge that cannot land outside has all its landings inside, and the other way round

  abbrev pub LandsInside : Edge → Type 0
  LandsInside e = Inside (landings M N A e) (within (location_at M e.to).invariant)

  pub cannot_inside : (e : Edge) → (CanLandOutside M N A e → ⊥) → LandsInside e
  unfolding within
  cannot_inside e un = record {
    at = λ k k₁ v p. not-untrue (in? k v (location_at M e.to).invariant)
        (λ o. un (record { scale = k; positive = k₁; valuation = v; lands = p; outside = o }));
  }

  pub inside_cannot : (e : Edge) → LandsInside e → CanLandOutside M N A e → ⊥
  unfolding within
  inside_cannot e i o = not-both (in? o.scale o.valuation (location_at M e.to).invariant) (i.at _ o.positive _ o.lands) o.outside

  -- it is known whether the edge can land outside
  abbrev pub Known : Edge → Type 0
  Known e = CanLandOutside M N A e ⊎ (CanLandOutside M N A e → ⊥)

module _ (M : Model) (W : Table) (N : Node) (A : Action) where
  -- ---- at most one sum

  worth-one : (e : Edge) (s : Successor) (x y : ℕ) → Worth M W N A e s x → Worth M W N A e s y → x ≡ y
  worth-one e s x y (inl f) (inl g) = f.1 ∙ sym g.1
  worth-one e s x y (inl f) (inr g) = absurd (g.0 f.0)
  worth-one e s x y (inr f) (inl g) = absurd (f.0 g.0)
  worth-one e s x y (inr f) (inr g) = f.1 ∙ sym g.1

  plus : (w : ℕ) {y y' z z' : ℕ} → y ≡ y' → z ≡ z' → w * y + z ≡ w * y' + z'
  plus w p q = rw (p, q)

  pub sum_one : (es : List Edge) (ss : List Successor) (x y : ℕ) → SumOf M W N A es ss x → SumOf M W N A es ss y → x ≡ y
  sum_one [] ss x y f g = f ∙ sym g
  sum_one (e ∷ es) [] x y f g = f ∙ sym g
  sum_one (e ∷ es) (s ∷ ss) x y f g =
      f.4 ∙ plus e.weight (worth-one e s f.0 g.0 f.2 g.2) (sum_one es ss f.1 g.1 f.3 g.3) ∙ sym g.4

  -- ---- one, where it is known of each edge

  worth-there : (e : Edge) (s : Successor) → Known M N A e → (x : ℕ) × Worth M W N A e s x
  worth-there e s (inl o) = (W.whole, inl (o, refl))
  worth-there e s (inr i) = ((node_at W s.node).value, inr (i, refl))

  pub sum-there : (es : List Edge) (ss : List Successor) → All (Known M N A) es → (x : ℕ) × SumOf M W N A es ss x
  sum-there [] ss t = (0, refl)
  sum-there (e ∷ es) [] t = (0, refl)
  sum-there (e ∷ es) (s ∷ ss) (more t ts) =
      let w = worth-there e s t in
      let r = sum-there es ss ts in
      (e.weight * w.0 + r.0, (w.0, r.0, w.1, r.1, refl))

  -- ---- document 01's sum of weight × successor value

  unfoldable pub value_sum : List Edge → List Successor → ℕ
  value_sum [] ss = 0
  value_sum (e ∷ es) [] = 0
  value_sum (e ∷ es) (s ∷ ss) = e.weight * (node_at W s.node).value + value_sum es ss

  pub sum_inside : (es : List Edge) (ss : List Successor) → All (λ e. CanLandOutside M N A e → ⊥) es → SumOf M W N A es ss (value_sum es ss)
  unfolding value_sum
  sum_inside [] ss i = refl
  sum_inside (e ∷ es) [] i = refl
  sum_inside (e ∷ es) (s ∷ ss) (more i is) = ((node_at W s.node).value, value_sum es ss, inr (i, refl), sum_inside es ss is, refl)

  pub sum-least : ((n : ℕ) → (node_at W n).value ≤ W.whole) → (es : List Edge) (ss : List Successor) (x : ℕ) → SumOf M W N A es ss x →
      value_sum es ss ≤ x
  unfolding value_sum
  sum-least v [] ss x o = zero-le
  sum-least v (e ∷ es) [] x o = zero-le
  sum-least v (e ∷ es) (s ∷ ss) x o =
      rw o.4 (add-le-add (mul-le-mul_left e.weight (at o.2)) (sum-least v es ss o.1 o.3))
    where
      at : {y : ℕ} → Worth M W N A e s y → (node_at W s.node).value ≤ y
      at (inl w) = rw w.1 (v s.node)
      at (inr w) = rw w.1 (le_refl _)
