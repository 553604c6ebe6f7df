-- Demand 3: what an accepted table certifies bounds every scheduler. From acceptance alone, by induction on the number of steps, for every node
-- that holds the present state; at one step by a second induction, on the number of the node, through cuts, which take no step. Assumes nothing.
use Prim.Native.Nat.{ℕ, zero, suc, ◌+◌, ◌*◌, ◌^◌, ◌≤◌, ◌<◌, zero-le}
use mathlib.Core.Path.{◌≡◌, refl, sym, subst, ◌∙◌}
use mathlib.Core.Logic.{◌⊎◌, inl, inr}
use mathlib.Core.Bool.{true, false}
use mathlib.Core.List.{List, [], ◌∷◌}
use mathlib.Core.Option.{some}
use native.Mathlib.Omega.{arith}
use native.Mathlib.Nat.{mul-le-mul_left, mul-le-mul_right, add-mul, zero-mul, add-le-add, le_trans, le_refl, le_of_eq, pow-succ', mul_comm, mul_assoc}
use lib.Dec.{T}
use lib.ListN.{get_elem?, length}
use Rattle.zone.specs.Scale.{in?, Region, within}
use Rattle.zone.specs.Moves.{reset}
use Rattle.zone.proofs.Bools.{by-test, both}
use Rattle.zone.proofs.Attained.{delayed-zero}
use Rattle.model.specs.Model.{Edge, Action, Model}
use Rattle.model.specs.States.{State, location_at, IsStart}
use Rattle.table.specs.Table.{Successor, Row, blocked_row, successor_row, Body, rows_body, cut_body, Node, Table, node_at, row_actions}
use Rattle.acceptance.specs.Choices.{later, landing, invariant?, throughout?, allowed?}
use Rattle.acceptance.specs.Schedulers.{Scheduler, per_step, edges_count, at_target?, landing_count, weighted_count, BoundsEvery}
use Rattle.acceptance.specs.Acceptance.{Reach, Pairwise, landings, landings_inside, Worth, SumOf, SuccessorFits, RowFits}
use Rattle.acceptance.specs.Acceptance.{holding_part, rest_part, PartFits, BodyFits, start_valuations, Accepted, certified}
use Rattle.acceptance.proofs.CutLaws.{parts-cover}
use Rattle.acceptance.proofs.SchedulerLaws.{by-step, some_one, none-some}

-- the node numbered n holds the state s
record Holds (W : Table) (k n : ℕ) (s : State) : Type 0 where
  exists : n < length W.nodes
  location : s.location ≡ (node_at W n).location
  zone : within (node_at W n).zone k s.valuation

-- ---- rows and successors

-- the second of each two, by the number of the first
pair-at : {A B : Type 0} (P : A → B → Type 0) (xs : List A) (ys : List B) (i : ℕ) (x : A) → Pairwise P xs ys → get_elem? xs i ≡ some x →
    (y : B) × P x y
pair-at P [] ys i x ps e = none-some e
pair-at P (x' ∷ xs) [] i x ps e = absurd ps
pair-at P (x' ∷ xs) (y ∷ ys) zero x ps e = (y, subst (λ z. P z y) (some_one e) ps.0)
pair-at P (x' ∷ xs) (y ∷ ys) (suc i) x ps e = pair-at P xs ys i x ps.1 e

-- a bound for each edge, by what it has in the sum, is one for the row
sums :
    (M : Model) (W : Table) (N : Node) (A : Action) (rest : State → ℕ) (u : State) (power : ℕ) (P : Edge → Successor → Type 0) →
    ((e : Edge) (s : Successor) → P e s → (y : ℕ) → Worth M W N A e s y → rest (landing e u) * W.whole ≤ y * power) →
    (es : List Edge) (ss : List Successor) → Pairwise P es ss → (x : ℕ) → SumOf M W N A es ss x → edges_count rest u es * W.whole ≤ x * power
unfolding edges_count
sums M W N A rest u power P f [] [] ps x o = rw (zero-mul W.whole) zero-le
sums M W N A rest u power P f [] (s ∷ ss) ps x o = absurd ps
sums M W N A rest u power P f (e ∷ es) [] ps x o = absurd ps
sums M W N A rest u power P f (e ∷ es) (s ∷ ss) ps x o =
    rw o.4
    (simp (add-mul, mul_assoc)
    (add-le-add (mul-le-mul_left e.weight (f e s ps.0 o.0 o.2)) (sums M W N A rest u power P f es ss ps.1 o.1 o.3)))

-- ---- an allowed choice is one from a state
invariant-now : (M : Model) (k : ℕ) (s : State) (t : ℕ) → T (throughout? M k s t) → T (invariant? M k (later s 0))
unfolding throughout?
invariant-now M k s zero h = h
invariant-now M k s (suc t) h = invariant-now M k s t (both (throughout? M k s t) (invariant? M k (later s (suc t))) h).0

allowed-invariant : (M : Model) (k : ℕ) (s : State) (A : Action) (t : ℕ) → T (allowed? M k s A t) →
    within (location_at M s.location).invariant k s.valuation
unfolding allowed? invariant? later within
allowed-invariant M k s A t h =
    let through : T (throughout? M k s t) = (both (throughout? M k s t) (in? k (later s t).valuation A.guard) h).0 in
    subst (λ u. T (in? k u (location_at M s.location).invariant)) (delayed-zero s.valuation) (invariant-now M k s t through)

-- ---- the bound
module _ (M : Model) (W : Table) (ok : Accepted M W) (k : ℕ) (positive : 1 ≤ k) (σ : Scheduler) where
  -- from a state that a node holds, whatever the states before, no weighted count for n steps is above the node's value
  abbrev Bounded : ℕ → Type 0
  Bounded n =
      (b : ℕ) (before : List State) (s : State) → Holds W k b s →
      weighted_count M k σ n before s * W.whole ≤ (node_at W b).value * per_step M ^ n

  -- a target node has the value V
  at_target : (n b : ℕ) (s : State) → Holds W k b s → at_target? M s ≡ true → per_step M ^ n * W.whole ≤ (node_at W b).value * per_step M ^ n
  unfolding at_target?
  at_target n b s H y =
      let sure : (node_at W b).value ≡ W.whole = (ok.nodes b H.exists).target (rw (← H.location, y) tt) in
      rw (sure, mul_comm (per_step M ^ n) W.whole) (le_refl _)

  -- a node with rows that holds the state s, its value no larger than that of the node numbered b
  record Settled (b : ℕ) (s : State) : Type 0 where
    node : ℕ
    holds : Holds W k node s
    value : (node_at W node).value ≤ (node_at W b).value
    rows : List Row
    fits : Pairwise (RowFits M W (node_at W node)) (row_actions (location_at M (node_at W node).location)) rows

  -- a cut hands the state on to a node with a number above, of which there are at most `left`
  settled : (left b : ℕ) (s : State) → length W.nodes ≤ b + left → Holds W k b s → Settled b s
  settled zero b s l H = let there = H.exists in absurd (omega arith)
  settled (suc left) b s l H = by (node_at W b).body (ok.nodes b H.exists).body (λ c. settled left c s)
    where
      by : (B : Body) → BodyFits M W b (node_at W b) B → ((c : ℕ) → length W.nodes ≤ c + left → Holds W k c s → Settled c s) → Settled b s
      by (rows_body rs) f next = record { node = b; holds = H; value = le_refl _; rows = rs; fits = f }
      by (cut_body c) f next = part (parts-cover (node_at W b) c.bound k s.valuation H.zone)
        where
          onto : (P : Region) (t : Successor) → PartFits W b (node_at W b) P t → P k s.valuation → Settled b s
          onto P t x p =
              let above = x.above in
              let r = next t.node (omega arith) (record {
                exists = x.exists;
                location = H.location ∙ sym x.matching.location;
                zone = x.inside.at k positive s.valuation p;
              }) in
              record { node = r.node; holds = r.holds; value = le_trans r.value x.matching.value; rows = r.rows; fits = r.fits }

          part : holding_part (node_at W b) c.bound k s.valuation ⊎ rest_part (node_at W b) c.bound k s.valuation → Settled b s
          part (inl p) = onto (holding_part (node_at W b) c.bound) c.holding f.holding p
          part (inr p) = onto (rest_part (node_at W b) c.bound) c.rest f.rest p

  -- elsewhere each action has a row there
  row-for : (b : ℕ) (s : State) (r : Settled b s) → at_target? M s ≡ false → (a : ℕ) (A : Action) →
      get_elem? (location_at M s.location).actions a ≡ some A → (row : Row) × RowFits M W (node_at W r.node) A row
  unfolding at_target? row_actions
  row-for b s r n a A e =
      let elsewhere : (location_at M (node_at W r.node).location).target ≡ false = rw (← r.holds.location) n in
      pair-at (RowFits M W (node_at W r.node)) (location_at M (node_at W r.node).location).actions r.rows a A
      (rw elsewhere at r.fits) (rw (← r.holds.location) e)

  -- an allowed choice from a state that a node holds attains what is in the row's reach
  reached : (b : ℕ) (s : State) → Holds W k b s → (A : Action) (t : ℕ) → T (allowed? M k s A t) →
      Reach M (node_at W b) A k (later s t).valuation
  reached b s H A t y = record {
    state = s;
    location = H.location;
    is_state = record { exists = rw H.location (ok.nodes b H.exists).exists; invariant = allowed-invariant M k s A t y };
    zone = H.zone;
    delay = t;
    allowed = y;
    attains = refl;
  }

  -- where every weighted count for n steps is bounded, so is what an edge comes to, and what a choice comes to
  module _ (n : ℕ) (all : Bounded n) (b : ℕ) (history : List State) (A : Action) (u : State) (R : Reach M (node_at W b) A k u.valuation) where
    abbrev rest : State → ℕ
    rest = landing_count M k (per_step M ^ n) (weighted_count M k σ n history)

    lands-at : (e : Edge) → landings M (node_at W b) A e k (reset e.mask u.valuation)
    lands-at e = record { before = u.valuation; was = R; lands = refl }

    module _ (e : Edge) (s : Successor) (x : SuccessorFits M W (node_at W b) A e s) (y : ℕ) where
      -- the successor holds a landing inside
      held : invariant? M k (landing e u) ≡ true →
          weighted_count M k σ n history (landing e u) * W.whole ≤ (node_at W s.node).value * per_step M ^ n
      unfolding landings_inside landing invariant? within
      held i = all s.node history (landing e u) (record {
        exists = x.exists;
        location = sym x.location;
        zone = x.inside.at k positive (reset e.mask u.valuation) (lands-at e, rw i tt);
      })

      inside : Worth M W (node_at W b) A e s y → invariant? M k (landing e u) ≡ true →
          weighted_count M k σ n history (landing e u) * W.whole ≤ y * per_step M ^ n
      inside (inl w) i = rw w.1 (le_trans (held i) (mul-le-mul_right (per_step M ^ n) (ok.nodes s.node x.exists).value))
      inside (inr w) i = rw w.1 (held i)

      outside : Worth M W (node_at W b) A e s y → invariant? M k (landing e u) ≡ false → per_step M ^ n * W.whole ≤ y * per_step M ^ n
      unfolding landing invariant?
      outside (inl w) i = rw (w.1, mul_comm (per_step M ^ n) W.whole) (le_refl _)
      outside (inr w) i = absurd (w.0 (record {
        scale = k;
        positive = positive;
        valuation = reset e.mask u.valuation;
        lands = lands-at e;
        outside = rw i tt;
      }))

      comes : Worth M W (node_at W b) A e s y → rest (landing e u) * W.whole ≤ y * per_step M ^ n
      unfolding landing_count
      comes w = by-test (λ (c : ℕ). c * W.whole ≤ y * per_step M ^ n) (invariant? M k (landing e u)) _ _ (inside w) (outside w)

    onward : (r : Row) → RowFits M W (node_at W b) A r → edges_count rest u A.edges * W.whole ≤ (node_at W b).value * per_step M ^ suc n
    unfolding per_step
    onward (blocked_row p) f = absurd (f.at k positive u.valuation R)
    onward (successor_row p ss) f =
        le_trans
        (sums M W (node_at W b) A rest u (per_step M ^ n) (SuccessorFits M W (node_at W b) A) comes A.edges ss f.successors f.sum.0
        f.sum.1)
        (le_trans (mul-le-mul_right (per_step M ^ n) f.sum.2) (le_of_eq total))
      where
        total : M.denominator * (node_at W b).value * per_step M ^ n ≡ (node_at W b).value * per_step M ^ suc n
        total = rw (pow-succ', mul_comm M.denominator (node_at W b).value) (mul_assoc (node_at W b).value M.denominator (per_step M ^ n))

  bounded : (n : ℕ) → Bounded n
  unfolding weighted_count
  bounded zero b before s H =
      by-test (λ (c : ℕ). c * W.whole ≤ (node_at W b).value * per_step M ^ zero) (at_target? M s) _ _ (at_target zero b s H)
      (λ y. rw zero-mul zero-le)
  bounded (suc n) b before s H =
      by-step M k σ n before s (λ c. c * W.whole ≤ (node_at W b).value * per_step M ^ suc n) (at_target (suc n) b s H) (rw zero-mul zero-le)
      (λ y history t a A e z. let row = row-for b s r y a A e in
      le_trans (onward n (bounded n) r.node history A (later s t) (reached r.node s r.holds A t (rw z tt)) row.0 row.1)
      (mul-le-mul_right (per_step M ^ suc n) r.value))
    where
      r : Settled b s
      r = settled (length W.nodes) b s (omega arith) H

-- a start state's valuation is a start valuation
starts : (M : Model) (k : ℕ) (s : State) → IsStart M k s → start_valuations M k s.valuation
unfolding start_valuations
starts M k s S = subst (λ (l : ℕ). IsStart M k (record { location = l; valuation = s.valuation })) S.location S

pub demand_3 : (M : Model) (W : Table) → Accepted M W → BoundsEvery M (certified W) W.whole
unfolding certified
demand_3 M W ok = record {
  bounds = λ k positive s S σ n. bounded M W ok k positive σ n W.start [] s (record {
    exists = ok.start.exists;
    location = S.location ∙ sym ok.start.location;
    zone = ok.start.inside.at k positive s.valuation (starts M k s S);
  });
}
