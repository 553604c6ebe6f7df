-- Laws of the walk: what each turn of its loops leaves to be judged. Assumes nothing.
use Prim.Native.Nat.{ℕ, suc, ◌+◌, ◌-◌, ◌*◌, ◌≤◌, ◌<◌, ◌^◌}
use mathlib.Core.Path.{◌≡◌, refl, sym, ap, ◌∙◌}
use mathlib.Core.Bool.{Bool, true, false}
use mathlib.Core.List.{List}
use native.Mathlib.Nat.{add-zero, add-suc, mul-le-mul_left, mul-lt-mul_of_pos_right}
use native.Mathlib.Numerals.{add-one}
use native.Mathlib.Omega.{arith}
use borrow.Author.Tests.{eq-eqb, ne_eqb, le-leb, lt-leb}
use lib.ListN.{length, get_or, take, drop, length-take, length-drop}
use Rattle.std.proofs.Common.{get_or-take, get_or-drop}
use Rattle.std.proofs.iter.Yields.{nat_range_steps}
use Rattle.std.specs.Prelude.{Some, Result, Ok, Err}
use Rattle.std.specs.declared.ops.Range.{Range}
use Rattle.answers.specs.declared.Reason.TheVariants as reason
use Rattle.answers.specs.declared.Refusal.{Refusal}
use Rattle.answers.specs.Refusals.{refuse}
use Rattle.zone.specs.Words.{kind}
use Rattle.zone.specs.Squares.{empty?, Tightens}
use Rattle.zone.specs.Stores.{zone_at}
use Rattle.zone.specs.declared.zones.Zone.{Zone as Square}
use Rattle.model.specs.declared.table_kinds.TableKind.TheVariants.{Blocked as blocked}
use Rattle.model.specs.TableKinds.{table_number}
use Rattle.model.specs.Scan.{guards_at}
use Rattle.model.specs.Index.{edges_range}
use Rattle.model.specs.declared.index.IndexedModel.{IndexedModel}
use Rattle.table.specs.Fields.{number_of}
use Rattle.table.specs.Scan.{edges_at, row_size}
use Rattle.table.specs.declared.nodes.Node.{Node as Entry}
use Rattle.table.specs.declared.nodes.IndexedTable.{IndexedTable}
use Rattle.judge.specs.Reaching.{common, waited_square}
use Rattle.judge.specs.Steps.{Checked, and_then}
use Rattle.judge.specs.Landing.{successor_share, SuccessorAsked}
use Rattle.judge.specs.Walk.{successors_from, rows_from, rows_checked, node_checked, nodes_from}
use Rattle.judge.specs.Walk.{ActionAsked, RowsInRange, RowsAsked}
use Rattle.judge.proofs.ReachSizes.{waited_tightens, common-tightens}

-- one of those that are left
one_left : (m n : ℕ) → n < m → m - n ≡ suc (m - suc n)
one_left m n h = omega arith

pub product_small : (a b m n : ℕ) → a < m → b < n → a * b < m * n
product_small a b m n h k =
    let l : b ≤ n = omega arith in
    let o : 0 < n = omega arith in
    let p = mul-le-mul_left a l in
    let q = mul-lt-mul_of_pos_right h o in
    omega arith

module _ (words : List ℕ) (m : IndexedModel) (k : IndexedTable) where
  -- ---- nodes
  -- before the node n; the whole walk comes to `goal`
  pub record AtNode (goal : Checked) (count n : ℕ) : Type 0 where
    pub within : n ≤ count
    pub onward : goal ≡ nodes_from words m k (count - n) n

  pub nodes_begin : (count : ℕ) → AtNode (nodes_from words m k count 0) count 0
  nodes_begin count = let e : count - 0 ≡ count = omega arith in record { within = omega arith; onward = rw e }

  module _ {goal : Checked} {count n : ℕ} (i : AtNode goal count n) where
    pub nodes_end : count ≤ n → Ok tt ≡ goal
    unfolding nodes_from
    nodes_end h = let e : count - n ≡ 0 = omega arith in sym (i.onward ∙ rw e)

    module _ (h : n < count) where
      one-node : {r : Checked} → r ≡ node_checked words m k n →
          goal ≡ and_then r (λ _. nodes_from words m k (count - suc n) (suc n))
      unfolding nodes_from
      one-node e = i.onward ∙ rw (one_left count n h, e)

      pub node_found : {r : Refusal} → Err r ≡ node_checked words m k n → Err r ≡ goal
      unfolding and_then
      node_found e = sym (one-node e)

      pub node_next : Ok tt ≡ node_checked words m k n → AtNode goal count (n + 1)
      unfolding and_then
      node_next e = rw (add-one n) (record { within = omega arith; onward = one-node e })

  -- ---- rows
  -- before the row of the action a, of those up to `last`, of a node of that value; the whole node comes to `goal`
  pub record AtRow (goal : Checked) (waited : Square) (value last at a : ℕ) : Type 0 where
    pub tightens : Tightens 2 waited
    pub limit : last ≤ 32
    pub fits : RowsInRange words m (last - a) a at
    pub onward : goal ≡ rows_from words m k waited value (last - a) a at

  -- the reach of the row of the action a, and whether it is empty
  pub record ReachAt (waited : Square) (a : ℕ) (reach : Square) (empty : Bool) : Type 0 where
    pub reaches : reach ≡ common waited (zone_at m.zones (guards_at + a))
    pub empties : empty ≡ empty? reach

  -- behind n successors of the row of the action a, which begins at the place `at`
  pub record AtSuccessor (goal : Checked) (waited : Square) (value last a : ℕ) (reach : Square) (limit at sum n : ℕ) : Type 0 where
    pub reached : Tightens 1 reach
    pub asked : ActionAsked words m a
    pub within : at + edges_at m.index a ≤ length words
    pub small : sum ≤ n * 2 ^ 48
    pub fits : RowsInRange words m (last - suc a) (suc a) (at + edges_at m.index a)
    pub onward : goal ≡
        and_then (successors_from words m k reach limit at (edges_at m.index a - n) (get_or m.index.edges a 0 + n) (at + n) sum) (λ _.
        rows_from words m k waited value (last - suc a) (suc a) (at + edges_at m.index a))

  -- the rows of a node
  module _ (N : Entry) where
    pub no_rows : get_or m.index.actions (N.location + 1) 0 ≤ get_or m.index.actions N.location 0 → Ok tt ≡ rows_checked words m k N
    unfolding rows_checked rows_from
    no_rows q =
        let none : get_or m.index.actions (N.location + 1) 0 - get_or m.index.actions N.location 0 ≡ 0 = omega arith in
        rw none

    pub node-rows : {waited : Square} → RowsAsked words m N → waited ≡ waited_square N.zone (zone_at m.zones N.location) →
        AtRow (rows_checked words m k N) waited N.value (get_or m.index.actions (N.location + 1) 0) (N.place + 1) (get_or m.index.actions N.location 0)
    unfolding rows_checked
    node-rows asked e = rw (add-one N.place, e) (record {
      tightens = waited_tightens asked.zone asked.invariant;
      limit = asked.actions;
      fits = asked.rows;
      onward = refl;
    })

  edges-asked : {a : ℕ} {r : Range ℕ} → ActionAsked words m a → r ≡ edges_range m.index a → (r.start ≤ r.end) × (r.end ≤ 128)
  edges-asked {a} x e = rw (e, add-one a) (x.ordered, x.limit)

  pub rows_end : {goal : Checked} {waited : Square} {value last at a : ℕ} → AtRow goal waited value last at a → last - a ≡ 0 → Ok tt ≡ goal
  unfolding rows_from
  rows_end i e = sym (i.onward ∙ rw e)

  -- a turn of the loop takes the number a from those that are left
  module _
      {goal : Checked} {waited : Square} {value at a : ℕ} {s t : Range ℕ} (i : AtRow goal waited value s.end at s.start)
      (next : nat_range_steps s (Some a) t) where
    left : s.end - s.start ≡ suc (t.end - suc a)
    left = omega (arith, next)

    one-row : goal ≡ rows_from words m k waited value (suc (t.end - suc a)) a at
    one-row = i.onward ∙ rw (left, next.1.1)

    one-fits : RowsInRange words m (suc (t.end - suc a)) a at
    one-fits = rw (← left, next.1.1) i.fits

    pub row-asked : ActionAsked words m a
    unfolding RowsInRange
    row-asked = one-fits.0

    pub row-place : at < length words
    unfolding RowsInRange
    row-place = one-fits.1

    -- its edges
    pub row-edges : {r : Range ℕ} → r ≡ edges_range m.index a → (r.start ≤ r.end) × (r.end ≤ 128)
    row-edges e = edges-asked row-asked e

    module _ {reach : Square} {empty : Bool} (r : ReachAt waited a reach empty) where
      emptiness : empty? (common waited (zone_at m.zones (guards_at + a))) ≡ empty
      emptiness = rw (← r.reaches) (sym r.empties)

      pub row-not-blocked : kind (get_or words at 0) ≡ table_number blocked → empty ≡ false → refuse reason.NotBlocked at ≡ goal
      unfolding rows_from
      row-not-blocked e un = sym (one-row ∙ rw (eq-eqb _ _ e, emptiness, un))

      pub row-blocked : kind (get_or words at 0) ≡ table_number blocked → empty ≡ true → AtRow goal waited value t.end (at + 1) t.start
      unfolding rows_from RowsInRange row_size
      row-blocked e is =
          rw (next.1.2, ← next.1.1, add-one a, add-one at) (record {
            tightens = i.tightens;
            limit = rw next.0 i.limit;
            fits = rw (eq-eqb _ _ e, add-one at) at one-fits.3;
            onward = one-row ∙ rw (eq-eqb _ _ e, emptiness, is);
          })

      pub row-successors : {limit : ℕ} → (kind (get_or words at 0) ≡ table_number blocked → ⊥) → limit ≡ m.index.denominator * value →
          AtSuccessor goal waited value t.end a reach limit at 0 0
      unfolding rows_from RowsInRange row_size
      row-successors un el = record {
        reached = rw r.reaches (common-tightens i.tightens row-asked.guard);
        asked = row-asked;
        within = rw (ne_eqb _ _ un) at one-fits.2;
        small = omega arith;
        fits = rw (ne_eqb _ _ un) at one-fits.3;
        onward =
            let all : edges_at m.index a - 0 ≡ edges_at m.index a = omega arith in
            rw (all, add-zero at, add-zero (get_or m.index.edges a 0)) (one-row ∙ rw (ne_eqb _ _ un, el, r.reaches));
      }

  -- ---- successors
  module _
      {goal : Checked} {waited : Square} {value last a : ℕ} {reach : Square} {limit at sum n : ℕ}
      (i : AtSuccessor goal waited value last a reach limit at sum n) {r : Range ℕ} (er : r ≡ edges_range m.index a) where
    -- the words of the action's edges
    abbrev edges : List ℕ
    edges = take (r.end - r.start) (drop r.start m.edges)

    ends : (r.start ≡ get_or m.index.edges a 0) × (r.end ≡ get_or m.index.edges (a + 1) 0)
    ends = rw er (refl, refl)

    size : length m.edges ≡ 128 → length edges ≡ edges_at m.index a
    unfolding edges_at
    size e =
        omega (arith, ends, edges-asked i.asked er, length-take (r.end - r.start) (drop r.start m.edges), length-drop r.start m.edges)

    abbrev behind_row : Checked
    behind_row = rows_from words m k waited value (last - suc a) (suc a) (at + edges_at m.index a)

    module _ (h : n < length edges) where
      some : n < edges_at m.index a
      unfolding edges_at
      some = omega (arith, ends, length-take (r.end - r.start) (drop r.start m.edges))

      there : get_or edges n 0 ≡ get_or m.edges (get_or m.index.edges a 0 + n) 0
      there = let l : n < r.end - r.start = omega (arith, length-take (r.end - r.start) (drop r.start m.edges)) in rw (get_or-take, get_or-drop, ends.0)

      pub successor-asked : {empty : Bool} → empty ≡ empty? reach → SuccessorAsked words m reach empty (get_or edges n 0) (at + n)
      unfolding edges_at
      successor-asked e = record {
        reached = i.reached;
        emptiness = e;
        invariant = rw there (i.asked.lands _ (omega arith) (rw (← add-one a) (omega (arith, some))));
        place = omega (arith, some, i.within);
      }

      one-successor : {r : Result ℕ Refusal} → r ≡ successor_share m k reach (get_or edges n 0) (number_of (get_or words (at + n) 0)) (at + n) →
          goal ≡
          and_then
          (and_then r (λ share.
          successors_from words m k reach limit at (edges_at m.index a - suc n) (suc (get_or m.index.edges a 0 + n)) (suc (at + n)) (sum + share)))
          (λ _. behind_row)
      unfolding successors_from
      one-successor q = i.onward ∙ rw (one_left (edges_at m.index a) n some, q, there)

      pub successor-found : {r : Refusal} → Err r ≡ successor_share m k reach (get_or edges n 0) (number_of (get_or words (at + n) 0)) (at + n) →
          Err r ≡ goal
      unfolding and_then
      successor-found q = sym (one-successor q)

      pub successor-next : {share : ℕ} → Ok share ≡ successor_share m k reach (get_or edges n 0) (number_of (get_or words (at + n) 0)) (at + n) →
          share < 2 ^ 48 → AtSuccessor goal waited value last a reach limit at (sum + share) (n + 1)
      unfolding and_then
      successor-next r b =
          let q = i.small in
          record {
            reached = i.reached;
            asked = i.asked;
            within = i.within;
            small = omega arith;
            fits = i.fits;
            onward = rw (add-one n, add-suc at n, add-suc (get_or m.index.edges a 0) n) (one-successor r);
          }

    module _ (long : length m.edges ≡ 128) (h : length edges ≤ n) where
      none_left : goal ≡ and_then (successors_from words m k reach limit at 0 (get_or m.index.edges a 0 + n) (at + n) sum) (λ _. behind_row)
      none_left =
          i.onward
          ∙ ap (λ (c : ℕ). and_then (successors_from words m k reach limit at c (get_or m.index.edges a 0 + n) (at + n) sum) (λ _. behind_row))
          (let q : edges_at m.index a - n ≡ 0 = omega (arith, size long) in q)

      pub sum_large : limit < sum → refuse reason.SumTooLarge at ≡ goal
      unfolding successors_from and_then
      sum_large l = sym (none_left ∙ rw (lt-leb _ _ l))

      pub row-end : {s t : Range ℕ} → AtRow goal waited value s.end at s.start → nat_range_steps s (Some a) t → last ≡ t.end → sum ≤ limit →
          AtRow goal waited value t.end (at + length edges) t.start
      unfolding successors_from and_then
      row-end x next e l =
          rw (size long, next.1.2, ← next.1.1, add-one a, ← e) (record {
            tightens = x.tightens;
            limit = rw (e, next.0) x.limit;
            fits = i.fits;
            onward = none_left ∙ rw (le-leb _ _ l);
          })
