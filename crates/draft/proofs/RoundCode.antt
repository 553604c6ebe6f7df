-- The steps of the loops that work out the values of a draft, and that no value rises above V. Assumes nothing.
use Prim.Native.Nat.{ℕ, zero, suc, ◌+◌, ◌-◌, ◌*◌, ◌/◌, ◌%◌, ◌^◌, ◌≤◌, ◌<◌, max, min, zero-le}
use mathlib.Core.Path.{◌≡◌, refl, sym, ap, ◌∙◌}
use mathlib.Core.Logic.{◌⊎◌, inl, inr}
use mathlib.Core.Bool.{Bool, true, false}
use mathlib.Core.List.{List, [], ◌∷◌}
use native.Mathlib.Nat as N
use native.Mathlib.Numerals.{add-one}
use native.Mathlib.Omega.{arith}
use borrow.Author.Tests.{eq-eqb, ne_eqb, lt-ltb, le-ltb}
use lib.ListN.{get_or, length, take, drop, set, replicate, drop_of_length-le}
use lib.Seq.{drop-cons, set-get_or, get_or-set_other}
use Rattle.std.proofs.lemmas.List.{get_or_default}
use Rattle.std.proofs.lemmas.Grind.{div_ceil_times}
use Rattle.std.proofs.Math.Nat.{lt_of_mul-lt-mul_right}
use Rattle.zone.proofs.Bools.{true_false}
use Rattle.model.specs.Fields.{weight_of}
use Rattle.model.specs.declared.index.IndexedModel.{IndexedModel}
use Rattle.drafting.specs.Words.{whole}
use Rattle.drafting.specs.Rounds.{rounded_up}
use Rattle.drafting.proofs.RoundLaws.{up-enough, up_least, all_limited}
use Rattle.draft.specs.Asked.{edges_of, weights_of, ActionAsked, ModelAsked, ValuesFit}
use Rattle.draft.specs.Values.{value_of, sum_of, largest_from, largest_at, value_at, round_from, round_of, rounds_of, values_of}
use Rattle.draft.specs.Nodes.{no_node}
use Rattle.draft.specs.declared.nodes.Node.{Node}

-- ---- x over D, rounded up

-- it is the quotient, and one more unless that is exact
ceil_is : (x D : ℕ) → 1 ≤ D → x / D + min 1 (x % D) ≡ rounded_up x D
ceil_is x D positive =
    let ceil : ℕ = x / D + min 1 (x % D) in
    let up : ℕ = rounded_up x D in
    let enough : x ≤ D * up = up-enough D positive x in
    let times : (x ≤ ceil * D) × (ceil * D < x + D) = div_ceil_times x D positive in
    let turned : D * ceil ≡ ceil * D = N.mul_comm D ceil in
    let about : D * up ≡ up * D = N.mul_comm D up in
    let more : (up + 1) * D ≡ up * D + 1 * D = N.add-mul up 1 D in
    let one : 1 * D ≡ D = N.one-mul D in
    let least : up ≤ ceil = up_least D positive x ceil (omega arith) in
    let fits : ceil < up + 1 = lt_of_mul-lt-mul_right D (omega arith) in
    omega arith

pub ceil_whole : (x D : ℕ) → 1 ≤ D → x ≤ D * whole → (x / D + min 1 (x % D) ≡ rounded_up x D) × (x / D + min 1 (x % D) ≤ whole)
ceil_whole x D positive h = let is = ceil_is x D positive in (is, rw is (up_least D positive x whole h))

set-small : (vs : List ℕ) (i v n : ℕ) → ((k : ℕ) → get_or vs k 0 ≤ whole) → v ≤ whole → get_or (set vs i v) n 0 ≤ whole
set-small [] i v n all low = zero-le
set-small (x ∷ xs) zero v zero all low = low
set-small (x ∷ xs) zero v (suc n) all low = all (suc n)
set-small (x ∷ xs) (suc i) v zero all low = all zero
set-small (x ∷ xs) (suc i) v (suc n) all low = set-small xs i v n (λ k. all (suc k)) low

set-fits : {vs : List ℕ} (i v : ℕ) → ValuesFit vs → v ≤ whole → ValuesFit (set vs i v)
set-fits {vs} i v fit low = record { small = λ n. set-small vs i v n fit.small low }

module _ (vs : List ℕ) where
  -- ---- the sum of a row

  none : (es : List ℕ) → sum_of vs es [] ≡ 0
  unfolding sum_of
  none [] = refl
  none (e ∷ es) = refl

  -- codes behind those of the row count for nothing
  pub sum-row : (es cs : List ℕ) → sum_of vs es (take (length es) cs) ≡ sum_of vs es cs
  unfolding sum_of
  sum-row [] cs = refl
  sum-row (e ∷ es) [] = refl
  sum-row (e ∷ es) (c ∷ cs) = ap (λ (n : ℕ). weight_of e * value_of vs c + n) (sum-row es cs)

  sum_limited : ValuesFit vs → (es cs : List ℕ) → sum_of vs es cs ≤ weights_of es * whole
  unfolding sum_of weights_of
  sum_limited fit [] cs = zero-le
  sum_limited fit (e ∷ es) [] = zero-le
  sum_limited fit (e ∷ es) (c ∷ cs) =
      rw (N.add-mul (weight_of e) (weights_of es) whole)
      (N.add-le-add (N.mul-le-mul_left (weight_of e) (fit.small c)) (sum_limited fit es cs))

  -- all but the edges ws are added up; the codes of these are the first of ds
  pub record SumTo (es cs : List ℕ) (sum : ℕ) (ws ds : List ℕ) : Type 0 where
    pub small : sum + length ws * 2 ^ 48 ≤ length es * 2 ^ 48
    pub is : sum + sum_of vs ws ds ≡ sum_of vs es cs

  pub sum_begin : (es cs : List ℕ) → SumTo es cs 0 es cs
  sum_begin es cs = record { small = omega arith; is = N.zero-add (sum_of vs es cs) }

  module _ {es cs : List ℕ} {sum : ℕ} {ws ds : List ℕ} (so : SumTo es cs sum ws ds) where
    pub sum-small : {e : ℕ} {rest : List ℕ} → ws ≡ e ∷ rest → sum + 2 ^ 48 ≤ length es * 2 ^ 48
    sum-small p = let small = rw p at so.small in omega arith

    pub sum-next : {e c : ℕ} {rest others : List ℕ} → ws ≡ e ∷ rest → ds ≡ c ∷ others → (s : ℕ) → s ≡ weight_of e * value_of vs c → s < 2 ^ 48 →
        SumTo es cs (sum + s) rest others
    unfolding sum_of
    sum-next p q s is few =
        let small = rw p at so.small in
        let all = rw (p, q) at so.is in
        record { small = omega arith; is = omega (arith, all, is) }

    pub sum-end : ValuesFit vs → (ws ≡ []) ⊎ (ds ≡ []) → (sum ≡ sum_of vs es cs) × (sum ≤ weights_of es * whole)
    unfolding sum_of
    sum-end fit h = (is, rw is (sum_limited fit es cs))
      where
        rest : (ws ≡ []) ⊎ (ds ≡ []) → sum_of vs ws ds ≡ 0
        rest (inl e) = rw e refl
        rest (inr e) = rw e (none ws)

        is : sum ≡ sum_of vs es cs
        is = let r = rest h in let all = so.is in omega arith

  -- ---- the largest over the rows

  module _ (m : IndexedModel) where
    -- the rows from the action `first` up to a are looked at, and these codes are those of a and behind
    pub record LargestTo (first stop : ℕ) (codes : List ℕ) (best : ℕ) (rest : List ℕ) (a : ℕ) : Type 0 where
      pub begun : first ≤ a
      pub small : best ≤ whole
      pub is : largest_from vs m (stop - a) a rest best ≡ largest_from vs m (stop - first) first codes 0

    pub largest_begin : (first stop : ℕ) (codes : List ℕ) → LargestTo first stop codes 0 codes first
    largest_begin first stop codes = record { begun = N.le_refl first; small = zero-le; is = refl }

    -- what is asked of that action, where these are the actions of the location l
    pub action-asked : ModelAsked m → {l : ℕ} → l < m.index.locations → {codes : List ℕ} {best : ℕ} {rest : List ℕ} {a : ℕ} →
        LargestTo (get_or m.index.actions l 0) (get_or m.index.actions (l + 1) 0) codes best rest a → a < get_or m.index.actions (l + 1) 0 →
        {b : ℕ} → b ≡ a → ActionAsked m b
    action-asked asked {l} here {a = a} so to is = rw is (asked.actions l here a so.begun to)

    module _ {first stop : ℕ} {codes : List ℕ} {best : ℕ} {rest : List ℕ} {a : ℕ} (so : LargestTo first stop codes best rest a) where
      module _ (h : a < stop) where
        one : stop - a ≡ suc (stop - (a + 1))
        one = omega arith

        -- the same from the next action on
        next : (cs : List ℕ) (b : ℕ) → largest_from vs m (stop - (a + 1)) (a + 1) cs b ≡ largest_from vs m (stop - (a + 1)) (suc a) cs b
        next cs b = ap (λ i. largest_from vs m (stop - (a + 1)) i cs b) (add-one a)

        pub largest-blocked : get_or rest 0 0 ≡ 255 → (behind : List ℕ) → behind ≡ drop 1 rest → LargestTo first stop codes best behind (a + 1)
        unfolding largest_from
        largest-blocked q behind is =
            let begun = so.begun in
            record {
              begun = omega arith;
              small = so.small;
              is = next behind best ∙ rw is (rw (one, eq-eqb (get_or rest 0 0) 255 q) at so.is);
            }

        module _ (q : get_or rest 0 0 ≡ 255 → ⊥) where
          pub largest-short : length rest < length (edges_of m a) → best ≡ largest_from vs m (stop - first) first codes 0
          unfolding largest_from
          largest-short l = rw (one, ne_eqb (get_or rest 0 0) 255 q, lt-ltb (length rest) (length (edges_of m a)) l) at so.is

          pub largest-next : length (edges_of m a) ≤ length rest → (up : ℕ) → up ≡ rounded_up (sum_of vs (edges_of m a) rest) m.index.denominator →
              up ≤ whole → LargestTo first stop codes (max best up) (drop (length (edges_of m a)) rest) (a + 1)
          unfolding largest_from
          largest-next l up is low =
              let begun = so.begun in
              record {
                begun = omega arith;
                small = N.max-le so.small low;
                is = next (drop (length (edges_of m a)) rest) (max best up)
                    ∙ rw is (rw (one, ne_eqb (get_or rest 0 0) 255 q, le-ltb (length rest) (length (edges_of m a)) l) at so.is);
              }

      pub largest-end : stop ≤ a → best ≡ largest_from vs m (stop - first) first codes 0
      unfolding largest_from
      largest-end h = let none : stop - a ≡ 0 = omega arith in rw none at so.is

-- ---- a round

module _ (m : IndexedModel) (nodes : List Node) where
  -- the values of the first n nodes are replaced, and whether one has changed is known
  pub record RoundTo (vs next : List ℕ) (changed : Bool) (n : ℕ) : Type 0 where
    pub fits : ValuesFit next
    pub is : round_from m vs (drop n nodes) n next ≡ round_of m nodes vs
    pub same : changed ≡ false → next ≡ vs
    pub past : (i : ℕ) → n ≤ i → get_or next i 0 ≡ get_or vs i 0

  pub round_begin : (vs : List ℕ) → ValuesFit vs → RoundTo vs vs false 0
  round_begin vs fit = record { fits = fit; is = refl; same = λ _. refl; past = λ i h. refl }

  module _ {vs next : List ℕ} {changed : Bool} {n : ℕ} (so : RoundTo vs next changed n) where
    -- the node x is the next, and its value is replaced by v
    module _ (h : n < length nodes) {x : Node} (here : x ≡ get_or nodes n x) {v : ℕ} (is : v ≡ value_at vs m x (get_or vs n 0)) where
      replaced : round_from m vs (drop (n + 1) nodes) (n + 1) (set next n v) ≡ round_of m nodes vs
      unfolding round_from
      replaced =
          let node : x ≡ get_or nodes n no_node = here ∙ get_or_default nodes n x no_node h in
          rw (add-one n, is, node) (rw (drop-cons nodes n no_node h) at so.is)

      -- a value that is as before stays in its place
      kept : v ≡ get_or vs n 0 → RoundTo vs next changed (n + 1)
      kept e = record { fits = so.fits; is = rw keeps at replaced; same = so.same; past = λ i l. so.past i (omega arith) }
        where
          keeps : set next n v ≡ next
          keeps = rw (e, ← so.past n (N.le_refl n)) (set-get_or next n 0)

      put : v ≤ whole → RoundTo vs (set next n v) true (n + 1)
      put low = record {
        fits = set-fits n v so.fits low;
        is = replaced;
        same = λ e. true_false e;
        past = λ i l. get_or-set_other next n i v 0 (λ e. omega arith) ∙ so.past i (omega arith);
      }

    module _ (h : n < length nodes) {x : Node} (here : x ≡ get_or nodes n x) where
      pub round-target : get_or m.index.targets x.front.location false ≡ true → RoundTo vs next changed (n + 1)
      unfolding value_at
      round-target q = kept h here (rw q refl) refl

      module _ (q : get_or m.index.targets x.front.location false ≡ false) {v : ℕ} (is : v ≡ largest_at vs m x.front.location x.rows.items) where
        pub round-same : v ≡ get_or vs n 0 → RoundTo vs next changed (n + 1)
        unfolding value_at
        round-same = kept h here (rw q is)

        pub round-next : v ≤ whole → RoundTo vs (set next n v) true (n + 1)
        unfolding value_at
        round-next = put h here (rw q is)

    pub round-end : length nodes ≤ n → next ≡ round_of m nodes vs
    unfolding round_from
    round-end h = let none : drop n nodes ≡ [] = drop_of_length-le nodes h in rw none at so.is

  -- ---- rounds

  -- n of so many rounds lead to vs
  pub record RoundsTo (rounds : ℕ) (vs : List ℕ) (n : ℕ) : Type 0 where
    pub fits : ValuesFit vs
    pub rest : rounds_of m nodes (rounds - n) vs ≡ values_of m nodes rounds

  pub rounds_begin : (rounds : ℕ) → RoundsTo rounds (replicate 256 whole) 0
  unfolding values_of
  rounds_begin rounds =
      let all : rounds - 0 ≡ rounds = omega arith in
      record { fits = record { small = (all_limited 256).at }; rest = rw all refl }

  pub rounds-next : {rounds : ℕ} {vs : List ℕ} {n : ℕ} → RoundsTo rounds vs n → n < rounds → (us : List ℕ) →
      us ≡ round_of m nodes vs → ValuesFit us → RoundsTo rounds us (n + 1)
  unfolding rounds_of
  rounds-next {rounds} {vs} {n} so h us is fit =
      let one : rounds - n ≡ suc (rounds - (n + 1)) = omega arith in
      record { fits = fit; rest = rw is (rw one at so.rest) }

  pub rounds-end : {rounds : ℕ} {vs : List ℕ} {n : ℕ} → RoundsTo rounds vs n → rounds ≤ n → vs ≡ values_of m nodes rounds
  unfolding rounds_of
  rounds-end {rounds} {vs} {n} so h = let none : rounds - n ≡ 0 = omega arith in rw none at so.rest

  -- behind a round that changes no value, no later one does
  still : (vs : List ℕ) → round_of m nodes vs ≡ vs → (n : ℕ) → rounds_of m nodes n vs ≡ vs
  unfolding rounds_of
  still vs h zero = refl
  still vs h (suc n) = rw h (still vs h n)

  pub rounds-still : {rounds : ℕ} {vs : List ℕ} {n : ℕ} → RoundsTo rounds vs n → round_of m nodes vs ≡ vs → vs ≡ values_of m nodes rounds
  rounds-still {rounds} {vs} {n} so same = sym (still vs same (rounds - n)) ∙ so.rest
