-- The rank so far: the slots listed are in rank, and every held slot that is left comes behind them. Assumes nothing.
use Prim.Native.Nat.{ℕ, zero, suc, ◌+◌, ◌-◌, ◌<◌, ◌≤◌}
use native.Mathlib.Omega.{arith}
use mathlib.Core.Path.{◌≡◌, refl, sym, ap, subst, ◌∙◌}
use mathlib.Core.Logic.{◌⊎◌, inl, inr, ⊎_elim}
use mathlib.Core.Bool.{Bool, true, false, not, cond}
use mathlib.Core.List.{List, [], ◌∷◌, ◌++◌}
use Rattle.std.specs.Prelude.{None}
use lib.Dec.{T, eqb, eqb→eq, eqb_refl}
use lib.ListN.{length, get_or, set, take, replicate, length-set, length-take}
use lib.Seq.{get_or-set_same, get_or-set_other, get_or-take}
use Rattle.slots.specs.declared.Slot.{Slot}
use Rattle.slots.specs.Slots.{vacant, slot_at}
use Rattle.board.specs.declared.submissions.Placed.{Placed}
use Rattle.board.specs.declared.ranking.Ranking.{Ranking}
use Rattle.board.specs.Ranking.{ahead?, held?, InRank}
use Rattle.board.specs.Replies.{ranking_of}
use Rattle.board.specs.Ordering.{before?, IsFirst, FirstHeld, Orders}
use Rattle.std.proofs.Math.Facts.{T_not}
use Rattle.board.proofs.Tests.{dec}
use Rattle.board.proofs.OrderLaws.{held-there}
use Rattle.board.proofs.PickLaws.{below}

-- ---- how many of the first n slots are held

pub tally : List Slot → ℕ → ℕ
tally ss zero = 0
tally ss (suc n) = cond (held? ss n) (suc (tally ss n)) (tally ss n)

tally-most : (ss : List Slot) (n : ℕ) → tally ss n ≤ n
unfolding tally
tally-most ss zero = omega arith
tally-most ss (suc n) = by (held? ss n) (tally-most ss n)
  where
    by : (b : Bool) → tally ss n ≤ n → cond b (suc (tally ss n)) (tally ss n) ≤ suc n
    by true l = omega arith
    by false l = omega arith

-- one of them is held
tally-some : (ss : List Slot) (m n : ℕ) → m < n → T (held? ss m) → 0 < tally ss n
unfolding tally
tally-some ss m zero l h = absurd (omega arith)
tally-some ss m (suc n) l h = by (held? ss n) (λ t. below m n (omega arith) (λ e. absurd (T_not (held? ss n) (subst (λ (k : ℕ). T (held? ss k)) e h) t))
    (λ l'. tally-some ss m n l' h))
  where
    by : (b : Bool) → (T (not b) → 0 < tally ss n) → 0 < cond b (suc (tally ss n)) (tally ss n)
    by true f = omega arith
    by false f = f tt

-- those of ys are held in xs too
tally-within : (xs ys : List Slot) → ((k : ℕ) → T (held? ys k) → T (held? xs k)) → (n : ℕ) → tally ys n ≤ tally xs n
unfolding tally
tally-within xs ys f zero = omega arith
tally-within xs ys f (suc n) = by (held? xs n) (held? ys n) (f n) (tally-within xs ys f n)
  where
    by : (a b : Bool) → (T b → T a) → tally ys n ≤ tally xs n → cond b (suc (tally ys n)) (tally ys n) ≤ cond a (suc (tally xs n)) (tally xs n)
    by true true i l = omega arith
    by true false i l = omega arith
    by false true i l = absurd (i tt)
    by false false i l = l

-- and in xs m is held besides
tally-less : (xs ys : List Slot) (m n : ℕ) → m < n → T (held? xs m) → (T (held? ys m) → ⊥) → ((k : ℕ) → T (held? ys k) → T (held? xs k)) →
    tally ys n < tally xs n
unfolding tally
tally-less xs ys m zero l h g f = absurd (omega arith)
tally-less xs ys m (suc n) l h g f =
    below m n (omega arith) (λ e. here (held? xs n) (held? ys n) (subst (λ (k : ℕ). T (held? xs k)) e h)
    (λ t. g (subst (λ (k : ℕ). T (held? ys k)) (sym e) t)) (tally-within xs ys f n))
    (λ l'. there (held? xs n) (held? ys n) (f n) (tally-less xs ys m n l' h g f))
  where
    there : (a b : Bool) → (T b → T a) → tally ys n < tally xs n → cond b (suc (tally ys n)) (tally ys n) < cond a (suc (tally xs n)) (tally xs n)
    there true true i l = omega arith
    there true false i l = omega arith
    there false true i l = absurd (i tt)
    there false false i l = l

    here : (a b : Bool) → T a → (T b → ⊥) → tally ys n ≤ tally xs n → cond b (suc (tally ys n)) (tally ys n) < cond a (suc (tally xs n)) (tally xs n)
    here true true t i l = absurd (i tt)
    here true false t i l = omega arith
    here false b t i l = absurd t

-- ---- zeros behind the slots listed

pub zero-at : (n i : ℕ) → ◌≡◌ {A = ℕ} (get_or (replicate n 0) i 0) 0
zero-at zero i = refl
zero-at (suc n) zero = refl
zero-at (suc n) (suc i) = zero-at n i

zeros-behind : (xs : List ℕ) (count n : ℕ) → length xs ≡ count + n → ((i : ℕ) → count ≤ i → get_or xs i 0 ≡ 0) → xs ≡ take count xs ++ replicate n 0
zeros-behind [] zero zero e z = refl
zeros-behind [] zero (suc n) e z = absurd (omega (arith, e))
zeros-behind [] (suc c) n e z = absurd (omega (arith, e))
zeros-behind (x ∷ xs) zero zero e z = absurd (omega (arith, e))
zeros-behind (x ∷ xs) zero (suc n) e z =
    ap (λ (y : ℕ). y ∷ xs) (z 0 (omega arith)) ∙ ap (λ (ys : List ℕ). 0 ∷ ys) (zeros-behind xs 0 n (omega (arith, e)) (λ i l. z (suc i) (omega arith)))
zeros-behind (x ∷ xs) (suc c) n e z = ap (λ (ys : List ℕ). x ∷ ys) (zeros-behind xs c n (omega (arith, e)) (λ i l. z (suc i) (omega arith)))

-- ---- the rank so far

-- of the slots ss, those of `left` are left, as they were; `order` has the others, `count` of them
pub record Sofar (ss left : List Slot) (order : List ℕ) (count : ℕ) : Type 0 where
  pub size : length order ≡ 16
  pub fits : count + tally left 16 ≤ 16
  pub sixteen : length left ≡ 16
  pub same : (n : ℕ) → T (held? left n) → slot_at left n ≡ slot_at ss n
  pub sorted : (i j : ℕ) → i < j → j < count → T (ahead? ss (get_or order i 0) (get_or order j 0))
  pub held : (i : ℕ) → i < count → T (held? ss (get_or order i 0))
  pub behind : (n : ℕ) → T (held? left n) → (i : ℕ) → i < count → T (ahead? ss (get_or order i 0) n)
  pub all : (n : ℕ) → T (held? ss n) → ((i : ℕ) × ((i < count) × (get_or order i 0 ≡ n))) ⊎ T (held? left n)
  pub zeros : (i : ℕ) → count ≤ i → get_or order i 0 ≡ 0

module _ (ss : List Slot) where
  pub begun : (order : List ℕ) → length ss ≡ 16 → length order ≡ 16 → ((i : ℕ) → get_or order i 0 ≡ 0) → Sofar ss ss order 0
  begun order sixteen size zeros = record {
    size = size;
    fits = omega (arith, tally-most ss 16);
    sixteen = sixteen;
    same = λ n h. refl;
    sorted = λ i j l m. absurd (omega arith);
    held = λ i l. absurd (omega arith);
    behind = λ n h i l. absurd (omega arith);
    all = λ n h. inr h;
    zeros = λ i l. zeros i;
  }

  -- one more is listed
  module _ (left : List Slot) (order : List ℕ) (count : ℕ) (next : Placed) (f : IsFirst left 16 next) (s : Sofar ss left order count) where
    abbrev at : ℕ
    at = next.at

    -- there is room for it
    pub less : count < 16
    less = let some : 0 < tally left 16 = tally-some left at 16 f.there f.held in omega (arith, s.fits)

    abbrev left' : List Slot
    left' = set left at vacant

    abbrev order' : List ℕ
    order' = set order count at

    at_held : T (held? left at)
    at_held = f.held

    gone : T (held? left' at) → ⊥
    gone t = subst (λ (x : Slot). T x.held) (get_or-set_same left at vacant vacant (subst (λ (k : ℕ). at < k) (sym s.sixteen) f.there)) t

    -- what is left now was left before
    apart : (n : ℕ) → T (held? left' n) → n ≡ at → ⊥
    apart n h e = gone (subst (λ (k : ℕ). T (held? left' k)) e h)

    kept : (n : ℕ) → (n ≡ at → ⊥) → slot_at left' n ≡ slot_at left n
    kept n d = get_or-set_other left at n vacant vacant d

    was : (n : ℕ) → T (held? left' n) → T (held? left n)
    was n h = subst (λ (x : Slot). T x.held) (kept n (apart n h)) h

    -- the slots listed: those before, and the new one
    here : get_or order' count 0 ≡ at
    here = get_or-set_same order count at 0 (subst (λ (k : ℕ). count < k) (sym s.size) less)

    before : (i : ℕ) → i < count → get_or order' i 0 ≡ get_or order i 0
    before i l = get_or-set_other order count i at 0 (λ e. omega arith)

    each : (P : ℕ → Type 0) → ((i : ℕ) → i < count → P (get_or order i 0)) → P at → (i : ℕ) → i < count + 1 → P (get_or order' i 0)
    each P old new i l = below i count l (λ e. subst P (sym (ap (λ (k : ℕ). get_or order' k 0) e ∙ here)) new) (λ l'. subst P (sym (before i l')) (old i l'))

    -- the new one is ahead of what is left
    ahead : (n : ℕ) → T (held? left' n) → T (ahead? ss at n)
    ahead n h =
        ⊎_elim (λ e. absurd (apart n h e)) (λ a. subst (λ (x : Slot). T (before? x at (slot_at ss n) n)) (s.same at at_held)
        (subst (λ (y : Slot). T (before? (slot_at left at) at y n)) (s.same n (was n h)) a))
        (f.first n (subst (λ (k : ℕ). n < k) s.sixteen (held-there left n (was n h))) (was n h))

    pub one-listed : Sofar ss left' order' (count + 1)
    one-listed = record {
      size = length-set order count at ∙ s.size;
      fits = let l : tally left' 16 < tally left 16 = tally-less left left' at 16 f.there at_held gone was in omega (arith, s.fits);
      sixteen = length-set left at vacant ∙ s.sixteen;
      same = λ n h. kept n (apart n h) ∙ s.same n (was n h);
      sorted = λ i j l m. below j count m
          (λ e. subst (λ (k : ℕ). T (ahead? ss (get_or order' i 0) k)) (sym (ap (λ (k : ℕ). get_or order' k 0) e ∙ here))
          (subst (λ (k : ℕ). T (ahead? ss k at)) (sym (before i (omega arith))) (s.behind at at_held i (omega arith))))
          (λ l'. subst (λ (k : ℕ). T (ahead? ss (get_or order' i 0) k)) (sym (before j l'))
          (subst (λ (k : ℕ). T (ahead? ss k (get_or order j 0))) (sym (before i (omega arith))) (s.sorted i j l l')));
      held = each (λ k. T (held? ss k)) s.held (subst (λ (x : Slot). T x.held) (s.same at at_held) at_held);
      behind = λ n h. each (λ k. T (ahead? ss k n)) (s.behind n (was n h)) (ahead n h);
      all = λ n h. ⊎_elim (λ p. inl (p.0, (wider p.0 p.1.0, before p.0 p.1.0 ∙ p.1.1))) (λ t. by n t) (s.all n h);
      zeros = λ i l. get_or-set_other order count i at 0 (λ e. omega arith) ∙ s.zeros i (omega arith);
    }
      where
        wider : (i : ℕ) → i < count → i < count + 1
        wider i l = omega arith

        by : (n : ℕ) → T (held? left n) → ((i : ℕ) × ((i < count + 1) × (get_or order' i 0 ≡ n))) ⊎ T (held? left' n)
        by n t =
            ⊎_elim (λ q. inl (count, (omega arith, here ∙ sym (eqb→eq n at q))))
            (λ q. inr (subst (λ (x : Slot). T x.held) (sym (kept n (λ e. T_not (eqb n at) (subst (λ (k : ℕ). T (eqb n k)) e (eqb_refl n)) q))) t))
            (dec (eqb n at))

  -- none is left
  module _ (left : List Slot) (order : List ℕ) (count : ℕ) (s : Sofar ss left order count) (over : FirstHeld left 16 None) where
    none : (n : ℕ) → T (held? left n) → ⊥
    none n h = over n (subst (λ (k : ℕ). n < k) s.sixteen (held-there left n h)) h

    long : length (take count order) ≡ count
    long = let z : count ≤ length order = omega (arith, s.size, s.fits) in simp length-take (omega arith)

    inside : (i : ℕ) → i < length (take count order) → i < count
    inside i l = subst (λ (k : ℕ). i < k) long l

    taken : (i : ℕ) → i < count → get_or (take count order) i 0 ≡ get_or order i 0
    taken i l = get_or-take count order i 0 l

    listed : InRank ss (take count order)
    listed = record {
      sorted = λ i j l m. let m' : j < count = inside j m in
          subst (λ (x : ℕ). T (ahead? ss x (get_or (take count order) j 0))) (sym (taken i (omega arith)))
          (subst (λ (x : ℕ). T (ahead? ss (get_or order i 0) x)) (sym (taken j m')) (s.sorted i j l m'));
      held = λ i l. subst (λ (x : ℕ). T (held? ss x)) (sym (taken i (inside i l))) (s.held i (inside i l));
      all = λ n h. ⊎_elim (λ p. (p.0, (subst (λ (k : ℕ). p.0 < k) (sym long) p.1.0, taken p.0 p.1.0 ∙ p.1.1))) (λ t. absurd (none n t))
          (s.all n h);
    }

    filled : ◌≡◌ {A = Ranking} (record { number = 0; place = 0; count = count; order = order })
        (record { number = 0; place = 0; count = length (take count order); order = take count order ++ replicate (16 - length (take count order)) 0 })
    filled =
        rw long (ap (λ (xs : List ℕ). record { number = 0; place = 0; count = count; order = xs })
        (zeros-behind order count (16 - count) (omega (arith, s.size, s.fits)) s.zeros))

    pub orders : Orders ss (record { number = 0; place = 0; count = count; order = order })
    unfolding ranking_of
    orders = record { order = take count order; in_rank = listed; fills = filled }
