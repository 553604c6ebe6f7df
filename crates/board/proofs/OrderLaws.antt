-- Which slot comes before which: smaller fraction first by cross products, lower number on equality. Among held slots, whose V is at least 1, this is an
-- order. Assumes nothing.
use Prim.Native.Nat.{ℕ, zero, suc, ◌*◌, ◌<◌, ◌≤◌}
use native.Mathlib.Nat.{mul_assoc, mul_comm, mul-le-mul_right, mul-lt-mul_of_pos_right, le_of_mul-le-mul_right, lt_of_mul-lt-mul_right, le_antisymm}
use native.Mathlib.Omega.{arith}
use mathlib.Core.Path.{◌≡◌, sym, ap, subst, ◌∙◌}
use mathlib.Core.Logic.{◌⊎◌, inl, inr, ⊎_elim}
use mathlib.Core.Bool.{Bool, not, ◌&&◌, ◌||◌}
use mathlib.Core.List.{List, [], ◌∷◌}
use lib.Dec.{T, eqb, eqb→eq, eqb_refl, ltb, ltb→lt, lt→ltb, leb, leb→le, nltb→le}
use lib.ListN.{length}
use Rattle.slots.specs.declared.Slot.{Slot}
use Rattle.slots.specs.Slots.{slot_at}
use Rattle.board.specs.Board.{could_give?, good_slot?, every?, all_good?}
use Rattle.board.specs.Ranking.{ahead?, held?}
use Rattle.zone.proofs.Bools.{and}
use Rattle.std.proofs.Math.Facts.{T_not}
use Rattle.board.proofs.Tests.{dec, first_of, second-of, one_of, or_left, or_right}

-- ---- fractions

-- the factors of a product of three, in another order
turned : (a b c : ℕ) → (a * b) * c ≡ (a * c) * b
turned a b c = mul_assoc a b c ∙ ap (λ (k : ℕ). a * k) (mul_comm b c) ∙ sym (mul_assoc a c b)

module _ (b₁ v₁ b₂ v₂ b₃ v₃ : ℕ) where
  cross-le : 0 < v₂ → b₁ * v₂ ≤ b₂ * v₁ → b₂ * v₃ ≤ b₃ * v₂ → b₁ * v₃ ≤ b₃ * v₁
  cross-le pos h k =
      le_of_mul-le-mul_right {k = v₂}
      (omega (arith, turned b₁ v₃ v₂, mul-le-mul_right v₃ h, turned b₂ v₁ v₃, mul-le-mul_right v₁ k, turned b₃ v₂ v₁)) pos

  cross-lt-le : 0 < v₃ → b₁ * v₂ < b₂ * v₁ → b₂ * v₃ ≤ b₃ * v₂ → b₁ * v₃ < b₃ * v₁
  cross-lt-le pos h k =
      lt_of_mul-lt-mul_right v₂
      (omega (arith, turned b₁ v₃ v₂, mul-lt-mul_of_pos_right h pos, turned b₂ v₁ v₃, mul-le-mul_right v₁ k, turned b₃ v₂ v₁))

  cross-le-lt : 0 < v₁ → b₁ * v₂ ≤ b₂ * v₁ → b₂ * v₃ < b₃ * v₂ → b₁ * v₃ < b₃ * v₁
  cross-le-lt pos h k =
      lt_of_mul-lt-mul_right v₂
      (omega (arith, turned b₁ v₃ v₂, mul-le-mul_right v₃ h, turned b₂ v₁ v₃, mul-lt-mul_of_pos_right k pos, turned b₃ v₂ v₁))

-- what the test says, of two products and two numbers
abbrev Before : (p q m n : ℕ) → Type 0
Before p q m n = (p < q) ⊎ ((p ≡ q) × (m < n))

abbrev said? : (p q m n : ℕ) → Bool
said? p q m n = ltb p q || (eqb p q && ltb m n)

read : (p q m n : ℕ) → T (said? p q m n) → Before p q m n
read p q m n h = ⊎_elim (λ t. inl (ltb→lt p q t)) (λ t. inr (eqb→eq p q (first_of (eqb p q) (ltb m n) t), ltb→lt m n (second-of (eqb p q) (ltb m n) t)))
    (one_of (ltb p q) (eqb p q && ltb m n) h)

write : (p q m n : ℕ) → Before p q m n → T (said? p q m n)
write p q m n (inl l) = or_left (ltb p q) (eqb p q && ltb m n) (lt→ltb p q l)
write p q m n (inr (e, l)) = or_right (ltb p q) (eqb p q && ltb m n) (and (eqb p q) (ltb m n) (subst (λ (k : ℕ). T (eqb p k)) e (eqb_refl p)) (lt→ltb m n l))

-- one of two slots comes before the other
either : (p q m n : ℕ) → (m ≡ n → ⊥) → (Before p q m n → ⊥) → Before q p n m
either p q m n d h = ⊎_elim (λ t. inl (ltb→lt q p t)) (λ t. over (nltb→le q p t)) (dec (ltb q p))
  where
    over : p ≤ q → Before q p n m
    over le = ⊎_elim (λ t. absurd (h (inl (ltb→lt p q t)))) (λ t. same (le_antisymm le (nltb→le p q t))) (dec (ltb p q))
      where
        same : p ≡ q → Before q p n m
        same e = ⊎_elim (λ t. absurd (h (inr (e, ltb→lt m n t)))) (λ t. inr (sym e, less (nltb→le m n t))) (dec (ltb m n))
          where
            less : n ≤ m → n < m
            less le' = ⊎_elim (λ t. ltb→lt n m t) (λ t. absurd (d (le_antisymm (nltb→le n m t) le'))) (dec (ltb n m))

module _ (ss : List Slot) (positive : (n : ℕ) → T (held? ss n) → 0 < (slot_at ss n).whole) where
  abbrev at : ℕ → Slot
  at n = slot_at ss n

  pub ahead-trans : (a b c : ℕ) → T (held? ss a) → T (held? ss b) → T (held? ss c) → T (ahead? ss a b) → T (ahead? ss b c) → T (ahead? ss a c)
  ahead-trans a b c ha hb hc x y =
      write ((at a).b * (at c).whole) ((at c).b * (at a).whole) a c
      (by (read ((at a).b * (at b).whole) ((at b).b * (at a).whole) a b x) (read ((at b).b * (at c).whole) ((at c).b * (at b).whole) b c y))
    where
      by : Before ((at a).b * (at b).whole) ((at b).b * (at a).whole) a b → Before ((at b).b * (at c).whole) ((at c).b * (at b).whole) b c →
          Before ((at a).b * (at c).whole) ((at c).b * (at a).whole) a c
      by (inl p) (inl q) = inl (cross-lt-le (at a).b (at a).whole (at b).b (at b).whole (at c).b (at c).whole (positive c hc) p (omega arith))
      by (inl p) (inr q) = inl (cross-lt-le (at a).b (at a).whole (at b).b (at b).whole (at c).b (at c).whole (positive c hc) p (omega (arith, q.0)))
      by (inr p) (inl q) = inl (cross-le-lt (at a).b (at a).whole (at b).b (at b).whole (at c).b (at c).whole (positive a ha) (omega (arith, p.0)) q)
      by (inr p) (inr q) =
          inr (
            le_antisymm (cross-le (at a).b (at a).whole (at b).b (at b).whole (at c).b (at c).whole (positive b hb) (omega (arith, p.0))
                (omega (arith, q.0)))
                (cross-le (at c).b (at c).whole (at b).b (at b).whole (at a).b (at a).whole (positive b hb) (omega (arith, q.0)) (omega (arith, p.0))),
            omega (arith, p.1, q.1),
          )

pub ahead-either : (ss : List Slot) (m n : ℕ) → (m ≡ n → ⊥) → T (not (ahead? ss m n)) → T (ahead? ss n m)
ahead-either ss m n d h =
    write ((slot_at ss n).b * (slot_at ss m).whole) ((slot_at ss m).b * (slot_at ss n).whole) n m
    (either ((slot_at ss m).b * (slot_at ss n).whole) ((slot_at ss n).b * (slot_at ss m).whole) m n d (λ s. T_not (ahead? ss m n)
    (write ((slot_at ss m).b * (slot_at ss n).whole) ((slot_at ss n).b * (slot_at ss m).whole) m n s) h))

pub ahead-self : (ss : List Slot) (m : ℕ) → T (ahead? ss m m) → ⊥
ahead-self ss m h = ⊎_elim (λ (l : (slot_at ss m).b * (slot_at ss m).whole < (slot_at ss m).b * (slot_at ss m).whole). omega arith)
    (λ e. let l : m < m = e.1 in omega arith) (read ((slot_at ss m).b * (slot_at ss m).whole) ((slot_at ss m).b * (slot_at ss m).whole) m m h)

-- a held slot among good ones has a V of at least 1
pub positive_of : (ss : List Slot) → T (all_good? ss) → (n : ℕ) → T (held? ss n) → 0 < (slot_at ss n).whole
unfolding every?
positive_of [] g n h = absurd h
positive_of (s ∷ ss) g zero h =
    leb→le 1 s.whole (first_of (leb 1 s.whole) (leb s.whole 268435455 && leb s.b s.whole)
    (second-of (leb s.team 7) (could_give? s.b s.whole)
    (⊎_elim (λ t. absurd (T_not s.held h t)) (λ t. t) (one_of (not s.held) (leb s.team 7 && could_give? s.b s.whole)
    (first_of (good_slot? s) (all_good? ss) g)))))
positive_of (s ∷ ss) g (suc n) h = positive_of ss (second-of (good_slot? s) (all_good? ss) g) n h

-- a held slot is one of the list
pub held-there : (ss : List Slot) (n : ℕ) → T (held? ss n) → n < length ss
held-there [] n h = absurd h
held-there (s ∷ ss) zero h = omega arith
held-there (s ∷ ss) (suc n) h = let l : n < length ss = held-there ss n h in omega arith
