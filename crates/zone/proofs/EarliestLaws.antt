-- The earliest point of a region that a square table stands for: what the rounds come to on the tightened table, read at the clocks 1 to C.
-- Assumes nothing.
use Prim.Native.Nat.{ℕ, zero, suc, ◌-◌, ◌≤◌, ◌<◌, max}
use mathlib.Core.Path.{◌≡◌, refl, sym, ap, ap₂, subst₂, fun_ext, ◌∙◌}
use mathlib.Core.Bool.{Bool, true, false, cond, ◌||◌}
use mathlib.Core.Logic.{◌⊎◌, inl, inr}
use mathlib.Core.List.{List}
use native.Mathlib.Omega.{arith}
use borrow.Author.Tests.{lt-ltb, le-ltb}
use lib.Dec.{T, eqb, eqb→eq, ltb}
use lib.ListN.{get_or, length, replicate}
use Rattle.zone.specs.Scale.{Valuation, read, Region}
use Rattle.zone.specs.Earliest.{EarliestPoint, valuation_of}
use Rattle.zone.specs.Points.{least_second, round_of, rounds_of, point_of, earliest_of}
use Rattle.zone.specs.Squares.{cell, universe, with_bound, tightened, empty?, Tightens}
use Rattle.zone.specs.declared.bounds.Bound.{Bound as Cell}
use Rattle.zone.specs.declared.zones.Zone.{Zone as Square}
use Rattle.std.specs.Prelude.{Option, Some, None, is_none}
use Rattle.zone.specs.declared.points.Point.{Point}
use Rattle.zone.proofs.Integers.{lt-or-ge}
use Rattle.zone.proofs.Limits.{Limit, none, halved, least, bounds, parts}
use Rattle.zone.proofs.KeyLaws.{limit_of, Finite, Absent, kind}
use Rattle.zone.proofs.PointCode.{least-finite, least-absent, raised_at, round-at}
use Rattle.zone.proofs.Loops.{same_at}
use Rattle.zone.proofs.SquareTables.{table_of, table_at, table-universe, with_cases, table-tightened}
use Rattle.zone.proofs.Regions.{Stands, in_square, read_same}
use Rattle.zone.proofs.Spans.{spans, tightened-good}
use Rattle.zone.proofs.Theory.Tables.{Table}
use Rattle.zone.proofs.Theory.Meaning.{In, Good, close_in, in_close}
use Rattle.zone.proofs.Theory.Extend.{most}
use Rattle.zone.proofs.Theory.Rounds.{rounds, rounds-least, first_round, rounds_in, rounds₀}

-- ---- the least reading of a second clock is the theory's
least-second : (k : ℕ) (a : Cell) (x : ℕ) → least_second k a x ≡ least k x (limit_of a)
least-second k a x = by (kind a)
  where
    by : Finite a ⊎ Absent a → least_second k a x ≡ least k x (limit_of a)
    by (inl f) = rw f.limit (least-finite k a x f ∙ omega (arith, (halved a.key).small))
    by (inr f) = rw f.limit (least-absent k a x f)

-- ---- what the code's rounds come to
most-same : (m : ℕ) (f g : ℕ → ℕ) → ((i : ℕ) → i < m → f i ≡ g i) → most m f ≡ most m g
unfolding most
most-same zero f g h = refl
most-same (suc m) f g h = ap₂ max (most-same m f g (λ i l. h i (omega arith))) (h m (omega arith))

asks : (k : ℕ) (z : Square) (i j : ℕ) → i < 5 → j < 5 → (x : ℕ) → least_second k (cell z i j) x ≡ least k x (table_of z i j)
asks k z i j hi hj x = least-second k (cell z i j) x ∙ ap (least k x) (sym (table_at z i j hi hj))

-- what they begin with is the theory's first round
module _ (n : ℕ) (z : Square) (n₁ : 1 ≤ n) (n₅ : n ≤ 5) (good : Good bounds n (table_of z)) where
  pub rounds-read : (r j : ℕ) → j < 5 → get_or (rounds_of n z r) j 0 ≡ rounds bounds parts n (table_of z) (suc r) j
  unfolding rounds_of round_of rounds
  rounds-read zero j h =
      let begins = raised_at n z 0 0 (replicate 5 0) j h in
      let nothing = same_at {A = ℕ} 5 j 0 in
      let first = asks n z 0 j (omega arith) h 0 in
      omega (arith, first_round bounds parts n (table_of z) good n₁ j)
  rounds-read (suc r) j h =
      round-at n n z (rounds_of n z r) j h
      ∙ most-same n _ _ (λ i l. asks n z i j (omega arith) h (get_or (rounds_of n z r) i 0) ∙ ap (λ x. least n x (table_of z i j)) (rounds-read r i (omega arith)))

-- the point reads what the list has of the clocks 1 to 4
point-reads : (xs : List ℕ) (i : ℕ) → 1 ≤ i → i < 5 → valuation_of (point_of xs) i ≡ get_or xs i 0
unfolding valuation_of
point-reads xs zero h l = absurd (omega arith)
point-reads xs (suc zero) h l = refl
point-reads xs (suc (suc zero)) h l = refl
point-reads xs (suc (suc (suc zero))) h l = refl
point-reads xs (suc (suc (suc (suc zero)))) h l = refl
point-reads xs (suc (suc (suc (suc (suc i))))) h l = absurd (omega arith)

point-unread : (xs : List ℕ) (i : ℕ) → 5 ≤ i → valuation_of (point_of xs) i ≡ 0
unfolding valuation_of
point-unread xs zero h = refl
point-unread xs (suc zero) h = absurd (omega arith)
point-unread xs (suc (suc zero)) h = absurd (omega arith)
point-unread xs (suc (suc (suc zero))) h = absurd (omega arith)
point-unread xs (suc (suc (suc (suc zero)))) h = absurd (omega arith)
point-unread xs (suc (suc (suc (suc (suc i))))) h = refl

-- ---- the clocks above C: their bounds hold whatever clocks read, as long as clock 0 reads 0 and none differs from itself
abbrev Slack : ℕ → ℕ → Limit → Type 0
Slack i j b = (k x y : ℕ) → (i ≡ 0 → x ≡ 0) → (i ≡ j → x ≡ y) → bounds.Holds k x y b

pub record Unused (C : ℕ) (z : Square) : Type 0 where
  pub at : (i j : ℕ) → i < 5 → j < 5 → (C < i) ⊎ (C < j) → Slack i j (table_of z i j)

pub unused-universe : (C : ℕ) → Unused C universe
unused-universe C = record { at = λ i j hi hj _. rw (table-universe i j hi hj) (slack i j (eqb i 0) (eqb i j) (eqb→eq i 0) (eqb→eq i j)) }
  where
    slack : (i j : ℕ) (a b : Bool) → (T a → i ≡ 0) → (T b → i ≡ j) → Slack i j (cond (a || b) bounds.at_most_zero none)
    slack i j true b p q k x y f g = bounds.at_most_zero-holds k x y (omega (arith, f (p tt)))
    slack i j false true p q k x y f g = bounds.at_most_zero-holds k x y (omega (arith, g (q tt)))
    slack i j false false p q k x y f g = bounds.holds-unbounded k x y

pub unused_with : (C : ℕ) {z : Square} (i j : ℕ) (c : Cell) → length z.cells ≡ 25 → i < 5 → j < 5 → i ≤ C → j ≤ C → Unused C z →
    Unused C (with_bound i j c z)
unused_with C {z} i j c sized hi hj li lj u = record {
  at = λ a b ha hb o.
      with_cases i j c z sized hi hj (λ a b d. (C < a) ⊎ (C < b) → Slack a b d) (λ a b ha hb o. u.at a b ha hb o) none_above a b ha hb o;
}
  where
    none_above : (C < i) ⊎ (C < j) → Slack i j (limit_of c)
    none_above (inl l) = absurd (omega arith)
    none_above (inr l) = absurd (omega arith)

-- ---- the earliest point of a region
-- what the clocks read after the rounds on the tightened table
abbrev pub point_at : ℕ → Square → Valuation
point_at C z = valuation_of (point_of (rounds_of (suc C) (tightened z) (C - 1)))

-- over C = c + 1 clocks, so n of them with clock 0
module _ {R : Region} {z : Square} (c : ℕ) (few : suc c ≤ 4) (fits : Tightens 1 z) (s : Stands R z) (unused : Unused (suc c) z)
    (e : empty? (tightened z) ≡ false) where
  n : ℕ
  n = suc (suc c)

  A : Table bounds
  A = table_of (tightened z)

  good : Good bounds n A
  unfolding A n
  good =
      let g = tightened-good fits (spans s) e in
      record {
        closed = λ l h. g.closed l (omega arith);
        ok = λ i h. g.ok i (omega arith);
        based = record { flat = λ i h. g.based.flat i (omega arith); low₀ = λ i h. g.based.low₀ i (omega arith) };
      }

  -- the theory's rounds, with the clocks above C at 0
  v : Valuation
  v i = cond (ltb i n) (rounds bounds parts n A (suc c) i) 0

  v_low : (i : ℕ) → i < n → v i ≡ rounds bounds parts n A (suc c) i
  unfolding v
  v_low i h = ap (λ (b : Bool). cond b (rounds bounds parts n A (suc c) i) 0) (lt-ltb i n h)

  v_high : (i : ℕ) → n ≤ i → v i ≡ 0
  unfolding v
  v_high i h = ap (λ (b : Bool). cond b (rounds bounds parts n A (suc c) i) 0) (le-ltb i n h)

  v₀ : v 0 ≡ 0
  unfolding n
  v₀ = v_low 0 (omega arith) ∙ rounds₀ bounds parts n A good c refl

  -- it is in the table: the bounds of the clocks up to C hold after the rounds, and the others hold anyway
  in_table : In bounds 5 (table_of z) n v
  unfolding n A
  in_table = record { at = λ i j hi hj. at i j hi hj (lt-or-ge (suc c) i) (lt-or-ge (suc c) j) }
    where
      few-in : In bounds n (table_of z) n (rounds bounds parts n A (suc c))
      few-in = in_close bounds 5 (table_of z) (omega arith) (rw (← table-tightened z fits) (rounds_in bounds parts n A good c refl))

      anyway : (i j : ℕ) → i < 5 → j < 5 → (suc c < i) ⊎ (suc c < j) → bounds.Holds n (v i) (v j) (table_of z i j)
      anyway i j hi hj o = unused.at i j hi hj o n (v i) (v j) (λ q. ap v q ∙ v₀) (λ q. ap v q)

      at : (i j : ℕ) → i < 5 → j < 5 → (suc c < i) ⊎ (i ≤ suc c) → (suc c < j) ⊎ (j ≤ suc c) → bounds.Holds n (v i) (v j) (table_of z i j)
      at i j hi hj (inl l) o = anyway i j hi hj (inl l)
      at i j hi hj (inr l) (inl o) = anyway i j hi hj (inr o)
      at i j hi hj (inr l) (inr o) =
          subst₂ (λ x y. bounds.Holds n x y (table_of z i j)) (sym (v_low i (omega arith))) (sym (v_low j (omega arith)))
          (few-in.at i j (omega arith) (omega arith))

  in-tightened : In bounds 5 A n v
  unfolding A
  in-tightened = rw (table-tightened z fits) (close_in bounds in_table)

  fewer : {u : ℕ → ℕ} → In bounds 5 A n u → In bounds n A n u
  unfolding n
  fewer p = record { at = λ i j hi hj. p.at i j (omega arith) (omega arith) }

  -- the code's rounds come to it, above C too, where the theory's are no later than v
  reads : (i : ℕ) → i < 5 → get_or (rounds_of n (tightened z) c) i 0 ≡ v i
  unfolding n A
  reads i h = by (lt-or-ge i n)
    where
      same : get_or (rounds_of n (tightened z) c) i 0 ≡ rounds bounds parts n A (suc c) i
      same = rounds-read n (tightened z) (omega arith) (omega arith) good c i h

      by : (i < n) ⊎ (n ≤ i) → get_or (rounds_of n (tightened z) c) i 0 ≡ v i
      by (inl l) = same ∙ sym (v_low i l)
      by (inr l) =
          omega (
            arith,
            same,
            v_high i l,
            rounds-least bounds parts n A v (fewer in-tightened) (suc c) i (λ k hk. in-tightened.at k i (omega arith) h),
          )

  is-v : (i : ℕ) → point_at (suc c) z i ≡ v i
  unfolding n valuation_of
  is-v zero = sym v₀
  is-v (suc i) = by (lt-or-ge (suc i) 5)
    where
      by : (suc i < 5) ⊎ (5 ≤ suc i) → point_at (suc c) z (suc i) ≡ v (suc i)
      by (inl l) =
          point-reads (rounds_of n (tightened z) (suc c - 1)) (suc i) (omega arith) l
          ∙ ap (λ r. get_or (rounds_of n (tightened z) r) (suc i) 0) (let less : suc c - 1 ≡ c = omega arith in less) ∙ reads (suc i) l
      by (inr l) = point-unread (rounds_of n (tightened z) (suc c - 1)) (suc i) l ∙ sym (v_high (suc i) (omega arith))

  least-read : (u : Valuation) → R n u → (i : ℕ) → i ≤ suc c → point_at (suc c) z i ≤ read u i
  unfolding n A in_square
  least-read u r i h =
      let p : In bounds 5 A n (read u) = rw (table-tightened z fits) (close_in bounds (s.into n (omega arith) u r)) in
      omega (
        arith,
        is-v i,
        v_low i (omega arith),
        rounds-least bounds parts n A (read u) (fewer p) (suc c) i (λ k hk. p.at k i (omega arith) (omega arith)),
      )

  least-of : (u : Valuation) → R n u → (i : ℕ) → 1 ≤ i → i ≤ suc c → point_at (suc c) z i ≤ u i
  unfolding read
  least-of u r zero h l = absurd (omega arith)
  least-of u r (suc i) h l = least-read u r (suc i) l

  pub is_earliest : EarliestPoint (suc c) R (point_at (suc c) z)
  unfolding n in_square valuation_of
  is_earliest = record { holds = holds; least = least-of; zero = refl; above = λ i h. is-v i ∙ v_high i h }
    where
      reads-v : read (point_at (suc c) z) ≡ v
      reads-v = read_same (point_at (suc c) z) refl ∙ fun_ext is-v

      holds : R n (point_at (suc c) z)
      holds = s.out n (omega arith) (point_at (suc c) z) (rw reads-v in_table)

-- ---- a table that is not empty has a point, and no other has: a theorem for a reader, which no proof cites
pub none-empty : (C : ℕ) (z : Square) {e : Option Point} → e ≡ earliest_of C z → is_none e ≡ empty? z
unfolding earliest_of
none-empty C z f = rw f (by (empty? z))
  where
    by : (c : Bool) → is_none (cond c None (Some (point_of (rounds_of (suc C) z (C - 1))))) ≡ c
    by true = refl
    by false = refl
