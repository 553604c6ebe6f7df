-- The code's square tables as tables of the theory: what each key says within five clocks, no bound outside. Assumes nothing.
use Prim.Native.Nat.{ℕ, zero, suc, ◌+◌, ◌*◌, ◌/◌, ◌%◌, ◌^◌, ◌<◌, ◌≤◌}
use mathlib.Core.Path.{◌≡◌, refl, sym, ap, ap₂, ◌∙◌, fun_ext, subst, subst₂}
use mathlib.Core.Bool.{Bool, true, false, not, cond, ◌&&◌, ◌||◌}
use mathlib.Core.List.{List}
use native.Mathlib.Omega.{arith}
use lib.Dec.{T, eqb, eqb→eq, eqb-suc-zero, ltb, ltb→lt}
use borrow.Author.Tests.{lt-ltb, eqb-false, not-true, not-false}
use lib.Seq.{get_or-set_same, get_or-set_other}
use lib.ListN.{get_or, length, length-set}
use Rattle.zone.specs.Cells.{unbounded, at_most_zero, tighter?, tighter_of, sum, negative?, past_end}
use Rattle.zone.specs.Squares.{
  cell,
  list_of,
  square_of,
  met,
  passed,
  passed_below,
  tightened,
  delayed_square,
  source,
  reset_square,
  universe,
  with_bound,
  empty?,
  inside?,
  Small,
  Tightens,
}
use Rattle.zone.specs.declared.bounds.Bound.{Bound as Cell}
use Rattle.zone.specs.declared.zones.Zone.{Zone as Square}
use Rattle.zone.proofs.Bools.{false_true}
use Rattle.zone.proofs.Limits.{Limit, none, bounds}
use Rattle.zone.proofs.KeyLaws.{
  limit_of,
  limit-unbounded,
  limit-at_most_zero,
  limit-tighter_of,
  limit-sum,
  tighter_of-assoc,
  as_tight_tighter,
  as_tight_negative,
}
use Rattle.zone.proofs.Sizes.{small-met, small-delayed, small-passes, tightens-fewer, tightens-less}
use Rattle.zone.proofs.Loops.{at-clocks, list_of-length, list_of-at, list_of-same, all_pass, all-at, all-fails}
use Rattle.zone.proofs.Theory.Tables.{Table, Ok, pass, close, meet}
use Rattle.zone.proofs.Theory.Delay.{delay}
use Rattle.zone.proofs.Theory.Reset.{renamed, renamed-lt}
use Rattle.zone.proofs.Theory.Reach.{reach}
use Rattle.zone.specs.Moves.{masked?}

-- f within five clocks
unfoldable pub clipped : (ℕ → ℕ → Limit) → Table bounds
clipped f i j = cond (ltb i 5 && ltb j 5) (f i j) none

-- the bound that a cell's key says
abbrev limit : Square → ℕ → ℕ → Limit
limit z i j = limit_of (cell z i j)

unfoldable pub table_of : Square → Table bounds
table_of z = clipped (limit z)

clipped-at : (f : ℕ → ℕ → Limit) (i j : ℕ) → i < 5 → j < 5 → clipped f i j ≡ f i j
unfolding clipped
clipped-at f i j hi hj = simp (lt-ltb i 5 hi, lt-ltb j 5 hj)

pub table_at : (z : Square) (i j : ℕ) → i < 5 → j < 5 → table_of z i j ≡ limit_of (cell z i j)
unfolding table_of
table_at z i j = clipped-at (limit z) i j

pub row : (i j : ℕ) → j < 5 → (i * 5 + j) / 5 ≡ i
row i j h = omega arith

pub column : (i j : ℕ) → j < 5 → (i * 5 + j) % 5 ≡ j
column i j h = omega arith

pub square-at : (f : ℕ → ℕ → Cell) (i j : ℕ) → i < 5 → j < 5 → cell (square_of f) i j ≡ f i j
square-at f i j hi hj = list_of-at past_end (λ p. f (p / 5) (p % 5)) 25 (i * 5 + j) (omega arith) ∙ ap₂ f (row i j hj) (column i j hj)

-- meeting two tables and then a third is meeting the first with what the others meet in
pub met-assoc : (x y z : Square) → met (met x y) z ≡ met x (met y z)
met-assoc x y z = ap (λ (cs : List Cell). record { cells = cs }) (list_of-same _ _ 25 0 (λ p h. at (p / 5) (p % 5) (omega arith) (omega arith)))
  where
    at : (i j : ℕ) → i < 5 → j < 5 → tighter_of (cell (met x y) i j) (cell z i j) ≡ tighter_of (cell x i j) (cell (met y z) i j)
    at i j hi hj =
        ap (λ c. tighter_of c (cell z i j)) (square-at (λ a b. tighter_of (cell x a b) (cell y a b)) i j hi hj)
        ∙ tighter_of-assoc (cell x i j) (cell y i j) (cell z i j)
        ∙ sym (ap (tighter_of (cell x i j)) (square-at (λ a b. tighter_of (cell y a b) (cell z a b)) i j hi hj))

-- two clipped tables that agree within five clocks are one
clip_same : (f g : ℕ → ℕ → Limit) → ((i j : ℕ) → i < 5 → j < 5 → f i j ≡ g i j) → clipped f ≡ clipped g
unfolding clipped
clip_same f g h = fun_ext (λ i. fun_ext (λ j. by i j (ltb i 5) (ltb j 5) (ltb→lt i 5) (ltb→lt j 5)))
  where
    by : (i j : ℕ) (a b : Bool) → (T a → i < 5) → (T b → j < 5) → cond (a && b) (f i j) none ≡ cond (a && b) (g i j) none
    by i j true true p q = h i j (p tt) (q tt)
    by i j true false p q = refl
    by i j false b p q = refl

-- the table of a square of cells, whose bounds are those of g
table-square : (f : ℕ → ℕ → Cell) (g : ℕ → ℕ → Limit) → ((i j : ℕ) → limit_of (f i j) ≡ g i j) → table_of (square_of f) ≡ clipped g
unfolding table_of
table-square f g h = clip_same (limit (square_of f)) g (λ i j hi hj. ap limit_of (square-at f i j hi hj) ∙ h i j)

-- a pass within five clocks, by the tests that i, j and m are
passed-at : (t : ℕ → ℕ → Limit) (i j m : ℕ) (a b c : Bool) → c ≡ true →
    cond (a && b) (bounds.◌⊓◌ (t i j) (bounds.◌⊕◌ (t i m) (t m j))) none
    ≡ bounds.◌⊓◌ (cond (a && b) (t i j) none) (bounds.◌⊕◌ (cond (a && c) (t i m) none) (cond (c && b) (t m j) none))
passed-at t i j m a b false e = false_true e
passed-at t i j m true true true e = refl
passed-at t i j m true false true e = sym (ap (bounds.◌⊓◌ none) (bounds.⊕-unbounded (t i m)) ∙ bounds.unbounded-⊓)
passed-at t i j m false true true e = sym (ap (bounds.◌⊓◌ none) (bounds.unbounded-⊕ (t m j)) ∙ bounds.unbounded-⊓)
passed-at t i j m false false true e = sym (ap (bounds.◌⊓◌ none) (bounds.unbounded-⊕ none) ∙ bounds.unbounded-⊓)

-- ---- the operations, as the theory has them
-- sums of bounds below 2^27 in size are those of the theory
table-passed : (m : ℕ) → m < 5 → (z : Square) → Small (2 ^ 27) z → table_of (passed m z) ≡ pass bounds m (table_of z)
unfolding table_of clipped pass
table-passed m hm z s =
    table-square (λ i j. tighter_of (cell z i j) (sum (cell z i m) (cell z m j))) (λ i j. bounds.◌⊓◌ (limit z i j) (bounds.◌⊕◌ (limit z i m) (limit z m j)))
    (λ i j. limit-tighter_of (cell z i j) (sum (cell z i m) (cell z m j))
    ∙ ap (bounds.◌⊓◌ (limit z i j)) (limit-sum (cell z i m) (cell z m j) (s.at _) (s.at _)))
    ∙ fun_ext (λ i. fun_ext (λ j. passed-at (limit z) i j m (ltb i 5) (ltb j 5) (ltb m 5) (lt-ltb m 5 hm)))

module _ (z : Square) (s : Tightens 1 z) where
  below-tightened : (n : ℕ) → n ≤ 5 → table_of (passed_below n z) ≡ close bounds n (table_of z)
  unfolding passed_below close
  below-tightened zero h = refl
  below-tightened (suc m) h =
      table-passed m (omega arith) (passed_below m z) (small-passes m z (omega arith) s) ∙ ap (pass bounds m) (below-tightened m (omega arith))

  pub table-tightened : table_of (tightened z) ≡ close bounds 5 (table_of z)
  table-tightened = below-tightened 5 (omega arith)

pub table-met : (y z : Square) → table_of (met y z) ≡ meet bounds (table_of y) (table_of z)
unfolding table_of clipped meet
table-met y z =
    table-square (λ i j. tighter_of (cell y i j) (cell z i j)) (λ i j. bounds.◌⊓◌ (limit y i j) (limit z i j))
    (λ i j. limit-tighter_of (cell y i j) (cell z i j))
    ∙ fun_ext (λ i. fun_ext (λ j. by i j (ltb i 5 && ltb j 5)))
  where
    by : (i j : ℕ) (c : Bool) →
        cond c (bounds.◌⊓◌ (limit y i j) (limit z i j)) none ≡ bounds.◌⊓◌ (cond c (limit y i j) none) (cond c (limit z i j) none)
    by i j true = refl
    by i j false = sym bounds.unbounded-⊓

pub table-delayed : (z : Square) → table_of (delayed_square z) ≡ delay bounds (table_of z)
unfolding table_of clipped delay
table-delayed z =
    table-square (λ i j. cond (not (eqb i 0) && eqb j 0) unbounded (cell z i j)) (λ i j. cond (not (eqb i 0) && eqb j 0) none (limit z i j))
    (λ i j. dropped (not (eqb i 0) && eqb j 0) (cell z i j))
    ∙ fun_ext (λ i. fun_ext (λ j. at i j))
  where
    dropped : (c : Bool) (a : Cell) → limit_of (cond c unbounded a) ≡ cond c none (limit_of a)
    dropped true a = limit-unbounded
    dropped false a = refl

    same : (c : Bool) → cond c none none ≡ none
    same true = refl
    same false = refl

    at : (i j : ℕ) → cond (ltb i 5 && ltb j 5) (cond (not (eqb i 0) && eqb j 0) none (limit z i j)) none ≡ delay bounds
        (λ a b. cond (ltb a 5 && ltb b 5) (limit z a b) none) i j
    at zero j = refl
    at (suc i) zero = rw eqb-suc-zero (same (ltb (suc i) 5 && true))
    at (suc i) (suc j) = rw (eqb-suc-zero i, eqb-suc-zero j) refl

-- the table of what a delay from y attains in z, before it is tightened
abbrev pub attained_table : Square → Square → Square
attained_table y z = met (delayed_square (tightened y)) z

-- and tightened; at one scale it may hold more
abbrev pub reached : Square → Square → Square
reached y z = tightened (attained_table y z)

pub table-reached : (y z : Square) → Tightens 2 y → Tightens 1 z → table_of (reached y z) ≡ reach bounds 5 (table_of y) (table_of z)
unfolding reach
table-reached y z s t =
    table-tightened (attained_table y z) (small-met _ (small-delayed _ (tightens-less 1 y (omega arith) s)) z t)
    ∙ ap (close bounds 5)
    (table-met (delayed_square (tightened y)) z
    ∙ ap (λ A. meet bounds A (table_of z)) (table-delayed (tightened y) ∙ ap (delay bounds) (table-tightened y (tightens-fewer 1 2 y (omega arith) s))))

pub source-lt : (mask i : ℕ) → i < 5 → source mask i < 5
unfolding source renamed
source-lt mask i h = renamed-lt (masked? mask) i h

-- what a list of the five sources holds
pub sources_at : (mask : ℕ) {from : List ℕ} → from ≡ list_of (source mask) 5 0 → (i : ℕ) → i < 5 →
    (get_or from i 0 ≡ source mask i) × (get_or from i 0 < 5)
sources_at mask {from} e i h =
    let q : get_or from i 0 ≡ source mask i = rw e (list_of-at 0 (source mask) 5 i h) in
    (q, omega (arith, source-lt mask i h))

pub table-reset : (mask : ℕ) (z : Square) (i j : ℕ) → i < 5 → j < 5 → table_of (reset_square mask z) i j ≡ table_of z (source mask i) (source mask j)
table-reset mask z i j hi hj =
    table_at (reset_square mask z) i j hi hj ∙ ap limit_of (square-at (λ a b. cell z (source mask a) (source mask b)) i j hi hj)
    ∙ sym (table_at z (source mask i) (source mask j) (source-lt mask i hi) (source-lt mask j hj))

pub table-universe : (i j : ℕ) → i < 5 → j < 5 → table_of universe i j ≡ cond (eqb i 0 || eqb i j) bounds.at_most_zero none
table-universe i j hi hj =
    table_at universe i j hi hj ∙ ap limit_of (square-at (λ a b. cond (eqb a 0 || eqb a b) at_most_zero unbounded) i j hi hj) ∙ by (eqb i 0 || eqb i j)
  where
    by : (c : Bool) → limit_of (cond c at_most_zero unbounded) ≡ cond c bounds.at_most_zero none
    by true = limit-at_most_zero
    by false = limit-unbounded

-- ---- one bound more
pub sized-square : (f : ℕ → ℕ → Cell) → length (square_of f).cells ≡ 25
sized-square f = list_of-length (λ p. f (p / 5) (p % 5)) 25 0

module _ (i j : ℕ) (c : Cell) (z : Square) where
  pub sized_with : length z.cells ≡ 25 → length (with_bound i j c z).cells ≡ 25
  unfolding with_bound
  sized_with h = simp length-set h

  module _ (sized : length z.cells ≡ 25) (hi : i < 5) (hj : j < 5) where
    with-here : table_of (with_bound i j c z) i j ≡ bounds.◌⊓◌ (table_of z i j) (limit_of c)
    unfolding with_bound
    with-here = table_at (with_bound i j c z) i j hi hj
        ∙ ap limit_of (get_or-set_same z.cells (i * 5 + j) (tighter_of (cell z i j) c) past_end (omega arith))
        ∙ limit-tighter_of (cell z i j) c ∙ ap (λ b. bounds.◌⊓◌ b (limit_of c)) (sym (table_at z i j hi hj))

    with-other : (a b : ℕ) → a < 5 → b < 5 → (a * 5 + b ≡ i * 5 + j → ⊥) → table_of (with_bound i j c z) a b ≡ table_of z a b
    unfolding with_bound
    with-other a b ha hb ne = table_at (with_bound i j c z) a b ha hb
        ∙ ap limit_of (get_or-set_other z.cells (i * 5 + j) (a * 5 + b) (tighter_of (cell z i j) c) past_end ne) ∙ sym (table_at z a b ha hb)

    -- a property of every old bound and of the tighter one is one of every bound
    with-by : (P : ℕ → ℕ → Limit → Type 0) → ((a b : ℕ) → a < 5 → b < 5 → P a b (table_of z a b)) → P i j (bounds.◌⊓◌ (table_of z i j) (limit_of c)) →
        (a b : ℕ) → a < 5 → b < 5 → P a b (table_of (with_bound i j c z) a b)
    with-by P old new a b ha hb = by (eqb (a * 5 + b) (i * 5 + j)) (eqb→eq (a * 5 + b) (i * 5 + j)) (eqb-false (a * 5 + b) (i * 5 + j))
      where
        by : (t : Bool) → (T t → a * 5 + b ≡ i * 5 + j) → (t ≡ false → a * 5 + b ≡ i * 5 + j → ⊥) → P a b (table_of (with_bound i j c z) a b)
        by true f g =
            let e : i ≡ a = omega (arith, f tt) in
            let d : j ≡ b = omega (arith, f tt) in
            subst₂ (λ x y. P x y (table_of (with_bound i j c z) x y)) e d (subst (P i j) (sym with-here) new)
        by false f g = subst (P a b) (sym (with-other a b ha hb (g refl))) (old a b ha hb)

    pub with_cases : (P : ℕ → ℕ → Limit → Type 0) → ((a b : ℕ) → a < 5 → b < 5 → P a b (table_of z a b)) → P i j (limit_of c) → (a b : ℕ) → a < 5 →
        b < 5 → P a b (table_of (with_bound i j c z) a b)
    with_cases P old new = with-by P old (bounds.⊓-cases (table_of z i j) (limit_of c) (P i j) (old i j hi hj) new)

    pub with_old : (a b : ℕ) → a < 5 → b < 5 → bounds.◌⊑◌ (table_of (with_bound i j c z) a b) (table_of z a b)
    with_old = with-by (λ a b d. bounds.◌⊑◌ d (table_of z a b)) (λ a b _ _. bounds.⊑_refl (table_of z a b)) (bounds.⊓-left (table_of z i j) (limit_of c))

    pub with_new : bounds.◌⊑◌ (table_of (with_bound i j c z) i j) (limit_of c)
    with_new = subst (λ d. bounds.◌⊑◌ d (limit_of c)) (sym with-here) (bounds.⊓-right (table_of z i j) (limit_of c))

-- ---- the two tests of a table
pub nonempty-ok : (z : Square) → empty? z ≡ false → Ok bounds 5 (table_of z)
unfolding empty?
nonempty-ok z e i h =
    rw (table_at z i i h h) ((as_tight_negative (cell z i i)).0 (not-true _ (all-at 5 (λ i. not (negative? (cell z i i))) (not-false _ e) i h)))

pub ok-nonempty : (z : Square) → Ok bounds 5 (table_of z) → empty? z ≡ false
unfolding empty?
ok-nonempty z ok = rw
    (all_pass 5 (λ i. not (negative? (cell z i i))) (λ i h. rw ((as_tight_negative (cell z i i)).1 (rw (table_at z i i h h) at (ok i h)))))

pub inside-cells : (y z : Square) → inside? y z ≡ true → (i j : ℕ) → i < 5 → j < 5 → bounds.◌⊑◌ (table_of y i j) (table_of z i j)
unfolding inside?
inside-cells y z e i j hi hj =
    rw (table_at y i j hi hj, table_at z i j hi hj)
    ((as_tight_tighter (cell y i j) (cell z i j)).0
    (not-true _ (all-at 25 (λ p. not (tighter? (get_or z.cells p past_end) (get_or y.cells p past_end))) e (i * 5 + j) (omega arith))))

-- a cell of y that is not as tight as that of z
pub record Loose (y z : Square) : Type 0 where
  pub i : ℕ
  pub j : ℕ
  pub hi : i < 5
  pub hj : j < 5
  pub looser : T (not (bounds.as_tight? (table_of y i j) (table_of z i j)))

pub loose-cell : (y z : Square) → inside? y z ≡ false → Loose y z
unfolding inside?
loose-cell y z e = record { i = p / 5; j = p % 5; hi = omega (arith, f.1); hj = omega (arith, f.1); looser = by (bounds.as_tight? a b) refl }
  where
    f : (p : ℕ) × (p < 25) × (not (tighter? (get_or z.cells p past_end) (get_or y.cells p past_end)) ≡ false)
    f = all-fails 25 (λ p. not (tighter? (get_or z.cells p past_end) (get_or y.cells p past_end))) e

    p : ℕ
    p = f.0

    a : Limit
    a = table_of y (p / 5) (p % 5)

    b : Limit
    b = table_of z (p / 5) (p % 5)

    same : (x : Square) → table_of x (p / 5) (p % 5) ≡ limit_of (get_or x.cells p past_end)
    same x = table_at x (p / 5) (p % 5) (omega (arith, f.1)) (omega (arith, f.1)) ∙ ap limit_of (at-clocks x p)

    by : (c : Bool) → bounds.as_tight? a b ≡ c → T (not c)
    by true q =
        false_true (sym f.2 ∙ ap not ((as_tight_tighter (get_or y.cells p past_end) (get_or z.cells p past_end)).1
        (subst₂ bounds.◌⊑◌ (same y) (same z) (bounds.as_tight-⊑ a b (rw q tt)))))
    by false q = tt
