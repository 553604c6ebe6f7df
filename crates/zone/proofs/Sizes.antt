-- How large the bounds of a table grow, and how often it can be tightened. Assumes nothing.
use Prim.Native.Nat.{ℕ, zero, suc, ◌+◌, ◌-◌, ◌*◌, ◌^◌, ◌≤◌, ◌<◌}
use mathlib.Core.Path.{◌≡◌, refl, sym, ap, subst, ◌∙◌}
use mathlib.Core.Bool.{Bool, true, not, cond, ◌&&◌, ◌||◌}
use mathlib.Core.List.{List, [], ◌∷◌}
use mathlib.Core.Logic.{◌⊎◌, inl, inr}
use native.Mathlib.Nat.{one-mul, add-mul, mul-le-mul_right, pow-le-pow_right, two-pow-succ}
use native.Mathlib.Omega.{arith}
use lib.Dec.{eqb}
use lib.IntN.{nat_abs}
use lib.ListN.{length, get_or, set}
use lib.Pow.{pow-add}
use lib.Seq.{get_or-set_same, get_or-set_other, set_out}
use Rattle.zone.specs.Cells.{unbounded, at_most_zero, tighter_of, size, past_end}
use Rattle.zone.specs.Squares.{Small, Tightens, cell, list_of, square_of, universe, with_bound, met, passed, passed_below, tightened}
use Rattle.zone.specs.Squares.{delayed_square, source, reset_square}
use Rattle.zone.specs.Scale.{Bound}
use Rattle.zone.specs.Words.{bound_of, good_bound?}
use Rattle.zone.specs.Reading.{cell_of, with_word, read_from, read_zone, outcome_zone, zone_read}
use Rattle.zone.specs.declared.bounds.Bound.{Bound as Cell}
use Rattle.zone.specs.declared.zones.Zone.{Zone as Square}
use Rattle.std.specs.Prelude.{Ok, Err}
use Rattle.zone.proofs.Bools.{by-test}
use Rattle.zone.proofs.Integers.{lt-or-ge}
use Rattle.zone.proofs.KeyLaws.{size-tighter_of, size-passed, size-cell_of}
use Rattle.zone.proofs.WordLaws.{good-number}
use Rattle.zone.proofs.Loops.{list_of-all}

size-cond : (t : Bool) (a b : Cell) {n : ℕ} → size a < n → size b < n → size (cond t a b) < n
size-cond t a b {n} h k = by-test (λ c. size c < n) t a b (λ _. h) (λ _. k)

size-unbounded : size unbounded ≡ 0
unfolding size
size-unbounded = refl

size-at_most_zero : size at_most_zero ≡ 1
unfolding size
size-at_most_zero = refl

size-past_end : size past_end ≡ 0
unfolding size
size-past_end = refl

small-weaken : {m n : ℕ} {z : Square} → Small m z → m ≤ n → Small n z
small-weaken s h = record { at = λ p. let g = s.at p in omega arith }

-- a table is as small as the values it is made of
small-cells : (f : ℕ → Cell) {n : ℕ} → ((p : ℕ) → size (f p) < n) → Small n (record { cells = list_of f 25 0 })
small-cells f {n} h = record { at = list_of-all (λ a. size a < n) past_end f 25 (let o = h 0 in rw size-past_end (omega arith)) h }

small-square : (f : ℕ → ℕ → Cell) {n : ℕ} → ((i j : ℕ) → size (f i j) < n) → Small n (square_of f)
small-square f h = small-cells _ (λ p. h _ _)

small-universe : Small 2 universe
small-universe =
    small-square _
    (λ i j. size-cond (eqb i 0 || eqb i j) at_most_zero unbounded (rw size-at_most_zero (omega arith)) (rw size-unbounded (omega arith)))

module _ {n : ℕ} (z : Square) (s : Small n z) where
  small-with_bound : (i j : ℕ) (b : Cell) → size b < n → Small n (with_bound i j b z)
  unfolding with_bound
  small-with_bound i j b h = record {
    at = λ p. by p (lt-or-ge p (i * 5 + j)) (lt-or-ge (i * 5 + j) p) (lt-or-ge (i * 5 + j) (length z.cells));
  }
    where
      new : Cell
      new = tighter_of (cell z i j) b

      by :
          (p : ℕ) → (p < i * 5 + j) ⊎ (i * 5 + j ≤ p) → (i * 5 + j < p) ⊎ (p ≤ i * 5 + j) →
          (i * 5 + j < length z.cells) ⊎ (length z.cells ≤ i * 5 + j) →
          size (get_or (set z.cells (i * 5 + j) new) p past_end) < n
      by p (inl l) k m = rw (get_or-set_other z.cells (i * 5 + j) p new past_end (λ q. omega arith)) (s.at p)
      by p (inr l) (inl k) m = rw (get_or-set_other z.cells (i * 5 + j) p new past_end (λ q. omega arith)) (s.at p)
      by p (inr l) (inr k) (inl m) =
          let q : p ≡ i * 5 + j = omega arith in
          rw (q, get_or-set_same z.cells (i * 5 + j) new past_end m) (size-tighter_of (cell z i j) b (s.at (i * 5 + j)) h)
      by p (inr l) (inr k) (inr m) = rw (set_out z.cells (i * 5 + j) new m) (s.at p)

  pub small-met : (y : Square) → Small n y → Small n (met z y)
  small-met y t =
      small-square _ (λ i j. size-tighter_of (cell z i j) (cell y i j) (s.at _) (t.at _))

  small-passed : n ≤ 2 ^ 27 → (m : ℕ) → Small (n + n) (passed m z)
  small-passed h m =
      small-square _ (λ i j. size-passed (cell z i m) (cell z m j) (cell z i j) h (s.at _) (s.at _) (s.at _))

  pub small-delayed : Small n (delayed_square z)
  small-delayed =
      let g = s.at 0 in
      small-square _ (λ i j. size-cond (not (eqb i 0) && eqb j 0) unbounded (cell z i j) (rw size-unbounded (omega arith)) (s.at _))

  pub small-reset : (mask : ℕ) → Small n (reset_square mask z)
  small-reset mask = small-square (λ i j. cell z (source mask i) (source mask j)) (λ i j. s.at (source mask i * 5 + source mask j))

-- each pass doubles at most
small-passed_below : (m : ℕ) {n : ℕ} (z : Square) → 2 ^ m * n ≤ 2 ^ 28 → Small n z → Small (2 ^ m * n) (passed_below m z)
unfolding passed_below
small-passed_below zero {n} z h s = small-weaken s (omega (arith, one-mul n))
small-passed_below (suc m) {n} z h s =
    let e : 2 ^ suc m * n ≡ 2 ^ m * n + 2 ^ m * n = ap (λ k. k * n) (two-pow-succ m) ∙ add-mul (2 ^ m) (2 ^ m) n in
    small-weaken (small-passed (passed_below m z) (small-passed_below m z (omega arith) s) (omega arith) m) (omega arith)

-- before the last pass every bound is below 2^27 in size
pub small-passes : (m : ℕ) (z : Square) → m < 5 → Tightens 1 z → Small (2 ^ 27) (passed_below m z)
small-passes m z h s =
    let k : 2 ^ m * 2 ^ 23 ≤ 2 ^ 27 = mul-le-mul_right (2 ^ 23) (pow-le-pow_right {n = 2} (omega arith) {i = m} {j = 4} (omega arith)) in
    small-weaken (small-passed_below m z (omega arith) s) k

-- ---- how often a table can be tightened
pub tightens-fewer : (m n : ℕ) (z : Square) → m ≤ n → Tightens n z → Tightens m z
tightens-fewer m n z h s = small-weaken s (pow-le-pow_right {n = 2} (omega arith) {i = 28 - 5 * n} {j = 28 - 5 * m} (omega arith))

pub tightens-less : (n : ℕ) (z : Square) → n < 5 → Tightens (suc n) z → Tightens n (tightened z)
tightens-less n z h s =
    let e : 5 + (28 - 5 * suc n) ≡ 28 - 5 * n = omega arith in
    let f : 2 ^ 5 * 2 ^ (28 - 5 * suc n) ≡ 2 ^ (28 - 5 * n) = sym (pow-add 2 5 (28 - 5 * suc n)) ∙ ap (λ k. 2 ^ k) e in
    let g : 2 ^ (28 - 5 * n) ≤ 2 ^ 28 = pow-le-pow_right {n = 2} (omega arith) {i = 28 - 5 * n} {j = 28} (omega arith) in
    subst (λ k. Small k (tightened z)) f (small-passed_below 5 z (omega arith) s)

pub tightens-universe : Tightens 3 universe
tightens-universe = small-weaken small-universe (omega arith)

-- ---- a table that is read from bound words
pub tightens-with_bound : (b : Bound) (z : Square) → nat_abs b.d < 4096 → Tightens 3 z → Tightens 3 (with_bound b.i b.j (cell_of b) z)
tightens-with_bound b z h s = small-with_bound z s b.i b.j (cell_of b) (size-cell_of b h)

pub tightens-with_word : (C w : ℕ) → good_bound? C w ≡ true → (z : Square) → Tightens 3 z → Tightens 3 (with_word w z)
unfolding with_word
tightens-with_word C w good z s = tightens-with_bound (bound_of w) z (good-number C w good) s

tightens-read_from : (C : ℕ) (ws : List ℕ) (p : ℕ) (z : Square) → Tightens 3 z → Tightens 3 (outcome_zone (read_from C ws p z))
unfolding read_from outcome_zone
tightens-read_from C [] p z s = s
tightens-read_from C (w ∷ ws) p z s =
    by-test (λ r. Tightens 3 (outcome_zone r)) (good_bound? C w) (read_from C ws (suc p) (with_word w z)) (Err (record { place = p; zone = z }))
    (λ g. tightens-read_from C ws (suc p) (with_word w z) (tightens-with_word C w g z s)) (λ _. s)

-- a zone that is read can be tightened three times, whatever its words
pub read-tightens : (C : ℕ) (ws : List ℕ) → Tightens 3 (zone_read C ws)
unfolding read_zone zone_read
read-tightens C ws = tightens-read_from C ws 0 universe tightens-universe

pub tightens-zone_read : (C : ℕ) (ws : List ℕ) → Tightens 1 (zone_read C ws)
tightens-zone_read C ws = tightens-fewer 1 3 _ (omega arith) (read-tightens C ws)

-- and so where all words are good bounds
pub read_fits : (C : ℕ) (ws : List ℕ) {z : Square} → read_zone C ws ≡ Ok z → Tightens 3 z
unfolding zone_read outcome_zone
read_fits C ws e = rw e at (read-tightens C ws)

pub tightens-read : (C : ℕ) (ws : List ℕ) {z : Square} → read_zone C ws ≡ Ok z → Tightens 1 z
tightens-read C ws e = tightens-fewer 1 3 _ (omega arith) (read_fits C ws e)
