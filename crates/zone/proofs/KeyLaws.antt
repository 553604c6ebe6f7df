-- The keys that a square table keeps stand for the bounds of the theory (`limit_of`), as long as they are small, and mean what document 01 says
-- of a bound. Assumes nothing.
use mathlib.Core.Path.{◌≡◌, refl, ap}
use mathlib.Core.Logic.{◌↔◌, ◌⊎◌, inl, inr}
use mathlib.Core.Bool.{Bool, true, false, not, cond, ◌&&◌}
use mathlib.Core.List.{[], ◌∷◌}
use Prim.Native.Nat.{ℕ, zero, suc, ◌+◌, ◌*◌, ◌^◌, ◌≤◌, ◌<◌}
use native.Mathlib.Omega.{arith}
use lib.Dec.{T, eqb, T_not, not_T}
use lib.IntN.{ℤ, pos, negsuc, nat_abs, neg_ℤ, ◌+ℤ◌, ◌-ℤ◌, ◌*ℤ◌}
use lib.Signed.{le_z, lt_z, mag}
use Rattle.zone.specs.declared.bounds.Bound.{Bound as Cell}
use Rattle.zone.specs.Keys.{key_of, finite?, half, lowest, said_of, PickOf}
use Rattle.zone.specs.Cells.{unbounded, at_most_zero, tighter?, tighter_of, sum, negative?, size}
use Rattle.zone.specs.Scale.{Valuation, Bound, read, holds?, in?, within}
use Rattle.zone.specs.Reading.{cell_of}
use Rattle.zone.proofs.Bools.{true_false, is_true, is_false, both, and}
use Rattle.zone.proofs.Integers.{lt-or-ge, up, dn, abs-parts, abs-small, le_z→, →le_z, lt_z→, →lt_z, nlt_z→, up_neg, dn-neg, parts_add, parts-less, parts-diff}
use Rattle.zone.proofs.Integers.{up-mul, dn-mul}
use Rattle.zone.proofs.Limits.{Limit, none, keyed, halved, parts-sum, Within, Holds, ◌⊓◌, ◌⊕◌, ◌⊑◌, ⊑-none, bounds}

unfoldable pub limit_of : Cell → Limit
limit_of a = cond (finite? a) (keyed a.key) none

-- ---- what the test of a key tells; sizes by the parts of the key
pub record Finite (a : Cell) : Type 0 where
  pub test : finite? a ≡ true
  pub low : up a.key < 2 ^ 28 + dn a.key
  pub limit : limit_of a ≡ keyed a.key
  -- of the two parts one is 0
  pub parts : size a ≡ up a.key + dn a.key
  pub small : {n : ℕ} → up a.key < n + dn a.key → dn a.key < n + up a.key → size a < n

pub record Absent (a : Cell) : Type 0 where
  pub test : finite? a ≡ false
  pub high : 2 ^ 28 + dn a.key ≤ up a.key
  pub limit : limit_of a ≡ none
  pub above : up a.key ≤ 2 ^ 29 + dn a.key + size a
  pub below : 2 ^ 29 + dn a.key ≤ up a.key + size a
  pub small : {n : ℕ} → up a.key < 2 ^ 29 + n + dn a.key → 2 ^ 29 + dn a.key < n + up a.key → size a < n

is_finite : (a : Cell) → T (finite? a) → Finite a
unfolding limit_of size
is_finite a t =
    let e : finite? a ≡ true = is_true (finite? a) t in
    record {
      test = e;
      low = omega (arith, lt_z→ a.key (pos (2 ^ 28)) t);
      limit = rw e;
      parts = rw e (abs-parts a.key);
      small = λ {n} h k. rw e (abs-small a.key h k);
    }

is-absent : (a : Cell) → T (not (finite? a)) → Absent a
unfolding limit_of size
is-absent a t =
    let e : finite? a ≡ false = is_false (finite? a) (T_not (finite? a) t) in
    let z : ℤ = a.key -ℤ pos (2 ^ 29) in
    let p : up z + dn a.key + 2 ^ 29 ≡ dn z + up a.key = parts-less a.key (2 ^ 29) in
    record {
      test = e;
      high = omega (arith, nlt_z→ a.key (pos (2 ^ 28)) t);
      limit = rw e;
      above = rw e (omega (arith, abs-parts z));
      below = rw e (omega (arith, abs-parts z));
      small = λ {n} h k. rw e (abs-small z (omega arith) (omega arith));
    }

pub kind : (a : Cell) → Finite a ⊎ Absent a
kind a = by (finite? a) (is_finite a) (is-absent a)
  where
    by : (c : Bool) → (T c → Finite a) → (T (not c) → Absent a) → Finite a ⊎ Absent a
    by true f g = inl (f tt)
    by false f g = inr (g tt)

below-finite : (a : Cell) → up a.key < 2 ^ 28 + dn a.key → Finite a
below-finite a h = is_finite a (→lt_z a.key (pos (2 ^ 28)) (omega arith))

above-absent : (a : Cell) → 2 ^ 28 + dn a.key ≤ up a.key → Absent a
above-absent a h = is-absent a (not_T (finite? a) (λ t. omega (arith, lt_z→ a.key (pos (2 ^ 28)) t)))

pub limit-unbounded : limit_of unbounded ≡ none
unfolding limit_of
limit-unbounded = refl

pub limit-at_most_zero : limit_of at_most_zero ≡ keyed (pos 1)
unfolding limit_of
limit-at_most_zero = refl

-- ---- the tighter of two: the one with the smaller key
abbrev Less : Cell → Cell → Type 0
Less a b = up a.key + dn b.key < up b.key + dn a.key

abbrev AtMost : Cell → Cell → Type 0
AtMost a b = up a.key + dn b.key ≤ up b.key + dn a.key

less-or : (a b : Cell) → Less a b ⊎ AtMost b a
less-or a b = lt-or-ge (up a.key + dn b.key) (up b.key + dn a.key)

is-less : (a b : Cell) → Less a b → lt_z a.key b.key ≡ true
is-less a b h = is_true (lt_z a.key b.key) (→lt_z a.key b.key h)

not-less : (a b : Cell) → AtMost b a → lt_z a.key b.key ≡ false
not-less a b h = is_false (lt_z a.key b.key) (λ t. omega (arith, lt_z→ a.key b.key t))

second : (a b : Cell) → Less b a → tighter_of a b ≡ b
unfolding tighter_of
second a b h = rw (is-less b a h)

first : (a b : Cell) → AtMost a b → tighter_of a b ≡ a
unfolding tighter_of
first a b h = rw (not-less b a h)

tighter_of-cases : (a b : Cell) (P : Cell → Type 0) → P a → P b → P (tighter_of a b)
tighter_of-cases a b P p q = by (less-or b a)
  where
    by : Less b a ⊎ AtMost a b → P (tighter_of a b)
    by (inl h) = rw (second a b h) q
    by (inr h) = rw (first a b h) p

pub limit-tighter_of : (a b : Cell) → limit_of (tighter_of a b) ≡ bounds.◌⊓◌ (limit_of a) (limit_of b)
unfolding ◌⊓◌
limit-tighter_of a b = by (kind a) (kind b) (less-or b a)
  where
    by : Finite a ⊎ Absent a → Finite b ⊎ Absent b → Less b a ⊎ AtMost a b → limit_of (tighter_of a b) ≡ limit_of a ⊓ limit_of b
    by (inl f) (inl g) (inl h) = rw (second a b h, f.limit, g.limit, is-less b a h)
    by (inl f) (inl g) (inr h) = rw (first a b h, f.limit, g.limit, not-less b a h)
    by (inl f) (inr g) h = rw (first a b (omega arith), f.limit, g.limit)
    by (inr f) (inl g) h = rw (second a b (omega arith), f.limit, g.limit)
    by (inr f) (inr g) h = rw (f.limit, g.limit) (tighter_of-cases a b (λ c. limit_of c ≡ none) f.limit g.limit)

pub size-tighter_of : (a b : Cell) {n : ℕ} → size a < n → size b < n → size (tighter_of a b) < n
size-tighter_of a b {n} h k = tighter_of-cases a b (λ c. size c < n) h k

pub tighter_of-assoc : (a b c : Cell) → tighter_of (tighter_of a b) c ≡ tighter_of a (tighter_of b c)
tighter_of-assoc a b c = by (less-or b a) (less-or c b)
  where
    by : Less b a ⊎ AtMost a b → Less c b ⊎ AtMost b c → tighter_of (tighter_of a b) c ≡ tighter_of a (tighter_of b c)
    by (inl h) (inl k) = rw (second a b h, second b c k, second a c (omega arith))
    by (inl h) (inr k) = rw (second a b h, first b c k, second a b h)
    by (inr h) (inl k) = rw (first a b h, second b c k)
    by (inr h) (inr k) = rw (first a b h, first b c k, first a b h, first a c (omega arith))

-- ---- the tests of the order
pub as_tight_tighter : (a b : Cell) → (tighter? b a ≡ false) ↔ (bounds.◌⊑◌ (limit_of a) (limit_of b))
unfolding tighter?
as_tight_tighter a b = by (kind a) (kind b) (less-or b a)
  where
    by : Finite a ⊎ Absent a → Finite b ⊎ Absent b → Less b a ⊎ AtMost a b →
        ((finite? b && lt_z b.key a.key) ≡ false) ↔ (limit_of a ⊑ limit_of b)
    by f (inr g) h = rw (g.limit, g.test) ((λ e. ⊑-none (limit_of a)), λ l. refl)
    by (inr f) (inl g) h = rw (f.limit, g.limit, g.test, is-less b a (omega arith)) ((λ e. true_false e), λ l. absurd l.at)
    by (inl f) (inl g) (inl h) = rw (f.limit, g.limit, g.test, is-less b a h) ((λ e. true_false e), λ l. absurd (omega arith))
    by (inl f) (inl g) (inr h) = rw (f.limit, g.limit, g.test, not-less b a h) ((λ e. record { at = h }), λ l. refl)

pub as_tight_negative : (a : Cell) → (negative? a ≡ false) ↔ (bounds.◌⊑◌ bounds.at_most_zero (limit_of a))
unfolding negative?
as_tight_negative a = rw limit-at_most_zero at (as_tight_tighter at_most_zero a)

-- ---- the sum
-- its key is the sum of the keys, or one less
record Near (a b r : Cell) : Type 0 where
  most : up r.key + dn a.key + dn b.key ≤ dn r.key + up a.key + up b.key
  least : dn r.key + up a.key + up b.key ≤ up r.key + dn a.key + dn b.key + 1

near : (a b : Cell) → Near a b (sum a b)
unfolding sum
near a b = omega (arith, parts-sum a.key b.key, (halved a.key).small, (halved b.key).small)

pub limit-sum : (a b : Cell) → size a < 2 ^ 27 → size b < 2 ^ 27 → limit_of (sum a b) ≡ bounds.◌⊕◌ (limit_of a) (limit_of b)
unfolding sum ◌⊕◌
limit-sum a b h k = by (kind a) (kind b) (near a b)
  where
    by : Finite a ⊎ Absent a → Finite b ⊎ Absent b → Near a b (sum a b) → limit_of (sum a b) ≡ limit_of a ⊕ limit_of b
    by (inl f) (inl g) r = rw (f.limit, g.limit) (below-finite (sum a b) (omega arith)).limit
    by (inl f) (inr g) r = rw (f.limit, g.limit) (above-absent (sum a b) (omega arith)).limit
    by (inr f) (inl g) r = rw f.limit (above-absent (sum a b) (omega arith)).limit
    by (inr f) (inr g) r = rw f.limit (above-absent (sum a b) (omega arith)).limit

-- the sum of two absent bounds has a key so large that it is never picked
pub size-passed :
    (a b c : Cell) {n : ℕ} → n ≤ 2 ^ 27 → size a < n → size b < n → size c < n → size (tighter_of c (sum a b)) < n + n
size-passed a b c {n} n₁ h k l = by (kind a) (kind b) (near a b)
  where
    either : size (sum a b) < n + n → size (tighter_of c (sum a b)) < n + n
    either s = size-tighter_of c (sum a b) (omega arith) s

    below : Finite c ⊎ Absent c → up c.key < 2 ^ 29 + n + dn c.key
    below (inl f) = omega arith
    below (inr f) = omega arith

    by : Finite a ⊎ Absent a → Finite b ⊎ Absent b → Near a b (sum a b) → size (tighter_of c (sum a b)) < n + n
    by (inl f) (inl g) r = either ((below-finite (sum a b) (omega arith)).small (omega arith) (omega arith))
    by (inl f) (inr g) r = either ((above-absent (sum a b) (omega arith)).small (omega arith) (omega arith))
    by (inr f) (inl g) r = either ((above-absent (sum a b) (omega arith)).small (omega arith) (omega arith))
    by (inr f) (inr g) r = rw (first c (sum a b) (omega (arith, below (kind c)))) (omega arith)

-- a key of a small bound is small, also that of an absent one
pub size-mag : (a : Cell) → size a < 2 ^ 27 → mag a.key < 5 * 2 ^ 27
size-mag a h = by (kind a)
  where
    small : (z : ℤ) → up z < 5 * 2 ^ 27 + dn z → dn z ≤ 5 * 2 ^ 27 + up z → mag z < 5 * 2 ^ 27
    small (pos n) h k = omega arith
    small (negsuc n) h k = omega arith

    by : Finite a ⊎ Absent a → mag a.key < 5 * 2 ^ 27
    by (inl f) = small a.key (omega arith) (omega arith)
    by (inr f) = small a.key (omega arith) (omega arith)

-- ---- the key of a bound
abbrev pub loose : Bool → ℕ
loose s = cond s 0 1

-- the key says d and s
record Key (d : ℤ) (s : Bool) (key : ℤ) : Type 0 where
  halves : half key ≡ d
  bit : lowest key ≡ loose s

-- integers with the same difference of parts are the same
pub same_parts : (a b : ℤ) → up a + dn b ≡ up b + dn a → a ≡ b
same_parts (pos a) (pos b) e = ap pos (omega arith)
same_parts (pos a) (negsuc b) e = absurd (omega arith)
same_parts (negsuc a) (pos b) e = absurd (omega arith)
same_parts (negsuc a) (negsuc b) e = ap negsuc (omega arith)

pub loose-small : (s : Bool) → loose s < 2
loose-small true = omega arith
loose-small false = omega arith

pub parts-key : (d : ℤ) (s : Bool) → up (key_of d s) + 2 * dn d ≡ dn (key_of d s) + 2 * up d + loose s
parts-key d s = omega (arith, parts_add (d +ℤ d) (pos (loose s)), parts_add d d)

key-of : (d : ℤ) (s : Bool) → Key d s (key_of d s)
key-of d s = record {
  halves = same_parts (half (key_of d s)) d (omega (arith, parts-key d s, loose-small s, halved (key_of d s)));
  bit = omega (arith, parts-key d s, loose-small s, halved (key_of d s));
}

pub loose_even : (n : ℕ) → n < 2 → n ≡ loose (eqb n 0)
loose_even zero h = refl
loose_even (suc zero) h = refl
loose_even (suc (suc n)) h = absurd (omega arith)

even_loose : (s : Bool) → eqb (loose s) 0 ≡ s
even_loose true = refl
even_loose false = refl

-- ---- what document 01 says of a bound on two clocks that read x and y, and what a key means that says the same
module _ (k x y : ℕ) (d : ℤ) where
  abbrev says? : Bool → Bool
  says? s = cond s (lt_z (pos x -ℤ pos y) (pos k *ℤ d)) (le_z (pos x -ℤ pos y) (pos k *ℤ d))

  says→ : (s : Bool) → T (says? s) → Within k x y d (loose s)
  says→ true t = omega (arith, lt_z→ (pos x -ℤ pos y) (pos k *ℤ d) t, parts-diff x y, up-mul k d, dn-mul k d)
  says→ false t = omega (arith, le_z→ (pos x -ℤ pos y) (pos k *ℤ d) t, parts-diff x y, up-mul k d, dn-mul k d)

  →says : (s : Bool) → Within k x y d (loose s) → T (says? s)
  →says true h = →lt_z (pos x -ℤ pos y) (pos k *ℤ d) (omega (arith, parts-diff x y, up-mul k d, dn-mul k d))
  →says false h = →le_z (pos x -ℤ pos y) (pos k *ℤ d) (omega (arith, parts-diff x y, up-mul k d, dn-mul k d))

  same : (s : Bool) (key : ℤ) → Key d s key → T (says? s) ↔ Holds k x y (keyed key)
  same s key h =
      let e : k * up (half key) ≡ k * up d = ap (λ z. k * up z) h.halves in
      let f : k * dn (half key) ≡ k * dn d = ap (λ z. k * dn z) h.halves in
      ((λ t. omega (arith, says→ s t)), λ p. →says s (omega arith))

abbrev pub bound_limit : Bound → Limit
bound_limit b = keyed (key_of b.d b.strict)

meant : (k : ℕ) (v : Valuation) (b : Bound) → T (holds? k v b) ↔ Holds k (read v b.i) (read v b.j) (bound_limit b)
unfolding holds?
meant k v b = same k (read v b.i) (read v b.j) b.d b.strict (key_of b.d b.strict) (key-of b.d b.strict)

pub holds→ : (k : ℕ) (v : Valuation) (b : Bound) → T (holds? k v b) → bounds.Holds k (read v b.i) (read v b.j) (bound_limit b)
holds→ k v b = (meant k v b).0

pub →holds : (k : ℕ) (v : Valuation) (b : Bound) → bounds.Holds k (read v b.i) (read v b.j) (bound_limit b) → T (holds? k v b)
→holds k v b = (meant k v b).1

-- ---- the bound that holds exactly where b does not: its clocks, its number and its strictness the other way round
abbrev pub opposite : Bound → Bound
opposite b = record { i = b.j; j = b.i; d = neg_ℤ b.d; strict = not b.strict }

loose-not : (s : Bool) → loose (not s) + loose s ≡ 1
loose-not true = refl
loose-not false = refl

pub key-opposite : (d : ℤ) (s : Bool) → key_of (neg_ℤ d) (not s) ≡ pos 1 -ℤ key_of d s
key-opposite d s =
    same_parts (key_of (neg_ℤ d) (not s)) (pos 1 -ℤ key_of d s)
    (omega (
      arith,
      parts-key d s,
      parts-key (neg_ℤ d) (not s),
      loose-not s,
      up_neg d,
      dn-neg d,
      parts_add (pos 1) (neg_ℤ (key_of d s)),
      up_neg (key_of d s),
      dn-neg (key_of d s),
    ))

module _ (k x y : ℕ) (d : ℤ) (s : Bool) where
  up_same : k * up (neg_ℤ d) ≡ k * dn d
  up_same = ap (λ n. k * n) (up_neg d)

  dn-same : k * dn (neg_ℤ d) ≡ k * up d
  dn-same = ap (λ n. k * n) (dn-neg d)

  fails→says : T (not (says? k x y d s)) → T (says? k y x (neg_ℤ d) (not s))
  fails→says t = by (lt-or-ge (x + k * dn d) (y + k * up d + loose s))
    where
      by : (x + k * dn d < y + k * up d + loose s) ⊎ (y + k * up d + loose s ≤ x + k * dn d) → T (says? k y x (neg_ℤ d) (not s))
      by (inl h) = absurd (T_not (says? k x y d s) t (→says k x y d s h))
      by (inr h) = →says k y x (neg_ℤ d) (not s) (omega (arith, loose-not s, up_same, dn-same))

  says→fails : T (says? k y x (neg_ℤ d) (not s)) → T (not (says? k x y d s))
  says→fails t =
      not_T (says? k x y d s)
      (λ h. omega (arith, says→ k x y d s h, says→ k y x (neg_ℤ d) (not s) t, loose-not s, up_same, dn-same))

pub opposite-holds : (k : ℕ) (v : Valuation) (b : Bound) → T (holds? k v (opposite b)) ↔ T (not (holds? k v b))
unfolding holds?
opposite-holds k v b =
    (says→fails k (read v b.i) (read v b.j) b.d b.strict, fails→says k (read v b.i) (read v b.j) b.d b.strict)

-- ---- the key that a table keeps of a bound
key-finite : (d : ℤ) (s : Bool) → nat_abs d < 2 ^ 26 → Finite (record { key = key_of d s })
key-finite d s h = below-finite (record { key = key_of d s }) (omega (arith, parts-key d s, loose-small s, abs-parts d))

pub limit-cell_of : (b : Bound) → nat_abs b.d < 4096 → limit_of (cell_of b) ≡ bound_limit b
limit-cell_of b h = (key-finite b.d b.strict (omega arith)).limit

pub size-cell_of : (b : Bound) → nat_abs b.d < 4096 → size (cell_of b) < 2 ^ 13
size-cell_of b h =
    let l = loose-small b.strict in
    let e = parts-key b.d b.strict in
    let f = abs-parts b.d in
    (key-finite b.d b.strict (omega arith)).small (omega arith) (omega arith)

-- ---- what a table's key says
pub said-key : (d : ℤ) (s : Bool) → nat_abs d < 2 ^ 26 → (i j : ℕ) →
    said_of (record { key = key_of d s }) i j ≡ (record { i = i; j = j; d = d; strict = s } ∷ [])
unfolding said_of
said-key d s h i j = rw ((key-finite d s h).test, (key-of d s).halves, (key-of d s).bit, even_loose s)

key-said : (z : ℤ) → Key (half z) (eqb (lowest z) 0) z
key-said z = record { halves = refl; bit = loose_even (lowest z) (halved z).small }

pub said-holds : (a : Cell) (i j k : ℕ) (v : Valuation) → within (said_of a i j) k v ↔ bounds.Holds k (read v i) (read v j) (limit_of a)
unfolding said_of within in? holds? limit_of
said-holds a i j k v = by (finite? a)
  where
    b : Bound
    b = record { i = i; j = j; d = half a.key; strict = eqb (lowest a.key) 0 }

    by : (c : Bool) → T (in? k v (cond c (b ∷ []) [])) ↔ Holds k (read v i) (read v j) (cond c (keyed a.key) none)
    by true =
        let (f, g) = same k (read v i) (read v j) b.d b.strict a.key (key-said a.key) in
        ((λ t. f (both (holds? k v b) true t).0), λ h. and (holds? k v b) true (g h) tt)
    by false = ((λ t. bounds.holds-unbounded k (read v i) (read v j)), λ h. tt)

pub is-pick : (a b : Cell) → PickOf a b (tighter_of a b)
is-pick a b = record {
  one = tighter_of-cases a b (λ c. (c ≡ a) ⊎ (c ≡ b)) (inl refl) (inr refl);
  both = λ i j k k₁ v.
      let l : Limit = limit_of a in
      let m : Limit = limit_of b in
      let x : ℕ = read v i in
      let y : ℕ = read v j in
      let (from, to) = rw (limit-tighter_of a b) at (said-holds (tighter_of a b) i j k v) in
      let (from-a, to-a) = said-holds a i j k v in
      let (from-b, to-b) = said-holds b i j k v in
      let to_both : Holds k x y (l ⊓ m) → within (said_of a i j) k v × within (said_of b i j) k v =
      λ h. (to-a (bounds.holds-⊑ k k₁ x y (bounds.⊓-left l m) h), to-b (bounds.holds-⊑ k k₁ x y (bounds.⊓-right l m) h)) in
      ((λ t. to_both (from t)), λ t. to (bounds.⊓-cases l m (Holds k x y) (from-a t.0) (from-b t.1)));
}
