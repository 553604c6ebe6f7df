-- The words of a draft, read back: kinds and fields. Assumes nothing.
use Prim.Native.Nat.{ℕ, suc, ◌+◌, ◌-◌, ◌*◌, ◌/◌, ◌^◌, ◌≤◌, ◌<◌}
use mathlib.Core.Path.{◌≡◌, refl, ap, ap₂, ◌∙◌}
use mathlib.Core.Bool.{Bool, true, false, cond}
use mathlib.Core.List.{[], ◌∷◌, map}
use native.Mathlib.Omega.{arith}
use borrow.Author.Tests.{lt-ltb, le-ltb, le-leb, ne_eqb}
use lib.Dec.{eqb, ltb}
use lib.IntN.{ℤ, pos, negsuc, nat_abs, ◌+ℤ◌, ◌-ℤ◌, +ℤ-neg_ℤ_cancel}
use Rattle.zone.specs.Scale.{Bound, Zone}
use Rattle.zone.specs.Words.{bits, kind, bound_of, bound_fields?, good_bound?, zone_of}
use Rattle.drafting.specs.Words.{whole, word, bound_word}

-- ---- d + 4,096
pub record Shifted (d : ℤ) (n : ℕ) : Type 0 where
  pub low : 1 ≤ n
  pub high : n < 8192
  pub back : pos n -ℤ pos 4096 ≡ d

below-cond : (a b : ℕ) (x y : ℤ) → a < b → cond (ltb a b) x y ≡ x
below-cond a b x y h = rw (lt-ltb a b h)

not-below-cond : (a b : ℕ) (x y : ℤ) → b ≤ a → cond (ltb a b) x y ≡ y
not-below-cond a b x y h = rw (le-ltb a b h)

pub shifted : (d : ℤ) → nat_abs d ≤ 4095 → Shifted d (nat_abs (d +ℤ pos 4096))
shifted (pos m) h = record { low = omega arith; high = omega arith; back = +ℤ-neg_ℤ_cancel (pos m) (pos 4096) }
shifted (negsuc m) h =
    let e : cond (ltb 4096 (suc m)) (negsuc (suc m - suc 4096)) (pos (4096 - suc m)) ≡ pos (4096 - suc m) =
    not-below-cond 4096 (suc m) (negsuc (suc m - suc 4096)) (pos (4096 - suc m)) (omega arith) in
    rw e (record {
      low = omega arith;
      high = omega arith;
      back =
          below-cond (4096 - suc m) 4096 (negsuc (4096 - suc (4096 - suc m))) (pos (4096 - suc m - 4096)) (omega arith)
          ∙ ap negsuc (omega arith);
    })

-- ---- a bound word
-- its fields in numbers: t is bit 19 in its place
record Fields (w i j t n : ℕ) : Type 0 where
  kind : bits 31 28 w ≡ 5
  first : bits 27 24 w ≡ i
  second : bits 23 20 w ≡ j
  strict : bits 19 19 w ≡ t / 2 ^ 19
  spare : bits 18 13 w ≡ 0
  number : bits 12 0 w ≡ n

fields : (i j t n : ℕ) → i < 16 → j < 16 → (t / 2 ^ 19 * 2 ^ 19 ≡ t) → t < 2 ^ 20 → n < 8192 →
    Fields (5 * 2 ^ 28 + (i * 2 ^ 24 + j * 2 ^ 20 + t + n)) i j t n
fields i j t n hi hj e ht hn = record {
  kind = omega arith;
  first = omega arith;
  second = omega arith;
  strict = omega arith;
  spare = omega arith;
  number = omega arith;
}

bit-fields : (s : Bool) (i j n : ℕ) → i < 16 → j < 16 → n < 8192 →
    Fields (5 * 2 ^ 28 + (i * 2 ^ 24 + j * 2 ^ 20 + cond s (2 ^ 19) 0 + n)) i j (cond s (2 ^ 19) 0) n
bit-fields true i j n hi hj hn = fields i j (2 ^ 19) n hi hj (omega arith) (omega arith) hn
bit-fields false i j n hi hj hn = fields i j 0 n hi hj (omega arith) (omega arith) hn

bit-back : (s : Bool) → eqb (cond s (2 ^ 19) 0 / 2 ^ 19) 1 ≡ s
bit-back true = refl
bit-back false = refl

-- a bound that a word can hold, over the clocks 0 to C
pub record Fit (C : ℕ) (b : Bound) : Type 0 where
  pub first : b.i ≤ C
  pub second : b.j ≤ C
  pub differ : b.i ≡ b.j → ⊥
  pub small : nat_abs b.d ≤ 4095

module _ (C : ℕ) (few : C ≤ 4) (b : Bound) (fit : Fit C b) where
  f : Fields (bound_word b) b.i b.j (cond b.strict (2 ^ 19) 0) (nat_abs (b.d +ℤ pos 4096))
  f = bit-fields b.strict b.i b.j (nat_abs (b.d +ℤ pos 4096)) (let g = fit.first in omega arith) (let g = fit.second in omega arith)
      (shifted b.d fit.small).high

  pub bound-back : bound_of (bound_word b) ≡ b
  unfolding bound_of
  bound-back = rw (f.first, f.second, f.strict, f.number, (shifted b.d fit.small).back, bit-back b.strict)

  pub bound-kind : kind (bound_word b) ≡ 5
  bound-kind = f.kind

  pub bound-good : good_bound? C (bound_word b) ≡ true
  unfolding good_bound? bound_fields?
  bound-good =
      rw (
        f.kind,
        f.first,
        f.second,
        f.spare,
        f.number,
        le-leb b.i C fit.first,
        le-leb b.j C fit.second,
        ne_eqb b.i b.j fit.differ,
        ne_eqb (nat_abs (b.d +ℤ pos 4096)) 0 (λ e. let l = (shifted b.d fit.small).low in omega arith),
      )

-- ---- a zone's words
abbrev pub AllFit : ℕ → Zone → Type 0
AllFit C [] = Unit {0}
AllFit C (b ∷ Z) = Fit C b × AllFit C Z

pub zone-back : (C : ℕ) → C ≤ 4 → (Z : Zone) → AllFit C Z → zone_of (map bound_word Z) ≡ Z
unfolding zone_of
zone-back C few [] h = refl
zone-back C few (b ∷ Z) h = ap₂ ◌∷◌ (bound-back C few b h.0) (zone-back C few Z h.1)

-- ---- the other words

pub word-kind : (n k : ℕ) → k < 16 → n < 2 ^ 28 → kind (word k n) ≡ k
word-kind n k hk h = omega arith

-- the lowest 28 bits
pub word_fields : (n k : ℕ) → n < 2 ^ 28 → bits 27 0 (word k n) ≡ n
word_fields n k h = omega arith

-- 8: a location
pub node-kind : (l : ℕ) → l < 16 → kind (word 8 (l * 2 ^ 24)) ≡ 8
node-kind l h = omega arith

pub node-fields : (l : ℕ) → l < 16 → (bits 27 24 (word 8 (l * 2 ^ 24)) ≡ l) × (bits 23 0 (word 8 (l * 2 ^ 24)) ≡ 0)
node-fields l h = (omega arith, omega arith)

-- 9: a value
pub value-kind : (v : ℕ) → v ≤ whole → kind (word 9 v) ≡ 9
value-kind v h = word-kind v 9 (omega arith) (omega arith)

pub value-fields : (v : ℕ) → v ≤ whole → bits 27 0 (word 9 v) ≡ v
value-fields v h = word_fields v 9 (omega arith)

-- B: the number of a node
pub successor-kind : (n : ℕ) → n < 64 → kind (word 11 n) ≡ 11
successor-kind n h = word-kind n 11 (omega arith) (omega arith)

pub successor-fields : (n : ℕ) → n < 64 → (bits 5 0 (word 11 n) ≡ n) × (bits 27 6 (word 11 n) ≡ 0)
successor-fields n h = (omega arith, omega arith)
