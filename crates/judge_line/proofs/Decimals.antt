-- Numbers in base ten: what the library writes of a number of 64 bits is its text. Three closed cases. Assumes nothing.
use Rattle.std.proofs.Common.{◌≡◌, ℕ, zero, suc, ◌+◌, ◌/◌, ◌%◌, ◌^◌, ◌<◌, ◌≤◌, ◌⊎◌, List, [], ◌∷◌, ◌++◌, refl, sym, ap, ◌∙◌, inl, inr, arith, eq-zero-or-pos}
use Rattle.std.specs.Fmt as std
use Rattle.std.proofs.lemmas.Fmt.{decimal_digit, decimal_step}
use Rattle.judge_line.specs.Text.{digits_within, decimal}

-- 0 has no digits here
none : (most : ℕ) → digits_within most 0 ≡ []
unfolding digits_within
none zero = refl
none (suc most) = refl

-- a number's last digit, after those before it
last : (n : ℕ) (front : List ℕ) → n < 2 ^ 64 → (n / 10 ≡ 0 → front ≡ []) → (0 < n / 10 → front ≡ std.decimal (n / 10)) →
    front ++ ((48 + n % 10) ∷ []) ≡ std.decimal n
last n front h few many = by (eq-zero-or-pos (n / 10))
  where
    by : (n / 10 ≡ 0) ⊎ (0 < n / 10) → front ++ ((48 + n % 10) ∷ []) ≡ std.decimal n
    by (inl z) = let r : n % 10 ≡ n = omega arith in rw (few z, r) (sym (decimal_digit n (omega arith)))
    by (inr p) = rw (many p) (sym (decimal_step n (omega arith) h))

-- the digits of a number that is not 0
within : (most n : ℕ) → n ≤ most → 0 < n → n < 2 ^ 64 → digits_within most n ≡ std.decimal n
unfolding digits_within
within zero n h p s = absurd (omega arith)
within (suc most) zero h p s = absurd (omega arith)
within (suc most) (suc n) h p s =
    last (suc n) (digits_within most (suc n / 10)) s (λ z. ap (digits_within most) z ∙ none most)
    (λ q. within most (suc n / 10) (omega arith) q (omega arith))

pub in_decimal : (n : ℕ) → n < 2 ^ 64 → std.decimal n ≡ decimal n
in_decimal n h =
    sym (last n (digits_within n (n / 10)) h (λ z. ap (digits_within n) z ∙ none n) (λ q. within n (n / 10) (omega arith) q (omega arith)))

-- closed cases
nought : decimal 0 ≡ 48 ∷ []
unfolding digits_within
nought = refl

ten : decimal 10 ≡ 49 ∷ 48 ∷ []
unfolding digits_within
ten = refl

-- 2 ^ 28 - 1
nine-digits : decimal 268435455 ≡ 50 ∷ 54 ∷ 56 ∷ 52 ∷ 51 ∷ 53 ∷ 52 ∷ 53 ∷ 53 ∷ []
unfolding digits_within
nine-digits = refl
