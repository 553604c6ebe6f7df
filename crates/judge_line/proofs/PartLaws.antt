-- Laws of the two parts of the words: both are found by the place of the first word of kind 7. Assumes nothing.
use Rattle.std.proofs.Common.{◌≡◌, ℕ, suc, ◌+◌, ◌≤◌, Bool, true, false, not, cond, List, [], ◌∷◌, ◌++◌, Option, Some, None, position, nat_eq, nat_lt, length, refl, ap, ◌∙◌, take, drop, arith}
use Rattle.std.specs.List.{position_or_len}
use Rattle.std.specs.Option.{unwrap_or}
use Rattle.std.proofs.lemmas.Bool.{ltb-false}
use Rattle.std.proofs.lemmas.List.{take-append-drop}
use Rattle.std.proofs.lemmas.List.Sums.{prefix_len-le-length}
use Rattle.zone.specs.Words.{kind}
use Rattle.judge_line.specs.Bytes.{table_part, model_part}

-- a word of kind 7 begins the table
abbrev begins : ℕ → Bool
begins word = nat_eq (kind word) 7

-- its place, or where the words end
at_first : (list : List ℕ) → unwrap_or (position begins list) (length list) ≡ position_or_len begins list
at_first list = by (nat_lt n (length list)) refl
  where
    n : ℕ
    n = position_or_len begins list

    by : (b : Bool) → nat_lt n (length list) ≡ b → unwrap_or (cond b (Some n) None) (length list) ≡ n
    by true e = refl
    by false e = let short : n ≤ length list = prefix_len-le-length _ list in omega (arith, ltb-false n (length list) e)

-- one word further on
next : (list : List ℕ) → 1 + position_or_len begins list ≡ suc (position_or_len begins list)
next list = omega arith

until : (list : List ℕ) → take (position_or_len begins list) list ≡ model_part list
unfolding model_part
until [] = refl
until (w ∷ ws) = by (begins w) (until ws)
  where
    by : (b : Bool) → take (position_or_len begins ws) ws ≡ model_part ws →
        take (cond (not b) (1 + position_or_len begins ws) 0) (w ∷ ws) ≡ cond b [] (w ∷ model_part ws)
    by true e = refl
    by false e = rw (next ws) (ap (λ l. w ∷ l) e)

from : (list : List ℕ) → drop (position_or_len begins list) list ≡ table_part list
unfolding table_part
from [] = refl
from (w ∷ ws) = by (begins w) (from ws)
  where
    by : (b : Bool) → drop (position_or_len begins ws) ws ≡ table_part ws →
        drop (cond (not b) (1 + position_or_len begins ws) 0) (w ∷ ws) ≡ cond b (w ∷ ws) (table_part ws)
    by true e = refl
    by false e = rw (next ws) e

-- the two parts, one after the other, are all the words
pub split : (list : List ℕ) → model_part list ++ table_part list ≡ list
split list = rw (← until list, ← from list) (take-append-drop (position_or_len begins list) list)

module _ (list : List ℕ) (first : Option ℕ) (at : ℕ) (found : first ≡ position begins list) (ends : at ≡ unwrap_or first (length list)) where
  here : at ≡ position_or_len begins list
  here = ends ∙ ap (λ o. unwrap_or o (length list)) found ∙ at_first list

  pub before : take at list ≡ model_part list
  before = ap (λ n. take n list) here ∙ until list

  pub behind : drop at list ≡ table_part list
  behind = ap (λ n. drop n list) here ∙ from list
