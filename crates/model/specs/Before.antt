-- Document 01, "Words" and "The four calls and their refusals": what stands before a word, and where a word stands, in a model or a table.
-- Kinds go by their numbers. Assumes nothing.
use Rattle.std.specs.Prelude.{ℕ, suc, ◌+◌, cond, List, [], ◌∷◌, eqb}
use Rattle.zone.specs.Words.{kind}
use Rattle.model.specs.Kinds.{bound, is}

-- the opener, as document 01 calls it: the last word that is no bound, by the number of its kind, or `first` where there is none. The words
-- before are listed with the last one first
unfoldable pub opener_from : ℕ → List ℕ → ℕ
opener_from first [] = first
opener_from first (w ∷ before) = cond (is bound w) (opener_from first before) (kind w)

-- how many words are of the kind with the number n
unfoldable pub count_of : ℕ → List ℕ → ℕ
count_of n [] = 0
count_of n (w ∷ ws) = cond (eqb (kind w) n) 1 0 + count_of n ws

-- the index of the first word of that kind
unfoldable pub index_of : ℕ → List ℕ → ℕ
index_of n [] = 0
index_of n (w ∷ ws) = cond (eqb (kind w) n) 0 (suc (index_of n ws))
