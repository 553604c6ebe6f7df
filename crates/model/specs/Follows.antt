-- Algorithm: the constant table of what may follow what, for both files. Assumes nothing.
use Rattle.std.specs.Prelude.{ℕ, ◌≡◌, Bool, ◌||◌, List, map}
use Rattle.std.specs.List.{range_with_len}
use Rattle.model.specs.Grammar.{follows?, table_follows?}

-- what either file says of each of 16 kinds behind an opener
abbrev pub follows_row : ℕ → List Bool
follows_row o = map (λ (n : ℕ). follows? o n || table_follows? o n) (range_with_len 0 16)

-- a row for each of 17 openers
abbrev pub follows_rows : List (List Bool)
follows_rows = map follows_row (range_with_len 0 17)

pub record FollowsTable (rows : List (List Bool)) : Type 0 where
  pub rule : rows ≡ follows_rows
