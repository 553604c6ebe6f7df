-- Algorithm: zones as square tables of bounds, five clocks by five, known as difference bound matrices. Cell i * 5 + j bounds clock i minus
-- clock j. Assumes nothing.
use Rattle.std.specs.Prelude.{ℕ, zero, suc, ◌+◌, ◌-◌, ◌*◌, ◌/◌, ◌%◌, ◌^◌, ◌<◌, Bool, true, not, cond, ◌&&◌, ◌||◌, List, [], ◌∷◌, eqb, get_or, set}
use Rattle.zone.specs.Moves.{masked?}
use Rattle.zone.specs.Cells.{unbounded, at_most_zero, tighter?, tighter_of, sum, negative?, size, past_end}
use Rattle.zone.specs.declared.bounds.Bound.{Bound as Cell}
use Rattle.zone.specs.declared.zones.Zone.{Zone as Square}

abbrev pub cell : Square → ℕ → ℕ → Cell
cell z i j = get_or z.cells (i * 5 + j) past_end

-- the values of f at n numbers from p on
unfoldable pub list_of {ℓ} : {A : Type ℓ} → (ℕ → A) → ℕ → ℕ → List A
list_of f zero p = []
list_of f (suc n) p = f p ∷ list_of f n (suc p)

-- the square table whose bound of clock i minus clock j is f i j
abbrev pub square_of : (ℕ → ℕ → Cell) → Square
square_of f = record { cells = list_of (λ p. f (p / 5) (p % 5)) 25 0 }

-- every valuation: clock 0 minus any clock is at most 0, and so is a clock minus itself
abbrev pub universe : Square
universe = square_of (λ i j. cond (eqb i 0 || eqb i j) at_most_zero unbounded)

-- with one bound more
unfoldable pub with_bound : ℕ → ℕ → Cell → Square → Square
with_bound i j b z = record { cells = set z.cells (i * 5 + j) (tighter_of (cell z i j) b) }

abbrev pub met : Square → Square → Square
met y z = square_of (λ i j. tighter_of (cell y i j) (cell z i j))

-- every bound made at least as tight as the sum of the two through clock m
abbrev pub passed : ℕ → Square → Square
passed m z = square_of (λ i j. tighter_of (cell z i j) (sum (cell z i m) (cell z m j)))

-- the passes through the clocks below n, in their order
unfoldable pub passed_below : ℕ → Square → Square
passed_below zero z = z
passed_below (suc m) z = passed m (passed_below m z)

-- every bound as tight as any chain of bounds makes it: the algorithm of Floyd and Warshall
abbrev pub tightened : Square → Square
tightened z = passed_below 5 z

-- of a tightened table, what any delay attains: the upper bounds are dropped. Of another it may hold more
abbrev pub delayed_square : Square → Square
delayed_square z = square_of (λ i j. cond (not (eqb i 0) && eqb j 0) unbounded (cell z i j))

-- a masked clock reads as clock 0 does
unfoldable pub source : ℕ → ℕ → ℕ
source mask i = cond (masked? mask i) 0 i

-- of a tightened table, the masked clocks set to 0: each has the bounds of clock 0. Of another it may hold more
abbrev pub reset_square : ℕ → Square → Square
reset_square mask z = square_of (λ i j. cell z (source mask i) (source mask j))

-- f is true at every number below n
unfoldable pub all? : ℕ → (ℕ → Bool) → Bool
all? zero f = true
all? (suc n) f = all? n f && f n

-- of a tightened table: some bound of a clock minus itself is negative
unfoldable pub empty? : Square → Bool
empty? z = not (all? 5 (λ i. not (negative? (cell z i i))))

-- of a tightened table that is not empty: no bound of the other is tighter
unfoldable pub inside? : Square → Square → Bool
inside? y z = all? 25 (λ p. not (tighter? (get_or z.cells p past_end) (get_or y.cells p past_end)))

-- every bound of the table is below n in size
pub record Small (n : ℕ) (z : Square) : Type 0 where
  pub at : (p : ℕ) → size (get_or z.cells p past_end) < n

-- the table can be tightened n times more: each of the five passes doubles sizes at most, and the sum of two bounds below 2^27 in size is absent
-- exactly where one of them is
abbrev pub Tightens : ℕ → Square → Type 0
Tightens n z = Small (2 ^ (28 - 5 * n)) z
