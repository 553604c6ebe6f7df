-- Document 02, card 3: the held slots in rank, smaller fraction first, lower slot number on equality. Assumes nothing.
use Rattle.std.specs.Prelude.{ℕ, ◌<◌, ◌*◌, ◌≡◌, Bool, ◌&&◌, ◌||◌, List, [], ◌∷◌, T, eqb, ltb, length, get_or}
use Rattle.answers.specs.Checks.{Answer, test, First}
use Rattle.slots.specs.declared.Slot.{Slot}
use Rattle.slots.specs.Slots.{slot_at}
use Rattle.board.specs.Board.{good_slots?}

-- the fraction of x is smaller than that of y, by cross products
abbrev pub smaller? : Slot → Slot → Bool
smaller? x y = ltb (x.b * y.whole) (y.b * x.whole)

-- the two fractions are equal, also where they are not written alike
abbrev pub equal? : Slot → Slot → Bool
equal? x y = eqb (x.b * y.whole) (y.b * x.whole)

-- slot m comes before slot n
abbrev pub ahead? : List Slot → ℕ → ℕ → Bool
ahead? ss m n = smaller? (slot_at ss m) (slot_at ss n) || (equal? (slot_at ss m) (slot_at ss n) && ltb m n)

abbrev pub held? : List Slot → ℕ → Bool
held? ss n = (slot_at ss n).held

-- exactly the held slots, each ahead of those behind it
pub record InRank (ss : List Slot) (order : List ℕ) : Type 0 where
  pub sorted : (i j : ℕ) → i < j → j < length order → T (ahead? ss (get_or order i 0) (get_or order j 0))
  pub held : (i : ℕ) → i < length order → T (held? ss (get_or order i 0))
  pub all : (n : ℕ) → T (held? ss n) → (i : ℕ) × ((i < length order) × (get_or order i 0 ≡ n))

-- ranking gives 54 alone, for the slots
pub record Ranked (ss : List Slot) (answer : Answer (List ℕ)) : Type 0 where
  pub says : First (test 54 0 (good_slots? ss) ∷ []) (InRank ss) answer
