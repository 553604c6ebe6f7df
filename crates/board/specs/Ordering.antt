-- Algorithm: how the rank is found: the first held slot, then each time the first of those that are left. Assumes nothing.
use Rattle.std.specs.Prelude.{ℕ, ◌<◌, ◌≡◌, ◌⊎◌, Bool, true, cond, ◌&&◌, ◌||◌, List, Option, None, Some, Result, T, ltb}
use Rattle.answers.specs.Checks.{accepted}
use Rattle.slots.specs.declared.Slot.{Slot}
use Rattle.slots.specs.Slots.{slot_at}
use Rattle.slots.specs.Loading.{Loads}
use Rattle.board.specs.declared.ranking.Ranking.{Ranking}
use Rattle.board.specs.declared.submissions.Placed.{Placed}
use Rattle.board.specs.Ranking.{smaller?, equal?, ahead?, held?, InRank}
use Rattle.board.specs.Replies.{ranking_of, Ranks}

-- x, slot m, comes before y, slot n
abbrev pub before? : Slot → ℕ → Slot → ℕ → Bool
before? x m y n = smaller? x y || (equal? x y && ltb m n)

-- s, slot m, comes before the best so far, where there is one
abbrev pub ahead_of? : Slot → ℕ → Option Placed → Bool
ahead_of? s m None = true
ahead_of? s m (Some best) = before? s m best.slot best.at

-- the best then, for which s counts where it is held
unfoldable pub better_of : Slot → ℕ → Option Placed → Option Placed
better_of s m best = cond (s.held && ahead_of? s m best) (Some (record { at = m; slot = s })) best

-- the first of the held slots below n
pub record IsFirst (ss : List Slot) (n : ℕ) (r : Placed) : Type 0 where
  pub there : r.at < 16
  pub slot : r.slot ≡ slot_at ss r.at
  pub held : T (held? ss r.at)
  pub first : (m : ℕ) → m < n → T (held? ss m) → (m ≡ r.at) ⊎ T (ahead? ss r.at m)

-- it, or that there is none
abbrev pub FirstHeld : List Slot → ℕ → Option Placed → Type 0
FirstHeld ss n None = (m : ℕ) → m < n → T (held? ss m) → ⊥
FirstHeld ss n (Some r) = IsFirst ss n r

-- the ranking of slots that are in range
pub record Orders (ss : List Slot) (r : Ranking) : Type 0 where
  pub order : List ℕ
  pub in_rank : InRank ss order
  pub fills : r ≡ ranking_of (accepted order)

-- the ranking of every list of slots that was read so
pub record RanksLent (lent : Result (List Slot) ℕ) (r : Ranking) : Type 0 where
  pub ranks : (ss : List Slot) → Loads ss lent → Ranks ss r
