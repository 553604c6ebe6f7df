-- Document 02, card 3: the board, 16 slots and what stands beside them, and when it is in range. Assumes nothing.
use Rattle.std.specs.Prelude.{ℕ, ◌-◌, Bool, true, not, ◌&&◌, ◌||◌, List, [], ◌∷◌, T, eqb, ltb, leb, length}
use Rattle.answers.specs.Checks.{accepted}
use Rattle.acceptance.specs.Judging.{Judged}
use Rattle.slots.specs.declared.Slot.{Slot}
use Rattle.board.specs.declared.submissions.Ledger.{Ledger}

-- each passes the test
unfoldable pub every? : {A : Type 0} → (A → Bool) → List A → Bool
every? f [] = true
every? f (x ∷ xs) = f x && every? f xs

-- a list of 32-bit words
abbrev pub words? : List ℕ → Bool
words? ws = every? (λ (w : ℕ). ltb w 0x100000000) ws

-- a table gives the fraction b/V: for some model it is accepted with that fraction
pub record Gives (b whole : ℕ) : Type 0 where
  pub model : List ℕ
  pub table : List ℕ
  pub nodes : ℕ
  pub words : T (words? model) × T (words? table)
  pub judged : Judged model table (accepted (record { b = b; whole = whole; nodes = nodes }))

-- a fraction that a table could give, in numbers: V from 1 to 268,435,455 and b up to V. That this is the same is a theorem, `could_give`
abbrev pub could_give? : ℕ → ℕ → Bool
could_give? b whole = leb 1 whole && (leb whole 268435455 && leb b whole)

-- a held slot has a team from 0 to 7 and such a fraction; of a vacant one nothing is asked
abbrev pub good_slot? : Slot → Bool
good_slot? s = not s.held || (leb s.team 7 && could_give? s.b s.whole)

abbrev pub all_good? : List Slot → Bool
all_good? ss = every? (λ (s : Slot). good_slot? s) ss

-- 16 slots, and the held ones are in range
abbrev pub good_slots? : List Slot → Bool
good_slots? ss = eqb (length ss) 16 && all_good? ss

-- one allowance of 100 serves everybody; it is what is left
abbrev pub good_ledger? : Ledger → Bool
good_ledger? l = leb l.allowance 100

-- one less is left
abbrev pub spend : Ledger → Ledger
spend l = record { allowance = l.allowance - 1 }

pub record Board : Type 0 where
  pub slots : List Slot
  pub ledger : Ledger

abbrev pub board : List Slot → Ledger → Board
board ss l = record { slots = ss; ledger = l }
