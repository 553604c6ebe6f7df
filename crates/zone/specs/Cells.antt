-- Algorithm: the bounds that a square table keeps, each as its key, and what is worked out from them. Assumes nothing.
use Rattle.std.specs.Prelude.{ℕ, ◌^◌, max, Bool, cond, ◌&&◌, ℤ, pos, nat_abs, ◌+ℤ◌, ◌-ℤ◌}
use Rattle.std.specs.Int.Signed.{lt_z}
use Rattle.zone.specs.Keys.{finite?, lowest}
use Rattle.zone.specs.declared.bounds.Bound.{Bound as Cell}

abbrev pub unbounded : Cell
unbounded = record { key = pos (2 ^ 29) }

abbrev pub at_most_zero : Cell
at_most_zero = record { key = pos 1 }

-- a is tighter than b: it is not absent, and its key is the smaller
unfoldable pub tighter? : Cell → Cell → Bool
tighter? a b = finite? a && lt_z a.key b.key

-- the one with the smaller key, the first where neither is smaller
unfoldable pub tighter_of : Cell → Cell → Cell
tighter_of a b = cond (lt_z b.key a.key) b a

-- the key of the sum of two bounds, which is strict if either is: the sum of two odd keys, less one, is odd, and any other sum is made even
abbrev pub sum_key : ℤ → ℤ → ℤ
sum_key y z = y +ℤ z -ℤ pos (max (lowest y) (lowest z))

-- what a bound of clock i minus clock m and one of clock m minus clock j give for clock i minus clock j, both below 2^27 in size
unfoldable pub sum : Cell → Cell → Cell
sum a b = record { key = sum_key a.key b.key }

-- of a bound of clock i minus clock j, the bound of clock j minus clock i that holds exactly where it does not: d and strictness turned round
unfoldable pub negated : Cell → Cell
negated a = record { key = pos 1 -ℤ a.key }

-- tighter than "at most 0", so that it never holds of a clock minus itself
unfoldable pub negative? : Cell → Bool
negative? a = tighter? a at_most_zero

-- how far a key lies from 0 or, if it is an absent bound's, from that of `unbounded`
unfoldable pub size : Cell → ℕ
size a = cond (finite? a) (nat_abs a.key) (nat_abs (a.key -ℤ unbounded.key))

-- what an array of bounds reads past its end; no index of the code reaches it
abbrev pub past_end : Cell
past_end = record { key = pos 0 }
