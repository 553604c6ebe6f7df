-- Document 01, "Words": the kind of a word, and the bound word. Assumes nothing.
use Rattle.std.specs.Prelude.{ℕ, ◌+◌, ◌-◌, ◌/◌, ◌%◌, ◌^◌, Bool, not, ◌&&◌, List, [], ◌∷◌, eqb, leb, pos, ◌-ℤ◌}
use Rattle.zone.specs.Scale.{Bound, Zone}

-- the bits of a word from high down to low; bit 0 is lowest
abbrev pub bits : ℕ → ℕ → ℕ → ℕ
bits high low w = w / 2 ^ low % 2 ^ (high + 1 - low)

-- the top four bits are the kind
abbrev pub kind : ℕ → ℕ
kind w = bits 31 28 w

-- 5 bound: i (27-24), j (23-20), strict (19), d + 4,096 (12-0)
unfoldable pub bound_of : ℕ → Bound
bound_of w = record { i = bits 27 24 w; j = bits 23 20 w; d = pos (bits 12 0 w) -ℤ pos 4096; strict = eqb (bits 19 19 w) 1 }

-- the fields of a bound over C clocks: i and j are at most C and differ, d + 4,096 is never 0, and the bits not named are zero
unfoldable pub bound_fields? : ℕ → ℕ → Bool
bound_fields? C w =
    leb (bits 27 24 w) C && leb (bits 23 20 w) C && not (eqb (bits 27 24 w) (bits 23 20 w)) && not (eqb (bits 12 0 w) 0) && eqb (bits 18 13 w) 0

-- a good bound: of kind 5, its fields in their ranges, its spare bits zero
unfoldable pub good_bound? : ℕ → ℕ → Bool
good_bound? C w = eqb (kind w) 5 && bound_fields? C w

-- the zone of a list of bound words
unfoldable pub zone_of : List ℕ → Zone
zone_of [] = []
zone_of (w ∷ ws) = bound_of w ∷ zone_of ws
