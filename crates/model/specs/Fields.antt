-- Document 01, "Words": the fields of a model's words, their ranges and spare bits. Assumes nothing.
use Rattle.std.specs.Prelude.{ℕ, ◌/◌, ◌^◌, Bool, false, not, ◌&&◌, ◌||◌, eqb, leb, ltb}
use Rattle.zone.specs.Words.{bits, bound_fields?}
use Rattle.zone.specs.Questions.{clocks?}
use Rattle.model.specs.Kinds.{Kind, none, head, location, action, edge, bound, start, number}

-- 1 head: edition (bits 27-24, always 1), C (23-20, 1 to 4), D (15-0, 1 to 65,535)
abbrev pub clocks_of : ℕ → ℕ
clocks_of w = bits 23 20 w

abbrev pub denominator_of : ℕ → ℕ
denominator_of w = bits 15 0 w

abbrev pub head_fields? : ℕ → Bool
head_fields? w = eqb (bits 27 24 w) 1 && clocks? (clocks_of w) && eqb (bits 19 16 w) 0 && leb 1 (denominator_of w)

-- 2 location: bit 0 set marks a target
abbrev pub target? : ℕ → Bool
target? w = eqb (bits 0 0 w) 1

abbrev pub location_fields? : ℕ → Bool
location_fields? w = eqb (bits 27 1 w) 0

-- 3 action
abbrev pub action_fields? : ℕ → Bool
action_fields? w = eqb (bits 27 0 w) 0

-- 4 edge: reset mask (23-20, bit 20 for clock 1; a bit for a clock above C counts as spare), location (19-16), weight (15-0, 1 to D)
abbrev pub mask_of : ℕ → ℕ
mask_of w = bits 23 20 w

abbrev pub lands_at : ℕ → ℕ
lands_at w = bits 19 16 w

abbrev pub weight_of : ℕ → ℕ
weight_of w = bits 15 0 w

abbrev pub edge_fields? : ℕ → ℕ → ℕ → Bool
edge_fields? C D w = eqb (bits 27 24 w) 0 && eqb (mask_of w / 2 ^ C) 0 && leb 1 (weight_of w) && leb (weight_of w) D

-- 5 bound: after kinds 2 and 3 exactly one of i and j is 0
abbrev pub one_zero? : ℕ → Bool
one_zero? w = (eqb (bits 27 24 w) 0 && not (eqb (bits 23 20 w) 0)) || (not (eqb (bits 27 24 w) 0) && eqb (bits 23 20 w) 0)

-- 6 start: location (3-0)
abbrev pub start_of : ℕ → ℕ
start_of w = bits 3 0 w

-- the start's location is one of those that stand before it
abbrev pub start_fields? : ℕ → ℕ → Bool
start_fields? locations w = eqb (bits 27 4 w) 0 && ltb (start_of w) locations

-- the fields of a word of a kind are in their ranges and its spare bits zero. The file has C clocks and the denominator D; so many
-- `locations` stand before the word, and `opener` is the number of the kind of the last word before it that is no bound
abbrev pub fields? : Kind → ℕ → ℕ → ℕ → ℕ → ℕ → Bool
fields? none C D locations opener w = false
fields? head C D locations opener w = head_fields? w
fields? location C D locations opener w = location_fields? w
fields? action C D locations opener w = action_fields? w
fields? edge C D locations opener w = edge_fields? C D w
fields? bound C D locations opener w = bound_fields? C w && (eqb opener (number start) || one_zero? w)
fields? start C D locations opener w = start_fields? locations w
