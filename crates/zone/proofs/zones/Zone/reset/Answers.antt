-- One cell more is that of the sources of its two clocks, and every source is a clock.
use Rattle.std.proofs.Common.{◌≡◌, sym, ℕ, ◌+◌, ◌*◌, ◌<◌, List, length, get_or, arith, rules}
use Rattle.zone.specs.Squares.{cell, list_of, source, reset_square}
use Rattle.zone.specs.declared.zones.Zone.{Zone as Square}
use Rattle.zone.proofs.Loops.{list_of-length, unfilled, stored, same_place, filled}
use Rattle.zone.proofs.SquareTables.{square-at, sources_at}
use Rattle.zone.proofs.zones.Zone.reset.Goals as goal

-- a cell is that of the sources of its two clocks
moved :
    (mask : ℕ) (z : Square) {from : List ℕ} → from ≡ list_of (source mask) 5 0 → (i j : ℕ) → i < 5 → j < 5 →
    cell z (get_or from i 0) (get_or from j 0) ≡ cell (reset_square mask z) i j
moved mask z e i j hi hj =
    rw ((sources_at mask e i hi).0, (sources_at mask e j hj).0) (sym (square-at (λ i j. cell z (source mask i) (source mask j)) i j hi hj))

-- that cell lies within the table
abbrev Within : List ℕ → ℕ → ℕ → Type 0
Within from i j = get_or from i 0 * 5 + get_or from j 0 < 25

sources-within : (mask : ℕ) {from : List ℕ} → from ≡ list_of (source mask) 5 0 → (i j : ℕ) → i < 5 → j < 5 → Within from i j
sources-within mask e i j hi hj =
    let h = (sources_at mask e i hi).1 in
    let k = (sources_at mask e j hj).1 in
    omega arith

pub loop-i-init : goal.loop-i-init
loop-i-init c = let size : length c.args.self.cells ≡ 25 = search rules in unfilled size

pub overflow_mul-row : goal.overflow_mul-row
overflow_mul-row c = omega (arith, (sources_at _ c.sources-from.ensures c.loop-i.i (omega arith)).1)

pub loop-j-init : goal.loop-j-init
loop-j-init c = same_place c.loop-i.invariant (omega arith)

pub overflow_add-out : goal.overflow_add-out
overflow_add-out c = omega (arith, sources-within _ c.sources-from.ensures c.loop-i.i c.loop-j.j (omega arith) (omega arith))

pub offset_bounds-self-row : goal.offset_bounds-self-row
offset_bounds-self-row c = omega (arith, sources-within _ c.sources-from.ensures c.loop-i.i c.loop-j.j (omega arith) (omega arith))

pub bounds-self-row : goal.bounds-self-row
bounds-self-row c = sources-within _ c.sources-from.ensures c.loop-i.i c.loop-j.j (omega arith) (omega arith)

pub loop-j-preserved : goal.loop-j-preserved
loop-j-preserved c =
    same_place
    (stored c.loop-j.invariant _ (omega arith)
    (moved c.args.mask c.args.self c.sources-from.ensures c.loop-i.i c.loop-j.j (omega arith) (omega arith)))
    (omega arith)

pub loop-i-preserved : goal.loop-i-preserved
loop-i-preserved c = same_place c.loop-j.invariant (omega arith)

pub returns : goal.returns
returns c = filled c.loop-i.invariant (list_of-length _ 25 0) (omega arith)
