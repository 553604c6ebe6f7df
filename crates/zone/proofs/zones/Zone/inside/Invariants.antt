use Rattle.std.proofs.Common.{◌≡◌, not, length, get_or}
use Rattle.zone.specs.Cells.{tighter?, past_end}
use Rattle.zone.specs.Squares.{all?}
use Rattle.zone.proofs.zones.Zone.inside.Given as goal

-- no bound of the other zone so far is tighter than this zone's
abbrev pub invariant-loop-inner : goal.invariant-loop-inner
invariant-loop-inner l =
    l.passes ≡ all? (length l.yielded) (λ k. not (tighter? (get_or l.fn.other.cells k past_end) (get_or l.fn.self.cells k past_end)))
