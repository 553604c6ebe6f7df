use Rattle.std.proofs.Common.{◌≡◌, drop}
use Rattle.zone.specs.Squares.{universe}
use Rattle.zone.specs.Reading.{read_from}
use Rattle.zone.proofs.reading.read_zone.Given as goal

-- reading on from word `at` gives what reading all words gives
abbrev pub invariant-loop-at : goal.invariant-loop-at
invariant-loop-at l = read_from l.clocks.count l.list 0 universe ≡ read_from l.clocks.count (drop l.at l.list) l.at l.zone
