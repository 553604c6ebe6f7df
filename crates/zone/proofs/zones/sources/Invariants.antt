use Rattle.zone.specs.Squares.{list_of, source}
use Rattle.zone.proofs.Loops.{Filled}
use Rattle.zone.proofs.zones.sources.Given as goal

-- the clocks below `clock` have their sources
abbrev pub invariant-loop-clock : goal.invariant-loop-clock
invariant-loop-clock l = Filled 0 5 (list_of (source l.mask) 5 0) l.initial.source-items l.clock l.source-items
