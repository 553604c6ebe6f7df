use Rattle.zone.specs.Points.{raised_by}
use Rattle.zone.proofs.Loops.{Filled}
use Rattle.zone.proofs.points.raise.Given as goal

-- the clocks below j are raised, and the others still read what they did
abbrev pub invariant-loop-j : goal.invariant-loop-j
invariant-loop-j l = Filled 0 5 (raised_by l.scale l.zone l.i l.first l.fn.reads.clocks) l.fn.reads.clocks l.j l.read-items
