use Rattle.std.proofs.Common.{◌≡◌}
use Rattle.zone.specs.Squares.{passed_below}
use Rattle.zone.proofs.zones.Zone.tighten.Given as goal

-- after m passes the table is the algorithm's after m
abbrev pub invariant-loop-m : goal.invariant-loop-m
invariant-loop-m l = l.self ≡ passed_below l.m l.fn.self
