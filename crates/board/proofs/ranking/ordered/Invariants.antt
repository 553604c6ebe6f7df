-- After each turn the slots listed are in rank and those that are left come behind them (`RankLaws`).
use Rattle.std.proofs.Common.{◌-◌, T}
use Rattle.board.specs.Board.{all_good?}
use Rattle.board.proofs.RankLaws.{Sofar}
use Rattle.board.proofs.ranking.ordered.Given as goal

abbrev pub invariant-loop-next : goal.invariant-loop-next
invariant-loop-next l = record { good : T (all_good? l.left); sofar : Sofar l.initial.left l.left l.order l.count }

abbrev pub decreases-loop-next : goal.decreases-loop-next
decreases-loop-next l = 16 - l.count
