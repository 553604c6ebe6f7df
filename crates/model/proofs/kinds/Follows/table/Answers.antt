-- The constant table's rows are those of the rule, which antt computes.
use Rattle.std.proofs.Common.{refl}
use Rattle.model.specs.Grammar.{follows, table_follows, numbered?, may_follow?, follows?, table_follows?}
use Rattle.model.proofs.kinds.Follows.table.Goals as goal

pub invariant_of-result : goal.invariant_of-result
unfolding follows table_follows numbered? may_follow? follows? table_follows?
invariant_of-result c = record { rule = record { rule = refl } }
