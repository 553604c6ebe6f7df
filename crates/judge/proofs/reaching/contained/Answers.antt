-- `contained`: at first no flag is set.
use Rattle.std.proofs.Common.{refl}
use Rattle.judge.proofs.ContainedLaws.{no_flags}
use Rattle.judge.proofs.reaching.contained.Goals as goal

pub loop-n-init : goal.loop-n-init
loop-n-init c = no_flags _ _ _ refl
