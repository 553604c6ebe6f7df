-- The pass from the word of index `place` on gives what the pass over all words gives.
use Rattle.std.proofs.Common.{◌≡◌, drop}
use Rattle.pass.specs.Steps.{pass_from}
use Rattle.pass.proofs.scan.Given as goal

abbrev pub invariant-loop-place : goal.invariant-loop-place
invariant-loop-place g l = let steps = g.P.Pass.steps l.reader in record {
  holds : g.P.Pass.holds l.reader l.seen;
  pass : pass_from steps l.fn.seen l.fn.kept 0 l.list ≡ pass_from steps l.seen l.kept l.place (drop l.place l.list);
}
