-- The largest of what is looked at so far and of the rest is the largest of all.
use Rattle.std.proofs.Common.{◌≡◌, ◌+◌, get_or}
use Rattle.draft.proofs.RoundCode.{LargestTo}
use Rattle.draft.proofs.rounds.largest.Given as goal

abbrev pub invariant-loop-a : goal.invariant-loop-a
invariant-loop-a l = record {
  largest : LargestTo l.values.list l.source.model.now (get_or l.source.model.now.index.actions l.l 0) (get_or l.source.model.now.index.actions (l.l + 1) 0)
      l.codes l.best l.rest l.a-iterator.start;
  end : l.a-iterator.end ≡ get_or l.source.model.now.index.actions (l.l + 1) 0;
}
