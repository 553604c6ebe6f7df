-- The library's test of all is the definition's.
use Rattle.std.proofs.Common.{◌∙◌, rules}
use Rattle.std.proofs.lemmas.Iterator.{YieldsList-from_slice}
use Rattle.std.proofs.lemmas.Iterator.Search.{all_from_yields_List}
use borrow.Author.Tests.{tests}
use Rattle.board.specs.Board.{good_slot?}
use Rattle.board.proofs.SlotLaws.{all_pass}
use Rattle.board.proofs.submissions.all_good.Goals as goal

pub returns : goal.returns
returns c =
    all_from_yields_List (λ s. good_slot? s) _ _ _ c.all.ensures.ran (YieldsList-from_slice c.args.slots.now cc) (λ x b q k. search (rules, tests))
    ∙ all_pass (λ s. good_slot? s) c.args.slots.now
