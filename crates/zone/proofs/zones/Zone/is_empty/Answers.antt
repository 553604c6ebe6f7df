-- The library's fold over the five clocks is the definition's test.
use Rattle.std.proofs.Common.{◌≡◌, ◌∙◌, refl, Bool, true, false, not, ◌&&◌, ◌||◌, ◌*◌, get_or, rules}
use Rattle.std.proofs.lemmas.Iterator.{YieldsList-from_range}
use Rattle.std.proofs.lemmas.Iterator.Consumers.{fold_from_yields_List}
use borrow.Author.Tests.{tests}
use Rattle.zone.specs.Cells.{negative?, past_end}
use Rattle.zone.specs.Squares.{all?, empty?}
use Rattle.zone.proofs.zones.Zone.is_empty.Goals as goal

five : (a b c d e : Bool) → (((((false || a) || b) || c) || d) || e) ≡ not (true && not a && not b && not c && not d && not e)
five true b c d e = refl
five false true c d e = refl
five false false true d e = refl
five false false false true e = refl
five false false false false true = refl
five false false false false false = refl

pub returns : goal.returns
unfolding empty? all?
returns c =
    fold_from_yields_List _ (λ empty i. empty || negative? (get_or c.args.self.cells (i * 6) past_end)) _ _ c.fold.ensures.ran
    (YieldsList-from_range 0 5 5 refl refl) (λ a x b q k. search (rules, tests)) ∙ five _ _ _ _ _
