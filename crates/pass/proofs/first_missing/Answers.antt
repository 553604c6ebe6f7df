-- The search of std answers as `position`, where each call answers as the test does.
use Rattle.std.proofs.Common.{rules, ◌≡◌, position}
use Rattle.std.proofs.lemmas.Iterator.{YieldsList-from_slice}
use Rattle.std.proofs.lemmas.Iterator.Search.{position_from_yields_List}
use Rattle.pass.proofs.first_missing.Goals as goal

pub returns : goal.returns
returns g c lacks? tests =
    let found : c.position.result ≡ position lacks? c.args.list.now =
    position_from_yields_List lacks? _ _ c.position.result c.position.ensures.ran (YieldsList-from_slice _ c.iter.ensures.rest)
    (λ x b q k. search (rules, tests)) in
    search (rules, found)
