-- No node has more than 155 words, and there are 64 at most.
use Rattle.std.proofs.Common.{rules, arith, tests, ◌<◌}
use Rattle.std.proofs.lemmas.Iterator.{YieldsList-from_slice}
use Rattle.std.proofs.lemmas.Iterator.Adapters.{fits_from_length, at_most_from_yields_List}
use Rattle.draft.proofs.explored.Explored.draft_length.Goals as goal

pub overflow_add-result : goal.overflow_add-result
overflow_add-result c =
    let p = c.sum.ensures.runs tt in
    let few = c.args.self.now.few in
    let small : c.sum.result < 16777216 =
    rw p.3 (fits_from_length _ _ 64 16777216 (at_most_from_yields_List (YieldsList-from_slice c.args.self.now.nodes.now cc) few) c.map.ensures.closure (omega arith)
    (λ x r q k. search (rules, tests)) p.0 (search rules) p.1) in
    search rules
