use Rattle.std.proofs.Common.{None, length, ◌≡◌, ◌<◌, ◌∙◌, ap, ◌++◌, ◌∷◌, [], rules, tests}
use Rattle.std.proofs.lemmas.Result.{err_from_is_err_and}
use Rattle.answers.specs.declared.Reason.TheVariants as reason
use Rattle.draft.proofs.NodeLaws.{added_full, added_room, new-is, empty-rows}
use Rattle.draft.proofs.graph.ZoneGraph.add.Goals as goal

pub returns-then-is_full-clause-adds : goal.returns-then-is_full-clause-adds
returns-then-is_full-clause-adds c =
    let all : length c.args.self.now.nodes.items ≡ 64 = search (rules, tests) in
    added_full c.args.front c.args.self.now.nodes.items all

pub returns-in_err-front-clause-adds : goal.returns-in_err-front-clause-adds
returns-in_err-front-clause-adds c =
    let few : length c.args.self.now.nodes.items < 64 = search (rules, tests) in
    let p = err_from_is_err_and c.from_residual.result c.from_residual.ensures.1 in
    let none = rw c.in_err-front.was at c.ok_or.ensures.ok_part in
    let value = rw (c.in_err-front.was, none) at c.ok_or.ensures.value in
    let far : c.in_err-front.field-0.0 ≡ reason.BoundTooFar = cc in
    rw (p.1, p.2, far, none) (added_room None c.args.self.now.nodes.items few)

pub returns-clause-adds : goal.returns-clause-adds
returns-clause-adds c =
    let few : length c.args.self.now.nodes.items < 64 = search (rules, tests) in
    let some = rw c.in_ok-front.was at c.ok_or.ensures.ok_part in
    let put = c.push.ensures.items ∙ ap (λ v. c.args.self.now.nodes.items ++ (record { front = c.in_ok-front.front; rows = v } ∷ [])) (empty-rows c.new.result c.new.ensures) in
    new-is c.in_ok-front.front c.args.self.now.nodes.items put c.len-number.ensures.value ∙ rw some (added_room _ c.args.self.now.nodes.items few)
