use Rattle.std.proofs.Common.{◌∙◌, rules}
use Rattle.draft.specs.Writing.{draft_text}
use Rattle.draft.proofs.WritingLaws.{draft_put}
use Rattle.draft.proofs.explored.Explored.write_draft.Goals as goal

pub returns : goal.returns
unfolding draft_text
returns c = draft_put c.args.lent.now c.write_nodes.new.words c.args.size _ _ (search rules) (search rules) ∙ cc
