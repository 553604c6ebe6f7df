use Rattle.std.proofs.Common.{◌∙◌, rules}
use Rattle.draft.specs.Writing.{node_text}
use Rattle.draft.proofs.WritingLaws.{node_put}
use Rattle.draft.proofs.write.write_node.Goals as goal

pub returns : goal.returns
unfolding node_text
returns c =
    node_put c.args.words.now _ _ c.len-value_at.result _ _ (search rules) (search rules) ∙ cc
