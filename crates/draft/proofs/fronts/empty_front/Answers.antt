-- The word is that of an empty zone's bound.
use Rattle.std.proofs.Common.{ap, Some, ◌∷◌, [], ◌++◌, ◌∙◌}
use Rattle.zone.specs.Words.{bound_of}
use Rattle.drafting.specs.Exploring.{narrow?}
use Rattle.draft.specs.Fronts.{front, front_for}
use Rattle.draft.proofs.fronts.empty_front.Goals as goal

pub returns : goal.returns
unfolding front_for narrow? bound_of
returns c = ap (λ ws. Some (front c.args.location ws)) (c.push.ensures.items ∙ ap (λ xs. xs ++ (0x51000FFF ∷ [])) c.new-bounds.ensures)
