-- The key of a narrow bound, 8,192 more, is not negative and twice the word's field, with the lowest bit.
use Rattle.std.proofs.Common.{rules, arith, ◌∙◌}
use Rattle.draft.proofs.KeyWordLaws.{is-narrow, raised-fits, field-small, cast_fits, word-is, fields_fit}
use Rattle.draft.proofs.fronts.bound_word.Goals as goal

pub overflow_add-field : goal.overflow_add-field
overflow_add-field c = raised-fits c.args.bound.key (search rules) (is-narrow c.args.bound c.requires.2)

pub overflow_cast-field : goal.overflow_cast-field
overflow_cast-field c = cast_fits c.args.bound.key (search rules) (is-narrow c.args.bound c.requires.2)

pub word-requires : goal.word-requires
word-requires c =
    let narrow = is-narrow c.args.bound c.requires.2 in
    (omega arith, fields_fit c.args.i c.args.j _ c.requires.0 c.requires.1 (field-small c.args.bound.key (search rules) narrow))

pub returns : goal.returns
returns c = c.word.ensures ∙ word-is c.args.i c.args.j c.args.bound (search rules) (is-narrow c.args.bound c.requires.2)
