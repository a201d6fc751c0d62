use Rattle.soy_base.proofs.Texts.{rest_within, prefix_boundary, prefix_characters}
use Rattle.std.proofs.Common.{arith}
use Rattle.soy_base.proofs.cuts.before.Goals as goal

pub overflow_sub-text : goal.overflow_sub-text
overflow_sub-text c = rest_within c.args.text.now c.args.rest.now c.requires.0 c.utf8.text c.utf8.rest c.requires.1

pub range-requires-clause-end_boundary : goal.range-requires-clause-end_boundary
range-requires-clause-end_boundary c = prefix_boundary c.args.text.now c.args.rest.now c.requires.0 c.utf8.text
    c.utf8.rest c.requires.1

pub returns : goal.returns
returns c =
    prefix_characters c.args.text.now c.args.rest.now c.requires.0 c.utf8.text c.utf8.rest c.requires.1
    c.range.result.now c.range.utf8
    (grind (arith, c.range.ensures.value))
