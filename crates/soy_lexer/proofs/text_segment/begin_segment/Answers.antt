use Rattle.std.proofs.Common.{[], ◌∷◌}
use Rattle.std.specs.Str.{chars}
use Rattle.soy_base.specs.Characters.{left_brace}
use Rattle.soy_lexer.proofs.TextSegments.{brace_begins}
use Rattle.soy_lexer.proofs.text_segment.begin_segment.Goals as goal

pub before-brace-requires : goal.before-brace-requires
before-brace-requires c = (left_brace ∷ [], c.requires)

pub returns : goal.returns
returns c =
    brace_begins (chars c.args.text.now) (chars c.before-brace.result.now) c.in_ok-text_of.field-0
    (chars c.args.rest.now) c.requires c.before-brace.ensures
    c.in_ok-text_of.ensures c.if-not-may_begin.ensures
