use Rattle.std.proofs.Common.{sym, ap}
use Rattle.std.specs.Str.{chars}
use Rattle.soy_lexer.specs.CommandSegment.{value_segment}
use Rattle.soy_lexer.proofs.CommandSegments.{value_found, value_rest}
use Rattle.soy_lexer.proofs.command.attribute_segment.Goals as goal

pub before-source_text-requires : goal.before-source_text-requires
before-source_text-requires c =
    value_rest (chars c.args.inner.now) (chars c.args.text.now) (chars c.in-Some.value.now) (chars c.in-Some.rest.now)
    c.requires c.in-Some.ensures.parts

pub returns-in_ok-value-in-Some : goal.returns-in_ok-value-in-Some
returns-in_ok-value-in-Some c =
    value_found (chars c.args.inner.now) (chars c.args.text.now) (chars c.before-source_text.result.now)
    (chars c.in-Some.value.now) (chars c.in-Some.rest.now) c.begins.result c.requires
    c.in-Some.ensures.parts
    c.before-source_text.ensures (rw (sym c.in_ok-value-in-Some.ensures) c.begins.ensures)

pub returns-in-None : goal.returns-in-None
returns-in-None c = ap value_segment (sym c.in-None.ensures.parts)
