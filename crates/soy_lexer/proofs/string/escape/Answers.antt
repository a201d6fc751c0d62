use Rattle.std.specs.Str.{chars}
use Rattle.soy_lexer.proofs.StringReading.{escape_goes_on}
use Rattle.soy_lexer.proofs.string.escape.Goals as goal

pub returns-in_ok-escaped : goal.returns-in_ok-escaped
returns-in_ok-escaped c =
    escape_goes_on (chars c.args.text.now) c.in_ok-c.c c.in_ok-escaped.field-0 (chars c.in_ok-c.rest.now)
    c.in_ok-c.ensures c.if-c-eq117.false c.in_ok-escaped.ensures
