use Rattle.std.specs.Str.{chars}
use Rattle.soy_lexer.proofs.StringReading.{plain_goes_on}
use Rattle.soy_lexer.proofs.string.next_item.Goals as goal

pub returns-in-Some : goal.returns-in-Some
returns-in-Some c =
    plain_goes_on (chars c.args.text.now) c.in-Some.c (chars c.in-Some.rest.now) c.in-Some.ensures c.in-Some.c-test.0.1
    c.in-Some.c-test.1
