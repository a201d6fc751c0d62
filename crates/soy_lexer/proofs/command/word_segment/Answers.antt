use Rattle.std.specs.Str.{chars}
use Rattle.soy_lexer.specs.declared.token.TokenKind.TheVariants as kind
use Rattle.soy_lexer.proofs.CommandSegments.{name_at}
use Rattle.soy_lexer.proofs.command.word_segment.Goals as goal

pub returns-in-Some : goal.returns-in-Some
returns-in-Some c =
    rw (name_at kind.Word (chars c.args.text.now) (chars c.in-Some.name.now) (chars c.in-Some.rest.now)
    c.in-Some.ensures) c.command_token.ensures
