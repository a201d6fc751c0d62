use Rattle.std.proofs.Common.{◌∷◌}
use Rattle.std.specs.Str.{chars}
use Rattle.soy_lexer.specs.declared.token.TokenKind.TheVariants as kind
use Rattle.soy_lexer.proofs.CommandSegments.{source_text_value, opened_close, opened_none, closing_whole}
use Rattle.soy_lexer.proofs.command.closing_segment.Goals as goal

pub before-source_text-requires : goal.before-source_text-requires
before-source_text-requires c = (
  47 ∷ chars c.in-Some.name.now,
  closing_whole (chars c.args.text.now) (chars c.in-Some.name.now)
      (chars c.in-Some.rest.now) c.in-Some.ensures,
)

pub returns-in-Some : goal.returns-in-Some
returns-in-Some c =
    source_text_value kind.BeginClose (47 ∷ chars c.in-Some.name.now) (chars c.before-source_text.result.now)
    (chars c.in-Some.name.now) (chars c.in-Some.rest.now) (chars c.args.text.now) _ c.command_token.result
    (closing_whole (chars c.args.text.now) (chars c.in-Some.name.now) (chars c.in-Some.rest.now) c.in-Some.ensures)
    c.before-source_text.ensures
    (opened_close (chars c.args.text.now) (chars c.in-Some.name.now) (chars c.in-Some.rest.now) c.in-Some.ensures)
    c.command_token.ensures

pub returns-in-None : goal.returns-in-None
returns-in-None c = opened_none (chars c.args.text.now) c.in-None.ensures
