use Rattle.std.proofs.Common.{[], ◌∷◌, refl, sym, ap, ◌∙◌, unwrap_or}
use Rattle.std.specs.Str.{chars}
use Rattle.std.specs.Char.{is_ascii_digit}
use Rattle.soy_lexer.specs.CommandSegment.{int_segment}
use Rattle.soy_base.specs.Cuts.{prefix_while, after_while}
use Rattle.soy_lexer.specs.Found.Found.{Fails}
use Rattle.soy_lexer.specs.declared.token.TokenKind.TheVariants as kind
use Rattle.soy_lexer.proofs.CommandSegments.{source_text_token, zero_int, digits_int, steps_by}
use Rattle.soy_lexer.proofs.command.int_segment.Goals as goal

pub command_token_to-requires : goal.command_token_to-requires
command_token_to-requires c = (c.args.c ∷ [], c.requires.text)

pub returns-then-c-eq48 : goal.returns-then-c-eq48
returns-then-c-eq48 c =
    source_text_token kind.Int (c.args.c ∷ []) c.command_token_to.ensures.0 (chars c.args.rest.now)
    (chars c.args.text.now) _ c.command_token_to.result c.requires.text c.command_token_to.ensures.1
    (ap (λ l. unwrap_or (int_segment l) (Fails 0)) c.requires.text
    ∙ zero_int c.args.c (chars c.args.rest.now) c.if-c-eq48.true) c.command_token_to.ensures.2

pub returns-then-is_within_limit : goal.returns-then-is_within_limit
returns-then-is_within_limit c =
    let found = digits_int c.args.c (chars c.args.rest.now) (chars c.split_digits.result.0.now)
    (chars c.split_digits.result.1.now) c.requires.digit c.if-c-eq48.false
    (c.split_digits.ensures.prefix ∙ ap (prefix_while is_ascii_digit) c.requires.text)
    (c.split_digits.ensures.rest ∙ ap (after_while is_ascii_digit) c.requires.text) in
    steps_by _ _ c.command_token.result (ap (λ l. unwrap_or (int_segment l) (Fails 0)) c.requires.text ∙ found
    ∙ rw (sym c.if-is_within_limit.ensures) refl) c.command_token.ensures
