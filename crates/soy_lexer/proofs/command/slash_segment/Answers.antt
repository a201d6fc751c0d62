use Rattle.std.proofs.Common.{◌≡◌, [], ◌∷◌, ap, ◌∙◌, unwrap_or}
use Rattle.std.specs.Str.{chars}
use Rattle.soy_lexer.specs.CommandSegment.{fixed_segment}
use Rattle.soy_lexer.specs.Found.Found.{Fails}
use Rattle.soy_lexer.specs.declared.token.TokenKind.TheVariants as kind
use Rattle.soy_lexer.proofs.CommandSegments.{source_text_token}
use Rattle.soy_lexer.proofs.command.slash_segment.Goals as goal

pub command_token_to-requires : goal.command_token_to-requires
command_token_to-requires c = (
  47 ∷ 125 ∷ [],
  c.requires ∙ ap (λ l. 47 ∷ l)
      (c.in-Some-eq125-default.ensures
      ∙ ap (λ d. d ∷ chars c.in-Some-eq125-default.rest.now) c.in-Some-eq125-default.field-0-0-test),
)

pub returns-in-Some-eq125-default : goal.returns-in-Some-eq125-default
returns-in-Some-eq125-default c =
    let whole : chars c.args.text.now ≡ 47 ∷ 125 ∷ chars c.in-Some-eq125-default.rest.now =
    c.requires ∙ ap (λ l. 47 ∷ l) (c.in-Some-eq125-default.ensures
    ∙ ap (λ d. d ∷ chars c.in-Some-eq125-default.rest.now) c.in-Some-eq125-default.field-0-0-test) in
    source_text_token kind.SlashEnd (47 ∷ 125 ∷ []) c.command_token_to.ensures.0
    (chars c.in-Some-eq125-default.rest.now) (chars c.args.text.now) _ c.command_token_to.result whole
    c.command_token_to.ensures.1
    (ap (λ l. unwrap_or (fixed_segment kind.SlashEnd (47 ∷ 125 ∷ []) l) (Fails 0)) whole) c.command_token_to.ensures.2
