use Rattle.std.proofs.Common.{[], ◌∷◌, refl, sym, ap, ◌∙◌, unwrap_or}
use Rattle.std.specs.Str.{chars}
use Rattle.soy_lexer.specs.CommandSegment.{symbol_segment}
use Rattle.soy_lexer.specs.Found.Found.{Fails}
use Rattle.soy_lexer.specs.declared.token.TokenKind.TheVariants as kind
use Rattle.soy_lexer.proofs.CommandSegments.{source_text_token, symbol_of_two, symbol_of_one}
use Rattle.soy_lexer.proofs.command.symbol_segment.Goals as goal

pub command_token_to-requires : goal.command_token_to-requires
command_token_to-requires c =
    (c.args.c ∷ c.in-Some.ensures.0 ∷ [], c.requires ∙ ap (λ l. c.args.c ∷ l) c.in-Some.ensures.1)

pub command_token_to-requires-in-None : goal.command_token_to-requires-in-None
command_token_to-requires-in-None c = (c.args.c ∷ [], c.requires)

pub returns-in-Some : goal.returns-in-Some
returns-in-Some c =
    source_text_token kind.Symbol (c.args.c ∷ c.in-Some.ensures.0 ∷ []) c.command_token_to.ensures.0
    (chars c.in-Some.rest.now) (chars c.args.text.now) _ c.command_token_to.result
    (c.requires ∙ ap (λ l. c.args.c ∷ l) c.in-Some.ensures.1) c.command_token_to.ensures.1
    (ap (λ l. unwrap_or (symbol_segment l) (Fails 0)) (c.requires ∙ ap (λ l. c.args.c ∷ l) c.in-Some.ensures.1)
    ∙ symbol_of_two c.args.c c.in-Some.ensures.0 (chars c.in-Some.rest.now) c.in-Some.ensures.2)
    c.command_token_to.ensures.2

pub returns-in-None : goal.returns-in-None
returns-in-None c =
    source_text_token kind.Symbol (c.args.c ∷ []) c.command_token_to-in-None.ensures.0 (chars c.args.after.now)
    (chars c.args.text.now) _ c.command_token_to-in-None.result c.requires c.command_token_to-in-None.ensures.1
    (ap (λ l. unwrap_or (symbol_segment l) (Fails 0)) c.requires
    ∙ symbol_of_one c.args.c (chars c.args.after.now) c.in-None.ensures
    ∙ rw (sym c.if-is_symbol_of_one.ensures) refl) c.command_token_to-in-None.ensures.2
