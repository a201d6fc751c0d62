use Rattle.std.proofs.Common.{arith, ◌∷◌, ap, ◌∙◌, unwrap_or}
use Rattle.std.specs.Str.{chars}
use Rattle.soy_lexer.specs.Found.Found.{Fails}
use Rattle.soy_lexer.specs.declared.token.TokenKind.TheVariants as kind
use Rattle.soy_lexer.proofs.CommandSegments.{name_after, name_prefix-named, source_text_value}
use Rattle.soy_lexer.proofs.command.variable_segment.Goals as goal

pub before-source_text-requires : goal.before-source_text-requires
before-source_text-requires c =
    let named = (name_prefix-named (chars c.args.named.now) (chars c.in-Some.name.now) (chars c.in-Some.rest.now)
    c.in-Some.ensures).0 in
    (36 ∷ chars c.in-Some.name.now, c.requires ∙ ap (λ l. 36 ∷ l) named)

pub returns-in-Some : goal.returns-in-Some
returns-in-Some c =
    let named = (name_prefix-named (chars c.args.named.now) (chars c.in-Some.name.now) (chars c.in-Some.rest.now)
    c.in-Some.ensures).0 in
    source_text_value kind.Variable (36 ∷ chars c.in-Some.name.now) (chars c.before-source_text.result.now)
    (chars c.in-Some.name.now) (chars c.in-Some.rest.now) (chars c.args.text.now) _ c.command_token.result
    (c.requires ∙ ap (λ l. 36 ∷ l) named) c.before-source_text.ensures
    (ap (λ o. unwrap_or o (Fails 0))
    (name_after kind.Variable 36 (chars c.args.named.now) (chars c.in-Some.name.now) (chars c.in-Some.rest.now)
    (omega arith) c.in-Some.ensures)) c.command_token.ensures
