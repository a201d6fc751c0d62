use Rattle.std.proofs.Common.{rules, unwrap_or, [], ◌∷◌, sym, ap, ◌∙◌}
use Rattle.std.specs.Str.{chars}
use Rattle.soy_lexer.specs.CommandSegment.{command_segment, int_segment, name_segment, symbol_segment}
use Rattle.soy_lexer.specs.Found.Found.{Fails}
use Rattle.soy_lexer.specs.declared.token.TokenKind.TheVariants as kind
use Rattle.soy_lexer.proofs.CommandSegments.{source_text_token, white_found, steps_by, begins_named, begins_int}
use Rattle.soy_lexer.proofs.CommandSegments.{begins_symbol, begins_end}
use Rattle.soy_lexer.proofs.command.segment_by_first.Goals as goal

pub before-requires : goal.before-requires
before-requires c = (c.args.c ∷ [], c.requires)

pub command_token_to-requires : goal.command_token_to-requires
command_token_to-requires c = (c.args.c ∷ [], c.requires)

pub returns-then-is_template_space : goal.returns-then-is_template_space
returns-then-is_template_space c =
    white_found c.args.c (chars c.args.text.now) (chars c.before-then-is_template_space.result.now)
    (chars c.args.rest.now) (sym c.if-is_template_space.ensures) c.requires c.before-then-is_template_space.ensures

pub returns-in-125 : goal.returns-in-125
returns-in-125 c =
    source_text_token kind.End (c.args.c ∷ []) c.command_token_to.ensures.0 (chars c.args.rest.now)
    (chars c.args.text.now) _ c.command_token_to.result c.requires c.command_token_to.ensures.1
    (ap command_segment c.requires ∙ begins_end c.args.c (chars c.args.rest.now) c.in-125.is)
    c.command_token_to.ensures.2

pub returns-then-begins_name : goal.returns-then-begins_name
returns-then-begins_name c =
    let found = begins_named c.args.c (chars c.args.rest.now) (sym c.if-is_template_space.ensures)
    (sym c.if-begins_name.ensures) in
    steps_by (command_segment (chars c.args.text.now))
    (unwrap_or (name_segment kind.Word [] (chars c.args.text.now)) (Fails 0)) c.word_segment.result
    (ap command_segment c.requires ∙ found ∙ ap (λ l. unwrap_or (name_segment kind.Word [] l) (Fails 0))
    (sym c.requires))
    c.word_segment.ensures

pub returns-then-is_ascii_digit : goal.returns-then-is_ascii_digit
returns-then-is_ascii_digit c =
    let found = begins_int c.args.c (chars c.args.rest.now) (sym c.if-is_template_space.ensures)
    (sym c.if-begins_name.ensures) (sym c.if-is_ascii_digit.ensures.value) in
    steps_by (command_segment (chars c.args.text.now)) (unwrap_or (int_segment (chars c.args.text.now)) (Fails 0))
    c.int_segment.result
    (ap command_segment c.requires ∙ found ∙ ap (λ l. unwrap_or (int_segment l) (Fails 0)) (sym c.requires))
    c.int_segment.ensures

pub returns-in_default : goal.returns-in_default
returns-in_default c =
    let found = begins_symbol c.args.c (chars c.args.rest.now) (sym c.if-is_template_space.ensures)
    (sym c.if-begins_name.ensures) (sym c.if-is_ascii_digit.ensures.value) (search rules) (search rules)
    (search rules) (search rules) (search rules) in
    steps_by (command_segment (chars c.args.text.now)) (unwrap_or (symbol_segment (chars c.args.text.now)) (Fails 0))
    c.symbol_segment.result
    (ap command_segment c.requires ∙ found ∙ ap (λ l. unwrap_or (symbol_segment l) (Fails 0)) (sym c.requires))
    c.symbol_segment.ensures
