use Rattle.std.proofs.Common.{◌∷◌, ap, ◌∙◌}
use Rattle.std.specs.Str.{chars}
use Rattle.soy_lexer.proofs.StringReading.{number_goes_on}
use Rattle.soy_lexer.proofs.string.number.Goals as goal

pub returns : goal.returns
returns c =
    number_goes_on (chars c.args.text.now) c.in_ok-a.a c.in_ok-b.b c.in_ok-c.c c.in_ok-d.d c.in_ok-numbered.field-0
    (chars c.in_ok-d.rest.now)
    (c.in_ok-a.ensures ∙ ap (λ l. c.in_ok-a.a ∷ l)
    (c.in_ok-b.ensures ∙ ap (λ l. c.in_ok-b.b ∷ l)
    (c.in_ok-c.ensures ∙ ap (λ l. c.in_ok-c.c ∷ l) c.in_ok-d.ensures))) c.in_ok-numbered.ensures
