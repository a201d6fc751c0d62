use Rattle.std.proofs.Common.{◌∙◌, sym}
use Rattle.std.specs.Str.{chars}
use Rattle.std.proofs.lemmas.Bool.{or_left}
use Rattle.escapers.specs.CssValue.{is_value_character}
use Rattle.escapers.proofs.AlphanumericTexts.{alphanumeric_all}
use Rattle.escapers.proofs.css.has_value_characters.Goals as goal

pub returns-then-is_alphanumeric : goal.returns-then-is_alphanumeric
returns-then-is_alphanumeric c =
    sym (alphanumeric_all is_value_character (chars c.args.text.now) (λ c is. or_left _ _ is)
    (sym c.is_alphanumeric.ensures ∙ c.if-is_alphanumeric.true))
