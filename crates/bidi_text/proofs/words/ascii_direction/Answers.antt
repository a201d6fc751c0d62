use Rattle.std.proofs.Common.{◌∙◌, ap, sym}
use Rattle.std.specs.Char.{is_ascii_alphanumeric}
use Rattle.std.specs.List.{list_any}
use Rattle.std.proofs.lemmas.Bool.{cond-false, cond-true}
use Rattle.soy_base.specs.declared.direction.Dir.TheVariants.{Ltr}
use Rattle.bidi_text.proofs.AsciiWords.{ascii_estimate}
use Rattle.bidi_text.proofs.words.ascii_direction.Goals as goal

pub returns-then-has_alphanumeric : goal.returns-then-has_alphanumeric
returns-then-has_alphanumeric c =
    sym (ascii_estimate c.args.text.now c.args.context c.requires
    ∙ cond-true (list_any is_ascii_alphanumeric c.args.text.now) Ltr c.args.context
    (ap (list_any is_ascii_alphanumeric) (sym c.as_bytes.ensures.value) ∙ sym c.has_alphanumeric.ensures
    ∙ c.if-has_alphanumeric.true))

pub returns-else-has_alphanumeric : goal.returns-else-has_alphanumeric
returns-else-has_alphanumeric c =
    sym (ascii_estimate c.args.text.now c.args.context c.requires
    ∙ cond-false (list_any is_ascii_alphanumeric c.args.text.now) Ltr c.args.context
    (ap (list_any is_ascii_alphanumeric) (sym c.as_bytes.ensures.value) ∙ sym c.has_alphanumeric.ensures
    ∙ c.if-has_alphanumeric.false))
