use Rattle.std.proofs.Common.{◌∙◌, ap}
use Rattle.std.specs.Char.{is_ascii_alphanumeric}
use Rattle.std.specs.List.{list_all}
use Rattle.escapers.proofs.AlphanumericTexts.{alphanumeric_characters}
use Rattle.escapers.proofs.alphanumeric.is_alphanumeric.Goals as goal

pub returns : goal.returns
returns c =
    c.are_alphanumeric.ensures ∙ ap (list_all is_ascii_alphanumeric) c.as_bytes.ensures.value
    ∙ alphanumeric_characters c.args.text.now c.utf8.text
