use Rattle.std.proofs.Common.{◌∙◌, sym}
use Rattle.std.specs.Str.{chars}
use Rattle.escapers.proofs.AlphanumericTexts.{alphanumeric_escaped}
use Rattle.escapers.proofs.push.push_escaped.Goals as goal

pub returns-then-is_alphanumeric : goal.returns-then-is_alphanumeric
returns-then-is_alphanumeric g c =
    rw (alphanumeric_escaped c.args.table.now (chars c.args.text.now) c.requires.alphanumerics_stay
    (sym c.is_alphanumeric.ensures ∙ c.if-is_alphanumeric.true)) c.push_text.ensures.ok
