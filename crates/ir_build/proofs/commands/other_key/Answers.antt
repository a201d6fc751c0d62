use mathlib.Core.Path.{refl}
use Rattle.std.proofs.Common.{◌∙◌, ap, codes}
use Rattle.std.specs.Str.{chars}
use Rattle.msg_extract.proofs.Texts.AsciiTexts.{chars_ascii}
use Rattle.ir_build.proofs.commands.other_key.Goals as goal

pub returns : goal.returns
returns c = c.new.ensures ∙ (ap chars c.in_ok-word.ensures.ok ∙ chars_ascii (codes "other") refl)
