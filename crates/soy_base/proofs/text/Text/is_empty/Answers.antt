use Rattle.std.proofs.Common.{ap, refl, ◌∙◌}
use Rattle.std.specs.Str.{chars}
use Rattle.soy_base.specs.Cuts.{is_nil}
use Rattle.soy_base.proofs.Texts.{no_bytes}
use Rattle.soy_base.proofs.text.Text.is_empty.Goals as goal

pub returns : goal.returns
returns c =
    no_bytes c.as_str.result.now c.as_str.result.now c.is_empty.result c.as_str.utf8 refl c.is_empty.ensures
    ∙ ap is_nil (ap chars c.as_str.ensures ∙ c.self.view_is)
