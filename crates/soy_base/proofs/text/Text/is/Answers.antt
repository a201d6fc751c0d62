use Rattle.std.proofs.Common.{ap, ◌∙◌}
use Rattle.std.specs.Str.{chars, bytes_eq}
use Rattle.soy_base.proofs.Texts.{bytes_eq-chars}
use Rattle.soy_base.proofs.text.Text.is.Goals as goal

pub returns : goal.returns
returns c =
    c.is_same.ensures
    ∙ bytes_eq-chars c.as_str.result.now c.args.other.now c.as_str.utf8 c.utf8.other
    ∙ ap (λ seen. bytes_eq seen (chars c.args.other.now)) (ap chars c.as_str.ensures ∙ c.self.view_is)
