use Rattle.std.proofs.Common.{◌∙◌, sym}
use Rattle.std.specs.Str.{chars}
use Rattle.escapers.proofs.css.push_css_value.Goals as goal

pub returns-else-is_css_value : goal.returns-else-is_css_value
unfolding chars
returns-else-is_css_value c =
    rw (sym c.is_css_value.ensures ∙ c.if-is_css_value.false) c.push_text-else-is_css_value.ensures.ok
