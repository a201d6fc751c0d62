-- The texts of the rows, in characters, are those of `html_rows`.
use Rattle.std.proofs.Common.{◌∙◌, refl}
use Rattle.std.specs.Str.{chars}
use Rattle.esc_table.proofs.html_table.html.Goals as goal

pub returns : goal.returns
unfolding chars
returns c = c.new.ensures ∙ refl
