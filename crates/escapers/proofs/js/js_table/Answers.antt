-- The texts of the rows, in characters, are those of `js_rows`, and their lead bytes are flagged.
use Rattle.std.proofs.Common.{◌∙◌, refl, arith}
use Rattle.std.specs.Str.{chars}
use lib.Utf8.{encode}
use Rattle.escapers.proofs.js.js_table.Goals as goal

pub new-requires : goal.new-requires
unfolding encode
new-requires c = (omega arith, (omega arith, (refl, (refl, refl))))

pub returns : goal.returns
unfolding chars
returns c = c.new.ensures ∙ refl
