use Rattle.std.proofs.Common.{rules}
use Rattle.std.specs.Str.{chars}
use Rattle.icu_text.proofs.state.OpenSelect.has_other.Goals as goal

pub returns : goal.returns
unfolding chars
returns c = search rules
