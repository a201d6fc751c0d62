use Rattle.std.proofs.Common.{ap, ◌∙◌}
use Rattle.std.specs.Str.{chars}
use Rattle.std.proofs.lemmas.Str.{chars-nil}
use Rattle.soy_lexer.proofs.Represented.{line_end_represented}
use Rattle.soy_lexer.proofs.run.Run.break_line.Goals as goal

pub returns : goal.returns
returns c = λ end ends run is_run. line_end_represented _ end is_run ends (ap chars c.clear.ensures.bytes ∙ chars-nil)
