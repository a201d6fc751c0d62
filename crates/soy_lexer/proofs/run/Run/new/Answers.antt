use Rattle.std.proofs.Common.{ap, ◌∙◌}
use Rattle.std.specs.Str.{chars}
use Rattle.std.proofs.lemmas.Str.{chars-nil}
use Rattle.soy_lexer.proofs.Represented.{nothing_represented}
use Rattle.soy_lexer.proofs.run.Run.new.Goals as goal

pub returns : goal.returns
returns c =
    nothing_represented _ _ (ap chars c.new.ensures.bytes ∙ chars-nil) (ap chars c.new-2.ensures.bytes ∙ chars-nil)
