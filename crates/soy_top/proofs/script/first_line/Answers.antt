use Rattle.std.proofs.Common.{ap, sym, ◌∙◌, ◌∷◌}
use Rattle.std.specs.Str.{chars}
use Rattle.soy_base.specs.Parts.{parts_left}
use Rattle.soy_top.proofs.Plays.ScriptTexts.{first_of_lines}
use Rattle.soy_top.proofs.script.first_line.Goals as goal

pub returns-else-is_empty-clause-lines : goal.returns-else-is_empty-clause-lines
returns-else-is_empty-clause-lines c =
    let line = chars c.first_part.result.0.now in
    first_of_lines (chars c.args.text.now) line (chars c.in-Some.more.now)
    (c.first_part.ensures.parts ∙ ap (λ rest. line ∷ parts_left 10 rest) c.in-Some.is)
    (sym c.is_empty.ensures ∙ c.if-is_empty.false)
