use Rattle.bidi_order.proofs.ResetLevels.{line_levels-others, reset_levels-others}
use Rattle.bidi_order.proofs.laws.law_reset.Goals as goal

pub returns-clause-of_lines : goal.returns-clause-of_lines
returns-clause-of_lines c = line_levels-others

pub returns-clause-of_kinds : goal.returns-clause-of_kinds
returns-clause-of_kinds c = reset_levels-others
