use Rattle.std.proofs.Common.{refl, sym, ◌∙◌}
use Rattle.expr_parser.proofs.TypeReads.{read_type-Answers}
use Rattle.expr_parser.proofs.parse.parse_type.Goals as goal

pub returns-in-Done : goal.returns-in-Done
returns-in-Done c = read_type-Answers _ _ _ (sym c.in-Done.is ∙ c.in_ok-operand.ensures)

pub returns-in-Refused : goal.returns-in-Refused
returns-in-Refused c = (refl, read_type-Answers _ _ _ (sym c.in-Refused.is ∙ c.in_ok-operand.ensures))
