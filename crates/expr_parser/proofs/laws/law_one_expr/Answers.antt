use Rattle.expr_parser.proofs.ExprMachine.{spelled_same, begun_same}
use Rattle.expr_parser.proofs.laws.law_one_expr.Goals as goal

pub returns-clause-one_expr : goal.returns-clause-one_expr
returns-clause-one_expr c = spelled_same

pub returns-clause-one_depth : goal.returns-clause-one_depth
returns-clause-one_depth c = begun_same
