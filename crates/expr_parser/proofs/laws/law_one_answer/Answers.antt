use Rattle.expr_parser.proofs.ExprAnswers.{one_answer}
use Rattle.expr_parser.proofs.TypeAnswers.{one_type_answer}
use Rattle.expr_parser.proofs.laws.law_one_answer.Goals as goal

pub returns-clause-one_expr_answer : goal.returns-clause-one_expr_answer
returns-clause-one_expr_answer c = one_answer

pub returns-clause-one_type_answer : goal.returns-clause-one_type_answer
returns-clause-one_type_answer c = one_type_answer
