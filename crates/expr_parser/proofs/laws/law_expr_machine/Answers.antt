use Rattle.expr_parser.proofs.ExprExact.{SpellsExpr-whole_expr}
use Rattle.expr_parser.proofs.ExprMachine.{BeginsExpr-run, run-BeginsExpr, whole-spelled}
use Rattle.expr_parser.proofs.laws.law_expr_machine.Goals as goal

pub returns-clause-runs : goal.returns-clause-runs
returns-clause-runs c = λ ts ds b. let i = BeginsExpr-run ts ds b in (i.state, i.is, i.depths_are)

pub returns-clause-begins : goal.returns-clause-begins
returns-clause-begins c = run-BeginsExpr

pub returns-clause-whole : goal.returns-clause-whole
returns-clause-whole c = whole-spelled

pub returns-clause-spelled : goal.returns-clause-spelled
returns-clause-spelled c = λ ts ds x s. let i = SpellsExpr-whole_expr ts ds x s in (i.state, i.goes.runs, i.finishes)
