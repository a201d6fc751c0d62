use Rattle.expr_parser.proofs.ExprSpans.{spans_in_order}
use Rattle.expr_parser.proofs.laws.law_expr_spans.Goals as goal

pub returns : goal.returns
returns c = spans_in_order
