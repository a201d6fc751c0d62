use Rattle.formatted_source.proofs.ReadParts.{expr_read}
use Rattle.formatted_source.proofs.laws.law_formatted_expr.Goals as goal

pub returns : goal.returns
returns c = λ blocks tokens depths x named spells within rest ends.
    expr_read blocks tokens depths x named spells within rest ends
