-- What the machine of expressions makes of a list of tokens: the state after them, and the depths at them.
-- Example: after `1 +` an operand is expected inside the operator, and the depths are 1 and 2.
use Rattle.std.specs.Prelude.{ℕ, List, [], ◌∷◌, Option, Some, None}
use Rattle.soy_lexer.specs.declared.token.Token.{Token}
use Rattle.expr_parser.specs.declared.state.Expected.TheVariants as expected
use Rattle.expr_parser.specs.declared.state.ExprState.{ExprState}
use Rattle.expr_parser.specs.ExprSteps.{at, expr_next, expr_depth}

abbrev pub expr_start : ExprState
expr_start = at [] expected.Operand

-- the state after the tokens; there is none where one of them has no step
abbrev pub expr_run_from : (ExprState → Option ExprState) → Option ExprState → Option ExprState
expr_run_from go_on None = None
expr_run_from go_on (Some s) = go_on s

abbrev pub expr_run : List Token → ExprState → Option ExprState
expr_run [] s = Some s
expr_run (t ∷ ts) s = expr_run_from (expr_run ts) (expr_next s t)

-- the depths at the tokens
abbrev pub expr_depths_from : (ExprState → List ℕ) → Option ExprState → List ℕ
expr_depths_from go_on None = []
expr_depths_from go_on (Some s) = expr_depth s ∷ go_on s

abbrev pub expr_depths : List Token → ExprState → List ℕ
expr_depths [] s = []
expr_depths (t ∷ ts) s = expr_depths_from (expr_depths ts) (expr_next s t)
