-- What a token does with which an expression that is read does not go on: the command goes on or ends after what was
-- read, where that is a whole expression.
use Rattle.std.specs.Prelude.{Option, None}
use Rattle.expr_parser.specs.ExprSteps.{given}
use Rattle.expr_parser.specs.ExprSteps.{ExprStep as expr_does}
use Rattle.soy_lexer.specs.declared.token.Token.{Token}
use Rattle.soy_parser.specs.FileSteps.{in_expr}
use Rattle.soy_parser.specs.declared.block.CommandState.{CommandState}
use Rattle.soy_parser.specs.declared.spot.CommandSpot.{CommandSpot}
use Rattle.soy_parser.specs.declared.spot.CommandSpot.TheVariants as where_
use Rattle.soy_parser.specs.declared.spot.FileState.{FileState}
use Rattle.soy_parser.specs.declared.spot.Spot.TheVariants as spot

abbrev pub ended_in : CommandState → Token → CommandSpot → Option FileState
ended_in s t (where_.Inside from (spot.Expr for_ r)) = in_expr s from for_ t (expr_does.End (given r.expected))
ended_in s t _ = None
