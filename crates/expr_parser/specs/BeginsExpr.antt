-- Which tokens some expression begins with, and the depths at them. Neither limits the depth.
-- Example: some expression begins with `1 +`, at depths 1 and 2, and none with `1 )`.
use Rattle.std.specs.Prelude.{◌≡◌, ℕ, List, ◌++◌, length}
use Rattle.soy_lexer.specs.declared.token.Token.{Token}
use Rattle.expr_parser.specs.declared.operand.Operand.{Operand}
use Rattle.expr_parser.specs.SpellsExpr.{SpellsExpr}

pub record BeginsExpr (tokens : List Token) (depths : List ℕ) : Type 0 where
  pub more : List Token
  pub other_depths : List ℕ
  pub operand : Operand
  pub spells : SpellsExpr 9 (tokens ++ more) (depths ++ other_depths) operand
  pub one_each : length depths ≡ length tokens
