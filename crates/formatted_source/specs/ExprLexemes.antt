-- The lexemes of an expression as it is written in canonical source.
-- Example: those of the sum of 1 and the difference of 2 and 3 are `1`, `+`, `(`, `2`, `-`, `3` and `)`.
use Rattle.std.specs.Prelude.{Bool, true, false, nat_lt, nat_le, List, [], ◌∷◌, ◌++◌, codes}
use Rattle.std.specs.Fmt.{signed_decimal}
use Rattle.soy_lexer.specs.declared.token.TokenKind.TheVariants as kind
use Rattle.soy_tree.specs.declared.expr.BinaryOp.{BinaryOp}
use Rattle.soy_tree.specs.declared.expr.BinaryOp.TheVariants as op
use Rattle.soy_tree.specs.Expressions.{Expr, NullLiteral, BoolLiteral, IntLiteral, StringLiteral, Variable, Member}
use Rattle.soy_tree.specs.Expressions.{Index, Minus, Not, Binary, Coalesce, Conditional}
use Rattle.soy_format.specs.FormattedExpression.{bool_text, bracket_text, dot_text}
use Rattle.soy_format.specs.Levels.{level_of, level_of_op}
use Rattle.formatted_source.specs.Lexemes.{Lexeme}

abbrev pub op_lexeme : BinaryOp → Lexeme
op_lexeme op.Mul = (kind.Symbol, codes "*")
op_lexeme op.Rem = (kind.Symbol, codes "%")
op_lexeme op.Add = (kind.Symbol, codes "+")
op_lexeme op.Sub = (kind.Symbol, codes "-")
op_lexeme op.Lt = (kind.Symbol, codes "<")
op_lexeme op.Gt = (kind.Symbol, codes ">")
op_lexeme op.Le = (kind.Symbol, codes "<=")
op_lexeme op.Ge = (kind.Symbol, codes ">=")
op_lexeme op.Eq = (kind.Symbol, codes "==")
op_lexeme op.Ne = (kind.Symbol, codes "!=")
op_lexeme op.And = (kind.Word, codes "and")
op_lexeme op.Or = (kind.Word, codes "or")

-- those in parentheses, where there have to be some
abbrev pub bracketed : Bool → List Lexeme → List Lexeme
bracketed true ls = (kind.Symbol, codes "(") ∷ (ls ++ ((kind.Symbol, codes ")") ∷ []))
bracketed false ls = ls

abbrev pub expr_lexemes : Expr → List Lexeme
expr_lexemes (NullLiteral span) = (kind.Word, codes "null") ∷ []
expr_lexemes (BoolLiteral b span) = (kind.Word, bool_text b) ∷ []
expr_lexemes (IntLiteral n span) = (kind.Int, signed_decimal n) ∷ []
expr_lexemes (StringLiteral text span) = (kind.Str, text) ∷ []
expr_lexemes (Variable name span) = (kind.Variable, name) ∷ []
expr_lexemes (Member e name takes_null span) =
    bracketed (nat_lt 1 (level_of e)) (expr_lexemes e)
    ++ ((kind.Symbol, dot_text takes_null) ∷ ((kind.Word, name) ∷ []))
expr_lexemes (Index e i takes_null span) =
    bracketed (nat_lt 1 (level_of e)) (expr_lexemes e)
    ++ ((kind.Symbol, bracket_text takes_null) ∷ (expr_lexemes i ++ ((kind.Symbol, codes "]") ∷ [])))
expr_lexemes (Minus e span) = (kind.Symbol, codes "-") ∷ bracketed (nat_lt 2 (level_of e)) (expr_lexemes e)
expr_lexemes (Not e span) = (kind.Word, codes "not") ∷ bracketed (nat_lt 2 (level_of e)) (expr_lexemes e)
expr_lexemes (Binary o a b span) =
    bracketed (nat_lt (level_of_op o) (level_of a)) (expr_lexemes a)
    ++ (op_lexeme o ∷ bracketed (nat_le (level_of_op o) (level_of b)) (expr_lexemes b))
expr_lexemes (Coalesce a b span) =
    bracketed (nat_le 9 (level_of a)) (expr_lexemes a) ++ ((kind.Symbol, codes "?:") ∷ expr_lexemes b)
expr_lexemes (Conditional c a b span) =
    bracketed (nat_le 9 (level_of c)) (expr_lexemes c)
    ++ ((kind.Symbol, codes "?") ∷ (expr_lexemes a ++ ((kind.Symbol, codes ":") ∷ expr_lexemes b)))
