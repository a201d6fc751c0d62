-- How an expression is written in canonical source.
-- A binary operator has one space on each side, `not` one after it, and `-` stands directly by its operand, with a
-- space between two `-`. Parentheses stand exactly around these operands, by the levels of their operators: the base of an
-- access above level 1; the operand of `-` or `not` above level 2; the left operand of the levels 3 to 8 above that of
-- its operator, and the right one not below it; the first operand of level 9 where it is of level 9.
-- Example: the sum of 1 and the difference of 2 and 3 is written `1 + (2 - 3)`.
use Rattle.std.specs.Prelude.{ℕ, Bool, true, false, ◌&&◌, nat_lt, nat_le, List, [], ◌∷◌, ◌++◌, codes, if◌then◌else◌}
use Rattle.std.specs.Fmt.{signed_decimal}
use Rattle.soy_tree.specs.declared.expr.BinaryOp.{BinaryOp}
use Rattle.soy_tree.specs.declared.expr.BinaryOp.TheVariants as op
use Rattle.soy_tree.specs.Expressions.{Expr, NullLiteral, BoolLiteral, IntLiteral, StringLiteral, Variable, Member}
use Rattle.soy_tree.specs.Expressions.{Index, Minus, Not, Binary, Coalesce, Conditional}
use Rattle.soy_format.specs.FormattedString.{formatted_string}
use Rattle.soy_format.specs.Levels.{level_of, level_of_op}

abbrev pub op_text : BinaryOp → List ℕ
op_text op.Mul = codes " * "
op_text op.Rem = codes " % "
op_text op.Add = codes " + "
op_text op.Sub = codes " - "
op_text op.Lt = codes " < "
op_text op.Gt = codes " > "
op_text op.Le = codes " <= "
op_text op.Ge = codes " >= "
op_text op.Eq = codes " == "
op_text op.Ne = codes " != "
op_text op.And = codes " and "
op_text op.Or = codes " or "

abbrev pub bool_text : Bool → List ℕ
bool_text true = codes "true"
bool_text false = codes "false"

abbrev pub variable_text : List ℕ → List ℕ
variable_text name = codes "$" ++ name

abbrev pub dot_text : Bool → List ℕ
dot_text takes_null = if takes_null then codes "?." else codes "."

abbrev pub bracket_text : Bool → List ℕ
bracket_text takes_null = if takes_null then codes "?[" else codes "["

-- a text in parentheses, where it has to be
abbrev pub in_parentheses : Bool → List ℕ → List ℕ
in_parentheses true text = codes "(" ++ (text ++ codes ")")
in_parentheses false text = text

-- `-` before an operand
abbrev pub minus_text : Expr → List ℕ
minus_text (Minus e span) = codes "- "
minus_text _ = codes "-"

abbrev pub formatted_expr : Expr → List ℕ
formatted_expr (NullLiteral span) = codes "null"
formatted_expr (BoolLiteral b span) = bool_text b
formatted_expr (IntLiteral n span) = signed_decimal n
formatted_expr (StringLiteral text span) = formatted_string text
formatted_expr (Variable name span) = variable_text name
formatted_expr (Member e name takes_null span) =
    in_parentheses (nat_lt 1 (level_of e)) (formatted_expr e) ++ (dot_text takes_null ++ name)
formatted_expr (Index e i takes_null span) =
    in_parentheses (nat_lt 1 (level_of e)) (formatted_expr e)
    ++ (bracket_text takes_null ++ (formatted_expr i ++ codes "]"))
formatted_expr (Minus e span) = minus_text e ++ in_parentheses (nat_lt 2 (level_of e)) (formatted_expr e)
formatted_expr (Not e span) = codes "not " ++ in_parentheses (nat_lt 2 (level_of e)) (formatted_expr e)
formatted_expr (Binary o a b span) =
    in_parentheses (nat_lt (level_of_op o) (level_of a)) (formatted_expr a)
    ++ (op_text o ++ in_parentheses (nat_le (level_of_op o) (level_of b)) (formatted_expr b))
formatted_expr (Coalesce a b span) =
    in_parentheses (nat_le 9 (level_of a)) (formatted_expr a) ++ (codes " ?: " ++ formatted_expr b)
formatted_expr (Conditional c a b span) =
    in_parentheses (nat_le 9 (level_of c)) (formatted_expr c)
    ++ (codes " ? " ++ (formatted_expr a ++ (codes " : " ++ formatted_expr b)))

-- whether an expression as it is written begins with `$`: what stands first in it is a variable, in no parentheses
abbrev pub begins_with_variable : Expr → Bool
begins_with_variable (Variable name span) = true
begins_with_variable (Member e name takes_null span) = nat_le (level_of e) 1 && begins_with_variable e
begins_with_variable (Index e i takes_null span) = nat_le (level_of e) 1 && begins_with_variable e
begins_with_variable (Binary o a b span) = nat_le (level_of a) (level_of_op o) && begins_with_variable a
begins_with_variable (Coalesce a b span) = nat_lt (level_of a) 9 && begins_with_variable a
begins_with_variable (Conditional c a b span) = nat_lt (level_of c) 9 && begins_with_variable c
begins_with_variable _ = false

-- what follows the first of expressions that are joined by `, `
abbrev pub more_values : List Expr → List ℕ
more_values [] = []
more_values (e ∷ es) = codes ", " ++ (formatted_expr e ++ more_values es)

abbrev pub formatted_values : List Expr → List ℕ
formatted_values [] = []
formatted_values (e ∷ es) = formatted_expr e ++ more_values es
