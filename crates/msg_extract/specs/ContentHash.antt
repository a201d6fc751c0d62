-- What a content is hashed by: its texts, its numbers and what stands where, spans aside. So contents that are the same
-- are hashed alike. Each kind of expression and item begins with a number of its own.
-- Example: `$a` is hashed by the number 3 and the text `a`.
use Rattle.std.specs.Prelude.{ℕ, Bool, true, false, List, [], ◌∷◌, ◌++◌, encode_utf8_all}
use Rattle.std.specs.Hash as fed
use Rattle.soy_tree.specs.Expressions.{Expr, NullLiteral, BoolLiteral, IntLiteral, StringLiteral, Variable, Member}
use Rattle.soy_tree.specs.Expressions.{Index, Minus, Not, Binary, Coalesce, Conditional}
use Rattle.soy_rules.specs.SameExpression.{op_number}
use Rattle.soy_tree.specs.MessageText.{MessageItem, Character, Printed}
use Rattle.soy_rules.specs.Placeholders.{Content, ExprContent, TagContent}

abbrev pub name_input : List ℕ → List (List ℕ)
name_input name = fed.str (encode_utf8_all name)

abbrev pub bool_input : Bool → List (List ℕ)
bool_input false = fed.u8 0
bool_input true = fed.u8 1

abbrev pub expr_input : Expr → List (List ℕ)
expr_input (NullLiteral s) = fed.u8 0
expr_input (BoolLiteral b s) = fed.u8 1 ++ bool_input b
expr_input (IntLiteral n s) = fed.i64 n
expr_input (StringLiteral text s) = fed.u8 2 ++ name_input text
expr_input (Variable x s) = fed.u8 3 ++ name_input x
expr_input (Member e x p s) = fed.u8 4 ++ (bool_input p ++ (expr_input e ++ name_input x))
expr_input (Index e i p s) = fed.u8 5 ++ (bool_input p ++ (expr_input e ++ expr_input i))
expr_input (Minus e s) = fed.u8 6 ++ expr_input e
expr_input (Not e s) = fed.u8 7 ++ expr_input e
expr_input (Binary f a b s) = fed.u8 (op_number f) ++ (expr_input a ++ expr_input b)
expr_input (Coalesce a b s) = fed.u8 8 ++ (expr_input a ++ expr_input b)
expr_input (Conditional c a b s) = fed.u8 9 ++ (expr_input c ++ (expr_input a ++ expr_input b))

abbrev pub item_input : MessageItem → List (List ℕ)
item_input (Character c span) = fed.char c
item_input (Printed e phname span) = expr_input e

abbrev pub items_input : List MessageItem → List (List ℕ)
items_input [] = []
items_input (p ∷ ps) = item_input p ++ items_input ps

abbrev pub content_input : Content → List (List ℕ)
content_input (ExprContent e) = expr_input e
content_input (TagContent ps) = items_input ps
