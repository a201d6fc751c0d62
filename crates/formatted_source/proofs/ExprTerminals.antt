-- What the lexemes of an expression are to the grammar.
use Rattle.std.proofs.Common.{◌≡◌, ℕ, pos, ◌+◌, ◌-◌, ◌*◌, ◌^◌, ◌≤◌, ◌<◌, nat_le, Bool, true, false}
use Rattle.std.proofs.Common.{List, [], ◌∷◌}
use Rattle.std.proofs.Common.{Some, refl, ap, ◌∙◌, arith}
use Rattle.std.specs.Prelude.{codes, encode_utf8_all}
use Rattle.std.specs.Char.{is_ascii_digit}
use Rattle.std.specs.Fmt.{decimal, signed_decimal}
use Rattle.std.specs.List.{list_all}
use Rattle.std.proofs.lemmas.Bool.Decides.{nat_tests}
use Rattle.std.proofs.lemmas.Fmt.{IsAscii-decimal}
use Rattle.std.proofs.lemmas.Str.{encodes-IsAscii}
use Rattle.soy_lexer.specs.CommandSegment.{number_after}
use Rattle.soy_lexer.specs.declared.token.Token.{Token}
use Rattle.soy_lexer.specs.declared.token.TokenKind.TheVariants as kind
use Rattle.soy_base.specs.Limits.{largest}
use Rattle.soy_tree.specs.declared.expr.BinaryOp.{BinaryOp}
use Rattle.soy_tree.specs.declared.expr.BinaryOp.TheVariants as op
use Rattle.expr_parser.specs.declared.terminal.Terminal.{Terminal}
use Rattle.expr_parser.specs.declared.terminal.Terminal.TheVariants as terminal
use Rattle.expr_parser.specs.Operands.{level_of}
use Rattle.expr_parser.specs.SpellsExpr.{infix_of}
use Rattle.expr_parser.specs.Terminals.{int_after, int_terminal, kind_terminal, terminal_of}
use Rattle.soy_format.specs.FormattedExpression.{bool_text, bracket_text, dot_text}
use Rattle.soy_format.specs.Levels.{level_of_op}
use Rattle.formatted_source.specs.ExprLexemes.{op_lexeme}
use Rattle.formatted_source.specs.Lexemes.{Lexeme}
use Rattle.formatted_source.proofs.Written.Ints.{digits-decimal, number-decimal}
use Rattle.formatted_source.proofs.Written.Names.{both}

-- what a lexeme is
abbrev pub lexeme_terminal : Lexeme → Terminal
lexeme_terminal l = kind_terminal l.0 (encode_utf8_all l.1)

-- and so a token of it
pub terminal-lexeme : (t : Token) (l : Lexeme) → t.kind ≡ l.0 → t.text ≡ l.1 → terminal_of t ≡ lexeme_terminal l
terminal-lexeme t l k e = ap (λ x. kind_terminal x (encode_utf8_all t.text)) k
    ∙ ap (λ x. kind_terminal l.0 (encode_utf8_all x)) e

pub null_is : lexeme_terminal (kind.Word, codes "null") ≡ terminal.Null
unfolding lib.Utf8.encode
null_is = refl

pub bool_is : (b : Bool) → lexeme_terminal (kind.Word, bool_text b) ≡ terminal.Bool b
unfolding lib.Utf8.encode
bool_is true = refl
bool_is false = refl

pub not_is : lexeme_terminal (kind.Word, codes "not") ≡ terminal.Not
unfolding lib.Utf8.encode
not_is = refl

pub minus_is : lexeme_terminal (kind.Symbol, codes "-") ≡ terminal.Minus
unfolding lib.Utf8.encode
minus_is = refl

pub open_is : lexeme_terminal (kind.Symbol, codes "(") ≡ terminal.OpenParen
unfolding lib.Utf8.encode
open_is = refl

pub close_is : lexeme_terminal (kind.Symbol, codes ")") ≡ terminal.CloseParen
unfolding lib.Utf8.encode
close_is = refl

pub bracket_close_is : lexeme_terminal (kind.Symbol, codes "]") ≡ terminal.CloseBracket
unfolding lib.Utf8.encode
bracket_close_is = refl

pub bracket_is : (b : Bool) → lexeme_terminal (kind.Symbol, bracket_text b) ≡ terminal.OpenBracket b
unfolding lib.Utf8.encode
bracket_is true = refl
bracket_is false = refl

pub dot_is : (b : Bool) → lexeme_terminal (kind.Symbol, dot_text b) ≡ terminal.Dot b
unfolding lib.Utf8.encode
dot_is true = refl
dot_is false = refl

pub coalesce_is : lexeme_terminal (kind.Symbol, codes "?:") ≡ terminal.Coalesce
unfolding lib.Utf8.encode
coalesce_is = refl

pub question_is : lexeme_terminal (kind.Symbol, codes "?") ≡ terminal.Question
unfolding lib.Utf8.encode
question_is = refl

pub colon_is : lexeme_terminal (kind.Symbol, codes ":") ≡ terminal.Colon
unfolding lib.Utf8.encode
colon_is = refl

pub op_is : (o : BinaryOp) → infix_of (lexeme_terminal (op_lexeme o)) ≡ Some o
unfolding lib.Utf8.encode
op_is op.Mul = refl
op_is op.Rem = refl
op_is op.Add = refl
op_is op.Sub = refl
op_is op.Lt = refl
op_is op.Gt = refl
op_is op.Le = refl
op_is op.Ge = refl
op_is op.Eq = refl
op_is op.Ne = refl
op_is op.And = refl
op_is op.Or = refl

-- both tables of operators have the same levels, from 3 to 8
pub record LevelIs (o : BinaryOp) : Type 0 where
  pub same : level_of o ≡ level_of_op o
  pub above : 3 ≤ level_of_op o
  pub below : level_of_op o ≤ 8

pub level_is : (o : BinaryOp) → LevelIs o
level_is op.Mul = record { same = refl; above = omega arith; below = omega arith }
level_is op.Rem = record { same = refl; above = omega arith; below = omega arith }
level_is op.Add = record { same = refl; above = omega arith; below = omega arith }
level_is op.Sub = record { same = refl; above = omega arith; below = omega arith }
level_is op.Lt = record { same = refl; above = omega arith; below = omega arith }
level_is op.Gt = record { same = refl; above = omega arith; below = omega arith }
level_is op.Le = record { same = refl; above = omega arith; below = omega arith }
level_is op.Ge = record { same = refl; above = omega arith; below = omega arith }
level_is op.Eq = record { same = refl; above = omega arith; below = omega arith }
level_is op.Ne = record { same = refl; above = omega arith; below = omega arith }
level_is op.And = record { same = refl; above = omega arith; below = omega arith }
level_is op.Or = record { same = refl; above = omega arith; below = omega arith }

-- digits write an int where what they write is none over the largest

number_grows : (n : ℕ) (ds : List ℕ) → n ≤ number_after n ds
number_grows n [] = omega arith
number_grows n (d ∷ ds) = omega (arith, number_grows (10 * n + (d - 48)) ds)

int_written : (n : ℕ) (ds : List ℕ) → list_all is_ascii_digit ds ≡ true → number_after n ds ≤ largest
    → int_after n ds ≡ Some (pos (number_after n ds))
int_written n [] all within = refl
int_written n (d ∷ ds) all within =
    let parts = both (is_ascii_digit d) (list_all is_ascii_digit ds) all in
    let fits : nat_le (10 * n + (d - 48)) largest ≡ true = grind
    (arith, nat_tests, number_grows (10 * n + (d - 48)) ds, within) in
    rw (parts.0, fits) (int_written (10 * n + (d - 48)) ds parts.1 within)

encoded : (n : ℕ) → n < 2 ^ 64 → encode_utf8_all (decimal n) ≡ decimal n
encoded n small = encodes-IsAscii (decimal n) (IsAscii-decimal n small)

pub int_is : (n : ℕ) → n ≤ largest → lexeme_terminal (kind.Int, signed_decimal (pos n)) ≡ terminal.Int (pos n)
int_is n within =
    let small : n < 2 ^ 64 = omega arith in
    let same : number_after 0 (decimal n) ≡ n = number-decimal n small in
    let fits : number_after 0 (decimal n) ≤ largest = omega (arith, same, within) in
    ap int_terminal (ap (int_after 0) (encoded n small)
    ∙ (int_written 0 (decimal n) (digits-decimal n small) fits ∙ ap (λ m. Some (pos m)) same))
