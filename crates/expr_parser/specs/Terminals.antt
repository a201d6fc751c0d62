-- What a token is to an expression: a Word is a literal, `not`, `and` or `or`; an Int is one up to 9007199254740991; a
-- Symbol is an operator or a delimiter.
-- Example: the Symbol `%` is the infix operator `Rem`, and the Word `list` is nothing to an expression.
use Rattle.std.specs.Prelude.{ℕ, ◌+◌, ◌-◌, ◌*◌, nat_le, ℤ, pos, true, false, ◌&&◌, List, [], ◌∷◌, codes}
use Rattle.std.specs.Prelude.{encode_utf8_all, Option, Some, None, if◌then◌else◌}
use Rattle.std.specs.Char.{is_ascii_digit}
use Rattle.std.specs.Str.{bytes_eq}
use Rattle.soy_lexer.specs.declared.token.Token.{Token}
use Rattle.soy_lexer.specs.declared.token.TokenKind.{TokenKind}
use Rattle.soy_lexer.specs.declared.token.TokenKind.TheVariants as kind
use Rattle.soy_base.specs.Limits.{largest}
use Rattle.soy_tree.specs.declared.expr.BinaryOp.TheVariants as binary
use Rattle.expr_parser.specs.declared.terminal.Terminal.{Terminal}
use Rattle.expr_parser.specs.declared.terminal.Terminal.TheVariants as terminal

-- the int that decimal digits, in ASCII, write after those of n, if none on the way is over the largest
abbrev pub int_after : ℕ → List ℕ → Option ℤ
int_after n [] = Some (pos n)
int_after n (c ∷ cs) =
    if is_ascii_digit c && nat_le (10 * n + (c - 48)) largest then int_after (10 * n + (c - 48)) cs else None

abbrev pub int_terminal : Option ℤ → Terminal
int_terminal (Some n) = terminal.Int n
int_terminal None = terminal.Other

abbrev pub word_terminal : List ℕ → Terminal
word_terminal text =
    if bytes_eq text (codes "null") then terminal.Null else
    if bytes_eq text (codes "true") then terminal.Bool true else
    if bytes_eq text (codes "false") then terminal.Bool false else
    if bytes_eq text (codes "not") then terminal.Not else
    if bytes_eq text (codes "and") then terminal.Infix binary.And else
    if bytes_eq text (codes "or") then terminal.Infix binary.Or else
    terminal.Other

abbrev pub symbol_terminal : List ℕ → Terminal
symbol_terminal text =
    if bytes_eq text (codes "*") then terminal.Infix binary.Mul else
    if bytes_eq text (codes "%") then terminal.Infix binary.Rem else
    if bytes_eq text (codes "+") then terminal.Infix binary.Add else
    if bytes_eq text (codes "-") then terminal.Minus else
    if bytes_eq text (codes "<") then terminal.Infix binary.Lt else
    if bytes_eq text (codes ">") then terminal.Infix binary.Gt else
    if bytes_eq text (codes "<=") then terminal.Infix binary.Le else
    if bytes_eq text (codes ">=") then terminal.Infix binary.Ge else
    if bytes_eq text (codes "==") then terminal.Infix binary.Eq else
    if bytes_eq text (codes "!=") then terminal.Infix binary.Ne else
    if bytes_eq text (codes "?:") then terminal.Coalesce else
    if bytes_eq text (codes "??") then terminal.Coalesce else
    if bytes_eq text (codes "?") then terminal.Question else
    if bytes_eq text (codes ":") then terminal.Colon else
    if bytes_eq text (codes ".") then terminal.Dot false else
    if bytes_eq text (codes "?.") then terminal.Dot true else
    if bytes_eq text (codes "[") then terminal.OpenBracket false else
    if bytes_eq text (codes "?[") then terminal.OpenBracket true else
    if bytes_eq text (codes "]") then terminal.CloseBracket else
    if bytes_eq text (codes "(") then terminal.OpenParen else
    if bytes_eq text (codes ")") then terminal.CloseParen else
    terminal.Other

-- by the kind of a token and the bytes of its text
abbrev pub kind_terminal : TokenKind → List ℕ → Terminal
kind_terminal kind.Word text = word_terminal text
kind_terminal kind.Variable text = terminal.Variable
kind_terminal kind.Int text = int_terminal (int_after 0 text)
kind_terminal kind.Str text = terminal.Str
kind_terminal kind.Symbol text = symbol_terminal text
kind_terminal _ text = terminal.Other

abbrev pub terminal_of : Token → Terminal
terminal_of token = kind_terminal token.kind (encode_utf8_all token.text)
