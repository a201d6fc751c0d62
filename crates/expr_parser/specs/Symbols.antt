-- The symbols of expressions after the first eight, as the code looks for them: each function is `symbol_terminal` of a
-- symbol that is none of those before.
use Rattle.std.specs.Prelude.{ℕ, List, true, false, codes, if◌then◌else◌}
use Rattle.std.specs.Str.{bytes_eq}
use Rattle.expr_parser.specs.declared.terminal.Terminal.{Terminal}
use Rattle.expr_parser.specs.declared.terminal.Terminal.TheVariants as terminal
use Rattle.soy_tree.specs.declared.expr.BinaryOp.TheVariants as binary

abbrev pub last_symbol : List ℕ → Terminal
last_symbol text =
    if bytes_eq text (codes "[") then terminal.OpenBracket false else
    if bytes_eq text (codes "?[") then terminal.OpenBracket true else
    if bytes_eq text (codes "]") then terminal.CloseBracket else
    if bytes_eq text (codes "(") then terminal.OpenParen else
    if bytes_eq text (codes ")") then terminal.CloseParen else
    terminal.Other

abbrev pub second_symbol : List ℕ → Terminal
second_symbol text =
    if bytes_eq text (codes "==") then terminal.Infix binary.Eq else
    if bytes_eq text (codes "!=") then terminal.Infix binary.Ne else
    if bytes_eq text (codes "?:") then terminal.Coalesce else
    if bytes_eq text (codes "??") then terminal.Coalesce else
    if bytes_eq text (codes "?") then terminal.Question else
    if bytes_eq text (codes ":") then terminal.Colon else
    if bytes_eq text (codes ".") then terminal.Dot false else
    if bytes_eq text (codes "?.") then terminal.Dot true else
    last_symbol text
