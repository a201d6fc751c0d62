-- What a token is to a command: a part of its syntax, and a Word one of the words that begin commands, stand in them or
-- name attributes. Wherever a name is expected, any Word is one.
-- Example: the Word `case` begins a command, and the Word `list` is a name alone.
use Rattle.std.specs.Prelude.{ℕ, List, codes, encode_utf8_all, if◌then◌else◌}
use Rattle.std.specs.Str.{bytes_eq}
use Rattle.soy_lexer.specs.declared.token.Token.{Token}
use Rattle.soy_lexer.specs.declared.token.TokenKind.{TokenKind}
use Rattle.soy_lexer.specs.declared.token.TokenKind.TheVariants as kind
use Rattle.soy_parser.specs.declared.terminal.BlockName.{BlockName}
use Rattle.soy_parser.specs.declared.terminal.BlockName.TheVariants as block
use Rattle.soy_parser.specs.declared.terminal.CommandTerminal.{CommandTerminal}
use Rattle.soy_parser.specs.declared.terminal.CommandTerminal.TheVariants as terminal
use Rattle.soy_parser.specs.declared.terminal.CommandWord.{CommandWord}
use Rattle.soy_parser.specs.declared.terminal.CommandWord.TheVariants as word

abbrev pub command_word : List ℕ → CommandWord
command_word text =
    if bytes_eq text (codes "namespace") then word.Namespace else
    if bytes_eq text (codes "template") then word.Template else
    if bytes_eq text (codes "param") then word.Param else
    if bytes_eq text (codes "print") then word.Print else
    if bytes_eq text (codes "if") then word.If else
    if bytes_eq text (codes "elseif") then word.ElseIf else
    if bytes_eq text (codes "else") then word.Else else
    if bytes_eq text (codes "switch") then word.Switch else
    if bytes_eq text (codes "case") then word.Case else
    if bytes_eq text (codes "default") then word.Default else
    if bytes_eq text (codes "for") then word.For else
    if bytes_eq text (codes "in") then word.In else
    if bytes_eq text (codes "let") then word.Let else
    if bytes_eq text (codes "call") then word.Call else
    if bytes_eq text (codes "msg") then word.Msg else
    if bytes_eq text (codes "fallbackmsg") then word.FallbackMsg else
    if bytes_eq text (codes "plural") then word.Plural else
    if bytes_eq text (codes "select") then word.Select else
    if bytes_eq text (codes "kind") then word.Kind else
    if bytes_eq text (codes "visibility") then word.Visibility else
    if bytes_eq text (codes "data") then word.Data else
    if bytes_eq text (codes "desc") then word.Desc else
    if bytes_eq text (codes "meaning") then word.Meaning else
    if bytes_eq text (codes "offset") then word.Offset else
    if bytes_eq text (codes "phname") then word.Phname else
    if bytes_eq text (codes "sp") then word.Space else
    if bytes_eq text (codes "nil") then word.Nil else
    if bytes_eq text (codes "lb") then word.LeftBrace else
    if bytes_eq text (codes "rb") then word.RightBrace else
    if bytes_eq text (codes "nbsp") then word.NoBreakSpace else
    word.Other

abbrev pub block_name : List ℕ → BlockName
block_name text =
    if bytes_eq text (codes "template") then block.Template else
    if bytes_eq text (codes "if") then block.If else
    if bytes_eq text (codes "switch") then block.Switch else
    if bytes_eq text (codes "for") then block.For else
    if bytes_eq text (codes "let") then block.Let else
    if bytes_eq text (codes "call") then block.Call else
    if bytes_eq text (codes "param") then block.Param else
    if bytes_eq text (codes "msg") then block.Msg else
    if bytes_eq text (codes "plural") then block.Plural else
    if bytes_eq text (codes "select") then block.Select else
    block.Other

abbrev pub command_symbol : List ℕ → CommandTerminal
command_symbol text =
    if bytes_eq text (codes ".") then terminal.Dot else
    if bytes_eq text (codes ",") then terminal.Comma else
    if bytes_eq text (codes ":") then terminal.Colon else
    if bytes_eq text (codes "?") then terminal.Question else
    if bytes_eq text (codes "=") then terminal.Equals else
    if bytes_eq text (codes "@") then terminal.At else
    if bytes_eq text (codes "\\n") then terminal.LineFeed else
    if bytes_eq text (codes "\\r") then terminal.CarriageReturn else
    if bytes_eq text (codes "\\t") then terminal.Tab else
    terminal.Other

-- by the kind of a token and the bytes of its text
abbrev pub command_terminal : TokenKind → List ℕ → CommandTerminal
command_terminal kind.Text text = terminal.Text
command_terminal kind.Begin text = terminal.Begin
command_terminal kind.BeginClose text = terminal.Close (block_name text)
command_terminal kind.Word text = terminal.Word (command_word text)
command_terminal kind.Variable text = terminal.Variable
command_terminal kind.Int text = terminal.Int
command_terminal kind.Str text = terminal.Str
command_terminal kind.Attribute text = terminal.Attribute
command_terminal kind.Symbol text = command_symbol text
command_terminal kind.End text = terminal.End
command_terminal kind.SlashEnd text = terminal.SlashEnd

abbrev pub command_terminal_of : Token → CommandTerminal
command_terminal_of token = command_terminal token.kind (encode_utf8_all token.text)
