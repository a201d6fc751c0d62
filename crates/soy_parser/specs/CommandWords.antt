-- The command words after the first eight, as the code looks for them: each function is `command_word` of a name that
-- is none of the words before.
-- Example: `call` is one of the second eight, and `nbsp` of the last ones.
use Rattle.std.specs.Prelude.{ℕ, List, codes, if◌then◌else◌}
use Rattle.std.specs.Str.{bytes_eq}
use Rattle.soy_parser.specs.declared.terminal.CommandWord.{CommandWord}
use Rattle.soy_parser.specs.declared.terminal.CommandWord.TheVariants as word

abbrev pub last_word : List ℕ → CommandWord
last_word text =
    if bytes_eq text (codes "phname") then word.Phname else
    if bytes_eq text (codes "sp") then word.Space else
    if bytes_eq text (codes "nil") then word.Nil else
    if bytes_eq text (codes "lb") then word.LeftBrace else
    if bytes_eq text (codes "rb") then word.RightBrace else
    if bytes_eq text (codes "nbsp") then word.NoBreakSpace else
    word.Other

abbrev pub third_word : List ℕ → CommandWord
third_word text =
    if bytes_eq text (codes "plural") then word.Plural else
    if bytes_eq text (codes "select") then word.Select else
    if bytes_eq text (codes "kind") then word.Kind else
    if bytes_eq text (codes "visibility") then word.Visibility else
    if bytes_eq text (codes "data") then word.Data else
    if bytes_eq text (codes "desc") then word.Desc else
    if bytes_eq text (codes "meaning") then word.Meaning else
    if bytes_eq text (codes "offset") then word.Offset else
    last_word text

abbrev pub second_word : List ℕ → CommandWord
second_word text =
    if bytes_eq text (codes "case") then word.Case else
    if bytes_eq text (codes "default") then word.Default else
    if bytes_eq text (codes "for") then word.For else
    if bytes_eq text (codes "in") then word.In else
    if bytes_eq text (codes "let") then word.Let else
    if bytes_eq text (codes "call") then word.Call else
    if bytes_eq text (codes "msg") then word.Msg else
    if bytes_eq text (codes "fallbackmsg") then word.FallbackMsg else
    third_word text
