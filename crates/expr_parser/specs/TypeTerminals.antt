-- What a token is to a type, and which words name one.
-- The names are null, bool, int, string, html and attributes, and `list` and `map` where a `<` follows.
-- Example: `list` names a type in `list<int>` and none in `list|int`.
use Rattle.std.specs.Prelude.{ℕ, Bool, true, false, List, [], ◌∷◌, codes, encode_utf8_all, if◌then◌else◌}
use Rattle.std.specs.Str.{bytes_eq}
use Rattle.soy_lexer.specs.declared.token.Token.{Token}
use Rattle.soy_lexer.specs.declared.token.TokenKind.{TokenKind}
use Rattle.soy_lexer.specs.declared.token.TokenKind.TheVariants as kind
use Rattle.expr_parser.specs.declared.type_terminal.TypeName.{TypeName}
use Rattle.expr_parser.specs.declared.type_terminal.TypeName.TheVariants as name
use Rattle.expr_parser.specs.declared.type_terminal.TypeTerminal.{TypeTerminal}
use Rattle.expr_parser.specs.declared.type_terminal.TypeTerminal.TheVariants as terminal

abbrev pub type_name : List ℕ → TypeName
type_name text =
    if bytes_eq text (codes "null") then name.Null else
    if bytes_eq text (codes "bool") then name.Bool else
    if bytes_eq text (codes "int") then name.Int else
    if bytes_eq text (codes "string") then name.Str else
    if bytes_eq text (codes "html") then name.Html else
    if bytes_eq text (codes "attributes") then name.Attributes else
    if bytes_eq text (codes "list") then name.List else
    if bytes_eq text (codes "map") then name.Map else
    name.Unknown

abbrev pub type_symbol : List ℕ → TypeTerminal
type_symbol text =
    if bytes_eq text (codes "<") then terminal.Less else
    if bytes_eq text (codes ">") then terminal.Greater else
    if bytes_eq text (codes ",") then terminal.Comma else
    if bytes_eq text (codes ":") then terminal.Colon else
    if bytes_eq text (codes "|") then terminal.Bar else
    if bytes_eq text (codes "[") then terminal.OpenBracket else
    if bytes_eq text (codes "]") then terminal.CloseBracket else
    terminal.Other

-- by the kind of a token and the bytes of its text
abbrev pub type_terminal : TokenKind → List ℕ → TypeTerminal
type_terminal kind.Word text = terminal.Word (type_name text)
type_terminal kind.Symbol text = type_symbol text
type_terminal _ text = terminal.Other

abbrev pub type_terminal_of : Token → TypeTerminal
type_terminal_of token = type_terminal token.kind (encode_utf8_all token.text)

-- whether a `<` comes first
abbrev pub is_less : TypeTerminal → Bool
is_less terminal.Less = true
is_less _ = false

abbrev pub begins_with_less : List Token → Bool
begins_with_less [] = false
begins_with_less (t ∷ ts) = is_less (type_terminal_of t)

-- whether a name names a type, where a `<` follows it or doesn't
abbrev pub names_type : TypeName → Bool → Bool
names_type name.List less_follows = less_follows
names_type name.Map less_follows = less_follows
names_type name.Unknown less_follows = false
names_type _ less_follows = true

-- whether a token names a type before these tokens
abbrev pub word_names_type : TypeTerminal → Bool → Bool
word_names_type (terminal.Word n) less_follows = names_type n less_follows
word_names_type _ less_follows = false

abbrev pub is_type_name : Token → List Token → Bool
is_type_name token rest = word_names_type (type_terminal_of token) (begins_with_less rest)
