-- What the rest of a command begins with: white space, `}`, `/}`, or the longest token that begins there: a name, `$`
-- and a name, an int, a string, a value in double quotes, or a symbol.
--
-- `?:x` begins with the symbol `?:`, `07` with the int `0`, and `#` with no token.
use Rattle.std.specs.Prelude.{ℕ, ◌+◌, ◌-◌, ◌*◌, List, [], ◌∷◌, ◌++◌, ◌==◌, nat_le, if◌then◌else◌, Option, None, Some}
use Rattle.std.specs.Prelude.{option_map, unwrap_or, codes}
use Rattle.std.specs.Option.{option_or}
use Rattle.std.specs.Char.{is_ascii_digit}
use Rattle.soy_base.specs.WhiteSpace.{is_template_space}
use Rattle.soy_base.specs.Names.{begins_name, continues_name}
use Rattle.soy_base.specs.Characters.{dollar_sign, single_quote, double_quote, slash}
use Rattle.soy_base.specs.Cuts.{after_prefix, cut, prefix_while, after_while}
use Rattle.soy_lexer.specs.Found.{Found, begins}
use Rattle.soy_lexer.specs.Segment.Segment.{Skipped, CommandToken}
use Rattle.soy_lexer.specs.Found.Found.{Fails}
use Rattle.soy_lexer.specs.Strings.{Quoted, quoted}
use Rattle.soy_lexer.specs.declared.token.TokenKind.{TokenKind}
use Rattle.soy_lexer.specs.declared.token.TokenKind.TheVariants as kind
use Rattle.soy_base.specs.Limits.{largest}

-- white space, a character at a time
abbrev pub white_segment : List ℕ → Option Found
white_segment [] = None
white_segment (c ∷ cs) = if is_template_space c then Some (begins (Skipped (c ∷ [])) cs) else None

-- the token whose source text is this, where the text begins with that
abbrev pub fixed_segment : TokenKind → List ℕ → List ℕ → Option Found
fixed_segment kind prefix text =
    option_map (λ rest. begins (CommandToken kind prefix prefix) rest) (after_prefix prefix text)

-- the name at the start of a text and what follows it
abbrev pub name_prefix : List ℕ → Option (List ℕ × List ℕ)
name_prefix [] = None
name_prefix (c ∷ cs) =
    if begins_name c then Some (c ∷ prefix_while continues_name cs, after_while continues_name cs) else None

-- a name, with these characters before it in a token of this kind
abbrev pub name_segment : TokenKind → List ℕ → List ℕ → Option Found
name_segment kind before text =
    option_map (λ name. begins (CommandToken kind (before ++ name.0) name.0) name.1) (name_prefix text)

abbrev pub variable_segment : List ℕ → Option Found
variable_segment [] = None
variable_segment (c ∷ cs) = if c == dollar_sign then name_segment kind.Variable (dollar_sign ∷ []) cs else None

-- the number that decimal digits write after those of n
abbrev pub number_after : ℕ → List ℕ → ℕ
number_after n [] = n
number_after n (c ∷ cs) = number_after (10 * n + (c - 48)) cs

-- an int is 0, or digits that begin with another one; where it is over the limit, no token begins
abbrev pub digits_segment : List ℕ → List ℕ → Found
digits_segment digits rest =
    if nat_le (number_after 0 digits) largest then begins (CommandToken kind.Int digits digits) rest else Fails 0

abbrev pub int_segment : List ℕ → Option Found
int_segment [] = None
int_segment (c ∷ cs) =
    if c == 48 then Some (begins (CommandToken kind.Int (c ∷ []) (c ∷ [])) cs)
    else if is_ascii_digit c then Some
    (digits_segment (c ∷ prefix_while is_ascii_digit cs) (after_while is_ascii_digit cs))
    else None

abbrev pub quoted_segment : Option Quoted → Found
quoted_segment None = Fails 0
quoted_segment (Some string) =
    begins (CommandToken kind.Str (single_quote ∷ string.source_text) string.value) string.rest

abbrev pub string_segment : List ℕ → Option Found
string_segment [] = None
string_segment (c ∷ cs) = if c == single_quote then Some (quoted_segment (quoted cs)) else None

abbrev pub value_segment : Option (List ℕ × List ℕ) → Found
value_segment None = Fails 0
value_segment (Some parts) =
    begins (CommandToken kind.Attribute (double_quote ∷ (parts.0 ++ double_quote ∷ [])) parts.0) parts.1

-- a value in double quotes goes up to the next one
abbrev pub attribute_segment : List ℕ → Option Found
attribute_segment [] = None
attribute_segment (c ∷ cs) = if c == double_quote then Some (value_segment (cut (double_quote ∷ []) cs)) else None

abbrev pub symbols_of_two : List (List ℕ)
symbols_of_two =
    codes "?." ∷ codes "?[" ∷ codes "?:" ∷ codes "??" ∷ codes "==" ∷ codes "!=" ∷ codes "<=" ∷ codes ">=" ∷
    codes "\\n" ∷ codes "\\r" ∷ codes "\\t" ∷ []

abbrev pub symbols_of_one : List (List ℕ)
symbols_of_one =
    codes "." ∷ codes "[" ∷ codes "]" ∷ codes "(" ∷ codes ")" ∷ codes "," ∷ codes ":" ∷ codes "?" ∷ codes "="
    ∷ codes "<" ∷
    codes ">" ∷ codes "+" ∷ codes "-" ∷ codes "*" ∷ codes "%" ∷ codes "|" ∷ codes "@" ∷ []

-- the one of the symbols, of which each is as long as the others, with which the text begins
abbrev pub one_of : List (List ℕ) → List ℕ → Option Found
one_of [] text = None
one_of (symbol ∷ symbols) text = option_or (fixed_segment kind.Symbol symbol text) (one_of symbols text)

-- no symbol is longer than two characters, so one of two goes before one of one
abbrev pub symbol_segment : List ℕ → Option Found
symbol_segment text = option_or (one_of symbols_of_two text) (one_of symbols_of_one text)

abbrev pub command_segment : List ℕ → Found
command_segment text =
    unwrap_or (
    option_or (white_segment text) (
    option_or (fixed_segment kind.End (codes "}") text) (
    option_or (fixed_segment kind.SlashEnd (codes "/}") text) (
    option_or (name_segment kind.Word [] text) (
    option_or (variable_segment text) (
    option_or (int_segment text) (
    option_or (string_segment text) (
    option_or (attribute_segment text)
    (symbol_segment text))))))))
    ) (Fails 0)

-- directly after the `{` of a command a `/` with a name is one token, which closes
abbrev pub close_segment : List ℕ → Option Found
close_segment [] = None
close_segment (c ∷ cs) = if c == slash then name_segment kind.BeginClose (c ∷ []) cs else None

abbrev pub opened_segment : List ℕ → Found
opened_segment text = unwrap_or (close_segment text) (command_segment text)
