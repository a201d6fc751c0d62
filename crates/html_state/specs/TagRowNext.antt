-- The rows within a tag, past its name: the next row at a character, none where the character ends the tag, or the
-- fault that the character is.
--
-- After an attribute's name the row is that before a name, since `=` is a fault in both. A quoted value is followed by
-- white space, `/`, `>` or directly by a further name. Directly after a printed block of attributes only the first
-- three may follow. (WHATWG HTML, 13.2.5.32 to 13.2.5.40.)
-- Example: before a name `>` ends the tag, `=` is fault 14, and `a` begins a name.
use Rattle.std.specs.Prelude.{ℕ, Bool, List, [], Option, Some, None, Result, Ok, Err, ◌==◌, if◌then◌else◌}
use Rattle.soy_base.specs.declared.code.Code.{Code}
use Rattle.soy_base.specs.declared.code.Code.TheVariants as code
use Rattle.std.specs.Char.{is_ascii_whitespace}
use Rattle.soy_base.specs.Characters.{double_quote, equals_sign, greater_than, single_quote, slash}
use Rattle.html_state.specs.declared.row.Attribute.{Attribute}
use Rattle.html_state.specs.declared.row.AttributeValue.{AttributeValue}
use Rattle.html_state.specs.declared.row.Quote.TheVariants as quote
use Rattle.html_state.specs.declared.row.TagRow.{TagRow}
use Rattle.html_state.specs.declared.row.TagRow.TheVariants as tag_row
use Rattle.html_state.specs.AttributeNamed.{attribute_named}
use Rattle.html_state.specs.EndsName.{ends_name}
use Rattle.html_state.specs.Kept.{name_with}
use Rattle.html_state.specs.Texts.{and_then}
use Rattle.html_state.specs.QuoteCharacter.{quote_character}
use Rattle.html_state.specs.ValueNext.{begun_value, may_end_value, value_next}

-- after white space, `/` or `>`
abbrev pub past_name : ℕ → Option TagRow
past_name c =
    if c == slash then Some tag_row.SelfClosing
    else (if c == greater_than then None
    else Some tag_row.BeforeName)

abbrev pub before_name : ℕ → Result (Option TagRow) Code
before_name c =
    if ends_name c then Ok (past_name c)
    else (if c == equals_sign then Err code.InName
    else Ok (Some (tag_row.AttributeName (name_with [] c))))

abbrev pub before_value : Bool → Attribute → ℕ → Result (Option TagRow) Code
before_value static attribute c =
    if is_ascii_whitespace c then Ok (Some (tag_row.BeforeValue attribute))
    else (if c == greater_than then Ok None
    else (if c == double_quote then Ok (Some (tag_row.Quoted quote.Double (begun_value attribute)))
    else (if c == single_quote then Ok (Some (tag_row.Quoted quote.Single (begun_value attribute)))
    else and_then (λ following. Ok (Some (tag_row.Unquoted following))) (value_next static (begun_value attribute) c))))

-- past the end of a value
abbrev pub past_value : AttributeValue → Option TagRow → Result (Option TagRow) Code
past_value value following = if may_end_value value then Ok following else Err code.Script

abbrev pub tag_row_next : Bool → TagRow → ℕ → Result (Option TagRow) Code
tag_row_next static tag_row.BeforeName c = before_name c
tag_row_next static tag_row.AfterPrinted c = if ends_name c then Ok (past_name c) else Err code.InName
tag_row_next static (tag_row.AttributeName name) c =
    if ends_name c then Ok (past_name c)
    else (if c == equals_sign then Ok (Some (tag_row.BeforeValue (attribute_named name)))
    else Ok (Some (tag_row.AttributeName (name_with name c))))
tag_row_next static (tag_row.BeforeValue attribute) c = before_value static attribute c
tag_row_next static (tag_row.Quoted quote value) c =
    if c == quote_character quote then past_value value (Some tag_row.AfterQuoted)
    else and_then (λ following. Ok (Some (tag_row.Quoted quote following))) (value_next static value c)
tag_row_next static (tag_row.Unquoted value) c =
    if is_ascii_whitespace c then past_value value (Some tag_row.BeforeName)
    else (if c == greater_than then past_value value None
    else and_then (λ following. Ok (Some (tag_row.Unquoted following))) (value_next static value c))
tag_row_next static tag_row.AfterQuoted c = before_name c
tag_row_next static tag_row.SelfClosing c = before_name c
