-- The state after one more character, static or of a value, and after the end of a static text.
--
-- A state is a row and a reference that isn't decided. A static `&` may begin a reference in data, in the text of
-- `title` and `textarea` and in quoted values; the characters after it decide whether it is one, an `&` that stands for
-- itself, or a fault. In an unquoted value of a URI attribute it begins none, and is pending until the next character.
-- In a style attribute each `&` is fault 17, and so is one before `#` in a URI attribute. A character of a value begins
-- no reference. (WHATWG HTML, 13.2.5.72 to 13.2.5.80.)
-- Example: in `a&b c` the space is fault 16, and in `a & b` it shows that the `&` is an ampersand.
use Rattle.std.specs.Prelude.{ℕ, Bool, true, false, not, ◌==◌, ◌&&◌, if◌then◌else◌, List, [], ◌∷◌, drop, Result, Ok}
use Rattle.std.specs.Prelude.{Err}
use Rattle.std.specs.Char.{is_ascii_alphanumeric}
use Rattle.soy_base.specs.declared.code.Code.{Code}
use Rattle.soy_base.specs.declared.code.Code.TheVariants as code
use Rattle.soy_base.specs.Among.{is_among}
use Rattle.soy_base.specs.Characters.{ampersand, equals_sign, number_sign, semicolon}
use Rattle.html_state.specs.declared.row.Attribute.TheVariants as attribute
use Rattle.html_state.specs.declared.row.AttributeValue.TheVariants as value
use Rattle.html_state.specs.declared.row.Element.TheVariants as element
use Rattle.html_state.specs.declared.row.Reference.{Reference}
use Rattle.html_state.specs.declared.row.Reference.TheVariants as reference
use Rattle.html_state.specs.declared.row.HtmlRow.{HtmlRow}
use Rattle.html_state.specs.declared.row.HtmlRow.TheVariants as row
use Rattle.html_state.specs.declared.row.State.{State}
use Rattle.html_state.specs.declared.row.TagRow.{TagRow}
use Rattle.html_state.specs.declared.row.TagRow.TheVariants as tag_row
use Rattle.html_state.specs.Kept.{prefix_with}
use Rattle.html_state.specs.References.{begins_numeric, is_numeric, name_begun, reference_names}
use Rattle.html_state.specs.RowNext.{row_next}
use Rattle.html_state.specs.Texts.{and_then}

abbrev pub pending : HtmlRow → Reference → State
pending now reference = record { row = now; reference = reference }

abbrev pub at_row : HtmlRow → State
at_row now = pending now reference.Decided

-- ---- which rows the rules of references speak of

-- an `&` here is one of a style attribute's value
abbrev pub is_style_in_tag : TagRow → Bool
is_style_in_tag (tag_row.BeforeValue attribute.Style) = true
is_style_in_tag (tag_row.Quoted _ (value.Style _)) = true
is_style_in_tag (tag_row.Unquoted (value.Style _)) = true
is_style_in_tag _ = false

abbrev pub is_quoted_in_tag : TagRow → Bool
is_quoted_in_tag (tag_row.Quoted _ _) = true
is_quoted_in_tag _ = false

abbrev pub is_unquoted_in_tag : TagRow → Bool
is_unquoted_in_tag (tag_row.Unquoted _) = true
is_unquoted_in_tag _ = false

abbrev pub is_uri_in_tag : TagRow → Bool
is_uri_in_tag (tag_row.Quoted _ (value.Uri _ _)) = true
is_uri_in_tag (tag_row.Unquoted (value.Uri _ _)) = true
is_uri_in_tag _ = false

-- an `&` that led here is pending
abbrev pub has_references_in_tag : TagRow → Bool
has_references_in_tag (tag_row.Quoted _ _) = true
has_references_in_tag (tag_row.Unquoted (value.Uri _ _)) = true
has_references_in_tag _ = false

abbrev pub is_style_value : HtmlRow → Bool
is_style_value (row.InTag _ inner) = is_style_in_tag inner
is_style_value _ = false

abbrev pub is_quoted : HtmlRow → Bool
is_quoted (row.InTag _ inner) = is_quoted_in_tag inner
is_quoted _ = false

abbrev pub is_unquoted : HtmlRow → Bool
is_unquoted (row.InTag _ inner) = is_unquoted_in_tag inner
is_unquoted _ = false

abbrev pub is_uri_value : HtmlRow → Bool
is_uri_value (row.InTag _ inner) = is_uri_in_tag inner
is_uri_value _ = false

abbrev pub has_references : HtmlRow → Bool
has_references row.Data = true
has_references (row.Within element.Title) = true
has_references (row.Within element.Textarea) = true
has_references (row.InTag _ inner) = has_references_in_tag inner
has_references _ = false

-- ---- a static character

-- the reference that a character begins with which this row is reached
abbrev pub begun_reference : HtmlRow → ℕ → Reference
begun_reference now c = if c == ampersand && has_references now then reference.Begun [] else reference.Decided

-- where no reference is pending
abbrev pub plain_next : HtmlRow → ℕ → Result State Code
plain_next now c =
    if c == ampersand && is_style_value now then Err code.Reference
    else and_then (λ following. Ok (pending following (begun_reference following c))) (row_next true now c)

-- directly after `&`
abbrev pub ampersand_next : HtmlRow → ℕ → Result State Code
ampersand_next now c =
    if c == number_sign then (if is_uri_value now then Err code.Reference
    else Ok (pending now (reference.Begun (prefix_with [] c))))
    else (if is_ascii_alphanumeric c && not (is_unquoted now) then Ok (pending now (name_begun (prefix_with [] c)))
    else plain_next now c)

-- after `&#` and these characters
abbrev pub numeric_next : List ℕ → ℕ → Result Reference Code
numeric_next digits c =
    if c == semicolon then (if is_numeric digits then Ok reference.Decided else Err code.Reference)
    else (if is_ascii_alphanumeric c && begins_numeric (drop 1 (prefix_with (number_sign ∷ digits) c)) then
    Ok (reference.Begun (prefix_with (number_sign ∷ digits) c))
    else Err code.Reference)

-- the character that ends letters and digits after `&`, which are a name or not
abbrev pub name_end : HtmlRow → Bool → ℕ → Result State Code
name_end now is_name c =
    if c == semicolon then (if is_name then Ok (at_row now) else Err code.Reference)
    else (if c == equals_sign && is_quoted now then plain_next now c
    else Err code.Ampersand)

-- after `&` and these letters and digits, which begin a name
abbrev pub name_next : HtmlRow → List ℕ → ℕ → Result State Code
name_next now letters c =
    if is_ascii_alphanumeric c then Ok (pending now (name_begun (prefix_with letters c)))
    else name_end now (is_among reference_names letters) c

-- after `&` and these characters
abbrev pub reference_begun_next : HtmlRow → List ℕ → ℕ → Result State Code
reference_begun_next now [] c = ampersand_next now c
reference_begun_next now (first ∷ rest) c =
    if first == number_sign then and_then (λ following. Ok (pending now following)) (numeric_next rest c)
    else name_next now (first ∷ rest) c

abbrev pub reference_next : HtmlRow → Reference → ℕ → Result State Code
reference_next now reference.Decided c = plain_next now c
reference_next now (reference.Begun prefix) c = reference_begun_next now prefix c
reference_next now reference.NoName c =
    if is_ascii_alphanumeric c then Ok (pending now reference.NoName)
    else name_end now false c

abbrev pub next : State → ℕ → Result State Code
next state c = reference_next state.row state.reference c

-- ---- a character of a value, and the end of a static text

abbrev pub value_character_next : State → ℕ → Result State Code
value_character_next state c = and_then (λ following. Ok (pending following state.reference))
    (row_next false state.row c)

abbrev pub is_decided : Reference → Bool
is_decided reference.Decided = true
is_decided _ = false

abbrev pub text_end : State → Result State Code
text_end state = if is_decided state.reference then Ok state else Err code.Ampersand
