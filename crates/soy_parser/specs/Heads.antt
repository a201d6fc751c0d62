-- The attributes that a command takes after its head, and what it says with them and its end.
-- Example: `{msg desc="a"}` has the head `msg`, an attribute and an end; `{let $x: 1 /}` has no attribute, and `/}` as
-- its end.
use Rattle.std.specs.Prelude.{◌≡◌, ℕ, nat_le, Bool, true, false, not, ◌&&◌, List, [], ◌∷◌, ◌++◌, Option, Some, None}
use Rattle.std.specs.Prelude.{option_map, unwrap_or, is_some, codes, if◌then◌else◌}
use Rattle.std.specs.Str.{bytes_eq}
use Rattle.soy_base.specs.Names.{is_name}
use Rattle.soy_base.specs.declared.kind.Kind.{Kind}
use Rattle.soy_base.specs.declared.kind.Kind.TheVariants as block_kind
use Rattle.soy_lexer.specs.LongestToken.{is_int}
use Rattle.std.specs.Char.{is_ascii_digit}
use Rattle.std.specs.List.{list_all}
use Rattle.soy_lexer.specs.CommandSegment.{number_after}
use Rattle.soy_base.specs.Limits.{largest}
use Rattle.soy_lexer.specs.declared.token.Token.{Token}
use Rattle.soy_parser.specs.declared.attributes.AttributeName.{AttributeName}
use Rattle.soy_parser.specs.declared.attributes.AttributeName.TheVariants as attribute
use Rattle.soy_parser.specs.declared.attributes.Attributes.{Attributes}
use Rattle.soy_parser.specs.declared.command.Middle.TheVariants as middle
use Rattle.soy_parser.specs.declared.command.Opening.TheVariants as opening
use Rattle.soy_parser.specs.declared.command.Single.TheVariants as single
use Rattle.soy_parser.specs.declared.command.CommandForm.{CommandForm}
use Rattle.soy_parser.specs.declared.command.CommandForm.TheVariants as says
use Rattle.soy_parser.specs.declared.head.Head.{Head}
use Rattle.soy_parser.specs.declared.head.Head.TheVariants as head
use Rattle.soy_parser.specs.declared.terminal.CommandTerminal.{CommandTerminal}
use Rattle.soy_parser.specs.declared.terminal.CommandTerminal.TheVariants as terminal
use Rattle.soy_parser.specs.declared.terminal.CommandWord.TheVariants as word
use Rattle.soy_parser.specs.CommandTerminals.{command_terminal_of}

abbrev pub no_attributes : Attributes
no_attributes = record {
  kind = None;
  private = false;
  all = false;
  desc = None;
  meaning = None;
  offset = None;
  phname = None;
}

-- the attribute that a token names
abbrev pub attribute_name : CommandTerminal → Option AttributeName
attribute_name (terminal.Word word.Kind) = Some attribute.Kind
attribute_name (terminal.Word word.Visibility) = Some attribute.Visibility
attribute_name (terminal.Word word.Data) = Some attribute.Data
attribute_name (terminal.Word word.Desc) = Some attribute.Desc
attribute_name (terminal.Word word.Meaning) = Some attribute.Meaning
attribute_name (terminal.Word word.Offset) = Some attribute.Offset
attribute_name (terminal.Word word.Phname) = Some attribute.Phname
attribute_name _ = None

-- whether a command may have this attribute after those
abbrev pub allows : Head → Attributes → AttributeName → Bool
allows (head.Template name) a attribute.Kind = not (is_some a.kind)
allows (head.Template name) a attribute.Visibility = not a.private
allows (head.Let name) a attribute.Kind = not (is_some a.kind)
allows (head.Param name) a attribute.Kind = not (is_some a.kind)
allows (head.Call name) a attribute.Data = not a.all
allows head.Message a attribute.Desc = not (is_some a.desc)
allows head.Message a attribute.Meaning = not (is_some a.meaning)
allows head.Fallback a attribute.Desc = not (is_some a.desc)
allows head.Fallback a attribute.Meaning = not (is_some a.meaning)
allows (head.Plural e) a attribute.Offset = not (is_some a.offset)
allows (head.MessagePrint e) a attribute.Phname = not (is_some a.phname)
allows _ a n = false

abbrev pub kind_named : List ℕ → Option Kind
kind_named text =
    if bytes_eq text (codes "html") then Some block_kind.Html else
    if bytes_eq text (codes "attributes") then Some block_kind.Attributes else
    if bytes_eq text (codes "text") then Some block_kind.Text else
    None

abbrev pub with_kind : Attributes → Kind → Attributes
with_kind a k = record a { kind = Some k }

-- the number that decimal digits write after those of n, if it isn't over the largest int
abbrev pub digits_value : ℕ → List ℕ → Option ℕ
digits_value n digits =
    if list_all is_ascii_digit digits && nat_le (number_after n digits) largest then
    Some (number_after n digits) else None

-- the int that a text writes, if it writes one
abbrev pub written_int : List ℕ → Option ℕ
written_int text = if is_int text then Some (number_after 0 text) else None

abbrev pub with_offset : Attributes → List ℕ → Option Attributes
with_offset a text = if is_int text then Some (record a { offset = Some (number_after 0 text) }) else None

abbrev pub with_phname : Attributes → List ℕ → Option Attributes
with_phname a text = if is_name text then Some (record a { phname = Some text }) else None

-- the attributes with this one, whose value is this; none where it isn't allowed there
abbrev pub with_attribute : Attributes → AttributeName → List ℕ → Option Attributes
with_attribute a attribute.Kind text = option_map (with_kind a) (kind_named text)
with_attribute a attribute.Visibility text =
    if bytes_eq text (codes "private") then Some (record a { private = true }) else None
with_attribute a attribute.Data text = if bytes_eq text (codes "all") then Some (record a { all = true }) else None
with_attribute a attribute.Desc text = Some (record a { desc = Some text })
with_attribute a attribute.Meaning text = Some (record a { meaning = Some text })
with_attribute a attribute.Offset text = with_offset a text
with_attribute a attribute.Phname text = with_phname a text

-- these tokens are attributes of a command with this head: in any order, each at most once
pub data SpellsAttributes : Head → List Token → Attributes → Type 0 where
  none_ : (h : Head) → SpellsAttributes h [] no_attributes
  more_ : (h : Head) (ts : List Token) (a b : Attributes) (name equals value : Token) (n : AttributeName)
      → SpellsAttributes h ts a → attribute_name (command_terminal_of name) ≡ Some n → allows h a n ≡ true
      → command_terminal_of equals ≡ terminal.Equals → command_terminal_of value ≡ terminal.Attribute
      → with_attribute a n value.text ≡ Some b
      → SpellsAttributes h (ts ++ (name ∷ (equals ∷ (value ∷ [])))) b

-- what a command says that ends with `}`

abbrev pub message_form : (List ℕ → List ℕ → CommandForm) → Attributes → Option CommandForm
message_form make a = option_map (λ desc. make desc (unwrap_or a.meaning [])) a.desc

abbrev pub template_form : List ℕ → Attributes → CommandForm
template_form name a =
    says.Opens (opening.Template (record { name = name; kind = unwrap_or a.kind block_kind.Html; private = a.private }))

abbrev pub plain_form : Head → Attributes → Option CommandForm
plain_form (head.Whole of) a = Some of
plain_form (head.Alone of) a = None
plain_form (head.Template name) a = Some (template_form name a)
plain_form (head.MessagePrint e) a = Some (says.Single (single.MessagePrint e a.phname))
plain_form (head.Let name) a = option_map (λ kind. says.Opens (opening.Let name kind)) a.kind
plain_form (head.Param name) a = option_map (λ kind. says.Opens (opening.Param name kind)) a.kind
plain_form (head.Call name) a = Some (says.Opens (opening.Call name a.all))
plain_form head.Message a = message_form (λ desc meaning. says.Opens (opening.Message desc meaning)) a
plain_form head.Fallback a = message_form (λ desc meaning. says.GoesOn (middle.Fallback desc meaning)) a
plain_form (head.Plural e) a = Some (says.Opens (opening.Plural e (unwrap_or a.offset 0)))

-- and one that ends with `/}`
abbrev pub slash_form : Head → Attributes → Option CommandForm
slash_form (head.Alone of) a = Some (says.Single of)
slash_form (head.Call name) a = Some (says.Single (single.Call name a.all))
slash_form _ a = None

abbrev pub form_at : Head → Attributes → CommandTerminal → Option CommandForm
form_at h a terminal.End = plain_form h a
form_at h a terminal.SlashEnd = slash_form h a
form_at h a _ = None
