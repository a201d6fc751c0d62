-- The characters of text and the tags of a page, in their order, read from pieces by the states of the tokenizer
-- (WHATWG HTML, 13.2.5).
--
-- A character of text has its references decoded, and the label of the piece that it stands in: none for static text, k
-- for the value of number k. A `<` that begins no tag, comment or DOCTYPE is text too. Of a start tag its name is known
-- and the value of its first attribute `dir`, of an end tag its name; names are whole and in lower case. RCDATA,
-- RAWTEXT, scripts, comments, DOCTYPEs and `</>` give nothing, nor does a tag that the pieces' end cuts off. What
-- follows a character that is a fault is left out, and what follows a static text whose end is one, as that of `a&`.
--
-- `a<B DIR=rtl>` gives the character `a` and the start tag `b` with the `dir` `rtl`.
use Rattle.std.specs.Prelude.{ℕ, suc, ◌==◌, if◌then◌else◌, List, [], ◌∷◌, ◌++◌, map, Option}
use Rattle.std.specs.Prelude.{Some}
use Rattle.std.specs.Prelude.{None, Result, Ok, Err, codes}
use Rattle.std.specs.Char.{to_ascii_lowercase}
use Rattle.std.specs.Option.{is_some}
use Rattle.std.specs.Str.{bytes_eq}
use Rattle.soy_base.specs.declared.code.Code.{Code}
use Rattle.soy_base.specs.declared.kind.Kind.TheVariants as kind
use Rattle.soy_base.specs.Characters.{less_than}
use Rattle.html_state.specs.declared.row.HtmlRow.{HtmlRow}
use Rattle.html_state.specs.declared.row.HtmlRow.TheVariants as row
use Rattle.html_state.specs.declared.row.State.{State}
use Rattle.html_state.specs.declared.row.Tag.TheVariants as tag
use Rattle.html_state.specs.declared.row.TagKind.{TagKind}
use Rattle.html_state.specs.declared.row.TagKind.TheVariants as tag_kind
use Rattle.html_state.specs.declared.row.TagRow.{TagRow}
use Rattle.html_state.specs.declared.row.TagRow.TheVariants as tag_row
use Rattle.html_state.specs.ElementNamed.{element_name}
use Rattle.html_state.specs.Leads.{marked}
use Rattle.html_state.specs.Next.{next, text_end, value_character_next}
use Rattle.soy_base.specs.Piece.{Piece}
use Rattle.soy_base.specs.Piece.Piece.{Static, Value}
use Rattle.html_state.specs.Start.{start}
use Rattle.bidi_order.specs.DecodedReferences.{character_given, character_pending, decoded, pending_text}

pub data MarkupToken : Type 0 where
  -- a character of text, and its label
  Character : ℕ → Option ℕ → MarkupToken
  -- a name, the value of the first `dir` if there is one, and the label of the tag's `<`
  StartTag : List ℕ → Option (List ℕ) → Option ℕ → MarkupToken
  -- a name
  EndTag : List ℕ → MarkupToken

-- what is known of a tag that is being read
pub record TagReading : Type 0 where
  pub name : List ℕ
  -- the name of the last attribute and its value, so far
  pub attribute : List ℕ
  pub value : List ℕ
  -- the value of the first `dir`, which is empty where it has none
  pub dir : Option (List ℕ)

-- what is known of the pieces so far
pub record PageReading : Type 0 where
  pub state : State
  pub tag : TagReading
  -- the characters of text that may be a reference
  pub reference : Option (List ℕ)
  -- the label of the last `<` in text
  pub opening : Option ℕ

abbrev pub no_tag : TagReading
no_tag = record { name = []; attribute = []; value = []; dir = None }

abbrev pub first_reading : PageReading
first_reading = record { state = start kind.Html; tag = no_tag; reference = None; opening = None }

-- ---- tags

-- a tag of which one character, or the whole name, is known
abbrev pub named_tag : List ℕ → TagReading
named_tag name = record { name = name; attribute = []; value = []; dir = None }

-- after the value of its last attribute
abbrev pub with_value : List ℕ → TagReading → TagReading
with_value value t =
    if bytes_eq t.attribute (codes "dir") then record t { dir = if is_some t.dir then t.dir else Some value } else t

-- after a character in a tag, by the row before it and the row after it, none where it ends the tag
abbrev pub tag_read : TagRow → Option TagRow → ℕ → TagReading → TagReading
tag_read (tag_row.AttributeName _) (Some (tag_row.AttributeName _)) c t =
    record t { attribute = t.attribute ++ to_ascii_lowercase c ∷ [] }
tag_read (tag_row.AttributeName _) (Some (tag_row.BeforeValue _)) c t = t
tag_read (tag_row.AttributeName _) _ c t = with_value [] t
tag_read (tag_row.BeforeValue _) (Some (tag_row.Unquoted _)) c t = record t { value = c ∷ [] }
tag_read (tag_row.BeforeValue _) None c t = with_value [] t
tag_read (tag_row.BeforeValue _) _ c t = t
tag_read (tag_row.Quoted _ _) (Some (tag_row.Quoted _ _)) c t = record t { value = t.value ++ c ∷ [] }
tag_read (tag_row.Quoted _ _) _ c t = with_value (decoded t.value) t
tag_read (tag_row.Unquoted _) (Some (tag_row.Unquoted _)) c t = record t { value = t.value ++ c ∷ [] }
tag_read (tag_row.Unquoted _) _ c t = with_value t.value t
tag_read _ (Some (tag_row.AttributeName _)) c t = record t { attribute = to_ascii_lowercase c ∷ []; value = [] }
tag_read _ _ c t = t

-- the row in the tag, where a row is still in one
abbrev pub row_in_tag : HtmlRow → Option TagRow
row_in_tag (row.InTag _ inner) = Some inner
row_in_tag _ = None

-- a whole tag
abbrev pub tag_token : TagKind → TagReading → Option ℕ → List MarkupToken
tag_token tag_kind.Start t label = StartTag t.name t.dir label ∷ []
tag_token tag_kind.End t label = EndTag t.name ∷ []

-- ---- characters

-- the tokens that a character gives, and what is known after it
abbrev pub TokensRead : Type 0
TokensRead = List MarkupToken × PageReading

abbrev pub labelled_characters : Option ℕ → List ℕ → List MarkupToken
labelled_characters label cs = map (λ (c : ℕ). Character c label) cs

-- what a character of text gives, which is decoded up to a `<`, and what may be a reference after it
abbrev pub text_given : Option (List ℕ) → ℕ → List ℕ
text_given pending c = if c == less_than then pending_text pending else character_given pending c

abbrev pub text_pending : Option (List ℕ) → ℕ → Option (List ℕ)
text_pending pending c = if c == less_than then None else character_pending pending c

-- a character in text
abbrev pub text_read : Option ℕ → ℕ → PageReading → TokensRead
text_read label c r = (
  labelled_characters label (text_given r.reference c),
  record r { reference = text_pending r.reference c; opening = if c == less_than then label else r.opening },
)

-- a character directly after a `<` that begins nothing
abbrev pub less_than_read : Option ℕ → ℕ → PageReading → TokensRead
less_than_read label c r = (Character less_than r.opening ∷ (text_read label c r).0, (text_read label c r).1)

-- a character after which the row is in a tag, or past its end
abbrev pub in_tag_read : TagKind → TagReading → HtmlRow → Option ℕ → PageReading → TokensRead
in_tag_read kind t (row.InTag _ _) label r = ([], record r { tag = t })
in_tag_read kind t _ label r = (tag_token kind t label, record r { tag = no_tag })

-- a character, by the row before it and the row after it
abbrev pub character_read : HtmlRow → HtmlRow → Option ℕ → ℕ → PageReading → TokensRead
character_read row.Data after label c r = text_read label c r
character_read row.TagOpen row.Data label c r = less_than_read label c r
character_read row.TagOpen row.TagOpen label c r = less_than_read label c r
character_read row.TagOpen (row.TagName _ _) label c r = ([], record r { tag = named_tag (to_ascii_lowercase c ∷ []) })
character_read row.EndTagOpen (row.TagName _ _) label c r =
    ([], record r { tag = named_tag (to_ascii_lowercase c ∷ []) })
character_read (row.TagName _ _) (row.TagName _ _) label c r =
    ([], record r { tag = named_tag (r.tag.name ++ to_ascii_lowercase c ∷ []) })
character_read (row.TagName kind _) after label c r = in_tag_read kind r.tag after r.opening r
character_read (row.InTag (tag.Named kind _) inner) after label c r =
    in_tag_read kind (tag_read inner (row_in_tag after) c r.tag) after r.opening r
character_read (row.BegunEndTag now _) (row.InTag _ _) label c r =
    ([], record r { tag = named_tag (element_name now) })
character_read (row.BegunEndTag now _) row.Data label c r = (EndTag (element_name now) ∷ [], r)
character_read _ _ label c r = ([], r)

-- ---- pieces

-- the state after a character of the label
abbrev pub next_by_label : Option ℕ → State → ℕ → Result State Code
next_by_label None state c = next state c
next_by_label (Some k) state c = value_character_next state c

-- the tokens of a text of one label, and what is known after it; none where one of its characters is a fault
abbrev pub read_all : Option ℕ → PageReading → List ℕ → List MarkupToken × Option PageReading
read_all label r [] = ([], Some r)
read_all label r (c ∷ cs) = elim (next_by_label label r.state c) [
  | Ok state ↦
      let read = character_read r.state.row state.row label c r in
      let more = read_all label (record read.1 { state = state }) cs in
      (read.0 ++ more.0, more.1)
  | Err code ↦ ([], None)
]

-- the tokens of pieces, their values numbered from a number on. A static text that ends in a reference that isn't
-- decided is a fault. What such characters of a value are is text of the value: no reference goes on in the next piece.
-- A value leaves its mark on the state
abbrev pub tokens_from : ℕ → PageReading → List Piece → List MarkupToken
tokens_from k r [] = []
tokens_from k r (Static text ∷ pieces) =
    let read = read_all None r text in
    read.0
    ++ elim read.1 [
      | None ↦ []
      | Some now ↦ elim (text_end now.state) [ Ok state ↦ tokens_from k now pieces | Err code ↦ [] ]
    ]
tokens_from k r (Value out ∷ pieces) =
    let read = read_all (Some k) r out in
    read.0
    ++ elim read.1 [
      | None ↦ []
      | Some now ↦
          labelled_characters (Some k) (pending_text now.reference)
          ++ tokens_from (suc k) (record now { state = marked r.state now.state; reference = None }) pieces
    ]

abbrev pub tokens_of : List Piece → List MarkupToken
tokens_of pieces = tokens_from 0 first_reading pieces
