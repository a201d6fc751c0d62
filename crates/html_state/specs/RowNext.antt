-- The table of the tokenizer: the next row at a character, or the fault that the character is.
--
-- The rows are the states of WHATWG HTML, 13.2.5, in a profile: one row for each state that a page of this profile can
-- be in, and one for each few that act alike. In the text of an element that isn't data, a `<` and what follows it are
-- a begun end tag while they are a prefix of `<`, `/` and the element's name in any case. What proves to be none is
-- text of the element, given to its table then. In a script `<!--` is a fault.
-- Example: after `<title>a</ti` a `t` goes on with the end tag, and an `x` leads back to the text of the title.
use Rattle.std.specs.Prelude.{ℕ, ◌+◌, Bool, true, false, List, [], ◌∷◌, Option, Some, None, Result, Ok, Err, ◌==◌, ◌&&◌}
use Rattle.std.specs.Prelude.{◌||◌, if◌then◌else◌, codes, length, take, get_or, nat_lt}
use Rattle.std.specs.Char.{is_ascii_alphabetic, to_ascii_lowercase}
use Rattle.std.specs.Str.{bytes_eq}
use Rattle.soy_base.specs.declared.code.Code.{Code}
use Rattle.soy_base.specs.declared.code.Code.TheVariants as code
use Rattle.soy_base.specs.Among.{is_among}
use Rattle.soy_base.specs.Characters.{exclamation_mark, greater_than, less_than, minus_sign, question_mark, slash}
use Rattle.html_state.specs.declared.row.Begun.{Begun}
use Rattle.html_state.specs.declared.row.Begun.TheVariants as begun
use Rattle.html_state.specs.declared.row.DeclarationRow.{DeclarationRow}
use Rattle.html_state.specs.declared.row.DeclarationRow.TheVariants as declaration
use Rattle.html_state.specs.declared.row.Element.{Element}
use Rattle.html_state.specs.declared.row.HtmlRow.{HtmlRow}
use Rattle.html_state.specs.declared.row.HtmlRow.TheVariants as row
use Rattle.html_state.specs.declared.row.Tag.{Tag}
use Rattle.html_state.specs.declared.row.Tag.TheVariants as tag
use Rattle.html_state.specs.declared.row.TagKind.{TagKind}
use Rattle.html_state.specs.declared.row.TagKind.TheVariants as kind
use Rattle.html_state.specs.declared.row.TagRow.{TagRow}
use Rattle.html_state.specs.AfterAll.{after_all}
use Rattle.html_state.specs.DeclarationNext.{declaration_next}
use Rattle.html_state.specs.ElementNamed.{element_name, element_named, refused_names}
use Rattle.html_state.specs.ElementNext.{element_next, end_tag, is_script, may_end_element}
use Rattle.html_state.specs.EndsName.{ends_name}
use Rattle.html_state.specs.Kept.{name_with}
use Rattle.html_state.specs.TagRowNext.{past_name, tag_row_next}
use Rattle.html_state.specs.Texts.{and_then, is_prefix}

-- ---- data and tags

abbrev pub data_next : ℕ → HtmlRow
data_next c = if c == less_than then row.TagOpen else row.Data

abbrev pub opened : Option Element → HtmlRow
opened (Some now) = row.Within now
opened None = row.Data

-- past the `>` of a tag
abbrev pub after_tag : Tag → HtmlRow
after_tag tag.Block = row.Outside
after_tag (tag.Named kind.End name) = row.Data
after_tag (tag.Named kind.Start name) = opened (element_named name)

-- in the tag, or past its end
abbrev pub in_tag : Tag → Option TagRow → HtmlRow
in_tag around (Some inner) = row.InTag around inner
in_tag around None = after_tag around

-- a start tag of this name is refused
abbrev pub is_refused : TagKind → List ℕ → Bool
is_refused kind.Start name = is_among refused_names name
is_refused kind.End name = false

-- ---- declarations

-- in a comment or a declaration, or past its end
abbrev pub in_declaration : Option DeclarationRow → HtmlRow
in_declaration (Some inner) = row.InDeclaration inner
in_declaration None = row.Data

-- after `<!`, these characters and one more
abbrev pub markup_declaration_next : List ℕ → ℕ → HtmlRow
markup_declaration_next prefix c =
    let more = name_with prefix c in
    if bytes_eq more (codes "--") then row.InDeclaration declaration.CommentStart
    else (if bytes_eq more (codes "doctype") then row.InDeclaration declaration.Doctype
    else (if is_prefix more (codes "--") || is_prefix more (codes "doctype") then row.MarkupDeclaration more
    else in_declaration (declaration_next declaration.BogusComment c)))

-- ---- the text of an element

abbrev pub within_next : Element → ℕ → Result HtmlRow Code
within_next now c =
    if c == less_than then Ok (row.BegunEndTag now (begun.EndTag 1))
    else and_then (λ following. Ok (row.Within following)) (element_next now c)

-- these characters began no end tag: they are text, and so is the one that shows it
abbrev pub given_up : Element → List ℕ → ℕ → Result HtmlRow Code
given_up now characters c = and_then (λ following. within_next following c) (after_all element_next now characters)

-- what is begun after one more character that goes on with it
abbrev pub goes_on_begun : Element → Begun → ℕ → Option Begun
goes_on_begun now (begun.EndTag count) c =
    if nat_lt count (length (end_tag now)) && to_ascii_lowercase c == get_or (end_tag now) count 0
    then Some (begun.EndTag (count + 1))
    else (if is_script now && (count == 1 && c == exclamation_mark) then Some begun.Bang
    else None)
goes_on_begun now begun.Bang c = if c == minus_sign then Some begun.BangDash else None
goes_on_begun now begun.BangDash c = None

-- after one that doesn't
abbrev pub begun_end : Element → Begun → ℕ → Result HtmlRow Code
begun_end now (begun.EndTag count) c =
    if count == length (end_tag now) && ends_name c then
    (if may_end_element now then Ok (in_tag (tag.Named kind.End (element_name now)) (past_name c)) else Err code.Script)
    else given_up now (take count (end_tag now)) c
begun_end now begun.Bang c = given_up now (codes "<!") c
begun_end now begun.BangDash c = if c == minus_sign then Err code.Script else given_up now (codes "<!-") c

abbrev pub begun_or : Element → Option Begun → Result HtmlRow Code → Result HtmlRow Code
begun_or now (Some following) other = Ok (row.BegunEndTag now following)
begun_or now None other = other

abbrev pub end_tag_next : Element → Begun → ℕ → Result HtmlRow Code
end_tag_next now begun c = begun_or now (goes_on_begun now begun c) (begun_end now begun c)

-- ---- the table; the Bool says whether the character is one of static text

abbrev pub row_next : Bool → HtmlRow → ℕ → Result HtmlRow Code
row_next static row.Data c = Ok (data_next c)
row_next static row.TagOpen c =
    Ok (if c == exclamation_mark then row.MarkupDeclaration []
    else (if c == slash then row.EndTagOpen
    else (if is_ascii_alphabetic c then row.TagName kind.Start (name_with [] c)
    else (if c == question_mark then row.InDeclaration declaration.BogusComment
    else data_next c))))
row_next static row.EndTagOpen c =
    Ok (if is_ascii_alphabetic c then row.TagName kind.End (name_with [] c)
    else (if c == greater_than then row.Data
    else row.InDeclaration declaration.BogusComment))
row_next static (row.TagName kind name) c =
    if ends_name c then (if is_refused kind name then Err code.InName
    else Ok (in_tag (tag.Named kind name) (past_name c)))
    else Ok (row.TagName kind (name_with name c))
row_next static (row.InTag around inner) c = and_then (λ following. Ok (in_tag around following))
    (tag_row_next static inner c)
row_next static (row.MarkupDeclaration prefix) c = Ok (markup_declaration_next prefix c)
row_next static (row.InDeclaration inner) c = Ok (in_declaration (declaration_next inner c))
row_next static (row.Within now) c = within_next now c
row_next static (row.BegunEndTag now begun) c = end_tag_next now begun c
row_next static row.Outside c = Ok row.Outside
row_next static row.Plain c = Ok row.Plain
