-- Elements with their direction (WHATWG HTML, "The dir attribute"; a `bdi` without one is `auto`), and which tags open
-- and close them.
--
-- A start tag opens an element unless the element can have no content. An end tag closes the innermost open element of
-- its name and all that were opened in it. The direction of an element is that of its `dir`; for `auto` it goes by the
-- first character of class L, R or AL among the static characters of its content, where the content of elements inside
-- that have a `dir` or are `bdi` doesn't count.
--
-- In `<bdi><b dir="ltr">a</b>1</bdi>` no character counts, so the `bdi` is from left to right.
use Rattle.std.specs.Prelude.{ℕ, Bool, true, false, ◌||◌, if◌then◌else◌, List, [], ◌∷◌, map, Option, Some, None, codes}
use Rattle.std.specs.Char.{to_ascii_lowercase}
use Rattle.std.specs.List.{list_any}
use Rattle.std.specs.Option.{is_some}
use Rattle.std.specs.Str.{bytes_eq}
use Rattle.soy_base.specs.Among.{is_among}
use Rattle.bidi_class.specs.Class.{bidi_class}
use Rattle.bidi_text.specs.Estimate.{is_strong, is_right_to_left}
use Rattle.bidi_order.specs.MarkupTokens.{MarkupToken}
use Rattle.bidi_order.specs.MarkupTokens.MarkupToken.{Character, StartTag, EndTag}

-- the elements that stand within a line (WHATWG HTML, "Phrasing content", in this project's choice); the tags of all
-- others end a line
abbrev pub inline_names : List (List ℕ)
inline_names =
    codes "a" ∷ codes "abbr" ∷ codes "b" ∷ codes "bdi" ∷ codes "bdo" ∷ codes "big" ∷ codes "cite" ∷ codes "code" ∷
    codes "data" ∷ codes "del" ∷ codes "dfn" ∷ codes "em" ∷ codes "font" ∷ codes "i" ∷ codes "ins" ∷ codes "kbd" ∷
    codes "label" ∷ codes "mark" ∷ codes "q" ∷ codes "s" ∷ codes "samp" ∷ codes "small" ∷ codes "span" ∷
    codes "strong" ∷ codes "sub" ∷ codes "sup" ∷ codes "time" ∷ codes "tt" ∷ codes "u" ∷ codes "var" ∷ []

abbrev pub is_inline : List ℕ → Bool
is_inline name = is_among inline_names name

-- the elements that have no content (WHATWG HTML, "Void elements")
abbrev pub void_names : List (List ℕ)
void_names =
    codes "area" ∷ codes "base" ∷ codes "br" ∷ codes "col" ∷ codes "embed" ∷ codes "hr" ∷ codes "img" ∷
    codes "input" ∷ codes "link" ∷ codes "meta" ∷ codes "source" ∷ codes "track" ∷ codes "wbr" ∷ []

abbrev pub is_void : List ℕ → Bool
is_void name = is_among void_names name

-- what a `dir` may say
pub data DirAttribute : Type 0 where
  IsLtr : DirAttribute
  IsRtl : DirAttribute
  IsAuto : DirAttribute

abbrev pub dir_of_value : List ℕ → Option DirAttribute
dir_of_value value =
    if bytes_eq value (codes "ltr") then Some IsLtr
    else if bytes_eq value (codes "rtl") then Some IsRtl
    else if bytes_eq value (codes "auto") then Some IsAuto
    else None

-- of the value of a first `dir`, in any case; another value is none
abbrev pub dir_attribute : Option (List ℕ) → Option DirAttribute
dir_attribute None = None
dir_attribute (Some value) = dir_of_value (map to_ascii_lowercase value)

-- ---- which elements are open

-- the open elements, innermost first, that stay open where the innermost of a name is closed, with those that were
-- opened in it; none where none has the name
abbrev pub left_open : {X : Type 0} → (X → List ℕ) → List ℕ → List X → Option (List X)
left_open name_of name [] = None
left_open name_of name (x ∷ xs) = if bytes_eq (name_of x) name then Some xs else left_open name_of name xs

-- ---- a direction that goes by the content

-- an element opened in the content, and whether its own content stands apart and so doesn't count
pub record InnerElement : Type 0 where
  pub name : List ℕ
  pub is_apart : Bool

abbrev pub inner_element : List ℕ → Option (List ℕ) → InnerElement
inner_element name dir =
    record { name = name; is_apart = is_some (dir_attribute dir) || bytes_eq name (codes "bdi") }

-- a character counts: it is static, has a direction, and stands in no element that is apart
abbrev pub counts : List InnerElement → ℕ → Option ℕ → Bool
counts inner c (Some k) = false
counts inner c None =
    if list_any (λ (e : InnerElement). e.is_apart) inner then false else is_strong (bidi_class c)

-- the first character of an element's content that counts is R or AL. The element and those around it have these names,
-- innermost first; these elements are open in it
abbrev pub content_right_to_left : List (List ℕ) → List InnerElement → List MarkupToken → Bool
content_right_to_left outer inner [] = false
content_right_to_left outer inner (Character c label ∷ rest) =
    if counts inner c label then is_right_to_left (bidi_class c) else content_right_to_left outer inner rest
content_right_to_left outer inner (StartTag name dir label ∷ rest) =
    content_right_to_left outer (if is_void name then inner else inner_element name dir ∷ inner) rest
content_right_to_left outer inner (EndTag name ∷ rest) =
    elim (left_open (λ (e : InnerElement). e.name) name inner) [
      | Some left ↦ content_right_to_left outer left rest
      | None ↦ if is_among outer name then false else content_right_to_left outer inner rest
    ]

-- ---- open elements

pub record OpenElement : Type 0 where
  pub name : List ℕ
  -- true is from right to left
  pub direction : Option Bool
  -- it is a `bdo` whose `dir` is `ltr` or `rtl`
  pub overrides : Bool
  pub label : Option ℕ

-- the direction of an element inside elements of these names, before this content
abbrev pub element_direction : List (List ℕ) → List ℕ → Option DirAttribute → List MarkupToken → Option Bool
element_direction outer name (Some IsLtr) rest = Some false
element_direction outer name (Some IsRtl) rest = Some true
element_direction outer name (Some IsAuto) rest = Some (content_right_to_left (name ∷ outer) [] rest)
element_direction outer name None rest =
    if bytes_eq name (codes "bdi") then Some (content_right_to_left (name ∷ outer) [] rest) else None

abbrev pub has_override : List ℕ → Option DirAttribute → Bool
has_override name (Some IsLtr) = bytes_eq name (codes "bdo")
has_override name (Some IsRtl) = bytes_eq name (codes "bdo")
has_override name _ = false

-- the element of a start tag
abbrev pub opened_element : List OpenElement → List ℕ → Option (List ℕ) → Option ℕ → List MarkupToken → OpenElement
opened_element open_ones name dir label rest = record {
  name = name;
  direction = element_direction (map (λ (e : OpenElement). e.name) open_ones) name (dir_attribute dir) rest;
  overrides = has_override name (dir_attribute dir);
  label = label;
}

-- those of the open elements that an end tag of the name closes, innermost first, if one has the name
abbrev pub elements_closed : List ℕ → List OpenElement → List OpenElement
elements_closed name [] = []
elements_closed name (e ∷ es) = if bytes_eq e.name name then e ∷ [] else e ∷ elements_closed name es

-- those that stay open; none where none has the name
abbrev pub elements_left : List ℕ → List OpenElement → Option (List OpenElement)
elements_left name open_ones = left_open (λ (e : OpenElement). e.name) name open_ones
