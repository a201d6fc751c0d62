-- The lines of a page: its characters by the tags that end a line, each line with the direction of its base, and with
-- the isolates and overrides that stand for its inline elements (WHATWG HTML, "Rendering", "Bidirectional text", and
-- UAX #9, 4.3, HL3).
--
-- A tag that isn't inline ends a line, and so does a static character of class B other than LF and CR; neither stands
-- in a line. White space of HTML stands as U+0020. An inline element with a direction stands as LRI or RLI and its
-- close as PDI; a `bdo` that overrides has LRO or RLO and PDF inside these. A line begins with what stands for each
-- inline element that is open, outermost first, and its base is the direction of the innermost open block that has one,
-- else the context's. What stands for a value's span has the value's label.
--
-- `<p dir="rtl">a <b dir="ltr">c<br>d` has three lines: an empty one; with base 1 `a`, space, LRI, `c`; and with base 1
-- LRI, `d`.
use Rattle.std.specs.Prelude.{ℕ, Bool, true, false, not, ◌==◌, ◌&&◌, ◌||◌, if◌then◌else◌, List, [], ◌∷◌, ◌++◌, reverse}
use Rattle.std.specs.Prelude.{Option, Some, None}
use Rattle.std.specs.Char.{is_ascii_whitespace}
use Rattle.std.specs.List.{flat_map}
use Rattle.std.specs.Option.{is_some}
use Rattle.soy_base.specs.declared.direction.Dir.{Dir}
use Rattle.soy_base.specs.declared.direction.Dir.TheVariants.{Ltr, Rtl}
use Rattle.soy_base.specs.Characters.{carriage_return, line_feed, space}
use Rattle.bidi_class.specs.declared.class.Class.{Class}
use Rattle.bidi_class.specs.declared.class.Class.TheVariants.{B}
use Rattle.bidi_class.specs.Class.{bidi_class}
use Rattle.soy_base.specs.Piece.{Piece}
use Rattle.bidi_order.specs.Elements.{OpenElement, elements_closed, elements_left, is_inline, is_void}
use Rattle.bidi_order.specs.Elements.{opened_element}
use Rattle.bidi_order.specs.MarkupTokens.{MarkupToken, tokens_of}
use Rattle.bidi_order.specs.MarkupTokens.MarkupToken.{Character, StartTag, EndTag}
use Rattle.bidi_order.specs.WithinLimit.{LabelledCharacter}

-- a line, with the level of its base
pub record Line : Type 0 where
  pub base : ℕ
  pub characters : List LabelledCharacter

-- the level of a direction
abbrev pub direction_level : Dir → ℕ
direction_level Ltr = 0
direction_level Rtl = 1

abbrev pub side_level : Bool → ℕ
side_level right_to_left = if right_to_left then 1 else 0

-- ---- what stands for elements

-- a character that stands for a tag; the initiator of a value's span begins the value
abbrev pub tag_character : Option ℕ → Bool → ℕ → LabelledCharacter
tag_character label begins c = record { character = c; label = label; begins_value = begins && is_some label }

-- LRI or RLI, and in an element that overrides LRO or RLO
abbrev pub initiator_of : Bool → ℕ
initiator_of right_to_left = if right_to_left then 0x2067 else 0x2066

abbrev pub override_of : Bool → ℕ
override_of right_to_left = if right_to_left then 0x202E else 0x202D

abbrev pub isolate_start : OpenElement → Option Bool → List LabelledCharacter
isolate_start e None = []
isolate_start e (Some right_to_left) =
    tag_character e.label true (initiator_of right_to_left)
    ∷ (if e.overrides then tag_character e.label false (override_of right_to_left) ∷ [] else [])

abbrev pub isolate_end : OpenElement → Option Bool → List LabelledCharacter
isolate_end e None = []
isolate_end e (Some right_to_left) =
    (if e.overrides then tag_character e.label false 0x202C ∷ [] else []) ++ tag_character e.label false 0x2069 ∷ []

-- what stands for the start of an element, and for its close: nothing for a block
abbrev pub element_start : OpenElement → List LabelledCharacter
element_start e = if is_inline e.name then isolate_start e e.direction else []

abbrev pub element_end : OpenElement → List LabelledCharacter
element_end e = if is_inline e.name then isolate_end e e.direction else []

-- ---- where lines begin and end

-- the direction of a block, if it has one
abbrev pub block_direction : OpenElement → Option Bool
block_direction e = if is_inline e.name then None else e.direction

-- the level of the base inside open elements, innermost first, with a level outside
abbrev pub base_level : ℕ → List OpenElement → ℕ
base_level context [] = context
base_level context (e ∷ es) = elim (block_direction e) [
  | None ↦ base_level context es
  | Some right_to_left ↦ side_level right_to_left
]

-- what a line begins with
abbrev pub line_start : List OpenElement → List LabelledCharacter
line_start open_ones = flat_map element_start (reverse open_ones)

-- the class is that of a separator of paragraphs
abbrev pub separates_paragraphs : Class → Bool
separates_paragraphs B = true
separates_paragraphs _ = false

-- a character of this label ends a line
abbrev pub ends_line : ℕ → Option ℕ → Bool
ends_line c (Some k) = false
ends_line c None = not (c == line_feed || c == carriage_return) && separates_paragraphs (bidi_class c)

-- a character of text, as it stands in a line
abbrev pub text_character : ℕ → Option ℕ → LabelledCharacter
text_character c label =
    record { character = if is_ascii_whitespace c then space else c; label = label; begins_value = false }

-- the rest of a line, and the lines after it
abbrev pub RestOfLines : Type 0
RestOfLines = List LabelledCharacter × List Line

-- characters before the rest of a line
abbrev pub before_rest : List LabelledCharacter → RestOfLines → RestOfLines
before_rest cs rest = (cs ++ rest.0, rest.1)

-- a line ends, and one begins inside these open elements
abbrev pub next_line : ℕ → List OpenElement → RestOfLines → RestOfLines
next_line context open_ones rest =
    ([], record { base = base_level context open_ones; characters = line_start open_ones ++ rest.0 } ∷ rest.1)

-- a tag of this name ends the line unless it is inline
abbrev pub past_tag : ℕ → List ℕ → List OpenElement → RestOfLines → RestOfLines
past_tag context name open_ones rest = if is_inline name then rest else next_line context open_ones rest

-- the lines from some tokens on, inside open elements, with the level of the context
abbrev pub lines_from : ℕ → List OpenElement → List MarkupToken → RestOfLines
lines_from context open_ones [] = ([], [])
lines_from context open_ones (Character c label ∷ rest) =
    let more = lines_from context open_ones rest in
    if ends_line c label then next_line context open_ones more else before_rest (text_character c label ∷ []) more
lines_from context open_ones (StartTag name dir label ∷ rest) =
    let e = opened_element open_ones name dir label rest in
    let now = if is_void name then open_ones else e ∷ open_ones in
    before_rest (if is_void name then [] else element_start e)
    (past_tag context name now (lines_from context now rest))
lines_from context open_ones (EndTag name ∷ rest) = elim (elements_left name open_ones) [
  | None ↦ past_tag context name open_ones (lines_from context open_ones rest)
  | Some left ↦
      before_rest (flat_map element_end (elements_closed name open_ones))
      (past_tag context name left (lines_from context left rest))
]

-- the lines of tokens; at the first line no element is open
abbrev pub lines_of_tokens : ℕ → List MarkupToken → List Line
lines_of_tokens context tokens =
    let rest = lines_from context [] tokens in record { base = context; characters = rest.0 } ∷ rest.1

-- the lines of pieces, by the direction of the context
unfoldable pub lines : Dir → List Piece → List Line
lines context pieces = lines_of_tokens (direction_level context) (tokens_of pieces)
