-- The cleaned text: a text with the isolate controls that are in no pair left out, and with the characters of class B
-- and S, which would end a paragraph or a segment, made spaces.
--
-- Of `a`, tab, U+2067, `b`, U+2069, U+2069 the cleaned text is `a`, space, U+2067, `b`, U+2069.
use Rattle.std.specs.Prelude.{ℕ, Bool, true, false, ◌&&◌, ◌||◌, not, List, [], ◌∷◌, take, length, if◌then◌else◌}
use Rattle.std.specs.Prelude.{encode_utf8_all}
use Rattle.std.specs.List.{flat_map, enumerate_from}
use Rattle.soy_base.specs.Characters.{space}
use Rattle.bidi_class.specs.declared.class.Class.{Class}
use Rattle.bidi_class.specs.declared.class.Class.TheVariants.{B, S}
use Rattle.bidi_class.specs.Class.{bidi_class}
use Rattle.bidi_class.specs.Pairs.{is_initiator, is_closing, is_in_pair}

-- the character is an isolate control: an initiator or a PDI
abbrev pub is_isolate_control : ℕ → Bool
is_isolate_control c = is_initiator c || is_closing c

-- the class is that of a separator of paragraphs or of segments
abbrev pub is_separator : Class → Bool
is_separator B = true
is_separator S = true
is_separator _ = false

-- a space for a separator, and any other character itself
abbrev pub spaced : ℕ → ℕ
spaced c = if is_separator (bidi_class c) then space else c

-- the character at an index of the text is left out
abbrev pub is_dropped : List ℕ → ℕ × ℕ → Bool
is_dropped text (index, c) = is_isolate_control c && not (is_in_pair text index)

-- what becomes of the character at an index
abbrev pub cleaned_character : List ℕ → ℕ × ℕ → List ℕ
cleaned_character text (index, c) = if is_dropped text (index, c) then [] else spaced c ∷ []

abbrev pub cleaned_text : List ℕ → List ℕ
cleaned_text text = flat_map (cleaned_character text) (enumerate_from 0 text)

-- the byte offset at which the character at an index begins in UTF-8, where it is left out
abbrev pub dropped_byte : List ℕ → ℕ × ℕ → List ℕ
dropped_byte text (index, c) =
    if is_dropped text (index, c) then length (encode_utf8_all (take index text)) ∷ [] else []

-- the byte offsets at which the characters that are left out begin, ascending
abbrev pub dropped_bytes : List ℕ → List ℕ
dropped_bytes text = flat_map (dropped_byte text) (enumerate_from 0 text)
