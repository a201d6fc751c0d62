-- What is cleaned of a text, character by character: an isolate control may be left out, by the byte offset at which it
-- stands, and a separator of paragraphs or segments becomes a space.
--
-- A text that isn't wrapped is unchanged, and so is a wrapped one that has nothing to clean. Of another wrapped text
-- without an isolate initiator every isolate control is left out, since none is in a pair; of one with an initiator,
-- those at the marked offsets (UAX #9, BD9).
--
-- Of `a`, U+2069 the character at the offset 1 is left out.
use Rattle.std.specs.Prelude.{◌≡◌, ℕ, Bool, true, false, not, ◌&&◌, ◌==◌, List, Option, None, Some, if◌then◌else◌}
use Rattle.std.specs.Prelude.{nat_le, nat_lt}
use Rattle.std.specs.List.{list_all, list_any}
use Rattle.std.specs.List.Sorted.{IsStrictlyIncreasing}
use Rattle.bidi_class.specs.Class.{bidi_class}
use Rattle.bidi_class.specs.Pairs.{is_initiator}
use Rattle.bidi_text.specs.Clean.{dropped_bytes, is_isolate_control, is_separator, spaced}
use Rattle.value_cursor.specs.declared.cleaning.Cleaning.{Cleaning}
use Rattle.value_cursor.specs.declared.cleaning.Cleaning.TheVariants as cleaning

-- an isolate control at this offset is left out
abbrev pub is_left_out : Cleaning → ℕ → Bool
is_left_out cleaning.Nothing offset = false
is_left_out cleaning.Unpaired offset = true
is_left_out (cleaning.Marked marks) offset = list_any (λ place. place == offset) marks.places

abbrev pub cleaned_or_none : Bool → ℕ → Option ℕ
cleaned_or_none leaves_out c = if is_isolate_control c && leaves_out then None else Some (spaced c)

-- what becomes of the character at an offset
abbrev pub cleaned : Cleaning → ℕ → ℕ → Option ℕ
cleaned cleaning.Nothing offset c = Some c
cleaned cleaning.Unpaired offset c = cleaned_or_none true c
cleaned (cleaning.Marked marks) offset c = cleaned_or_none (is_left_out (cleaning.Marked marks) offset) c

-- the marked offsets ascend
abbrev pub MarksAscend : Cleaning → Type 0
MarksAscend (cleaning.Marked marks) = IsStrictlyIncreasing marks.places
MarksAscend _ = Unit {0}

-- the character is neither an isolate control nor a separator
abbrev pub is_clean : ℕ → Bool
is_clean c = not (is_isolate_control c) && not (is_separator (bidi_class c))

-- a printable character of ASCII, which is clean
abbrev pub is_printable : ℕ → Bool
is_printable c = nat_le 32 c && nat_lt c 127

-- a byte that only clean characters have: from 32 on, and neither 194 nor 226, with which the characters from U+0080 to
-- U+00BF and from U+2000 to U+2FFF begin
abbrev pub is_clean_byte : ℕ → Bool
is_clean_byte byte = (nat_le 32 byte && not (byte == 194)) && not (byte == 226)

-- it is what is cleaned of this text where it is wrapped
abbrev pub Cleans : Cleaning → List ℕ → Type 0
Cleans cleaning.Nothing text = list_all is_clean text ≡ true
Cleans cleaning.Unpaired text = list_any is_initiator text ≡ false
Cleans (cleaning.Marked marks) text = marks.places ≡ dropped_bytes text
