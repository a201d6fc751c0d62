-- Pages of the worked examples, by the text of their value, and the lines that they have (see WorkedLines of bidi_order
-- for two values).
--
-- The pages are `<bdo dir="rtl">a`, a value and `b</bdo>`; `<p dir="auto">`, a value, a space, a word of Hebrew and
-- `</p>`; and `<span dir="rtl">` so many times, `a`, a value, `b` and as many `</span>`. A value is a text in its span
-- (WHATWG HTML, "The dir attribute"), and stands in its line as LRI or RLI, the text with stray isolate controls left
-- out, separators and white space of HTML as U+0020 and U+0000 as U+FFFD, and PDI.
--
-- Of the text `</script>` the first page is `<bdo dir="rtl">a<span dir="ltr">&lt;/script&gt;</span>b</bdo>`.
use Rattle.std.specs.Prelude.{ℕ, List, [], ◌∷◌, ◌++◌, codes, map}
use Rattle.soy_base.specs.declared.direction.Dir.{Dir}
use Rattle.soy_base.specs.declared.direction.Dir.TheVariants.{Ltr, Rtl}
use Rattle.bidi_text.specs.Clean.{cleaned_text}
use Rattle.bidi_text.specs.Estimate.{estimated_direction}
use Rattle.bidi_text.specs.Wrap.{wrapped_text}
use Rattle.soy_base.specs.Piece.{Piece, Static, Value}
use Rattle.bidi_order.specs.Lines.{Line}
use Rattle.bidi_order.specs.WithinLimit.{LabelledCharacter, static_character, value_characters}
use Rattle.bidi_order.specs.WorkedLines.{auto_line, nested_line, other_line_of, override_line, repeated, word}
use Rattle.stable_bidi.specs.TokenParts.{in_line, unescaped}

-- a static text, a value and a static text
abbrev pub page_around : List ℕ → List ℕ → List ℕ → List Piece
page_around before after text = Static before ∷ Value (wrapped_text text Ltr) ∷ Static after ∷ []

-- a value in an override
abbrev pub override_page : List ℕ → List Piece
override_page text = page_around (codes "<bdo dir=\"rtl\">a") (codes "b</bdo>") text

-- where the direction is found in the text
abbrev pub auto_page : List ℕ → List Piece
auto_page text = page_around (codes "<p dir=\"auto\">") (0x20 ∷ (word ++ codes "</p>")) text

-- inside so many spans
abbrev pub nested_page : ℕ → List ℕ → List Piece
nested_page depth text =
    page_around (repeated depth (codes "<span dir=\"rtl\">") ++ codes "a")
    (codes "b" ++ repeated depth (codes "</span>")) text

-- what begins a value's span in its line
abbrev pub span_initiator : Dir → ℕ
span_initiator Ltr = 0x2066
span_initiator Rtl = 0x2067

-- what begins the span of a text
abbrev pub initiator_of_text : List ℕ → ℕ
initiator_of_text text = span_initiator (estimated_direction text Ltr)

-- what stands for a value's text in its line
abbrev pub line_text : List ℕ → List ℕ
line_text text = in_line (map unescaped (cleaned_text text))

-- ---- the lines of the pages

-- of the override
abbrev pub override_shown : List ℕ → Line
override_shown text = other_line_of 0 (override_line (initiator_of_text text) (line_text text))

-- of the paragraph, whose base is from right to left
abbrev pub auto_shown : List ℕ → Line
auto_shown text = other_line_of 1 (auto_line (initiator_of_text text) (line_text text))

-- of so many spans
abbrev pub nested_shown : ℕ → List ℕ → Line
nested_shown depth text = other_line_of 0 (nested_line depth (initiator_of_text text) (line_text text))

-- ---- lines that aren't alike: `a`, a value and `b`; the value behind both; and no value

abbrev pub value_shown : List LabelledCharacter
value_shown = value_characters 0 0x2066 (codes "c")

abbrev pub between_line : Line
between_line =
    record { base = 0; characters = static_character 0x61 ∷ (value_shown ++ static_character 0x62 ∷ []) }

abbrev pub behind_line : Line
behind_line = record { base = 0; characters = static_character 0x61 ∷ static_character 0x62 ∷ value_shown }

abbrev pub valueless_line : Line
valueless_line = record { base = 0; characters = static_character 0x61 ∷ static_character 0x62 ∷ [] }
