-- Pieces and lines of the worked examples: a `bdo` from right to left around `a`, a value and `b`; a paragraph whose
-- direction is found in its text; and a value inside so many spans from right to left.
--
-- The first is `<bdo dir="rtl">a{$x}b</bdo>`. The second is `<p dir="auto">{$x} `, a word of Hebrew, and `</p>`. A
-- value is its text in a span of the text's direction.
use Rattle.std.specs.Prelude.{ℕ, List, [], ◌∷◌, ◌++◌, codes, replicate}
use Rattle.std.specs.List.{concat}
use Rattle.soy_base.specs.declared.direction.Dir.{Dir}
use Rattle.bidi_text.specs.Wrap.{direction_word}
use Rattle.soy_base.specs.Piece.{Piece}
use Rattle.soy_base.specs.Piece.Piece.{Static, Value}
use Rattle.bidi_order.specs.TwoLines.{Both, one_labelled, other_labelled}
use Rattle.bidi_order.specs.TwoLines.Both.{Shared, Values}
use Rattle.bidi_order.specs.WithinLimit.{static_character, value_character}
use Rattle.bidi_order.specs.Lines.{Line}

-- the four letters of the word, first to last
abbrev pub word : List ℕ
word = 0x5E9 ∷ 0x5DC ∷ 0x5D5 ∷ 0x5DD ∷ []

-- a value from right to left
abbrev pub hebrew : List ℕ
hebrew = 0x5D0 ∷ 0x5D1 ∷ []

-- a text in a span of a direction
abbrev pub span_text : Dir → List ℕ → List ℕ
span_text direction text =
    codes "<span dir=\"" ++ (direction_word direction ++ (codes "\">" ++ (text ++ codes "</span>")))

abbrev pub value_piece : Dir → List ℕ → Piece
value_piece direction text = Value (span_text direction text)

-- ---- an override

abbrev pub override_pieces : Dir → List ℕ → List Piece
override_pieces direction text =
    Static (codes "<bdo dir=\"rtl\">a") ∷ value_piece direction text ∷ Static (codes "b</bdo>") ∷ []

-- the line with `c` as the value, and the same with another initiator and content
abbrev pub override_line : ℕ → List ℕ → List Both
override_line i v =
    Shared 0x2067 ∷ Shared 0x202E ∷ Shared 0x61 ∷ Values 0 0x2066 i (0x63 ∷ []) v ∷ Shared 0x62 ∷ Shared 0x202C
    ∷ Shared 0x2069 ∷ []

-- ---- a direction that is found

abbrev pub auto_pieces : Dir → List ℕ → List Piece
auto_pieces direction text =
    Static (codes "<p dir=\"auto\">") ∷ value_piece direction text ∷ Static (0x20 ∷ (word ++ codes "</p>")) ∷ []

-- the line with `abc` as the value, and the same with another initiator and content
abbrev pub auto_line : ℕ → List ℕ → List Both
auto_line i v =
    Values 0 0x2066 i (0x61 ∷ 0x62 ∷ 0x63 ∷ []) v ∷ Shared 0x20 ∷ Shared 0x5E9 ∷ Shared 0x5DC ∷ Shared 0x5D5
    ∷ Shared 0x5DD ∷ []

-- ---- nested spans

-- a text so many times
abbrev pub repeated : ℕ → List ℕ → List ℕ
repeated n text = concat (replicate n text)

abbrev pub nested_pieces : ℕ → Dir → List ℕ → List Piece
nested_pieces depth direction text =
    Static (repeated depth (codes "<span dir=\"rtl\">") ++ codes "a") ∷ value_piece direction text
    ∷ Static (codes "b" ++ repeated depth (codes "</span>")) ∷ []

-- the line with `c` as the value, and the same with another initiator and content
abbrev pub nested_line : ℕ → ℕ → List ℕ → List Both
nested_line depth i v =
    replicate depth (Shared 0x2067)
    ++ Shared 0x61 ∷ Values 0 0x2066 i (0x63 ∷ []) v ∷ Shared 0x62 ∷ replicate depth (Shared 0x2069)

-- ---- text that no page has: a value that is a cut reference

abbrev pub cut_pieces : List Piece
cut_pieces = Value (codes "&") ∷ Static (codes " ") ∷ []

abbrev pub cut_line : Line
cut_line = record { base = 0; characters = value_character 0 0x26 ∷ static_character 0x20 ∷ [] }

-- ---- lines

-- the line of a base with the first of the two values
abbrev pub line_of : ℕ → List Both → Line
line_of base line = record { base = base; characters = one_labelled line }

-- the line of a base with the second
abbrev pub other_line_of : ℕ → List Both → Line
other_line_of base line = record { base = base; characters = other_labelled line }

abbrev pub empty_line : Line
empty_line = record { base = 0; characters = [] }
