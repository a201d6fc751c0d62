-- The lines of a page as they are seen, one text each (UAX #9, L2).
--
-- The page is read as one static text. Of each of its lines the characters that X9 keeps stand from left to right, by
-- the levels of the line; initiators and PDI, which nobody sees, are left out, and so is a line without a character
-- that isn't of class WS. Nothing is mirrored.
--
-- Of `a <b dir="rtl">` with U+05D0, U+05D1 in it, then `</b>` and `<br> ` the one text is `a `, U+05D1, U+05D0.
use Rattle.std.specs.Prelude.{ℕ, Bool, true, false, not, List, [], ◌∷◌, map, filter, get_or}
use Rattle.std.specs.List.{list_any}
use Rattle.soy_base.specs.declared.direction.Dir.{Dir}
use Rattle.bidi_class.specs.declared.class.Class.{Class}
use Rattle.bidi_class.specs.declared.class.Class.TheVariants.{WS}
use Rattle.bidi_class.specs.Class.{bidi_class}
use Rattle.bidi_text.specs.Clean.{is_isolate_control}
use Rattle.soy_base.specs.Piece.Piece.{Static}
use Rattle.bidi_order.specs.Levels.{line_levels}
use Rattle.bidi_order.specs.Lines.{Line, lines}
use Rattle.bidi_order.specs.VisualOrder.{LeveledCharacter, visual_order}
use Rattle.bidi_order.specs.WithinLimit.{line_characters}

-- the characters that stand at these indexes of a text, without initiators and PDI
abbrev pub shown_characters : List ℕ → List LeveledCharacter → List ℕ
shown_characters text order =
    filter (λ (c : ℕ). not (is_isolate_control c)) (map (λ (x : LeveledCharacter). get_or text x.index 0) order)

-- a text with a base level, from left to right
abbrev pub shown_text : ℕ → List ℕ → List ℕ
shown_text base text = shown_characters text (visual_order (line_levels base text))

abbrev pub shown_line : Line → List ℕ
shown_line l = shown_text l.base (line_characters l.characters)

abbrev pub is_white_space : Class → Bool
is_white_space WS = true
is_white_space _ = false

-- a text is shown where one of its characters isn't white space
abbrev pub is_shown : List ℕ → Bool
is_shown text = list_any (λ (c : ℕ). not (is_white_space (bidi_class c))) text

-- the texts of lines that are shown
abbrev pub shown_lines : List Line → List (List ℕ)
shown_lines ls = filter is_shown (map shown_line ls)

unfoldable pub seen : List ℕ → Dir → List (List ℕ)
seen page context = shown_lines (lines context (Static page ∷ []))
