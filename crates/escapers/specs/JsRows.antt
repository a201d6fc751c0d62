-- The rows of a string literal in a script, each a character and the escape that stands for it.
--
-- The quotes and the backtick can then end no literal, a line break can't cut it off, and without
-- `<`, `>`, `&`, `=` and `/` nothing in it ends the script's element, opens a comment of HTML or is
-- read as a reference (ECMA-262, "String Literals": HexEscapeSequence and SingleEscapeCharacter;
-- WHATWG HTML, "Restrictions for contents of script elements").
--
-- The text `</a>` becomes `\x3c\/a\x3e`.
use Rattle.std.specs.Prelude.{ℕ, List, [], ◌∷◌, codes}

abbrev pub js_rows : List (ℕ × List ℕ)
js_rows =
    (0x00, codes "\\x00") ∷
    (0x08, codes "\\x08") ∷
    (0x09, codes "\\t") ∷
    (0x0A, codes "\\n") ∷
    (0x0B, codes "\\x0b") ∷
    (0x0C, codes "\\f") ∷
    (0x0D, codes "\\r") ∷
    (0x22, codes "\\x22") ∷
    (0x26, codes "\\x26") ∷
    (0x27, codes "\\x27") ∷
    (0x2F, codes "\\/") ∷
    (0x3C, codes "\\x3c") ∷
    (0x3D, codes "\\x3d") ∷
    (0x3E, codes "\\x3e") ∷
    (0x5C, codes "\\\\") ∷
    (0x60, codes "\\x60") ∷
    (0x85, codes "\\x85") ∷
    (0x2028, codes "\\u2028") ∷
    (0x2029, codes "\\u2029") ∷ []
