-- The rows of a string in a style, each a character and the escape that stands for it: a backslash,
-- the character's number in lower hexadecimal digits, and a space, which ends the number and is no
-- part of the string (CSS Syntax Level 3, "Consume an escaped code point"). U+0000, which no style
-- can name, becomes U+FFFD.
--
-- They are the control characters, what ends or begins a string, a value, a block or a comment,
-- what HTML reads, and the line breaks of Unicode.
--
-- The text `a"b` becomes `a\22 b`.
use Rattle.std.specs.Prelude.{ℕ, List, [], ◌∷◌, codes}

abbrev pub css_rows : List (ℕ × List ℕ)
css_rows =
    (0x00, codes "\\fffd ") ∷
    (0x01, codes "\\1 ") ∷
    (0x02, codes "\\2 ") ∷
    (0x03, codes "\\3 ") ∷
    (0x04, codes "\\4 ") ∷
    (0x05, codes "\\5 ") ∷
    (0x06, codes "\\6 ") ∷
    (0x07, codes "\\7 ") ∷
    (0x08, codes "\\8 ") ∷
    (0x09, codes "\\9 ") ∷
    (0x0A, codes "\\a ") ∷
    (0x0B, codes "\\b ") ∷
    (0x0C, codes "\\c ") ∷
    (0x0D, codes "\\d ") ∷
    (0x0E, codes "\\e ") ∷
    (0x0F, codes "\\f ") ∷
    (0x10, codes "\\10 ") ∷
    (0x11, codes "\\11 ") ∷
    (0x12, codes "\\12 ") ∷
    (0x13, codes "\\13 ") ∷
    (0x14, codes "\\14 ") ∷
    (0x15, codes "\\15 ") ∷
    (0x16, codes "\\16 ") ∷
    (0x17, codes "\\17 ") ∷
    (0x18, codes "\\18 ") ∷
    (0x19, codes "\\19 ") ∷
    (0x1A, codes "\\1a ") ∷
    (0x1B, codes "\\1b ") ∷
    (0x1C, codes "\\1c ") ∷
    (0x1D, codes "\\1d ") ∷
    (0x1E, codes "\\1e ") ∷
    (0x1F, codes "\\1f ") ∷
    (0x22, codes "\\22 ") ∷
    (0x26, codes "\\26 ") ∷
    (0x27, codes "\\27 ") ∷
    (0x28, codes "\\28 ") ∷
    (0x29, codes "\\29 ") ∷
    (0x2A, codes "\\2a ") ∷
    (0x2F, codes "\\2f ") ∷
    (0x3A, codes "\\3a ") ∷
    (0x3B, codes "\\3b ") ∷
    (0x3C, codes "\\3c ") ∷
    (0x3D, codes "\\3d ") ∷
    (0x3E, codes "\\3e ") ∷
    (0x40, codes "\\40 ") ∷
    (0x5C, codes "\\5c ") ∷
    (0x7B, codes "\\7b ") ∷
    (0x7D, codes "\\7d ") ∷
    (0x7F, codes "\\7f ") ∷
    (0x85, codes "\\85 ") ∷
    (0xA0, codes "\\a0 ") ∷
    (0x2028, codes "\\2028 ") ∷
    (0x2029, codes "\\2029 ") ∷ []
