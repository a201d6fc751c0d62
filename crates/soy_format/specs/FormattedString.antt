-- How a string literal is written in canonical source: in single quotes, with the escapes `\\`, `\'`, `\n`, `\r`, `\t`,
-- `\b` and `\f`, and `\u0000` for U+0000. All else is written as it is.
-- Example: the string of an apostrophe and a line feed is written `'\'\n'`.
use Rattle.std.specs.Prelude.{ℕ, ◌==◌, List, [], ◌∷◌, ◌++◌, codes, if◌then◌else◌}
use Rattle.soy_base.specs.Characters.{null, tab, line_feed, form_feed, carriage_return, single_quote, backslash}

abbrev pub backspace : ℕ
backspace = 0x08

abbrev pub string_character : ℕ → List ℕ
string_character c =
    if c == backslash then codes "\\\\" else
    if c == single_quote then codes "\\'" else
    if c == line_feed then codes "\\n" else
    if c == carriage_return then codes "\\r" else
    if c == tab then codes "\\t" else
    if c == backspace then codes "\\b" else
    if c == form_feed then codes "\\f" else
    if c == null then codes "\\u0000" else
    c ∷ []

abbrev pub string_characters : List ℕ → List ℕ
string_characters [] = []
string_characters (c ∷ cs) = string_character c ++ string_characters cs

abbrev pub formatted_string : List ℕ → List ℕ
formatted_string text = single_quote ∷ (string_characters text ++ single_quote ∷ [])
