-- Items of a text or of an attribute's value, with the references among their static characters decoded.
--
-- From an `&` on, the letters and digits, and a `#`, that follow it are pending; a `;` ends a reference of them. What
-- proves to be none is text, and so is what a value or the end comes behind. (WHATWG HTML, 13.2.5.72 to 13.2.5.80.)
-- Example: `a&lt;` and a value are `a`, `<` and the value.
use Rattle.std.specs.Prelude.{ℕ, ◌==◌, ◌||◌, if◌then◌else◌, List, [], ◌∷◌, ◌++◌, map, Option, Some, None}
use Rattle.std.specs.Char.{is_ascii_alphanumeric}
use Rattle.std.specs.Str.{bytes_eq}
use Rattle.soy_base.specs.Characters.{ampersand, number_sign, semicolon}
use Rattle.html_state.specs.References.{is_numeric, is_x, named_references, value_from}
use Rattle.stable_html.specs.Roles.{Character, PageItem, WholeValue}

abbrev pub text_items : List ℕ → List PageItem
text_items text = map Character text

-- the character of a name in a list of names with their characters
abbrev pub named_character : List (List ℕ × ℕ) → List ℕ → Option ℕ
named_character [] name = None
named_character (known ∷ rest) name = if bytes_eq known.0 name then Some known.1 else named_character rest name

-- the number that these characters write, after `&#`
abbrev pub reference_number : List ℕ → ℕ
reference_number [] = 0
reference_number (c ∷ rest) = if is_x c then value_from 16 0 rest else value_from 10 0 (c ∷ rest)

-- the character that `&`, these characters and `;` stand for, if they are a reference
abbrev pub referenced_character : List ℕ → Option ℕ
referenced_character [] = None
referenced_character (c ∷ rest) =
    if c == number_sign then (if is_numeric rest then Some (reference_number rest) else None)
    else named_character named_references (c ∷ rest)

-- that character, or the text as it stands
abbrev pub or_text : Option ℕ → List ℕ → List PageItem
or_text (Some c) text = Character c ∷ []
or_text None text = text_items text

-- by what is pending: an `&` and these characters, or nothing
abbrev pub decoded_behind : Option (List ℕ) → List PageItem → List PageItem
decoded_behind None [] = []
decoded_behind (Some begun) [] = text_items (ampersand ∷ begun)
decoded_behind None (WholeValue ∷ rest) = WholeValue ∷ decoded_behind None rest
decoded_behind (Some begun) (WholeValue ∷ rest) =
    text_items (ampersand ∷ begun) ++ (WholeValue ∷ decoded_behind None rest)
decoded_behind None (Character c ∷ rest) =
    if c == ampersand then decoded_behind (Some []) rest else Character c ∷ decoded_behind None rest
decoded_behind (Some begun) (Character c ∷ rest) =
    if c == semicolon
    then or_text (referenced_character begun) (ampersand ∷ (begun ++ (semicolon ∷ []))) ++ decoded_behind None rest
    else (if c == ampersand then text_items (ampersand ∷ begun) ++ decoded_behind (Some []) rest
    else (if is_ascii_alphanumeric c || c == number_sign then decoded_behind (Some (begun ++ (c ∷ []))) rest
    else text_items (ampersand ∷ begun) ++ (Character c ∷ decoded_behind None rest)))

abbrev pub decoded_items : List PageItem → List PageItem
decoded_items items = decoded_behind None items
