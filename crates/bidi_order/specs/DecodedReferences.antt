-- A text with its character references decoded, read one character at a time (WHATWG HTML, 13.2.5.72 to 13.2.5.80).
--
-- From an `&` on, the characters of what may be a reference are pending: letters and digits, and a `#` directly after
-- the `&`. A `;` ends it. What proves to be no reference is text.
--
-- Of `a &amp; b` the decoded text is `a & b`, of `&#33;` it is `!`, and of `a & b` it is `a & b`.
use Rattle.std.specs.Prelude.{ℕ, Bool, ◌==◌, ◌||◌, if◌then◌else◌, List, [], ◌∷◌, ◌++◌, Option, Some}
use Rattle.std.specs.Prelude.{None}
use Rattle.std.specs.Char.{is_ascii_alphanumeric}
use Rattle.std.specs.Str.{bytes_eq}
use Rattle.soy_base.specs.Characters.{ampersand, number_sign, semicolon}
use Rattle.html_state.specs.References.{named_references, is_numeric, is_x, value_from}

-- the character of a name in a list of names with their characters
abbrev pub named_character : List (List ℕ × ℕ) → List ℕ → Option ℕ
named_character [] name = None
named_character (reference ∷ references) name =
    if bytes_eq reference.0 name then Some reference.1 else named_character references name

-- the number that these characters write, after `&#`
abbrev pub reference_number : List ℕ → ℕ
reference_number [] = 0
reference_number (c ∷ rest) = if is_x c then value_from 16 0 rest else value_from 10 0 (c ∷ rest)

abbrev pub numeric_character : List ℕ → Option ℕ
numeric_character digits = if is_numeric digits then Some (reference_number digits) else None

-- the character that `&`, these characters and `;` stand for, if they are a reference
abbrev pub referenced_character : List ℕ → Option ℕ
referenced_character [] = None
referenced_character (c ∷ rest) =
    if c == number_sign then numeric_character rest else named_character named_references (c ∷ rest)

-- the same as text, which it is as it stands where it is no reference
abbrev pub reference_text : List ℕ → List ℕ
reference_text begun = elim (referenced_character begun) [
  | None ↦ ampersand ∷ (begun ++ semicolon ∷ [])
  | Some c ↦ c ∷ []
]

-- the character goes on with what may be a reference
abbrev pub goes_on_reference : List ℕ → ℕ → Bool
goes_on_reference [] c = is_ascii_alphanumeric c || c == number_sign
goes_on_reference begun c = is_ascii_alphanumeric c

-- what is pending, where it proves to be no reference
abbrev pub pending_text : Option (List ℕ) → List ℕ
pending_text None = []
pending_text (Some begun) = ampersand ∷ begun

-- what a character gives where nothing is pending, and what is pending after it
abbrev pub plain_given : ℕ → List ℕ
plain_given c = if c == ampersand then [] else c ∷ []

abbrev pub plain_pending : ℕ → Option (List ℕ)
plain_pending c = if c == ampersand then Some [] else None

-- what a character gives, by what is pending before it
abbrev pub character_given : Option (List ℕ) → ℕ → List ℕ
character_given None c = plain_given c
character_given (Some begun) c =
    if c == semicolon then reference_text begun
    else if goes_on_reference begun c then []
    else ampersand ∷ (begun ++ plain_given c)

-- what is pending after a character
abbrev pub character_pending : Option (List ℕ) → ℕ → Option (List ℕ)
character_pending None c = plain_pending c
character_pending (Some begun) c =
    if c == semicolon then None
    else if goes_on_reference begun c then Some (begun ++ c ∷ [])
    else plain_pending c

-- the rest of a text decoded, by what is pending before it
abbrev pub decoded_from : Option (List ℕ) → List ℕ → List ℕ
decoded_from pending [] = pending_text pending
decoded_from pending (c ∷ cs) = character_given pending c ++ decoded_from (character_pending pending c) cs

abbrev pub decoded : List ℕ → List ℕ
decoded text = decoded_from None text
