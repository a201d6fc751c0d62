-- The paired brackets, after UAX #9, BD14 to BD16 and the property Bidi_Paired_Bracket. This table is this
-- project's own.
--
-- Each pair is an opening and a closing character. Both are known by the closing one, so that a closing bracket
-- matches an opening one where their characters are equal: `(` opens with `)`, and `)` closes with `)`.
-- U+2329 and U+232A stand for U+3008 and U+3009, to which they are canonically equivalent, so they are known by
-- U+3009.
use Rattle.std.specs.Prelude.{ℕ, ◌==◌, List, [], ◌∷◌, if◌then◌else◌, Option, Some, None}
use Rattle.bidi_class.specs.declared.brackets.Bracket.{Bracket}
use Rattle.bidi_class.specs.declared.brackets.Bracket.TheVariants.{Opens, Closes}

-- the pairs, each with its opening and its closing character
abbrev pub bracket_pairs : List (ℕ × ℕ)
bracket_pairs =
    (0x0028, 0x0029) ∷ (0x005B, 0x005D) ∷ (0x007B, 0x007D)
    ∷ (0x2045, 0x2046) ∷ (0x207D, 0x207E) ∷ (0x208D, 0x208E) ∷ (0x2329, 0x232A)
    ∷ (0x2768, 0x2769) ∷ (0x276A, 0x276B) ∷ (0x276C, 0x276D) ∷ (0x276E, 0x276F) ∷ (0x2770, 0x2771)
    ∷ (0x2772, 0x2773) ∷ (0x2774, 0x2775)
    ∷ (0x27E6, 0x27E7) ∷ (0x27E8, 0x27E9) ∷ (0x27EA, 0x27EB) ∷ (0x27EC, 0x27ED) ∷ (0x27EE, 0x27EF)
    ∷ (0x3008, 0x3009) ∷ (0x300A, 0x300B) ∷ (0x300C, 0x300D) ∷ (0x300E, 0x300F) ∷ (0x3010, 0x3011)
    ∷ (0x3014, 0x3015) ∷ (0x3016, 0x3017) ∷ (0x3018, 0x3019) ∷ (0x301A, 0x301B)
    ∷ (0xFF08, 0xFF09) ∷ (0xFF3B, 0xFF3D) ∷ (0xFF5B, 0xFF5D)
    ∷ []

-- the character by which a pair is known: its closing one, and U+3009 for U+2329 and U+232A
abbrev pub pair_character : ℕ × ℕ → ℕ
pair_character pair = if pair.1 == 0x232A then 0x3009 else pair.1

-- what the first of the pairs says that has the character
abbrev pub first_bracket : List (ℕ × ℕ) → ℕ → Option Bracket
first_bracket [] c = None
first_bracket (pair ∷ pairs) c =
    if c == pair.0 then Some (Opens (pair_character pair))
    else if c == pair.1 then Some (Closes (pair_character pair))
    else first_bracket pairs c

-- the bracket that a character is
unfoldable pub bracket : ℕ → Option Bracket
bracket c = first_bracket bracket_pairs c
