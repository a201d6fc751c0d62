-- How a text is written in canonical source, on one line and without a comment.
-- `{`, `}`, LF, CR and tab are written as character commands, and `{nil}` stands between a `/` and a `/` or `*` that
-- follows it. All else is written as it is. A text without characters is `{nil}`. Of the line that a body is written
-- on, the first and the last character, where they are a space, are written as `{sp}`.
-- Example: the text `{a}//` is written `{lb}a{rb}/{nil}/`, and the line ` a ` as `{sp}a{sp}`.
use Rattle.std.specs.Prelude.{ℕ, Bool, false, ◌&&◌, ◌||◌, ◌==◌, List, [], ◌∷◌, ◌++◌, codes, if◌then◌else◌}
use Rattle.soy_base.specs.Characters.{tab, line_feed, carriage_return, space, asterisk, slash, left_brace, right_brace}

abbrev pub text_character : ℕ → List ℕ
text_character c =
    if c == left_brace then codes "{lb}" else
    if c == right_brace then codes "{rb}" else
    if c == line_feed then codes "{\\n}" else
    if c == carriage_return then codes "{\\r}" else
    if c == tab then codes "{\\t}" else
    c ∷ []

-- what stands before a character, by whether a `/` stands before it
abbrev pub comment_break : Bool → ℕ → List ℕ
comment_break after_slash c = if after_slash && (c == slash || c == asterisk) then codes "{nil}" else []

-- characters of a text, the first of which may stand after a `/`
abbrev pub text_characters : Bool → List ℕ → List ℕ
text_characters after_slash [] = []
text_characters after_slash (c ∷ cs) =
    comment_break after_slash c ++ (text_character c ++ text_characters (c == slash) cs)

abbrev pub formatted_text : List ℕ → List ℕ
formatted_text [] = codes "{nil}"
formatted_text (c ∷ cs) = text_characters false (c ∷ cs)

-- a character that is the first or last one of a line
abbrev pub edge_character : ℕ → List ℕ
edge_character c = if c == space then codes "{sp}" else c ∷ []

-- what stands after the first character of a line
abbrev pub after_first : List ℕ → List ℕ
after_first [] = []
after_first (c ∷ []) = edge_character c
after_first (c ∷ d ∷ cs) = c ∷ after_first (d ∷ cs)

-- a line that ends in LF, and no line where it would be empty
abbrev pub body_line : List ℕ → List ℕ
body_line [] = []
body_line (c ∷ cs) = edge_character c ++ (after_first cs ++ line_feed ∷ [])
