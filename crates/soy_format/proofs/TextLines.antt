-- Texts and the lines of bodies.
use Rattle.std.proofs.Common.{◌≡◌, ℕ, Bool, List, [], ◌∷◌, ◌++◌, ◌==◌, false, refl, sym, ap, ◌∙◌, encode_utf8}
use Rattle.std.proofs.lemmas.List.{append-nil}
use Rattle.std.proofs.lemmas.Str.{chars-append, chars-nil, chars_past_char, IsUtf8-encode}
use Rattle.std.specs.Str.{IsUtf8}
use Rattle.std.specs.Char.{IsScalar}
use Rattle.std.specs.Str.{chars}
use Rattle.soy_base.specs.Characters.{line_feed, slash}
use Rattle.soy_base.specs.Cuts.{is_nil}
use Rattle.soy_format.specs.FormattedString.{string_character, string_characters}
use Rattle.soy_format.specs.FormattedText.{after_first, body_line, comment_break, edge_character, formatted_text}
use Rattle.soy_format.specs.FormattedText.{text_character, text_characters}
use Rattle.soy_format.proofs.Pushes.{append_assoc}

-- what is left of a text of which a character was added
pub text_step : (old mid new left rest whole : List ℕ) (after_slash : Bool) (c : ℕ)
    → mid ≡ old ++ comment_break after_slash c → new ≡ mid ++ text_character c → left ≡ c ∷ rest
    → old ++ text_characters after_slash left ≡ whole → new ++ text_characters (c == slash) rest ≡ whole
text_step old mid new left rest whole after_slash c e f is inv =
    ap (λ (l : List ℕ). l ++ text_characters (c == slash) rest) (f ∙ ap (λ (l : List ℕ). l ++ text_character c) e)
    ∙ (append_assoc (old ++ comment_break after_slash c) (text_character c) (text_characters (c == slash) rest)
    ∙ (append_assoc old (comment_break after_slash c) (text_character c ++ text_characters (c == slash) rest)
    ∙ (ap (λ (l : List ℕ). old ++ text_characters after_slash l) (sym is) ∙ inv)))

pub text_end : (out left whole : List ℕ) (after_slash : Bool) → left ≡ []
    → out ++ text_characters after_slash left ≡ whole → out ≡ whole
text_end out left whole after_slash is inv =
    sym (append-nil out) ∙ (ap (λ (l : List ℕ). out ++ text_characters after_slash l) (sym is) ∙ inv)

-- the same of a string
pub string_step : (old new left rest whole : List ℕ) (c : ℕ) → new ≡ old ++ string_character c → left ≡ c ∷ rest
    → old ++ string_characters left ≡ whole → new ++ string_characters rest ≡ whole
string_step old new left rest whole c e is inv =
    ap (λ (l : List ℕ). l ++ string_characters rest) e
    ∙ (append_assoc old (string_character c) (string_characters rest)
    ∙ (ap (λ (l : List ℕ). old ++ string_characters l) (sym is) ∙ inv))

pub string_end : (out left whole : List ℕ) → left ≡ [] → out ++ string_characters left ≡ whole → out ≡ whole
string_end out left whole is inv =
    sym (append-nil out) ∙ (ap (λ (l : List ℕ). out ++ string_characters l) (sym is) ∙ inv)

-- a text of some characters, whose first one stands after no `/`
pub some_text : (text : List ℕ) → is_nil text ≡ false → formatted_text text ≡ text_characters false text
some_text [] h = let no : ⊥ = cc in absurd no
some_text (c ∷ cs) h = refl

after_last : (cs : List ℕ) (last : ℕ) → after_first (cs ++ (last ∷ [])) ≡ cs ++ edge_character last
after_last [] last = refl
after_last (c ∷ []) last = refl
after_last (c ∷ d ∷ cs) last = ap (λ (l : List ℕ). c ∷ l) (after_last (d ∷ cs) last)

-- a line of two characters or more
pub line_edges : (c last : ℕ) (cs : List ℕ)
    → body_line (c ∷ (cs ++ (last ∷ []))) ≡ edge_character c ++ (cs ++ (edge_character last ++ (line_feed ∷ [])))
line_edges c last cs =
    ap (λ (l : List ℕ). edge_character c ++ l)
    (ap (λ (l : List ℕ). l ++ (line_feed ∷ [])) (after_last cs last)
    ∙ append_assoc cs (edge_character last) (line_feed ∷ []))

with_last : (before : List ℕ) (last : ℕ) → IsUtf8 before → IsScalar last
    → chars (before ++ encode_utf8 last) ≡ chars before ++ (last ∷ [])
with_last before last u scalar =
    let one : chars (encode_utf8 last) ≡ last ∷ [] =
    chars_past_char (encode_utf8 last) [] last (IsUtf8-encode last scalar) (sym (append-nil (encode_utf8 last)))
    ∙ ap (λ (rest : List ℕ). last ∷ rest) chars-nil in
    chars-append before (encode_utf8 last) u ∙ ap (λ (more : List ℕ). chars before ++ more) one

-- a line by what stands before its last character
pub only_line : (before : List ℕ) (last : ℕ) → IsUtf8 before → IsScalar last → chars before ≡ []
    → edge_character last ++ (line_feed ∷ []) ≡ body_line (chars (before ++ encode_utf8 last))
only_line before last u scalar e =
    sym (ap body_line (with_last before last u scalar ∙ ap (λ (l : List ℕ). l ++ (last ∷ [])) e))

pub longer_line : (before inner : List ℕ) (c last : ℕ) → IsUtf8 before → IsScalar last → chars before ≡ c ∷ inner
    → edge_character c ++ (inner ++ (edge_character last ++ (line_feed ∷ [])))
    ≡ body_line (chars (before ++ encode_utf8 last))
longer_line before inner c last u scalar e =
    sym (ap body_line (with_last before last u scalar ∙ ap (λ (l : List ℕ). l ++ (last ∷ [])) e)
    ∙ line_edges c last inner)

pub no_line : (old line : List ℕ) → line ≡ [] → old ≡ old ++ body_line line
no_line old line e = sym (ap (λ (l : List ℕ). old ++ body_line l) e ∙ append-nil old)
