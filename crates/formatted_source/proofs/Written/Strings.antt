-- String literals, as they are written in a command.
use Rattle.std.proofs.Common.{◌≡◌, ℕ, Bool, true, false, ◌==◌, List, [], ◌∷◌, ◌++◌, Some}
use Rattle.std.proofs.Common.{option_map, if◌then◌else◌, refl, sym, ap, subst, ◌∙◌, arith, append_assoc}
use Rattle.std.proofs.lemmas.Bool.Decides.{nat_tests}
use Rattle.soy_base.specs.Among.{lacks}
use Rattle.soy_base.proofs.CutAt.{cut-lacks}
use Rattle.soy_lexer.specs.CommandSegment.{command_segment, quoted_segment}
use Rattle.soy_lexer.specs.Found.Found.{Begins}
use Rattle.soy_lexer.specs.Segment.Segment.{CommandToken}
use Rattle.soy_lexer.specs.Strings.{Quoted, quoted, with_character}
use Rattle.soy_lexer.specs.declared.token.TokenKind.TheVariants as kind
use Rattle.soy_lexer.proofs.CommandSegments.{null_free}
use Rattle.soy_format.specs.FormattedString.{formatted_string, string_character, string_characters}
use Rattle.formatted_source.specs.CommandLexemes.{CommandLexemes, HasLexemes, before_any}
use Rattle.formatted_source.specs.CommandLexemes.CommandLexemes.{here_, token_}
use Rattle.formatted_source.proofs.Written.Values.{lacks-append}

-- a character as it is written is read as that character, and has no U+0000
record IsRead (c : ℕ) (written : List ℕ) : Type 0 where
  pub reads : (rest : List ℕ) → quoted (written ++ rest) ≡ option_map (with_character written c) (quoted rest)
  pub no_null : lacks (0 ∷ []) written ≡ true

is_character : (c d : ℕ) → (c == d) ≡ true → d ≡ c
is_character c d e = grind (arith, nat_tests, e)

escaped_read : (c d : ℕ) (written : List ℕ) → (c == d) ≡ true → IsRead d written → IsRead c written
escaped_read c d written e one = subst (λ x. IsRead x written) (is_character c d e) one

plain_read : (c : ℕ) → (c == 92) ≡ false → (c == 39) ≡ false → (c == 0) ≡ false → IsRead c (c ∷ [])
plain_read c slash quote none = record {
  reads = λ rest. rw (quote, slash) refl;
  no_null = rw none refl;
}

escape : (c d : ℕ) → IsRead c (92 ∷ d ∷ []) → IsRead c (92 ∷ d ∷ [])
escape c d one = one

-- by the test of each escape
abbrev choice : Bool → List ℕ → List ℕ → List ℕ
choice t a b = if t then a else b

chosen : (c : ℕ) (t : Bool) (a b : List ℕ) → (t ≡ true → IsRead c a) → (t ≡ false → IsRead c b)
    → IsRead c (choice t a b)
chosen c true a b one two = one refl
chosen c false a b one two = two refl

character_read : (c : ℕ) → IsRead c (string_character c)
character_read c =
    chosen c (c == 92) _ _ (λ e. escaped_read c 92 _ e (record { reads = λ rest. refl; no_null = refl })) (λ slash.
    chosen c (c == 39) _ _ (λ e. escaped_read c 39 _ e (record { reads = λ rest. refl; no_null = refl })) (λ quote.
    chosen c (c == 10) _ _ (λ e. escaped_read c 10 _ e (record { reads = λ rest. refl; no_null = refl })) (λ feed.
    chosen c (c == 13) _ _ (λ e. escaped_read c 13 _ e (record { reads = λ rest. refl; no_null = refl })) (λ return.
    chosen c (c == 9) _ _ (λ e. escaped_read c 9 _ e (record { reads = λ rest. refl; no_null = refl })) (λ tab.
    chosen c (c == 8) _ _ (λ e. escaped_read c 8 _ e (record { reads = λ rest. refl; no_null = refl })) (λ back.
    chosen c (c == 12) _ _ (λ e. escaped_read c 12 _ e (record { reads = λ rest. refl; no_null = refl })) (λ form.
    chosen c (c == 0) _ _ (λ e. escaped_read c 0 _ e (record { reads = λ rest. refl; no_null = refl })) (λ none.
    plain_read c slash quote none))))))))

-- a string after its first quote, which this text follows
abbrev string_read : List ℕ → List ℕ → Quoted
string_read text rest =
    record { source_text = string_characters text ++ 39 ∷ []; value = text; rest = rest }

characters_read : (text rest : List ℕ)
    → quoted (string_characters text ++ (39 ∷ rest)) ≡ Some (string_read text rest)
characters_read [] rest = refl
characters_read (c ∷ cs) rest =
    ap quoted (append_assoc (string_character c) (string_characters cs) (39 ∷ rest))
    ∙ ((character_read c).reads (string_characters cs ++ (39 ∷ rest))
    ∙ (ap (option_map (with_character (string_character c) c)) (characters_read cs rest)
    ∙ ap (λ l. Some (record { source_text = l; value = c ∷ cs; rest = rest }))
    (sym (append_assoc (string_character c) (string_characters cs) (39 ∷ [])))))

no_null : (text : List ℕ) → lacks (0 ∷ []) (string_characters text) ≡ true
no_null [] = refl
no_null (c ∷ cs) = lacks-append (0 ∷ []) (string_character c) (string_characters cs) (character_read c).no_null
    (no_null cs)

string_found : (text rest : List ℕ) → command_segment (39 ∷ (string_characters text ++ (39 ∷ rest)))
    ≡ Begins (CommandToken kind.Str (39 ∷ (string_characters text ++ 39 ∷ [])) text) rest
string_found text rest =
    ap quoted_segment (characters_read text rest)
    ∙ null_free (CommandToken kind.Str (39 ∷ (string_characters text ++ 39 ∷ [])) text)
    (39 ∷ (string_characters text ++ 39 ∷ [])) rest refl
    (sym (cut-lacks 0 (39 ∷ (string_characters text ++ 39 ∷ []))
    (lacks-append (0 ∷ []) (string_characters text) (39 ∷ []) (no_null text) refl)))

-- a string literal
pub string_written : (text : List ℕ) → HasLexemes before_any (formatted_string text) ((kind.Str, text) ∷ [])
string_written text rest h =
    subst (λ l. CommandLexemes (39 ∷ l) ((kind.Str, text) ∷ []) rest)
    (sym (append_assoc (string_characters text) (39 ∷ []) rest))
    (token_ (39 ∷ (string_characters text ++ (39 ∷ rest))) (39 ∷ (string_characters text ++ 39 ∷ [])) text rest rest
    kind.Str [] (string_found text rest) refl (here_ rest))
