-- What a text in a command begins with is a token by its form, and the longest one there.
use Rattle.std.proofs.Common.{rules, ◌≡◌, ◌≢◌, ℕ, ◌<◌, ◌≤◌, ◌==◌, ◌&&◌, ◌||◌, nat_le, if◌then◌else◌, not, Bool, true}
use Rattle.std.proofs.Common.{false, List, [], ◌∷◌, ◌++◌, Option, Some, None, IfSome, option_map, unwrap_or, length}
use Rattle.std.proofs.Common.{refl, sym, ap, subst, ◌∙◌, arith, append_assoc}
use Rattle.std.specs.Char.{is_ascii_digit}
use Rattle.std.specs.List.{list_all, list_any}
use Rattle.std.specs.Option.{option_or, option_and_then}
use Rattle.std.specs.Str.{bytes_eq}
use Rattle.std.proofs.lemmas.Bool.Decides.{nat_tests}
use Rattle.soy_base.specs.WhiteSpace.{is_template_space}
use Rattle.soy_base.specs.Names.{begins_name, continues_name, is_name}
use Rattle.soy_base.specs.Cuts.{is_nil, after_prefix, cut, prefix_while, after_while}
use Rattle.soy_lexer.specs.CommandSegment.{command_segment, white_segment, fixed_segment, name_prefix, name_segment}
use Rattle.soy_lexer.specs.CommandSegment.{variable_segment, digits_segment, int_segment, quoted_segment}
use Rattle.soy_lexer.specs.CommandSegment.{string_segment, value_segment, attribute_segment, one_of, symbols_of_one}
use Rattle.soy_lexer.specs.CommandSegment.{symbols_of_two, number_after}
use Rattle.soy_base.specs.Limits.{largest}
use Rattle.soy_lexer.specs.LongestToken.{is_int, is_symbol, StringRest, ValueRest, TokenForm, IsToken, GivesToken}
use Rattle.soy_lexer.specs.LongestToken.{Reaches}
use Rattle.soy_lexer.specs.LongestToken.StringRest.{Ends, Plain, Escape, Number}
use Rattle.soy_lexer.specs.Found.{Found, begins, unless_null}
use Rattle.soy_lexer.specs.Segment.{source_text}
use Rattle.soy_lexer.specs.Found.Found.{Begins, Fails}
use Rattle.soy_lexer.specs.Segment.Segment.{CommandToken, Skipped, TextCharacter, Literal}
use Rattle.soy_lexer.specs.Strings.{Quoted, quoted, quoted_escape, quoted_number, escaped, numbered, with_character}
use Rattle.soy_lexer.specs.declared.token.TokenKind.{TokenKind}
use Rattle.soy_lexer.specs.declared.token.TokenKind.TheVariants as kind
use Rattle.soy_lexer.proofs.CommandSegments.{begins_named, begins_int, begins_variable, digits_int, name_at, name_after}
use Rattle.soy_lexer.proofs.CommandSegments.{some_parts, no_null-cons}
use Rattle.soy_lexer.proofs.SourceTexts.{Stands, segment_stands}
use Rattle.soy_lexer.specs.declared.mode.Mode.TheVariants.{Inside}
use Rattle.soy_base.proofs.Texts.{cut-first}

-- no U+0000 stands in a text that isn't cut at one, and the other way around
no_null-cut : (text : List ℕ) → cut (0 ∷ []) text ≡ None → list_all (λ c. not (c == 0)) text ≡ true
no_null-cut [] h = refl
no_null-cut (c ∷ cs) h = no_null_by (0 == c) (cut (0 ∷ []) cs) refl h (no_null-cut cs)
  where
    no_null_by : (t : Bool) (o : Option (List ℕ × List ℕ)) → (0 == c) ≡ t
        → option_or (option_map {T = List ℕ} {U = List ℕ × List ℕ} (λ rest. ([], rest)) (if t then Some cs else None))
        (option_map {T = List ℕ × List ℕ} {U = List ℕ × List ℕ} (λ parts. (c ∷ parts.0, parts.1)) o) ≡ None →
        (o ≡ None → list_all (λ c. not (c == 0)) cs ≡ true) → list_all (λ c. not (c == 0)) (c ∷ cs) ≡ true
    no_null_by true o e h later = cc
    no_null_by false None e h later = grind (arith, nat_tests, e, later refl)
    no_null_by false (Some parts) e h later = cc

cut-no_null : (text : List ℕ) → list_all (λ c. not (c == 0)) text ≡ true → cut (0 ∷ []) text ≡ None
cut-no_null [] h = refl
cut-no_null (c ∷ cs) h = cut_by (c == 0) refl h (cut-no_null cs)
  where
    cut_by : (t : Bool) → (c == 0) ≡ t → (not t && list_all (λ c. not (c == 0)) cs) ≡ true
        → (list_all (λ c. not (c == 0)) cs ≡ true → cut (0 ∷ []) cs ≡ None) → cut (0 ∷ []) (c ∷ cs) ≡ None
    cut_by true e h later = cc
    cut_by false e h later =
        let apart : 0 ≢ c = grind (arith, nat_tests, e) in
        no_null-cons c cs apart (later h)

both_hold : (a b : Bool) → (a && b) ≡ true → (a ≡ true) × (b ≡ true)
both_hold true b h = (refl, h)
both_hold false b h = cc

-- what is found is a token by its form, where it is one
abbrev Formed : Found → Type 0
Formed (Begins (CommandToken k source_text value) rest) = IsToken k source_text
Formed _ = Unit {0}

-- a segment of this form is a token where it begins
begins_token : (k : TokenKind) (source_text value rest : List ℕ) → TokenForm k source_text
    → Formed (begins (CommandToken k source_text value) rest)
begins_token k source_text value rest form = token_by (cut (0 ∷ []) source_text) refl
  where
    token_by : (o : Option (List ℕ × List ℕ)) → cut (0 ∷ []) source_text ≡ o
        → Formed (unless_null o (Begins (CommandToken k source_text value) rest))
    token_by None e = record { form = form; has_no_null = no_null-cut source_text e }
    token_by (Some parts) e = tt

-- the same where something may begin
abbrev FormedIf : Option Found → Type 0
FormedIf None = Unit {0}
FormedIf (Some found) = Formed found

or_token : (a b : Option Found) → FormedIf a → FormedIf b → FormedIf (option_or a b)
or_token None b h k = k
or_token (Some found) b h k = h

unwrap_token : (a : Option Found) → FormedIf a → Formed (unwrap_or a (Fails 0))
unwrap_token None h = tt
unwrap_token (Some found) h = h

fixed_token : (k : TokenKind) (prefix text : List ℕ) → TokenForm k prefix → FormedIf (fixed_segment k prefix text)
fixed_token k prefix text form = fixed_by (after_prefix prefix text)
  where
    fixed_by : (o : Option (List ℕ)) → FormedIf (option_map (λ rest. begins (CommandToken k prefix prefix) rest) o)
    fixed_by None = tt
    fixed_by (Some rest) = begins_token k prefix prefix rest form

-- the longest prefix that passes a test passes it
all_while : (predicate : ℕ → Bool) (text : List ℕ) → list_all predicate (prefix_while predicate text) ≡ true
all_while predicate [] = refl
all_while predicate (c ∷ cs) = all_by (predicate c) refl (all_while predicate cs)
  where
    all_by : (t : Bool) → predicate c ≡ t → list_all predicate (prefix_while predicate cs) ≡ true
        → list_all predicate (prefix_while predicate (c ∷ cs)) ≡ true
    all_by true e h = rw e (rw e h)
    all_by false e h = rw e refl

name_named : (text : List ℕ) → IfSome (name_prefix text) (λ name. is_name name.0 ≡ true)
name_named [] = tt
name_named (c ∷ cs) = named_by (begins_name c) refl
  where
    named_by : (t : Bool) → begins_name c ≡ t → IfSome (name_prefix (c ∷ cs)) (λ name. is_name name.0 ≡ true)
    named_by true e = rw e (rw e (all_while continues_name cs))
    named_by false e = rw e tt

name_token : (k : TokenKind) (before text : List ℕ)
    → ((name : List ℕ) → is_name name ≡ true → TokenForm k (before ++ name)) → FormedIf (name_segment k before text)
name_token k before text form = name_by (name_prefix text) (name_named text)
  where
    name_by : (o : Option (List ℕ × List ℕ)) → IfSome o (λ name. is_name name.0 ≡ true)
        → FormedIf (option_map (λ name. begins (CommandToken k (before ++ name.0) name.0) name.1) o)
    name_by None h = tt
    name_by (Some name) h = begins_token k (before ++ name.0) name.0 name.1 (form name.0 h)

white_token : (text : List ℕ) → FormedIf (white_segment text)
white_token [] = tt
white_token (c ∷ cs) = white_by (is_template_space c)
  where
    skipped_by : (o : Option (List ℕ × List ℕ)) → Formed (unless_null o (Begins (Skipped (c ∷ [])) cs))
    skipped_by None = tt
    skipped_by (Some parts) = tt

    white_by : (t : Bool) → FormedIf (if t then Some (begins (Skipped (c ∷ [])) cs) else None)
    white_by true = skipped_by (cut (0 ∷ []) (c ∷ []))
    white_by false = tt

variable_token : (text : List ℕ) → FormedIf (variable_segment text)
variable_token [] = tt
variable_token (c ∷ cs) = variable_by (c == 36)
  where
    variable_by : (t : Bool) → FormedIf (if t then name_segment kind.Variable (36 ∷ []) cs else None)
    variable_by true = name_token kind.Variable (36 ∷ []) cs (λ name h. (refl, h))
    variable_by false = tt

int_token : (text : List ℕ) → FormedIf (int_segment text)
int_token [] = tt
int_token (c ∷ cs) = int_by (c == 48) refl
  where
    within_by : (t : Bool) → (c == 48) ≡ false → is_ascii_digit c ≡ true
        → nat_le (number_after 0 (c ∷ prefix_while is_ascii_digit cs)) largest ≡ t →
        Formed (if t then begins (CommandToken kind.Int (c ∷ prefix_while is_ascii_digit cs)
        (c ∷ prefix_while is_ascii_digit cs)) (after_while is_ascii_digit cs) else Fails 0)
    within_by true e digit h =
        begins_token kind.Int (c ∷ prefix_while is_ascii_digit cs) (c ∷ prefix_while is_ascii_digit cs)
        (after_while is_ascii_digit cs) (rw (e, digit, all_while is_ascii_digit cs) h)
    within_by false e digit h = tt

    digit_by : (t : Bool) → (c == 48) ≡ false → is_ascii_digit c ≡ t
        → FormedIf (if t then Some (digits_segment (c ∷ prefix_while is_ascii_digit cs) (after_while is_ascii_digit cs))
        else None)
    digit_by true e digit =
        within_by (nat_le (number_after 0 (c ∷ prefix_while is_ascii_digit cs)) largest) e digit refl
    digit_by false e digit = tt

    int_by : (t : Bool) → (c == 48) ≡ t
        → FormedIf (if t then Some (begins (CommandToken kind.Int (c ∷ []) (c ∷ [])) cs) else if is_ascii_digit c
        then Some (digits_segment (c ∷ prefix_while is_ascii_digit cs) (after_while is_ascii_digit cs)) else None)
    int_by true e = begins_token kind.Int (c ∷ []) (c ∷ []) cs (rw e refl)
    int_by false e = digit_by (is_ascii_digit c) e refl

-- the source text of a string that is read has its form
map_rest : (prefix : List ℕ) (c : ℕ) (string : Option Quoted)
    → ((cs : List ℕ) → StringRest cs → StringRest (prefix ++ cs)) → IfSome string (λ q. StringRest q.source_text)
    → IfSome (option_map (with_character prefix c) string) (λ q. StringRest q.source_text)
map_rest prefix c None read h = tt
map_rest prefix c (Some q) read h = read q.source_text h

then_rest : (prefix : List ℕ) (character : Option ℕ) (string : Option Quoted)
    → ((c : ℕ) → character ≡ Some c → (cs : List ℕ) → StringRest cs → StringRest (prefix ++ cs))
    → IfSome string (λ q. StringRest q.source_text) →
    IfSome (option_and_then (λ c. option_map (with_character prefix c) string) character)
    (λ q. StringRest q.source_text)
then_rest prefix None string read h = tt
then_rest prefix (Some c) string read h = map_rest prefix c string (read c refl) h

quoted_by : (c : ℕ) (cs : List ℕ) (t u : Bool) → (c == 39) ≡ t → (c == 92) ≡ u
    → IfSome (quoted cs) (λ q. StringRest q.source_text) → IfSome (quoted_escape cs) (λ q. StringRest q.source_text)
    → IfSome (quoted (c ∷ cs)) (λ q. StringRest q.source_text)
quoted_by c cs true u e f h k =
    let is : c ≡ 39 = grind (arith, nat_tests, e) in
    rw e (subst (λ d. StringRest (d ∷ [])) (sym is) Ends)
quoted_by c cs false true e f h k = rw (e, f) k
quoted_by c cs false false e f h k =
    let no_quote : c ≢ 39 = grind (arith, nat_tests, e) in
    let no_slash : c ≢ 92 = grind (arith, nat_tests, f) in
    rw (e, f) (map_rest (c ∷ []) c (quoted cs) (λ ds rest. Plain c ds no_quote no_slash rest) h)

escape_by : (c : ℕ) (cs : List ℕ) (t : Bool) → (c == 117) ≡ t → IfSome (quoted cs) (λ q. StringRest q.source_text)
    → IfSome (quoted_number cs) (λ q. StringRest q.source_text)
    → IfSome (quoted_escape (c ∷ cs)) (λ q. StringRest q.source_text)
escape_by c cs true e h k = rw e k
escape_by c cs false e h k =
    rw e (then_rest (92 ∷ c ∷ []) (escaped c) (quoted cs) (λ d is ds rest. Escape c d ds is rest) h)

mutual
  quoted_rest : (cs : List ℕ) → IfSome (quoted cs) (λ q. StringRest q.source_text)
  quoted_rest [] = tt
  quoted_rest (c ∷ cs) = quoted_by c cs (c == 39) (c == 92) refl refl (quoted_rest cs) (escape_rest cs)

  escape_rest : (cs : List ℕ) → IfSome (quoted_escape cs) (λ q. StringRest q.source_text)
  escape_rest [] = tt
  escape_rest (c ∷ cs) = escape_by c cs (c == 117) refl (quoted_rest cs) (number_rest cs)

  number_rest : (cs : List ℕ) → IfSome (quoted_number cs) (λ q. StringRest q.source_text)
  number_rest [] = tt
  number_rest (a ∷ []) = tt
  number_rest (a ∷ b ∷ []) = tt
  number_rest (a ∷ b ∷ c ∷ []) = tt
  number_rest (a ∷ b ∷ c ∷ d ∷ cs) =
      then_rest (92 ∷ 117 ∷ a ∷ b ∷ c ∷ d ∷ []) (numbered a b c d) (quoted cs)
      (λ e is ds rest. Number a b c d e ds is rest) (quoted_rest cs)

string_token : (text : List ℕ) → FormedIf (string_segment text)
string_token [] = tt
string_token (c ∷ cs) = string_by (c == 39)
  where
    quoted_token : (o : Option Quoted) → IfSome o (λ q. StringRest q.source_text) → Formed (quoted_segment o)
    quoted_token None h = tt
    quoted_token (Some q) h = begins_token kind.Str (39 ∷ q.source_text) q.value q.rest (refl, h)

    string_by : (t : Bool) → FormedIf (if t then Some (quoted_segment (quoted cs)) else None)
    string_by true = quoted_token (quoted cs) (quoted_rest cs)
    string_by false = tt

-- no delimiter of one character stands before the first one
cut_lacks : (delimiter : ℕ) (text : List ℕ)
    → IfSome (cut (delimiter ∷ []) text) (λ parts. list_all (λ c. not (c == delimiter)) parts.0 ≡ true)
cut_lacks delimiter [] = tt
cut_lacks delimiter (c ∷ cs) = lacks_by (delimiter == c) (cut (delimiter ∷ []) cs) refl (cut_lacks delimiter cs)
  where
    lacks_by : (t : Bool) (o : Option (List ℕ × List ℕ)) → (delimiter == c) ≡ t
        → IfSome o (λ parts. list_all (λ c. not (c == delimiter)) parts.0 ≡ true) →
        IfSome {T = List ℕ × List ℕ} (option_or (option_map (λ rest. ([], rest)) (if t then Some cs else None))
        (option_map (λ parts. (c ∷ parts.0, parts.1)) o))
        (λ parts. list_all (λ c. not (c == delimiter)) parts.0 ≡ true)
    lacks_by true o e h = refl
    lacks_by false None e h = tt
    lacks_by false (Some parts) e h = let apart : (c == delimiter) ≡ false = grind (arith, nat_tests, e) in rw apart h

attribute_token : (text : List ℕ) → FormedIf (attribute_segment text)
attribute_token [] = tt
attribute_token (c ∷ cs) = attribute_by (c == 34)
  where
    value_token : (o : Option (List ℕ × List ℕ)) → IfSome o (λ parts. list_all (λ c. not (c == 34)) parts.0 ≡ true)
        → Formed (value_segment o)
    value_token None h = tt
    value_token (Some parts) h =
        begins_token kind.Attribute (34 ∷ (parts.0 ++ 34 ∷ [])) parts.0 parts.1
        (refl, record { value = parts.0; is = refl; has_none = h })

    attribute_by : (t : Bool) → FormedIf (if t then Some (value_segment (cut (34 ∷ []) cs)) else None)
    attribute_by true = value_token (cut (34 ∷ []) cs) (cut_lacks 34 cs)
    attribute_by false = tt

symbol_token : (symbols : List (List ℕ)) (text : List ℕ) → list_all is_symbol symbols ≡ true
    → FormedIf (one_of symbols text)
symbol_token [] text h = tt
symbol_token (symbol ∷ symbols) text h =
    let parts = both_hold (is_symbol symbol) (list_all is_symbol symbols) h in
    or_token (fixed_segment kind.Symbol symbol text) (one_of symbols text) (fixed_token kind.Symbol symbol text parts.0)
    (symbol_token symbols text parts.1)

command_formed : (text : List ℕ) → Formed (command_segment text)
command_formed text =
    unwrap_token _ (
    or_token (white_segment text) _ (white_token text) (
    or_token (fixed_segment kind.End (125 ∷ []) text) _ (fixed_token kind.End (125 ∷ []) text refl) (
    or_token (fixed_segment kind.SlashEnd (47 ∷ 125 ∷ []) text) _
    (fixed_token kind.SlashEnd (47 ∷ 125 ∷ []) text refl) (
    or_token (name_segment kind.Word [] text) _ (name_token kind.Word [] text (λ name h. h)) (
    or_token (variable_segment text) _ (variable_token text) (
    or_token (int_segment text) _ (int_token text) (
    or_token (string_segment text) _ (string_token text) (
    or_token (attribute_segment text) _ (attribute_token text) (
    or_token (one_of symbols_of_two text) (one_of symbols_of_one text) (symbol_token symbols_of_two text refl)
    (symbol_token symbols_of_one text refl))))))))))

token_by : (text : List ℕ) (found : Found) → Stands text found → Formed found → GivesToken text found
token_by text (Begins (CommandToken k source_text value) rest) stands formed = (stands.0, formed)
token_by text (Begins (TextCharacter c) rest) stands formed = tt
token_by text (Begins (Skipped skipped) rest) stands formed = tt
token_by text (Begins (Literal literal) rest) stands formed = tt
token_by text (Fails further) stands formed = tt

pub command_token : (text : List ℕ) → GivesToken text (command_segment text)
command_token text = token_by text (command_segment text) (segment_stands Inside text) (command_formed text)

-- more text makes the longest prefix that passes a test no shorter
while_longer : (predicate : ℕ → Bool) (prefix more : List ℕ) → list_all predicate prefix ≡ true
    → length prefix ≤ length (prefix_while predicate (prefix ++ more))
while_longer predicate [] more h = omega arith
while_longer predicate (c ∷ cs) more h =
    let both = both_hold (predicate c) (list_all predicate cs) h in
    rw both.0 (omega (arith, while_longer predicate cs more both.1))

-- a token that is found reaches as far as its source text
reaches_by : (prefix text : List ℕ) (k : TokenKind) (source_text value rest : List ℕ) (found : Found)
    → found ≡ Begins (CommandToken k source_text value) rest → length prefix ≤ length source_text
    → Reaches prefix text found
reaches_by prefix text k source_text value rest found is h = subst (Reaches prefix text) (sym is) h

name_parts : (c : ℕ) (cs more : List ℕ) → begins_name c ≡ true
    → some_parts (c ∷ prefix_while continues_name (cs ++ more)) (after_while continues_name (cs ++ more))
    ≡ name_prefix (c ∷ (cs ++ more))
name_parts c cs more named = rw named refl

word_reaches : (prefix more : List ℕ) → is_name prefix ≡ true
    → Reaches prefix (prefix ++ more) (command_segment (prefix ++ more))
word_reaches [] more h = cc
word_reaches (c ∷ cs) more h =
    let both = both_hold (begins_name c) (list_all continues_name cs) h in
    let white : is_template_space c ≡ false = grind (arith, nat_tests, both.0) in
    let name : List ℕ = c ∷ prefix_while continues_name (cs ++ more) in
    let rest : List ℕ = after_while continues_name (cs ++ more) in
    reaches_by (c ∷ cs) (c ∷ (cs ++ more)) kind.Word name name rest _
    (begins_named c (cs ++ more) white both.0
    ∙ ap (λ o. unwrap_or o (Fails 0))
    (name_at kind.Word (c ∷ (cs ++ more)) name rest (name_parts c cs more both.0)))
    (omega (arith, while_longer continues_name cs more both.1))

variable_reaches : (c : ℕ) (prefix more : List ℕ) → c ≡ 36 → is_name prefix ≡ true
    → Reaches (c ∷ prefix) (c ∷ (prefix ++ more)) (command_segment (c ∷ (prefix ++ more)))
variable_reaches c [] more is h = cc
variable_reaches c (d ∷ ds) more is h =
    let both = both_hold (begins_name d) (list_all continues_name ds) h in
    let name : List ℕ = d ∷ prefix_while continues_name (ds ++ more) in
    let rest : List ℕ = after_while continues_name (ds ++ more) in
    reaches_by (c ∷ d ∷ ds) (c ∷ d ∷ (ds ++ more)) kind.Variable (36 ∷ name) name rest _
    (begins_variable c (d ∷ (ds ++ more)) is
    ∙ ap (λ o. unwrap_or o (Fails 0))
    (name_after kind.Variable 36 (d ∷ (ds ++ more)) name rest (omega arith) (name_parts d ds more both.0)))
    (omega (arith, while_longer continues_name ds more both.1))

int_reaches : (prefix more : List ℕ) → is_int prefix ≡ true
    → Reaches prefix (prefix ++ more) (command_segment (prefix ++ more))
int_reaches [] more h = cc
int_reaches (c ∷ cs) more h = int_by (c == 48) refl h
  where
    over_by : (t : Bool) → (c == 48) ≡ false → is_ascii_digit c ≡ true → list_all is_ascii_digit cs ≡ true
        → nat_le (number_after 0 (prefix_while is_ascii_digit (c ∷ (cs ++ more)))) largest ≡ t →
        Reaches (c ∷ cs) (c ∷ (cs ++ more))
        (if t then Begins (CommandToken kind.Int (prefix_while is_ascii_digit (c ∷ (cs ++ more)))
        (prefix_while is_ascii_digit (c ∷ (cs ++ more)))) (after_while is_ascii_digit (c ∷ (cs ++ more)))
        else Fails 0)
    over_by true e digit all within = while_longer is_ascii_digit (c ∷ cs) more (rw digit all)
    over_by false e digit all over = grind (arith, nat_tests, over)

    int_by : (t : Bool) → (c == 48) ≡ t
        → (if t then is_nil cs else (list_all is_ascii_digit (c ∷ cs) && nat_le (number_after 0 (c ∷ cs)) largest))
        ≡ true → Reaches (c ∷ cs) (c ∷ (cs ++ more)) (command_segment (c ∷ (cs ++ more)))
    int_by true e h =
        let is : c ≡ 48 = grind (arith, nat_tests, e) in
        let alone : cs ≡ [] = nothing_by cs h in
        rw (alone, is) (omega arith)
      where
        nothing_by : (cs : List ℕ) → is_nil cs ≡ true → cs ≡ []
        nothing_by [] h = refl
        nothing_by (c ∷ cs) h = cc
    int_by false e h =
        let both = both_hold (list_all is_ascii_digit (c ∷ cs)) (nat_le (number_after 0 (c ∷ cs)) largest) h in
        let all = both_hold (is_ascii_digit c) (list_all is_ascii_digit cs) both.0 in
        let white : is_template_space c ≡ false = grind (arith, nat_tests, all.0) in
        let named : begins_name c ≡ false = grind (arith, nat_tests, all.0) in
        let apart : c ≢ 48 = grind (arith, nat_tests, e) in
        let found = begins_int c (cs ++ more) white named all.0
        ∙ digits_int c (cs ++ more) (prefix_while is_ascii_digit (c ∷ (cs ++ more)))
        (after_while is_ascii_digit (c ∷ (cs ++ more))) all.0 apart refl refl in
        subst (Reaches (c ∷ cs) (c ∷ (cs ++ more))) (sym found)
        (over_by (nat_le (number_after 0 (prefix_while is_ascii_digit (c ∷ (cs ++ more)))) largest) e all.0
        all.1 refl)

same_codes : (a b : ℕ) → (a == b) ≡ true → a ≡ b
same_codes a b e = grind (arith, nat_tests, e)

-- a string of this form is read whole
abbrev ReadsWhole : List ℕ → List ℕ → Option Quoted → Type 0
ReadsWhole source_text more string =
    (value : List ℕ) × (string ≡ Some (record { source_text = source_text; value = value; rest = more }))

with_whole : (prefix : List ℕ) (c : ℕ) (source_text more : List ℕ) (string : Option Quoted)
    → ReadsWhole source_text more string
    → ReadsWhole (prefix ++ source_text) more (option_map (with_character prefix c) string)
with_whole prefix c source_text more string h = (c ∷ h.0, ap (option_map (with_character prefix c)) h.1)

escape_reads : (c d : ℕ) (cs more : List ℕ) (t : Bool) → (c == 117) ≡ t → escaped c ≡ Some d
    → ReadsWhole cs more (quoted (cs ++ more)) → ReadsWhole (92 ∷ c ∷ cs) more (quoted (92 ∷ c ∷ (cs ++ more)))
escape_reads c d cs more true e is h =
    let no_escape : None ≡ escaped c = ap escaped (sym (same_codes c 117 e)) in
    cc
escape_reads c d cs more false e is h = rw (e, is) (with_whole (92 ∷ c ∷ []) d cs more (quoted (cs ++ more)) h)

rest_reads : (source_text more : List ℕ) → StringRest source_text
    → ReadsWhole source_text more (quoted (source_text ++ more))
rest_reads _ more Ends = ([], refl)
rest_reads _ more (Plain c cs quote slash rest) =
    let no_quote : (c == 39) ≡ false = grind (arith, nat_tests, quote) in
    let no_slash : (c == 92) ≡ false = grind (arith, nat_tests, slash) in
    rw (no_quote, no_slash) (with_whole (c ∷ []) c cs more (quoted (cs ++ more)) (rest_reads cs more rest))
rest_reads _ more (Escape c d cs is rest) = escape_reads c d cs more (c == 117) refl is (rest_reads cs more rest)
rest_reads _ more (Number a b c d e cs is rest) =
    rw is (with_whole (92 ∷ 117 ∷ a ∷ b ∷ c ∷ d ∷ []) e cs more (quoted (cs ++ more)) (rest_reads cs more rest))

string_reaches : (c : ℕ) (prefix more : List ℕ) → c ≡ 39 → StringRest prefix
    → list_all (λ c. not (c == 0)) (c ∷ prefix) ≡ true
    → Reaches (c ∷ prefix) (c ∷ (prefix ++ more)) (command_segment (c ∷ (prefix ++ more)))
string_reaches c prefix more is rest plain =
    let reads = rest_reads prefix more rest in
    let no_null : cut (0 ∷ []) (39 ∷ prefix)
    ≡ None = cut-no_null (39 ∷ prefix) (subst (λ d. list_all (λ c. not (c == 0)) (d ∷ prefix) ≡ true) is plain) in
    let found : command_segment (c ∷ (prefix ++ more)) ≡ Begins (CommandToken kind.Str (39 ∷ prefix) reads.0) more = rw
    (is, reads.1, no_null) refl in
    reaches_by (c ∷ prefix) (c ∷ (prefix ++ more)) kind.Str (39 ∷ prefix) reads.0 more _ found (omega arith)

-- no delimiter of one character stands before the one after a text without it
no_earlier : (delimiter : ℕ) (value back a rest : List ℕ) → list_all (λ c. not (c == delimiter)) value ≡ true
    → length a < length value → value ++ (delimiter ∷ back) ≢ a ++ (delimiter ∷ rest)
no_earlier delimiter [] back a rest h l e = absurd (omega (arith, l))
no_earlier delimiter (c ∷ cs) back [] rest h l e =
    let first = both_hold (not (c == delimiter)) (list_all (λ c. not (c == delimiter)) cs) h in
    let is : c ≡ delimiter = cc in
    grind (arith, nat_tests, first.0, is)
no_earlier delimiter (c ∷ cs) back (d ∷ ds) rest h l e =
    let later = both_hold (not (c == delimiter)) (list_all (λ c. not (c == delimiter)) cs) h in
    no_earlier delimiter cs back ds rest later.1 (omega (arith, l)) (cc)

attribute_reaches : (c : ℕ) (prefix more : List ℕ) → c ≡ 34 → ValueRest prefix
    → list_all (λ c. not (c == 0)) (c ∷ prefix) ≡ true
    → Reaches (c ∷ prefix) (c ∷ (prefix ++ more)) (command_segment (c ∷ (prefix ++ more)))
attribute_reaches c prefix more is rest plain =
    let whole : prefix ++ more ≡ rest.value ++ (34 ∷ more) = ap (λ l. l ++ more) rest.is
    ∙ append_assoc rest.value (34 ∷ []) more in
    let parted : cut (34 ∷ []) (prefix ++ more) ≡ some_parts rest.value more =
    ap (cut (34 ∷ [])) whole ∙ cut-first (34 ∷ []) rest.value more (omega arith)
    (λ a back. no_earlier 34 rest.value more a back rest.has_none) in
    let no_null : cut (0 ∷ []) (34 ∷ (rest.value ++ 34 ∷ [])) ≡ None = cut-no_null (34 ∷ (rest.value ++ 34 ∷ []))
    (subst (λ l. list_all (λ c. not (c == 0)) l ≡ true) (ap (λ d. d ∷ prefix) is ∙ ap (λ l. 34 ∷ l) rest.is) plain)
    in
    let found : command_segment (c ∷ (prefix ++ more))
    ≡ Begins (CommandToken kind.Attribute (34 ∷ (rest.value ++ 34 ∷ [])) rest.value) more = rw (is, parted, no_null)
    refl in
    reaches_by (c ∷ prefix) (c ∷ (prefix ++ more)) kind.Attribute (34 ∷ (rest.value ++ 34 ∷ [])) rest.value more _ found
    (omega (arith, ap length rest.is))

-- what holds of each symbol holds of a text that is one of them
abbrev Each : (List ℕ → Type 0) → List (List ℕ) → Type 0
Each P [] = Unit {0}
Each P (symbol ∷ symbols) = P symbol × Each P symbols

same_text : (a b : List ℕ) → bytes_eq a b ≡ true → a ≡ b
same_text [] [] h = refl
same_text [] (d ∷ ds) h = cc
same_text (c ∷ cs) [] h = cc
same_text (c ∷ cs) (d ∷ ds) h =
    let both = both_hold (c == d) (bytes_eq cs ds) h in
    ap (λ x. x ∷ cs) (same_codes c d both.0) ∙ ap (λ l. d ∷ l) (same_text cs ds both.1)

one_of_each : (P : List ℕ → Type 0) (symbols : List (List ℕ)) (text : List ℕ) → Each P symbols
    → list_any (bytes_eq text) symbols ≡ true → P text
one_of_each P [] text each h = cc
one_of_each P (symbol ∷ symbols) text each h = each_by (bytes_eq text symbol) refl h (one_of_each P symbols text each.1)
  where
    each_by : (t : Bool) → bytes_eq text symbol ≡ t → (t || list_any (bytes_eq text) symbols) ≡ true
        → (list_any (bytes_eq text) symbols ≡ true → P text) → P text
    each_by true e h later = subst P (sym (same_text text symbol e)) each.0
    each_by false e h later = later h

abbrev SymbolReaches : List ℕ → Type 0
SymbolReaches prefix = (more : List ℕ) → Reaches prefix (prefix ++ more) (command_segment (prefix ++ more))

question_reaches : SymbolReaches (63 ∷ [])
question_reaches [] = omega arith
question_reaches (d ∷ ds) = question_by (46 == d) (91 == d) (58 == d) (63 == d) refl refl refl refl
  where
    question_by : (t u v w : Bool) → (46 == d) ≡ t → (91 == d) ≡ u → (58 == d) ≡ v → (63 == d) ≡ w
        → Reaches (63 ∷ []) (63 ∷ d ∷ ds) (command_segment (63 ∷ d ∷ ds))
    question_by true u v w e f g h = rw e (omega arith)
    question_by false true v w e f g h = rw (e, f) (omega arith)
    question_by false false true w e f g h = rw (e, f, g) (omega arith)
    question_by false false false true e f g h = rw (e, f, g, h) (omega arith)
    question_by false false false false e f g h = rw (e, f, g, h) (omega arith)

equals_reaches : SymbolReaches (61 ∷ [])
equals_reaches [] = omega arith
equals_reaches (d ∷ ds) = equals_by (61 == d) refl
  where
    equals_by : (t : Bool) → (61 == d) ≡ t → Reaches (61 ∷ []) (61 ∷ d ∷ ds) (command_segment (61 ∷ d ∷ ds))
    equals_by true e = rw e (omega arith)
    equals_by false e = rw e (omega arith)

less_reaches : SymbolReaches (60 ∷ [])
less_reaches [] = omega arith
less_reaches (d ∷ ds) = less_by (61 == d) refl
  where
    less_by : (t : Bool) → (61 == d) ≡ t → Reaches (60 ∷ []) (60 ∷ d ∷ ds) (command_segment (60 ∷ d ∷ ds))
    less_by true e = rw e (omega arith)
    less_by false e = rw e (omega arith)

greater_reaches : SymbolReaches (62 ∷ [])
greater_reaches [] = omega arith
greater_reaches (d ∷ ds) = greater_by (61 == d) refl
  where
    greater_by : (t : Bool) → (61 == d) ≡ t → Reaches (62 ∷ []) (62 ∷ d ∷ ds) (command_segment (62 ∷ d ∷ ds))
    greater_by true e = rw e (omega arith)
    greater_by false e = rw e (omega arith)

symbol_reaches : (prefix : List ℕ) → is_symbol prefix ≡ true → SymbolReaches prefix
symbol_reaches prefix h =
    let each : Each SymbolReaches (symbols_of_two ++ symbols_of_one) = search
    (rules, question_reaches, equals_reaches, less_reaches, greater_reaches) in
    one_of_each SymbolReaches (symbols_of_two ++ symbols_of_one) prefix each h

pub token_reaches : (k : TokenKind) (prefix more : List ℕ) → IsToken k prefix
    → Reaches prefix (prefix ++ more) (command_segment (prefix ++ more))
token_reaches kind.Text prefix more token = elim token.form [ ]
token_reaches kind.Begin prefix more token = elim token.form [ ]
token_reaches kind.BeginClose prefix more token = elim token.form [ ]
token_reaches kind.Word prefix more token = word_reaches prefix more token.form
token_reaches kind.Variable [] more token = elim token.form [ ]
token_reaches kind.Variable (c ∷ cs) more token = variable_reaches c cs more token.form.0 token.form.1
token_reaches kind.Int prefix more token = int_reaches prefix more token.form
token_reaches kind.Str [] more token = elim token.form [ ]
token_reaches kind.Str (c ∷ cs) more token = string_reaches c cs more token.form.0 token.form.1 token.has_no_null
token_reaches kind.Attribute [] more token = elim token.form [ ]
token_reaches kind.Attribute (c ∷ cs) more token =
    attribute_reaches c cs more token.form.0 token.form.1 token.has_no_null
token_reaches kind.Symbol prefix more token = symbol_reaches prefix token.form more
token_reaches kind.End prefix more token = rw token.form (omega arith)
token_reaches kind.SlashEnd prefix more token = rw token.form (omega arith)
