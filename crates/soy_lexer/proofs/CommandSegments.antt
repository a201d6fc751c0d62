-- What a text in a command begins with, by its first characters.
use Rattle.std.proofs.Common.{rules, ◌≡◌, ◌≢◌, ℕ, ◌+◌, ◌-◌, ◌*◌, ◌<◌, ◌≤◌, ◌==◌, Bool, true, false, List, [], ◌∷◌, ◌++◌}
use Rattle.std.proofs.Common.{Option, Some, None, Result, IfSome, is_some, unwrap_or, nat_le, refl, sym, ap, subst, ◌∙◌}
use Rattle.std.proofs.Common.{arith, append_assoc, if◌then◌else◌}
use Rattle.std.specs.Char.{is_ascii_digit}
use Rattle.std.proofs.lemmas.Bool.Decides.{nat_tests}
use Rattle.std.proofs.lemmas.List.{append_cancel_right}
use Rattle.soy_base.specs.declared.memory.Refusal.{Refusal}
use Rattle.soy_base.specs.WhiteSpace.{is_template_space}
use Rattle.soy_base.specs.Names.{begins_name, continues_name}
use Rattle.soy_base.specs.ByteLength.{byte_len}
use Rattle.soy_lexer.specs.CommandSegment.{command_segment, int_segment, name_prefix, name_segment, number_after}
use Rattle.soy_lexer.specs.CommandSegment.{one_of, opened_segment, symbol_segment, symbols_of_one, symbols_of_two}
use Rattle.soy_lexer.specs.CommandSegment.{quoted_segment, value_segment}
use Rattle.soy_base.specs.Limits.{largest}
use Rattle.soy_lexer.specs.ClosingName.{closing_name}
use Rattle.soy_lexer.specs.Strings.{Quoted, quoted}
use Rattle.soy_lexer.specs.StringSteps.{value_and_rest}
use Rattle.soy_lexer.proofs.StringReading.{quoted-whole}
use Rattle.soy_base.proofs.Texts.{cut-whole}
use Rattle.std.specs.Option.{option_or}
use Rattle.soy_base.specs.Cuts.{cut, prefix_while, after_while}
use Rattle.soy_lexer.specs.Segment.{Segment, source_text}
use Rattle.soy_lexer.specs.Found.{Found, begins}
use Rattle.soy_lexer.specs.Found.Found.{Begins, Fails}
use Rattle.soy_lexer.specs.Segment.Segment.{CommandToken, Skipped}
use Rattle.soy_lexer.specs.ReadsSegment.{ReadsSegment}
use Rattle.soy_lexer.specs.declared.source_segment.FirstSegment.{FirstSegment}
use Rattle.soy_lexer.specs.declared.token.TokenKind.{TokenKind}
use Rattle.soy_lexer.specs.declared.token.TokenKind.TheVariants as kind

-- what is read is what is found
pub steps_by : (found other : Found) (r : Result FirstSegment (Refusal ℕ)) → found ≡ other → ReadsSegment other r
    → ReadsSegment found r
steps_by found other r is h = subst (λ p. ReadsSegment p r) (sym is) h

-- a token that goes up to the rest of its text
pub source_text_value : (kind : TokenKind) (prefix source_text value rest text : List ℕ) (found : Found)
    (r : Result FirstSegment (Refusal ℕ)) →
    text ≡ prefix ++ rest → text ≡ source_text ++ rest → found ≡ Begins (CommandToken kind prefix value) rest
    → ReadsSegment (Begins (CommandToken kind source_text value) rest) r → ReadsSegment found r
source_text_value kind prefix source_text value rest text found r e f is h =
    let same : source_text ≡ prefix = append_cancel_right source_text prefix rest (sym f ∙ e) in
    steps_by found (Begins (CommandToken kind source_text value) rest) r
    (is ∙ ap (λ w. Begins (CommandToken kind w value) rest) (sym same)) h

-- and whose text is its source text
pub source_text_token : (kind : TokenKind) (prefix source_text rest text : List ℕ) (found : Found)
    (r : Result FirstSegment (Refusal ℕ)) →
    text ≡ prefix ++ rest → text ≡ source_text ++ rest → found ≡ Begins (CommandToken kind prefix prefix) rest
    → ReadsSegment (Begins (CommandToken kind source_text source_text) rest) r → ReadsSegment found r
source_text_token kind prefix source_text rest text found r e f is h =
    let same : source_text ≡ prefix = append_cancel_right source_text prefix rest (sym f ∙ e) in
    steps_by found (Begins (CommandToken kind source_text source_text) rest) r
    (is ∙ ap (λ w. Begins (CommandToken kind w w) rest) (sym same)) h

-- no U+0000 stands in a text with one more character
pub no_null-cons : (c : ℕ) (cs : List ℕ) → 0 ≢ c → cut (0 ∷ []) cs ≡ None → cut (0 ∷ []) (c ∷ cs) ≡ None
no_null-cons c cs apart h =
    let unequal : (0 == c) ≡ false = grind (arith, nat_tests, apart) in
    rw (unequal, h) refl

module _ (predicate : ℕ → Bool) where
  -- the longest prefix that passes a test and what follows it are the text
  pub while-whole : (text : List ℕ) → text ≡ prefix_while predicate text ++ after_while predicate text
  while-whole [] = refl
  while-whole (c ∷ cs) = while_by c cs (predicate c) refl (while-whole cs)
    where
      while_by : (c : ℕ) (cs : List ℕ) (t : Bool) → predicate c ≡ t
          → cs ≡ prefix_while predicate cs ++ after_while predicate cs
          → c ∷ cs ≡ prefix_while predicate (c ∷ cs) ++ after_while predicate (c ∷ cs)
      while_by c cs true e h = rw e (ap (λ l. c ∷ l) h)
      while_by c cs false e h = rw e refl

  not_null : (c : ℕ) → predicate 0 ≡ false → predicate c ≡ true → 0 ≢ c
  not_null c none e z = cc (ap predicate z)

  -- no U+0000 stands in the longest prefix that passes a test, where none passes it
  pub while-no_null : (text : List ℕ) → predicate 0 ≡ false → cut (0 ∷ []) (prefix_while predicate text) ≡ None
  while-no_null [] none = refl
  while-no_null (c ∷ cs) none = no_null_by c cs (predicate c) refl (while-no_null cs none)
    where
      no_null_by : (c : ℕ) (cs : List ℕ) (t : Bool) → predicate c ≡ t → cut (0 ∷ []) (prefix_while predicate cs) ≡ None
          → cut (0 ∷ []) (prefix_while predicate (c ∷ cs)) ≡ None
      no_null_by c cs true e h = rw e (no_null-cons c (prefix_while predicate cs) (not_null c none e) h)
      no_null_by c cs false e h = rw e refl

-- a prefix and what follows it
abbrev pub some_parts : List ℕ → List ℕ → Option (List ℕ × List ℕ)
some_parts prefix rest = Some (prefix, rest)

-- two parts that are the same parts
pub same_parts : (a b x y : List ℕ) → some_parts a x ≡ some_parts b y → (a ≡ b) × (x ≡ y)
same_parts a b x y h = (
  ap (λ (o : Option (List ℕ × List ℕ)). (unwrap_or o (a, x)).0) h,
  ap
      (λ (o : Option (List ℕ × List ℕ)). (unwrap_or o (a, x)).1) h,
)

-- a segment begins where no U+0000 is one of its characters, and fails at the first one
pub null_free : (segment : Segment) (text rest : List ℕ) → text ≡ source_text segment → None ≡ cut (0 ∷ []) text
    → begins segment rest ≡ Begins segment rest
null_free segment text rest is h = rw (sym is, sym h) refl

pub null_within : (segment : Segment) (text prefix back rest : List ℕ) → text ≡ source_text segment
    → some_parts prefix back ≡ cut (0 ∷ []) text → begins segment rest ≡ Fails (byte_len prefix)
null_within segment text prefix back rest is h = rw (sym is, sym h) refl

-- a string and a value, by where they end
pub string_found : (inner text prefix value rest : List ℕ) (r : Result FirstSegment (Refusal ℕ)) → text ≡ 39 ∷ inner
    → some_parts value rest ≡ value_and_rest (quoted inner) → text ≡ prefix ++ rest →
    ReadsSegment (begins (CommandToken kind.Str prefix value) rest) r → ReadsSegment (quoted_segment (quoted inner)) r
string_found inner text prefix value rest r is h e steps = found_by (quoted inner) h (quoted-whole inner)
  where
    found_by : (o : Option Quoted) → some_parts value rest ≡ value_and_rest o
        → IfSome o (λ string. inner ≡ string.source_text ++ string.rest) → ReadsSegment (quoted_segment o) r
    found_by None h whole = cc
    found_by (Some string) h whole =
        let parts = same_parts value string.value rest string.rest h in
        let all : text ≡ (39 ∷ string.source_text) ++ rest = is ∙ ap (λ l. 39 ∷ l) whole
        ∙ ap (λ l. (39 ∷ string.source_text) ++ l) (sym parts.1) in
        let same : prefix ≡ 39 ∷ string.source_text = append_cancel_right prefix (39 ∷ string.source_text) rest
        (sym e ∙ all) in
        steps_by (quoted_segment (Some string)) (begins (CommandToken kind.Str prefix value) rest) r
        (ap (λ w. begins (CommandToken kind.Str w string.value) string.rest) (sym same)
        ∙ ap (λ v. begins (CommandToken kind.Str prefix v) string.rest) (sym parts.0)
        ∙ ap (λ l. begins (CommandToken kind.Str prefix value) l) (sym parts.1)) steps

pub string_rest : (inner text value rest : List ℕ) → text ≡ 39 ∷ inner
    → some_parts value rest ≡ value_and_rest (quoted inner) → (prefix : List ℕ) × (text ≡ prefix ++ rest)
string_rest inner text value rest is h = rest_by (quoted inner) h (quoted-whole inner)
  where
    rest_by : (o : Option Quoted) → some_parts value rest ≡ value_and_rest o
        → IfSome o (λ string. inner ≡ string.source_text ++ string.rest) → (prefix : List ℕ) × (text ≡ prefix ++ rest)
    rest_by None h whole = cc
    rest_by (Some string) h whole =
        let parts = same_parts value string.value rest string.rest h in
        (39 ∷ string.source_text, is ∙ ap (λ l. 39 ∷ l) whole ∙ ap (λ l. (39 ∷ string.source_text) ++ l) (sym parts.1))

pub no_string : (inner : List ℕ) → None ≡ value_and_rest (quoted inner) → quoted_segment (quoted inner) ≡ Fails 0
no_string inner h = none_by (quoted inner) h
  where
    none_by : (o : Option Quoted) → None ≡ value_and_rest o → quoted_segment o ≡ Fails 0
    none_by None h = refl
    none_by (Some string) h = cc

pub value_found : (inner text prefix value rest : List ℕ) (r : Result FirstSegment (Refusal ℕ)) → text ≡ 34 ∷ inner
    → some_parts value rest ≡ cut (34 ∷ []) inner → text ≡ prefix ++ rest →
    ReadsSegment (begins (CommandToken kind.Attribute prefix value) rest) r
    → ReadsSegment (value_segment (cut (34 ∷ []) inner)) r
value_found inner text prefix value rest r is h e steps =
    let whole : inner ≡ value ++ (34 ∷ rest) = subst (λ o. IfSome o (λ parts. inner ≡ parts.0 ++ (34 ∷ parts.1)))
    (sym h) (cut-whole (34 ∷ []) inner) in
    let all : text ≡ (34 ∷ (value ++ 34 ∷ [])) ++ rest = is
    ∙ ap (λ l. 34 ∷ l) (whole ∙ sym (append_assoc value (34 ∷ []) rest)) in
    let same : prefix ≡ 34 ∷ (value ++ 34 ∷ []) = append_cancel_right prefix (34 ∷ (value ++ 34 ∷ [])) rest
    (sym e ∙ all) in
    steps_by (value_segment (cut (34 ∷ []) inner)) (begins (CommandToken kind.Attribute prefix value) rest) r
    (ap value_segment (sym h) ∙ ap (λ w. begins (CommandToken kind.Attribute w value) rest) (sym same)) steps

pub value_rest : (inner text value rest : List ℕ) → text ≡ 34 ∷ inner → some_parts value rest ≡ cut (34 ∷ []) inner
    → (prefix : List ℕ) × (text ≡ prefix ++ rest)
value_rest inner text value rest is h =
    let whole : inner ≡ value ++ (34 ∷ rest) = subst (λ o. IfSome o (λ parts. inner ≡ parts.0 ++ (34 ∷ parts.1)))
    (sym h) (cut-whole (34 ∷ []) inner) in
    (34 ∷ (value ++ 34 ∷ []), is ∙ ap (λ l. 34 ∷ l) (whole ∙ sym (append_assoc value (34 ∷ []) rest)))

-- a name with what follows it is the text, and no U+0000 stands in it
named_by : (c : ℕ) (cs : List ℕ) (t : Bool) (name rest : List ℕ) → begins_name c ≡ t
    → some_parts name rest ≡ name_prefix (c ∷ cs) →
    (c ∷ cs ≡ name ++ rest) × (cut (0 ∷ []) name ≡ None)
named_by c cs true name rest e h =
    let is : some_parts name rest ≡ some_parts (c ∷ prefix_while continues_name cs) (after_while continues_name cs) = h
    ∙ rw e refl in
    let parts = same_parts name (c ∷ prefix_while continues_name cs) rest (after_while continues_name cs) is in
    let is_name : name ≡ c ∷ prefix_while continues_name cs = parts.0 in
    let is_rest : rest ≡ after_while continues_name cs = parts.1 in
    let whole : c ∷ cs ≡ (c ∷ prefix_while continues_name cs)
    ++ after_while continues_name cs = ap (λ l. c ∷ l) (while-whole continues_name cs) in (
      whole ∙ ap (λ l. l ++ after_while continues_name cs) (sym is_name) ∙ ap (λ l. name ++ l) (sym is_rest),
      ap (cut (0 ∷ [])) is_name ∙ no_null-cons c (prefix_while continues_name cs) (not_null begins_name c refl e)
          (while-no_null continues_name cs refl),
    )
named_by c cs false name rest e h =
    let is : some_parts name rest ≡ None = h ∙ rw e refl in
    cc

pub name_prefix-named : (text name rest : List ℕ) → some_parts name rest ≡ name_prefix text → (text ≡ name ++ rest)
    × (cut (0 ∷ []) name ≡ None)
name_prefix-named [] name rest h = cc
name_prefix-named (c ∷ cs) name rest h = named_by c cs (begins_name c) name rest refl h

-- so a name is a token, alone or after one other character
pub name_at : (kind : TokenKind) (text name rest : List ℕ) → some_parts name rest ≡ name_prefix text
    → name_segment kind [] text ≡ Some (Begins (CommandToken kind name name) rest)
name_at kind text name rest h = rw (sym h, (name_prefix-named text name rest h).1) refl

pub name_after : (kind : TokenKind) (before : ℕ) (text name rest : List ℕ) → 0 ≢ before
    → some_parts name rest ≡ name_prefix text
    → name_segment kind (before ∷ []) text ≡ Some (Begins (CommandToken kind (before ∷ name) name) rest)
name_after kind before text name rest apart h =
    rw (sym h, no_null-cons before name apart (name_prefix-named text name rest h).1) refl

-- ints
pub zero_int : (c : ℕ) (cs : List ℕ) → c ≡ 48
    → unwrap_or (int_segment (c ∷ cs)) (Fails 0) ≡ Begins (CommandToken kind.Int (c ∷ []) (c ∷ [])) cs
zero_int c cs e = rw e refl

pub digits_int : (c : ℕ) (cs digits rest : List ℕ) → is_ascii_digit c ≡ true → c ≢ 48
    → digits ≡ prefix_while is_ascii_digit (c ∷ cs) → rest ≡ after_while is_ascii_digit (c ∷ cs) →
    unwrap_or (int_segment (c ∷ cs)) (Fails 0)
    ≡ (if nat_le (number_after 0 digits) largest then Begins (CommandToken kind.Int digits digits) rest
    else Fails 0)
digits_int c cs digits rest digit apart is_digits is_rest =
    let other : (c == 48) ≡ false = grind (arith, nat_tests, apart) in
    let plain : cut (0 ∷ []) (prefix_while is_ascii_digit (c ∷ cs)) ≡ None = while-no_null is_ascii_digit (c ∷ cs) refl
    in
    let here : prefix_while is_ascii_digit (c ∷ cs) ≡ c ∷ prefix_while is_ascii_digit cs = rw digit refl in
    let after : after_while is_ascii_digit (c ∷ cs) ≡ after_while is_ascii_digit cs = rw digit refl in
    rw (other, digit, is_digits ∙ here, is_rest ∙ after, subst (λ l. cut (0 ∷ []) l ≡ None) here plain) refl

-- symbols of two characters, and of one
abbrev twos : List (ℕ × ℕ) → List (List ℕ)
twos [] = []
twos (p ∷ ps) = (p.0 ∷ p.1 ∷ []) ∷ twos ps

abbrev ones : List ℕ → List (List ℕ)
ones [] = []
ones (a ∷ bs) = (a ∷ []) ∷ ones bs

abbrev symbol : List ℕ → List ℕ → Found
symbol source_text rest = Begins (CommandToken kind.Symbol source_text source_text) rest

abbrev when : Bool → Found → Option Found
when t found = if t then Some found else None

same_codes : (a b : ℕ) → (a == b) ≡ true → a ≡ b
same_codes a b e = grind (arith, nat_tests, e)

symbol_begins : (a : ℕ) (bs rest : List ℕ) → 0 ≢ a → cut (0 ∷ []) bs ≡ None
    → begins (CommandToken kind.Symbol (a ∷ bs) (a ∷ bs)) rest ≡ symbol (a ∷ bs) rest
symbol_begins a bs rest apart h = rw (no_null-cons a bs apart h) refl

abbrev PlainPairs : List (ℕ × ℕ) → Type 0
PlainPairs [] = Unit {0}
PlainPairs (p ∷ ps) = (0 ≢ p.0) × (0 ≢ p.1) × PlainPairs ps

abbrev PlainAll : List ℕ → Type 0
PlainAll [] = Unit {0}
PlainAll (a ∷ bs) = (0 ≢ a) × PlainAll bs

two_of : (pairs : List (ℕ × ℕ)) → PlainPairs pairs → (c d : ℕ) (cs : List ℕ)
    → one_of (twos pairs) (c ∷ d ∷ cs) ≡ when (is_some (one_of (twos pairs) (c ∷ d ∷ []))) (symbol (c ∷ d ∷ []) cs)
two_of [] plain c d cs = refl
two_of (p ∷ ps) plain c d cs = two_by p.0 p.1 (p.0 == c) (p.1 == d) refl refl plain.0 plain.1 (two_of ps plain.2 c d cs)
  where
    two_by : (a b : ℕ) (t u : Bool) → (a == c) ≡ t → (b == d) ≡ u → 0 ≢ a → 0 ≢ b
        → one_of (twos ps) (c ∷ d ∷ cs) ≡ when (is_some (one_of (twos ps) (c ∷ d ∷ []))) (symbol (c ∷ d ∷ []) cs) →
        one_of ((a ∷ b ∷ []) ∷ twos ps) (c ∷ d ∷ cs) ≡ when (is_some (one_of ((a ∷ b ∷ []) ∷ twos ps) (c ∷ d ∷ [])))
        (symbol (c ∷ d ∷ []) cs)
    two_by a b true true e f plain_a plain_b h =
        rw (e, f) (ap Some (symbol_begins a (b ∷ []) cs plain_a (no_null-cons b [] plain_b refl)
        ∙ ap (λ l. symbol l cs) (ap (λ x. x ∷ b ∷ []) (same_codes a c e)
        ∙ ap (λ x. c ∷ x ∷ []) (same_codes b d f))))
    two_by a b true false e f plain_a plain_b h = rw (e, f) h
    two_by a b false u e f plain_a plain_b h = rw e h

one_of_one : (all : List ℕ) → PlainAll all → (c : ℕ) (cs : List ℕ)
    → one_of (ones all) (c ∷ cs) ≡ when (is_some (one_of (ones all) (c ∷ []))) (symbol (c ∷ []) cs)
one_of_one [] plain c cs = refl
one_of_one (a ∷ bs) plain c cs = one_by (a == c) refl (one_of_one bs plain.1 c cs)
  where
    one_by : (t : Bool) → (a == c) ≡ t
        → one_of (ones bs) (c ∷ cs) ≡ when (is_some (one_of (ones bs) (c ∷ []))) (symbol (c ∷ []) cs) →
        one_of (ones (a ∷ bs)) (c ∷ cs) ≡ when (is_some (one_of (ones (a ∷ bs)) (c ∷ []))) (symbol (c ∷ []) cs)
    one_by true e h =
        rw e (ap Some (symbol_begins a [] cs plain.0 refl ∙ ap (λ x. symbol (x ∷ []) cs) (same_codes a c e)))
    one_by false e h = rw e h

pairs_of_two : List (ℕ × ℕ)
pairs_of_two =
    (63, 46) ∷ (63, 91) ∷ (63, 58) ∷ (63, 63) ∷ (61, 61) ∷ (33, 61) ∷ (60, 61) ∷ (62, 61) ∷ (92, 110) ∷ (92, 114)
    ∷ (92, 116) ∷ []

all_of_one : List ℕ
all_of_one = 46 ∷ 91 ∷ 93 ∷ 40 ∷ 41 ∷ 44 ∷ 58 ∷ 63 ∷ 61 ∷ 60 ∷ 62 ∷ 43 ∷ 45 ∷ 42 ∷ 37 ∷ 124 ∷ 64 ∷ []

pub symbol_of_two : (c d : ℕ) (cs : List ℕ) → is_some (one_of symbols_of_two (c ∷ d ∷ [])) ≡ true
    → unwrap_or (symbol_segment (c ∷ d ∷ cs)) (Fails 0) ≡ symbol (c ∷ d ∷ []) cs
unfolding pairs_of_two
symbol_of_two c d cs h =
    let found : one_of symbols_of_two (c ∷ d ∷ cs) ≡ when (is_some (one_of symbols_of_two (c ∷ d ∷ [])))
    (symbol (c ∷ d ∷ []) cs) = two_of pairs_of_two (search rules) c d cs in
    let here : one_of symbols_of_two (c ∷ d ∷ cs) ≡ Some (symbol (c ∷ d ∷ []) cs) = found
    ∙ ap (λ t. when t (symbol (c ∷ d ∷ []) cs)) h in
    rw here refl

pub symbol_of_one : (c : ℕ) (cs : List ℕ) → one_of symbols_of_two (c ∷ cs) ≡ None
    → unwrap_or (symbol_segment (c ∷ cs)) (Fails 0)
    ≡ unwrap_or (when (is_some (one_of symbols_of_one (c ∷ []))) (symbol (c ∷ []) cs)) (Fails 0)
unfolding all_of_one
symbol_of_one c cs none =
    let found : one_of symbols_of_one (c ∷ cs) ≡ when (is_some (one_of symbols_of_one (c ∷ []))) (symbol (c ∷ []) cs) =
    one_of_one all_of_one (search rules) c cs in
    rw (none, found) refl

-- what a text in a command begins with, by its first character
pub begins_white : (c : ℕ) (cs : List ℕ) → is_template_space c ≡ true
    → command_segment (c ∷ cs) ≡ Begins (Skipped (c ∷ [])) cs
begins_white c cs white = rw (white, no_null-cons c [] (not_null is_template_space c refl white) refl) refl

pub white_found : (c : ℕ) (text prefix rest : List ℕ) → is_template_space c ≡ true → text ≡ c ∷ rest
    → text ≡ prefix ++ rest → command_segment text ≡ Begins (Skipped prefix) rest
white_found c text prefix rest white e f =
    let same : prefix ≡ c ∷ [] = append_cancel_right prefix (c ∷ []) rest (sym f ∙ e) in
    ap command_segment e ∙ begins_white c rest white ∙ ap (λ l. Begins (Skipped l) rest) (sym same)

pub begins_named : (c : ℕ) (cs : List ℕ) → is_template_space c ≡ false → begins_name c ≡ true
    → command_segment (c ∷ cs) ≡ unwrap_or (name_segment kind.Word [] (c ∷ cs)) (Fails 0)
begins_named c cs white named =
    let brace : (125 == c) ≡ false = grind (arith, nat_tests, named) in
    let slash : (47 == c) ≡ false = grind (arith, nat_tests, named) in
    rw (white, brace, slash, named) refl

pub begins_int : (c : ℕ) (cs : List ℕ) → is_template_space c ≡ false → begins_name c ≡ false → is_ascii_digit c ≡ true
    → command_segment (c ∷ cs) ≡ unwrap_or (int_segment (c ∷ cs)) (Fails 0)
begins_int c cs white named digit =
    let brace : (125 == c) ≡ false = grind (arith, nat_tests, digit) in
    let slash : (47 == c) ≡ false = grind (arith, nat_tests, digit) in
    let dollar_sign : (c == 36) ≡ false = grind (arith, nat_tests, digit) in
    int_by (c == 48) refl brace slash dollar_sign
  where
    int_by : (t : Bool) → (c == 48) ≡ t → (125 == c) ≡ false → (47 == c) ≡ false → (c == 36) ≡ false
        → command_segment (c ∷ cs) ≡ unwrap_or (int_segment (c ∷ cs)) (Fails 0)
    int_by true e brace slash dollar_sign = rw (white, brace, slash, named, dollar_sign, e) refl
    int_by false e brace slash dollar_sign = rw (white, brace, slash, named, dollar_sign, e, digit) refl

pub begins_symbol : (c : ℕ) (cs : List ℕ) → is_template_space c ≡ false → begins_name c ≡ false
    → is_ascii_digit c ≡ false → c ≢ 125 → c ≢ 47 → c ≢ 36 → c ≢ 39 → c ≢ 34 →
    command_segment (c ∷ cs) ≡ unwrap_or (symbol_segment (c ∷ cs)) (Fails 0)
begins_symbol c cs white named digit brace slash dollar_sign single double =
    let no_brace : (125 == c) ≡ false = grind (arith, nat_tests, brace) in
    let no_slash : (47 == c) ≡ false = grind (arith, nat_tests, slash) in
    let no_zero : (c == 48) ≡ false = grind (arith, nat_tests, digit) in
    let no_dollar : (c == 36) ≡ false = grind (arith, nat_tests, dollar_sign) in
    let no_single : (c == 39) ≡ false = grind (arith, nat_tests, single) in
    let no_double : (c == 34) ≡ false = grind (arith, nat_tests, double) in
    rw (white, no_brace, no_slash, named, no_dollar, no_zero, digit, no_single, no_double) refl

or_none : (o : Option Found) → unwrap_or (option_or o None) (Fails 0) ≡ unwrap_or o (Fails 0)
or_none None = refl
or_none (Some found) = refl

pub begins_variable : (c : ℕ) (cs : List ℕ) → c ≡ 36
    → command_segment (c ∷ cs) ≡ unwrap_or (name_segment kind.Variable (36 ∷ []) cs) (Fails 0)
begins_variable c cs e = rw e (or_none (name_segment kind.Variable (36 ∷ []) cs))

pub begins_end : (c : ℕ) (cs : List ℕ) → c ≡ 125
    → command_segment (c ∷ cs) ≡ Begins (CommandToken kind.End (c ∷ []) (c ∷ [])) cs
begins_end c cs e = rw e refl

-- and directly after its brace
pub opened_close : (text name rest : List ℕ) → some_parts name rest ≡ closing_name text
    → opened_segment text ≡ Begins (CommandToken kind.BeginClose (47 ∷ name) name) rest
opened_close [] name rest h = cc
opened_close (c ∷ cs) name rest h = close_by (c == 47) refl h
  where
    close_by : (t : Bool) → (c == 47) ≡ t → some_parts name rest ≡ closing_name (c ∷ cs)
        → opened_segment (c ∷ cs) ≡ Begins (CommandToken kind.BeginClose (47 ∷ name) name) rest
    close_by true e h =
        let is : c ≡ 47 = grind (arith, nat_tests, e) in
        rw (is, name_after kind.BeginClose 47 cs name rest (λ z. cc) (h ∙ rw e refl)) refl
    close_by false e h = let is : some_parts name rest ≡ None = h ∙ rw e refl in cc

pub opened_none : (text : List ℕ) → None ≡ closing_name text → opened_segment text ≡ command_segment text
opened_none [] h = refl
opened_none (c ∷ cs) h = by_slash (c == 47) refl h
  where
    by_slash : (t : Bool) → (c == 47) ≡ t → None ≡ closing_name (c ∷ cs)
        → opened_segment (c ∷ cs) ≡ command_segment (c ∷ cs)
    by_slash true e h =
        let none : name_prefix cs ≡ None = sym (h ∙ rw e refl) in
        rw (e, none) refl
    by_slash false e h = rw e refl

pub closing_whole : (text name rest : List ℕ) → some_parts name rest ≡ closing_name text → text ≡ (47 ∷ name) ++ rest
closing_whole [] name rest h = cc
closing_whole (c ∷ cs) name rest h = whole_by (c == 47) refl h
  where
    whole_by : (t : Bool) → (c == 47) ≡ t → some_parts name rest ≡ closing_name (c ∷ cs) → c ∷ cs ≡ (47 ∷ name) ++ rest
    whole_by true e h =
        let is : c ≡ 47 = grind (arith, nat_tests, e) in
        ap (λ d. d ∷ cs) is ∙ ap (λ l. 47 ∷ l) (name_prefix-named cs name rest (h ∙ rw e refl)).0
    whole_by false e h = let is : some_parts name rest ≡ None = h ∙ rw e refl in cc

-- digits make a number greater, so one over the limit stays over it
number_after-le : (n : ℕ) (ds : List ℕ) → n ≤ number_after n ds
number_after-le n [] = omega arith
number_after-le n (d ∷ ds) = omega (arith, number_after-le (10 * n + (d - 48)) ds)

pub over_limit : (n d : ℕ) (left rest all : List ℕ) → number_after n left ≡ number_after 0 all → left ≡ d ∷ rest
    → largest < 10 * n + (d - 48) → false ≡ nat_le (number_after 0 all) largest
over_limit n d left rest all e is over =
    let more : number_after (10 * n + (d - 48)) rest ≡ number_after 0 all = ap (number_after n) (sym is) ∙ e in
    let above : largest < number_after 0 all = omega (arith, more, over, number_after-le (10 * n + (d - 48)) rest)
    in
    grind (arith, nat_tests, above)

pub within_limit : (n : ℕ) (left all : List ℕ) → number_after n left ≡ number_after 0 all → left ≡ [] → n ≤ largest
    → true ≡ nat_le (number_after 0 all) largest
within_limit n left all e is within =
    let same : n ≡ number_after 0 all = ap (number_after n) (sym is) ∙ e in
    let below : number_after 0 all ≤ largest = omega (arith, same, within) in
    grind (arith, nat_tests, below)
