-- How a string is read on by a character, an escape and the digits of one.
use Rattle.std.proofs.Common.{◌≡◌, ◌≢◌, ℕ, ◌+◌, ◌*◌, ◌<◌, ◌==◌, not, Bool, true, false, List, [], ◌∷◌, ◌++◌, Option}
use Rattle.std.proofs.Common.{Some, None, option_map, IfSome, if◌then◌else◌, length, refl, sym, ap, subst, ◌∙◌, arith}
use Rattle.std.proofs.Common.{append_assoc}
use Rattle.std.specs.Char.{is_ascii_hexdigit, digit_value, IsScalar}
use lib.Utf8.{scalar}
use Rattle.std.specs.Option.{option_and_then, SomeIff}
use Rattle.std.proofs.lemmas.Bool.Decides.{nat_tests}
use Rattle.soy_lexer.specs.Strings.{Quoted, quoted, quoted_escape, quoted_number, escaped, numbered, hexadecimal}
use Rattle.soy_lexer.specs.Strings.{is_surrogate, with_character}
use Rattle.soy_lexer.specs.StringSteps.{ContinuesWith, value_and_rest, with_first}

-- a character before a string, with its source text
first_of : (source_text : List ℕ) (c : ℕ) (string : Option Quoted)
    → value_and_rest (option_map (with_character source_text c) string) ≡ with_first c (value_and_rest string)
first_of source_text c None = refl
first_of source_text c (Some string) = refl

pub plain_goes_on : (text : List ℕ) (c : ℕ) (rest : List ℕ) → text ≡ c ∷ rest → c ≢ 39 → c ≢ 92
    → ContinuesWith text (quoted text) c rest
plain_goes_on text c rest e quote slash =
    let no_quote : (c == 39) ≡ false = grind (arith, nat_tests, quote) in
    let no_slash : (c == 92) ≡ false = grind (arith, nat_tests, slash) in
    record {
      read = ap (λ l. value_and_rest (quoted l)) e ∙ rw (no_quote, no_slash) (first_of (c ∷ []) c (quoted rest));
      shorter = omega (arith, ap length e);
    }

pub escape_goes_on : (text : List ℕ) (c d : ℕ) (rest : List ℕ) → text ≡ c ∷ rest → c ≢ 117 → Some d ≡ escaped c
    → ContinuesWith text (quoted_escape text) d rest
escape_goes_on text c d rest e apart h =
    let no_number : (c == 117) ≡ false = grind (arith, nat_tests, apart) in
    record {
      read =
          ap (λ l. value_and_rest (quoted_escape l)) e ∙ rw (no_number, sym h) (first_of (92 ∷ c ∷ []) d (quoted rest));
      shorter = omega (arith, ap length e);
    }

pub number_goes_on : (text : List ℕ) (a b c d e : ℕ) (rest : List ℕ) → text ≡ a ∷ b ∷ c ∷ d ∷ rest
    → Some e ≡ numbered a b c d → ContinuesWith text (quoted_number text) e rest
number_goes_on text a b c d e rest is h =
    record {
      read =
          ap (λ l. value_and_rest (quoted_number l)) is
          ∙ rw (sym h) (first_of (92 ∷ 117 ∷ a ∷ b ∷ c ∷ d ∷ []) e (quoted rest));
      shorter = omega (arith, ap length is);
    }

-- the source text of a string and what follows it are the text
map_whole : (prefix : List ℕ) (c : ℕ) (cs : List ℕ) (string : Option Quoted)
    → IfSome string (λ q. cs ≡ q.source_text ++ q.rest)
    → IfSome (option_map (with_character prefix c) string) (λ q. prefix ++ cs ≡ q.source_text ++ q.rest)
map_whole prefix c cs None h = tt
map_whole prefix c cs (Some q) h = ap (λ l. prefix ++ l) h ∙ sym (append_assoc prefix q.source_text q.rest)

then_whole : (prefix cs : List ℕ) (character : Option ℕ) (string : Option Quoted)
    → IfSome string (λ q. cs ≡ q.source_text ++ q.rest) →
    IfSome (option_and_then (λ c. option_map (with_character prefix c) string) character)
    (λ q. prefix ++ cs ≡ q.source_text ++ q.rest)
then_whole prefix cs None string h = tt
then_whole prefix cs (Some c) string h = map_whole prefix c cs string h

quoted_by : (c : ℕ) (cs : List ℕ) (t u : Bool) → (c == 39) ≡ t → (c == 92) ≡ u
    → IfSome (quoted cs) (λ q. cs ≡ q.source_text ++ q.rest)
    → IfSome (quoted_escape cs) (λ q. 92 ∷ cs ≡ q.source_text ++ q.rest) →
    IfSome (quoted (c ∷ cs)) (λ q. c ∷ cs ≡ q.source_text ++ q.rest)
quoted_by c cs true u e f h k = rw e refl
quoted_by c cs false true e f h k =
    let is : c ≡ 92 = grind (arith, nat_tests, f) in
    rw (e, f) (subst (λ d. IfSome (quoted_escape cs) (λ q. d ∷ cs ≡ q.source_text ++ q.rest)) (sym is) k)
quoted_by c cs false false e f h k = rw (e, f) (map_whole (c ∷ []) c cs (quoted cs) h)

escape_by : (c : ℕ) (cs : List ℕ) (t : Bool) → (c == 117) ≡ t → IfSome (quoted cs) (λ q. cs ≡ q.source_text ++ q.rest)
    → IfSome (quoted_number cs) (λ q. 92 ∷ 117 ∷ cs ≡ q.source_text ++ q.rest) →
    IfSome (quoted_escape (c ∷ cs)) (λ q. 92 ∷ c ∷ cs ≡ q.source_text ++ q.rest)
escape_by c cs true e h k =
    let is : c ≡ 117 = grind (arith, nat_tests, e) in
    rw e (subst (λ d. IfSome (quoted_number cs) (λ q. 92 ∷ d ∷ cs ≡ q.source_text ++ q.rest)) (sym is) k)
escape_by c cs false e h k = rw e (then_whole (92 ∷ c ∷ []) cs (escaped c) (quoted cs) h)

mutual
  pub quoted-whole : (cs : List ℕ) → IfSome (quoted cs) (λ q. cs ≡ q.source_text ++ q.rest)
  quoted-whole [] = tt
  quoted-whole (c ∷ cs) = quoted_by c cs (c == 39) (c == 92) refl refl (quoted-whole cs) (escape-whole cs)

  escape-whole : (cs : List ℕ) → IfSome (quoted_escape cs) (λ q. 92 ∷ cs ≡ q.source_text ++ q.rest)
  escape-whole [] = tt
  escape-whole (c ∷ cs) = escape_by c cs (c == 117) refl (quoted-whole cs) (number-whole cs)

  number-whole : (cs : List ℕ) → IfSome (quoted_number cs) (λ q. 92 ∷ 117 ∷ cs ≡ q.source_text ++ q.rest)
  number-whole [] = tt
  number-whole (a ∷ []) = tt
  number-whole (a ∷ b ∷ []) = tt
  number-whole (a ∷ b ∷ c ∷ []) = tt
  number-whole (a ∷ b ∷ c ∷ d ∷ cs) =
      then_whole (92 ∷ 117 ∷ a ∷ b ∷ c ∷ d ∷ []) cs (numbered a b c d) (quoted cs) (quoted-whole cs)

-- what a hexadecimal digit stands for
pub hexadecimal_digit : (c n : ℕ) → Some n ≡ (if is_ascii_hexdigit c then Some (digit_value c) else None)
    → (is_ascii_hexdigit c ≡ true) × (n ≡ digit_value c) × (n < 16)
hexadecimal_digit c n h = digit_by (is_ascii_hexdigit c) refl h
  where
    digit_by : (t : Bool) → is_ascii_hexdigit c ≡ t → Some n ≡ (if t then Some (digit_value c) else None)
        → (is_ascii_hexdigit c ≡ true) × (n ≡ digit_value c) × (n < 16)
    digit_by true e h =
        let is : n ≡ digit_value c = cc in
        (e, is, grind (arith, nat_tests, is, e))
    digit_by false e h = cc

pub no_hexadecimal_digit : (c : ℕ) → None ≡ (if is_ascii_hexdigit c then Some (digit_value c) else None)
    → is_ascii_hexdigit c ≡ false
no_hexadecimal_digit c h = digit_by (is_ascii_hexdigit c) refl h
  where
    digit_by : (t : Bool) → is_ascii_hexdigit c ≡ t → None ≡ (if t then Some (digit_value c) else None)
        → is_ascii_hexdigit c ≡ false
    digit_by true e h = cc
    digit_by false e h = e

-- below 2 ^ 16 the numbers of no character are the surrogates
scalar_by : (n : ℕ) → n < 65536 → scalar n ≡ not (is_surrogate n)
scalar_by n low = grind (arith, nat_tests, low)

-- the character that four hexadecimal digits write
pub numbered-digits : (a b c d x y z w : ℕ) (r : Option ℕ) → (is_ascii_hexdigit a ≡ true) × (x ≡ digit_value a)
    × (x < 16) → (is_ascii_hexdigit b ≡ true) × (y ≡ digit_value b) × (y < 16) →
    (is_ascii_hexdigit c ≡ true) × (z ≡ digit_value c) × (z < 16) → (is_ascii_hexdigit d ≡ true) × (w ≡ digit_value d)
    × (w < 16) →
    SomeIff r (IsScalar (((x * 16 + y) * 16 + z) * 16 + w)) (((x * 16 + y) * 16 + z) * 16 + w) → r ≡ numbered a b c d
numbered-digits a b c d x y z w r ha hb hc hd h =
    let n : ℕ = ((x * 16 + y) * 16 + z) * 16 + w in
    let is : n ≡ hexadecimal a b c d = cc in
    let small : n < 65536 = omega (arith, ha.2, hb.2, hc.2, hd.2) in
    let value : numbered a b c d ≡ (if not (is_surrogate (hexadecimal a b c d)) then Some (hexadecimal a b c d)
    else None) = rw (ha.0, hb.0, hc.0, hd.0) refl in
    found_by n r h (scalar_by n small) ∙ ap (λ m. if not (is_surrogate m) then Some m else None) is ∙ sym value
  where
    found_by : (n : ℕ) (r : Option ℕ) → SomeIff r (IsScalar n) n → scalar n ≡ not (is_surrogate n)
        → r ≡ (if not (is_surrogate n) then Some n else None)
    found_by n None h e = none_by (not (is_surrogate n)) refl
      where
        none_by : (t : Bool) → not (is_surrogate n) ≡ t → None ≡ (if t then Some n else None)
        none_by true f = absurd (h (e ∙ f))
        none_by false f = refl
    found_by n (Some m) h e = rw (sym e, h.0) (ap Some h.1)

-- a string after the characters that are read so far
abbrev pub with_before : List ℕ → Option (List ℕ × List ℕ) → Option (List ℕ × List ℕ)
with_before before string = option_map (λ parts. (before ++ parts.0, parts.1)) string

pub read_starts : (string : Option (List ℕ × List ℕ)) (value : List ℕ) → value ≡ [] → string ≡ with_before value string
read_starts None value e = refl
read_starts (Some parts) value e = rw e refl

pub read_more : (string : Option (List ℕ × List ℕ)) (c : ℕ) (before value : List ℕ) → value ≡ before ++ c ∷ []
    → with_before before (with_first c string) ≡ with_before value string
read_more None c before value e = refl
read_more (Some parts) c before value e =
    let P : List ℕ → Option (List ℕ × List ℕ) = λ l. Some (l, parts.1) in
    ap P (sym (append_assoc before (c ∷ []) parts.0) ∙ ap (λ l. l ++ parts.0) (sym e))
