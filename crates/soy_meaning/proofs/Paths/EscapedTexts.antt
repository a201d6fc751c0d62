-- What the escaped texts lack.
use Rattle.std.proofs.Common.{◌≡◌, ℕ, ◌/◌, ◌%◌, Bool, true, false, not, eqb, List, [], ◌∷◌, refl}
use Rattle.std.proofs.Common.{arith, encode_utf8}
use Rattle.std.specs.Prelude.{codes, if◌then◌else◌}
use Rattle.std.specs.List.{list_all, flat_map}
use Rattle.std.proofs.lemmas.Bool.{and_from, and_parts}
use Rattle.std.proofs.lemmas.Bool.Decides.{nat_tests}
use Rattle.soy_base.specs.Among.{is_one_of, lacks}
use Rattle.soy_base.specs.Characters.{ampersand, double_quote, less_than, single_quote}
use Rattle.esc_table.specs.EscapedText.{escaped_text}
use Rattle.esc_table.specs.HtmlRows.{html_rows}
use Rattle.escapers.specs.CssRows.{css_rows}
use Rattle.escapers.specs.CssValue.{css_value, is_css_value, is_value_character}
use Rattle.escapers.specs.IsJsWord.{is_word_character}
use Rattle.escapers.specs.JsRows.{js_rows}
use Rattle.escapers.specs.JsValue.{js_literal, js_word}
use Rattle.escapers.specs.PercentEncoded.{percent_encoded, encoded_byte, upper_digit}
use Rattle.escapers.specs.UriComponent.{is_unreserved, component_character, uri_component}
use Rattle.escapers.specs.UriNormal.{is_normal, normal_character, uri_normal}
use Rattle.escapers.specs.UriStart.{uri_start, may_start_uri, invalid_uri}
use Rattle.escapers.proofs.LackedByRows.{escaped_lacks, lacks-append}
use Rattle.escapers.proofs.ValueStates.{css_value_is}

abbrev pub quotes : List ℕ
quotes = double_quote ∷ single_quote ∷ []

-- ---- rows

pub html_no_tag : (text : List ℕ) → lacks (less_than ∷ []) (escaped_text html_rows text) ≡ true
html_no_tag text = escaped_lacks (less_than ∷ []) html_rows refl refl text

pub html_no_quote : (text : List ℕ) → lacks quotes (escaped_text html_rows text) ≡ true
html_no_quote text = escaped_lacks quotes html_rows refl refl text

pub js_no_tag : (text : List ℕ) → lacks (less_than ∷ []) (escaped_text js_rows text) ≡ true
js_no_tag text = escaped_lacks (less_than ∷ []) js_rows refl refl text

pub css_no_tag : (text : List ℕ) → lacks (less_than ∷ []) (escaped_text css_rows text) ≡ true
css_no_tag text = escaped_lacks (less_than ∷ []) css_rows refl refl text

pub css_no_quote : (text : List ℕ) → lacks quotes (escaped_text css_rows text) ≡ true
css_no_quote text = escaped_lacks quotes css_rows refl refl text

-- ---- texts of characters that pass a test

pub tested_lacks : (test : ℕ → Bool) (these text : List ℕ)
    → ((c : ℕ) → test c ≡ true → not (is_one_of these c) ≡ true) →
    list_all test text ≡ true → lacks these text ≡ true
tested_lacks test these [] none are = refl
tested_lacks test these (c ∷ text) none are =
    let parts = and_parts _ _ are in
    and_from _ _ (none c parts.0) (tested_lacks test these text none parts.1)

word_no_tag : (c : ℕ) → is_word_character c ≡ true → not (is_one_of (less_than ∷ []) c) ≡ true
word_no_tag c is = grind (arith, nat_tests)

pub js_word_no_tag : (text : List ℕ) → list_all is_word_character text ≡ true
    → lacks (less_than ∷ []) (js_word text) ≡ true
js_word_no_tag text are = lacks-append (less_than ∷ []) text (codes " ")
    (tested_lacks is_word_character (less_than ∷ []) text word_no_tag are) refl

pub js_literal_no_tag : (text : List ℕ) → lacks (less_than ∷ []) (js_literal text) ≡ true
js_literal_no_tag text = lacks-append (less_than ∷ []) (escaped_text js_rows text) (codes "'") (js_no_tag text) refl

value_no_tag : (c : ℕ) → is_value_character c ≡ true → not (is_one_of (less_than ∷ []) c) ≡ true
value_no_tag c is = grind (arith, nat_tests)

value_no_quote : (c : ℕ) → is_value_character c ≡ true → not (is_one_of quotes c) ≡ true
value_no_quote c is = grind (arith, nat_tests)

css_value_all : (text : List ℕ) → is_css_value text ≡ true → list_all is_value_character text ≡ true
css_value_all [] is = refl
css_value_all (c ∷ text) is = is

pub css_value_no_tag : (text : List ℕ) → lacks (less_than ∷ []) (css_value text) ≡ true
css_value_no_tag text = tested_lacks is_value_character (less_than ∷ []) (css_value text) value_no_tag
    (css_value_all (css_value text) (css_value_is text))

pub css_value_no_quote : (text : List ℕ) → lacks quotes (css_value text) ≡ true
css_value_no_quote text = tested_lacks is_value_character quotes (css_value text) value_no_quote
    (css_value_all (css_value text) (css_value_is text))

-- ---- URIs

flat_lacks : (these : List ℕ) (f : ℕ → List ℕ) → ((c : ℕ) → lacks these (f c) ≡ true) → (text : List ℕ)
    → lacks these (flat_map f text) ≡ true
flat_lacks these f each [] = refl
flat_lacks these f each (c ∷ text) = lacks-append these (f c) (flat_map f text) (each c) (flat_lacks these f each text)

digit_no_quote : (n : ℕ) → not (is_one_of quotes (upper_digit n)) ≡ true
digit_no_quote n = grind (arith, nat_tests)

unreserved_no_quote : (c : ℕ) → is_unreserved c ≡ true → not (is_one_of quotes c) ≡ true
unreserved_no_quote c is = grind (arith, nat_tests)

normal_no_quote : (c : ℕ) → is_normal c ≡ true → not (is_one_of quotes c) ≡ true
normal_no_quote c is = grind (arith, nat_tests)

byte_no_quote : (b : ℕ) → lacks quotes (encoded_byte b) ≡ true
byte_no_quote b = and_from _ _ (digit_no_quote (b / 16)) (and_from _ _ (digit_no_quote (b % 16)) refl)

encoded_no_quote : (c : ℕ) → lacks quotes (percent_encoded c) ≡ true
encoded_no_quote c = flat_lacks quotes encoded_byte byte_no_quote (encode_utf8 c)

one_no_quote : (c : ℕ) → not (is_one_of quotes c) ≡ true → lacks quotes (c ∷ []) ≡ true
one_no_quote c is = and_from _ _ is refl

-- one of two texts, by a test
either_lacks : (these : List ℕ) (test : Bool) (one other : List ℕ) → (test ≡ true → lacks these one ≡ true) →
    (test ≡ false → lacks these other ≡ true) → lacks these (if test then one else other) ≡ true
either_lacks these true one other if_so if_not = if_so refl
either_lacks these false one other if_so if_not = if_not refl

component_one : (c : ℕ) → lacks quotes (component_character c) ≡ true
component_one c = either_lacks quotes (is_unreserved c) (c ∷ []) (percent_encoded c)
    (λ is. one_no_quote c (unreserved_no_quote c is)) (λ is. encoded_no_quote c)

normal_one : (c : ℕ) → lacks quotes (normal_character c) ≡ true
normal_one c =
    either_lacks quotes (eqb c ampersand) (codes "&amp;") (if is_normal c then c ∷ [] else percent_encoded c)
    (λ is. refl)
    (λ is. either_lacks quotes (is_normal c) (c ∷ []) (percent_encoded c)
    (λ is. one_no_quote c (normal_no_quote c is)) (λ is. encoded_no_quote c))

pub component_no_quote : (text : List ℕ) → lacks quotes (uri_component text) ≡ true
component_no_quote text = flat_lacks quotes component_character component_one text

pub normal_text_no_quote : (text : List ℕ) → lacks quotes (uri_normal text) ≡ true
normal_text_no_quote text = flat_lacks quotes normal_character normal_one text

pub start_no_quote : (text : List ℕ) → lacks quotes (uri_start text) ≡ true
start_no_quote text = either_lacks quotes (may_start_uri text) (uri_normal text) invalid_uri
    (λ is. normal_text_no_quote text) (λ is. refl)
