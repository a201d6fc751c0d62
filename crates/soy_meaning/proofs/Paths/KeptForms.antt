-- The escaped form of a value keeps its place.
use Rattle.std.proofs.Common.{◌≡◌, ℕ, Bool, true, false, not, ◌||◌, eqb, List, [], ◌∷◌, ◌++◌, Option, Some}
use Rattle.std.proofs.Common.{refl, ap, sym, subst, ◌∙◌, arith}
use Rattle.std.specs.Prelude.{Ok, codes, if◌then◌else◌, bytes_eq}
use Rattle.std.specs.Char.{is_ascii_digit}
use Rattle.std.specs.List.{list_all}
use Rattle.std.proofs.lemmas.Bool.{and_from, and_parts}
use Rattle.std.proofs.lemmas.Bool.Decides.{nat_tests}
use Rattle.std.proofs.lemmas.Slice.Eq.{bytes_eq-Decides}
use Rattle.soy_base.specs.Among.{is_among, lacks}
use Rattle.soy_base.specs.Characters.{less_than, minus_sign}
use Rattle.soy_base.specs.StateAfter.{state_after}
use Rattle.soy_base.specs.declared.direction.Dir.{Dir}
use Rattle.soy_base.specs.declared.direction.Dir.TheVariants as dir
use Rattle.soy_base.specs.declared.place.Place.{Place}
use Rattle.soy_base.specs.declared.place.Place.TheVariants as place
use Rattle.soy_base.specs.declared.place.Placing.{Placing}
use Rattle.soy_base.specs.declared.place.Placing.TheVariants.{Takes, Refuses}
use Rattle.soy_base.specs.declared.place.ValueClass.{ValueClass}
use Rattle.soy_base.specs.declared.place.ValueClass.TheVariants as class
use Rattle.script_state.specs.JsNext.{js_next}
use Rattle.script_state.specs.declared.js_state.JsState.TheVariants as js
use Rattle.esc_table.specs.EscapedText.{escaped_text}
use Rattle.esc_table.specs.HtmlRows.{html_rows}
use Rattle.escapers.specs.EscaperFor.{text_escaper}
use Rattle.escapers.specs.IsJsWord.{is_word_character}
use Rattle.escapers.specs.JsValue.{js_value}
use Rattle.escapers.proofs.StringStates.{js_single_stays, js_double_stays, css_single_stays, css_double_stays}
use Rattle.escapers.proofs.ValueStates.{literal_leads, js_word_leads, css_value_leads}
use Rattle.bidi_text.specs.Clean.{cleaned_text}
use Rattle.bidi_text.specs.Estimate.{estimated_direction}
use Rattle.bidi_text.specs.Wrap.{direction_word, wrapped_text}
use Rattle.html_state.specs.AfterAll.{after_all}
use Rattle.html_state.specs.KeepsPlace.{KeepsPlace, KeepsPlaceAt}
use Rattle.html_state.specs.Leads.{Leads}
use Rattle.html_state.specs.RowNext.{row_next}
use Rattle.html_state.specs.StatePlacing.{placing}
use Rattle.html_state.specs.TakesClass.{is_tag_place, takes_class}
use Rattle.html_state.specs.Texts.{and_then}
use Rattle.html_state.specs.declared.row.HtmlRow.TheVariants as row
use Rattle.html_state.specs.declared.row.State.{State}
use Rattle.html_state.proofs.KeptPlaces.{holds, safe_text}
use Rattle.html_state.proofs.Pieces.{after_all-append}
use Rattle.soy_pieces.specs.EscapedAt.{are_some_digits, escaped_by, escaped_where, is_int_text, is_text_of}
use Rattle.soy_meaning.proofs.Paths.EscapedTexts.{html_no_tag, html_no_quote, js_no_tag, js_word_no_tag}
use Rattle.soy_meaning.proofs.Paths.EscapedTexts.{js_literal_no_tag}
use Rattle.soy_meaning.proofs.Paths.EscapedTexts.{css_no_tag, css_no_quote, css_value_no_tag, css_value_no_quote}
use Rattle.soy_meaning.proofs.Paths.EscapedTexts.{component_no_quote, normal_text_no_quote, start_no_quote}

-- ---- wrapped texts

-- the text between the tags, and the end tag
span_inner : (text : List ℕ) → lacks (less_than ∷ []) text ≡ true
    → after_all (row_next false) row.Data (text ++ codes "</span>") ≡ Ok row.Data
span_inner text none =
    after_all-append (row_next false) row.Data text (codes "</span>")
    ∙ ap (and_then (λ now. after_all (row_next false) now (codes "</span>"))) (safe_text text none)

span_leads : (direction : Dir) (rest : List ℕ) →
    after_all (row_next false) row.Data (codes "<span dir=\"" ++ (direction_word direction ++ (codes "\">" ++ rest)))
    ≡ after_all (row_next false) row.Data rest
span_leads dir.Ltr rest = refl
span_leads dir.Rtl rest = refl

wrapped_kept : (text : List ℕ) (context : Dir)
    → after_all (row_next false) row.Data (wrapped_text text context) ≡ Ok row.Data
wrapped_kept text context =
    span_leads (estimated_direction text context) (escaped_text html_rows (cleaned_text text) ++ codes "</span>")
    ∙ span_inner (escaped_text html_rows (cleaned_text text)) (html_no_tag (cleaned_text text))

-- ---- every place that takes what isn't markup

abbrev Kept : Place → Option (List ℕ) → Type 0
Kept point form = (out : List ℕ) × (form ≡ Some out) × KeepsPlace point out

-- what stands for a value of a script
abbrev KeepsScript : List ℕ → Type 0
KeepsScript out = (lacks (less_than ∷ []) out ≡ true) × (state_after js_next js.Code out ≡ Some js.Code)

text_kept : (point : Place) (value : ValueClass) (text : List ℕ) (context : Dir) → KeepsScript (js_value value text) →
    not (is_tag_place point) ≡ true → Kept point (escaped_by (text_escaper point) value text context)
text_kept place.Text value text context script takes = (wrapped_text text context, refl, wrapped_kept text context)
text_kept place.Rcdata value text context script takes = (_, refl, html_no_tag text)
text_kept place.Tag value text context script takes = let never : ⊥ = cc in absurd never
text_kept place.Attr value text context script takes = (_, refl, html_no_quote text)
text_kept place.UriStart value text context script takes = (_, refl, start_no_quote text)
text_kept place.UriPath value text context script takes = (_, refl, normal_text_no_quote text)
text_kept place.UriQuery value text context script takes = (_, refl, component_no_quote text)
text_kept place.UriFragment value text context script takes = (_, refl, component_no_quote text)
text_kept place.JsValue value text context script takes = (js_value value text, refl, script)
text_kept place.JsSingle value text context script takes = (_, refl, (js_no_tag text, js_single_stays text))
text_kept place.JsDouble value text context script takes = (_, refl, (js_no_tag text, js_double_stays text))
text_kept place.CssValue value text context script takes =
    (_, refl, (css_value_no_tag text, css_value_no_quote text, css_value_leads text))
text_kept place.CssString value text context script takes =
    (_, refl, (css_no_tag text, css_no_quote text, css_single_stays text, css_double_stays text))
text_kept place.Plain value text context script takes = (_, refl, tt)

-- ---- texts of ints, bools and null are words

digit_character : (c : ℕ) → is_ascii_digit c ≡ true → is_word_character c ≡ true
digit_character c is = grind (arith, nat_tests)

all_digits : (text : List ℕ) → list_all is_ascii_digit text ≡ true → list_all is_word_character text ≡ true
all_digits [] are = refl
all_digits (c ∷ text) are = let parts = and_parts _ _ are in and_from _ _ (digit_character c parts.0)
    (all_digits text parts.1)

digits_word : (text : List ℕ) → are_some_digits text ≡ true → list_all is_word_character text ≡ true
digits_word [] are = refl
digits_word (c ∷ text) are = all_digits (c ∷ text) are

minus_character : (c : ℕ) → eqb c minus_sign ≡ true → is_word_character c ≡ true
minus_character c is = grind (arith, nat_tests)

int_if : (test : Bool) (c : ℕ) (text : List ℕ) → eqb c minus_sign ≡ test
    → (if test then are_some_digits text else are_some_digits (c ∷ text)) ≡ true →
    list_all is_word_character (c ∷ text) ≡ true
int_if true c text same are = and_from _ _ (minus_character c same) (digits_word text are)
int_if false c text same are = digits_word (c ∷ text) are

int_word : (text : List ℕ) → is_int_text text ≡ true → list_all is_word_character text ≡ true
int_word [] are = refl
int_word (c ∷ text) are = int_if (eqb c minus_sign) c text refl are

-- a text that is among words is a word
among_word : (words : List (List ℕ)) (text : List ℕ) → list_all (list_all is_word_character) words ≡ true
    → is_among words text ≡ true → list_all is_word_character text ≡ true
among_word [] text are one = let never : ⊥ = cc in absurd never
among_word (word ∷ words) text are one = among_if (bytes_eq text word) word words text refl are one
    (among_word words text)
  where
    among_if : (test : Bool) (word : List ℕ) (words : List (List ℕ)) (text : List ℕ) → bytes_eq text word ≡ test →
        list_all (list_all is_word_character) (word ∷ words) ≡ true → (test || is_among words text) ≡ true →
        (list_all (list_all is_word_character) words ≡ true → is_among words text ≡ true
        → list_all is_word_character text ≡ true) →
        list_all is_word_character text ≡ true
    among_if true word words text same are one rest =
        let parts = and_parts _ _ are in
        subst (λ t. list_all is_word_character t ≡ true) (sym ((bytes_eq-Decides text word).0 same)) parts.0
    among_if false word words text same are one rest = let parts = and_parts _ _ are in rest parts.1 one

word_script : (value : ValueClass) (text : List ℕ) → list_all is_word_character text ≡ true
    → KeepsScript (js_value class.Int text)
word_script value text are = (js_word_no_tag text are, js_word_leads text are)

-- ---- every placing

pub form_kept : (placing : Placing) (value : ValueClass) (text : List ℕ) (context : Dir)
    → takes_class placing value ≡ true → is_text_of value text ≡ true →
    (out : List ℕ) × (escaped_where placing value text context ≡ Some out) × KeepsPlaceAt placing out
form_kept (Takes point) class.Text text context takes is =
    text_kept point class.Text text context (js_literal_no_tag text, literal_leads text) takes
form_kept (Takes point) class.Int text context takes is =
    text_kept point class.Int text context (word_script class.Int text (int_word text is)) takes
form_kept (Takes point) class.Bool text context takes is =
    text_kept point class.Bool text context
    (word_script class.Bool text (among_word (codes "true" ∷ codes "false" ∷ []) text refl is)) takes
form_kept (Takes point) class.Null text context takes is =
    text_kept point class.Null text context
    (word_script class.Null text (among_word (codes "null" ∷ []) text refl is)) takes
form_kept (Takes point) class.Html text context takes is = let never : ⊥ = cc in absurd never
form_kept (Takes point) class.Attributes text context takes is = let never : ⊥ = cc in absurd never
form_kept (Refuses code) value text context takes is = let never : ⊥ = cc in absurd never

pub value_leads : (state : State) (value : ValueClass) (text : List ℕ) (context : Dir)
    → takes_class (placing state) value ≡ true → is_text_of value text ≡ true →
    (out : List ℕ) × (escaped_where (placing state) value text context ≡ Some out) × Leads state out
value_leads state value text context takes is =
    let form : (out : List ℕ) × (escaped_where (placing state) value text context ≡ Some out)
    × KeepsPlaceAt (placing state) out = form_kept (placing state) value text context takes is in
    (form.0, form.1, holds state form.0 form.2)
