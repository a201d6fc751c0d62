-- Rows that keep the state of a string of a script and of a style.
use Rattle.std.proofs.Common.{◌≡◌, ℕ, Bool, true, false, eqb, List, [], ◌∷◌, Option, None, Some, refl, ap, subst, ◌∙◌}
use Rattle.std.specs.Prelude.{is_some}
use Rattle.std.specs.List.{AllByRecursion, list_all}
use Rattle.std.proofs.lemmas.Bool.{and_parts, both_ways, eqb-true, false_from_ne_true}
use Rattle.soy_base.specs.Characters.{backslash, line_feed, carriage_return, single_quote, double_quote}
use Rattle.soy_base.specs.StateAfter.{state_after}
use Rattle.soy_base.proofs.States.{state_after-append_some}
use Rattle.esc_table.specs.EscapedText.{escaped_text}
use Rattle.esc_table.specs.RowText.{row_text}
use Rattle.escapers.specs.JsRows.{js_rows}
use Rattle.escapers.specs.CssRows.{css_rows}
use Rattle.escapers.proofs.KeptByRows.{Keeps, escaped_keeps}
use Rattle.script_state.specs.CssNext.{css_next}
use Rattle.script_state.specs.JsNext.{js_next}
use Rattle.script_state.specs.StringNext.{string_next}
use Rattle.script_state.specs.declared.js_state.JsState.{JsState}
use Rattle.script_state.specs.declared.js_state.JsState.TheVariants as js
use Rattle.script_state.specs.declared.css_state.CssState.{CssState}
use Rattle.script_state.specs.declared.css_state.CssState.TheVariants as css

-- a character without a row is none that has one
apart : (rows : List (ℕ × List ℕ)) (c d : ℕ) → is_some (row_text rows d) ≡ true → row_text rows c ≡ None
    → eqb c d ≡ false
apart rows c d some none =
    false_from_ne_true (eqb c d)
    (λ same. both_ways (is_some (row_text rows d))
    (subst (λ e. is_some (row_text rows e) ≡ false) (eqb-true c d same) (ap is_some none)) some)

-- where a backslash, the quote and the line breaks have rows, a character without one stays within a string
stays_in_string : {S : Type 0} (rows : List (ℕ × List ℕ)) (quote : ℕ) (within escaped past : S) →
    is_some (row_text rows backslash) ≡ true → is_some (row_text rows quote) ≡ true
    → is_some (row_text rows line_feed) ≡ true → is_some (row_text rows carriage_return) ≡ true →
    (c : ℕ) → row_text rows c ≡ None → string_next quote within escaped past c ≡ Some within
stays_in_string rows quote within escaped past a b d e c none =
    rw (
      apart rows c backslash a none,
      apart rows c quote b none,
      apart rows c line_feed d none,
      apart rows c
          carriage_return e none,
    ) refl

module _ {S : Type 0} (next : S → ℕ → Option S) (state : S) (is : Option S → Bool) (known : (o : Option S)
    → is o ≡ true → o ≡ Some state) where
  abbrev Stays : List ℕ → Type 0
  Stays text = state_after next state text ≡ Some state

  -- each row's text leads back to the state, by a test that is computed
  each_row : (rows : List (ℕ × List ℕ)) → list_all (λ row. is (state_after next state row.1)) rows ≡ true
      → AllByRecursion (λ row. Keeps Stays row.1) rows
  each_row [] all = tt
  each_row (row ∷ rows) all =
      let parts = and_parts _ _ all in (
        λ rest stays. state_after-append_some next state state row.1 rest (known _ parts.0)
            ∙ stays,
        each_row rows parts.1,
      )

  -- so every text that is escaped by the rows does
  rows_stay : (rows : List (ℕ × List ℕ)) → list_all (λ row. is (state_after next state row.1)) rows ≡ true →
      ((c : ℕ) → row_text rows c ≡ None → next state c ≡ Some state) → (text : List ℕ)
      → state_after next state (escaped_text rows text) ≡ Some state
  rows_stay rows all plain =
      escaped_keeps Stays rows (each_row rows all)
      (λ c none rest stays. state_after-append_some next state state (c ∷ []) rest (one c (plain c none)) ∙ stays)
      refl where
        one : (c : ℕ) → next state c ≡ Some state → state_after next state (c ∷ []) ≡ Some state
        one c leads = rw leads refl

abbrev is_js_single : Option JsState → Bool
is_js_single (Some js.Single) = true
is_js_single _ = false

abbrev is_js_double : Option JsState → Bool
is_js_double (Some js.Double) = true
is_js_double _ = false

abbrev is_css_single : Option CssState → Bool
is_css_single (Some css.Single) = true
is_css_single _ = false

abbrev is_css_double : Option CssState → Bool
is_css_double (Some css.Double) = true
is_css_double _ = false

known_js_single : (o : Option JsState) → is_js_single o ≡ true → o ≡ Some js.Single
known_js_single (Some js.Single) is = refl
known_js_single (Some _) is = cc
known_js_single None is = cc

known_js_double : (o : Option JsState) → is_js_double o ≡ true → o ≡ Some js.Double
known_js_double (Some js.Double) is = refl
known_js_double (Some _) is = cc
known_js_double None is = cc

known_css_single : (o : Option CssState) → is_css_single o ≡ true → o ≡ Some css.Single
known_css_single (Some css.Single) is = refl
known_css_single (Some _) is = cc
known_css_single None is = cc

known_css_double : (o : Option CssState) → is_css_double o ≡ true → o ≡ Some css.Double
known_css_double (Some css.Double) is = refl
known_css_double (Some _) is = cc
known_css_double None is = cc

pub js_single_stays : (text : List ℕ) → state_after js_next js.Single (escaped_text js_rows text) ≡ Some js.Single
js_single_stays = rows_stay js_next js.Single is_js_single known_js_single js_rows refl
    (stays_in_string js_rows single_quote js.Single js.SingleEscape js.Code refl refl refl refl)

pub js_double_stays : (text : List ℕ) → state_after js_next js.Double (escaped_text js_rows text) ≡ Some js.Double
js_double_stays = rows_stay js_next js.Double is_js_double known_js_double js_rows refl
    (stays_in_string js_rows double_quote js.Double js.DoubleEscape js.Code refl refl refl refl)

pub css_single_stays : (text : List ℕ) → state_after css_next css.Single (escaped_text css_rows text) ≡ Some css.Single
css_single_stays = rows_stay css_next css.Single is_css_single known_css_single css_rows refl
    (stays_in_string css_rows single_quote css.Single css.SingleEscape css.Code refl refl refl refl)

pub css_double_stays : (text : List ℕ) → state_after css_next css.Double (escaped_text css_rows text) ≡ Some css.Double
css_double_stays = rows_stay css_next css.Double is_css_double known_css_double css_rows refl
    (stays_in_string css_rows double_quote css.Double css.DoubleEscape css.Code refl refl refl refl)
