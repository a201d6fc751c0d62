-- A text that stays within a string of a style, whichever quote the string has, and within the style's element.
--
-- Read by the table of styles from inside the string, it ends inside it, with no fault and no escape open. For a reader
-- of HTML it has no `<` and no U+0000, and for one that doesn't know escapes no quote and no line break (CSS Syntax
-- Level 3, "Consume a string token"; WHATWG HTML, "Tokenization").
--
-- `a\22 b` is such a text; `a"b` ends a string, and `a\` leaves an escape open.
use Rattle.std.specs.Prelude.{◌≡◌, ℕ, List, ◌∷◌, Some, IsTrue, codes}
use Rattle.soy_base.specs.Among.{lacks}
use Rattle.soy_base.specs.StateAfter.{state_after}
use Rattle.script_state.specs.CssNext.{css_next}
use Rattle.script_state.specs.declared.css_state.CssState.TheVariants as css

abbrev pub css_string_ends : List ℕ
css_string_ends = 0x0 ∷ 0xC ∷ codes "\"'\n\r<"

pub record IsCssStringText (text : List ℕ) : Type 0 where
  pub single : state_after css_next css.Single text ≡ Some css.Single
  pub double : state_after css_next css.Double text ≡ Some css.Double
  pub no_end : IsTrue (lacks css_string_ends text)
