-- A text that HTML takes for text alone, between tags and in a quoted attribute: it holds none of
-- `<`, `>`, the quotes, U+0000 and CR, and wherever an `&` stands in it, one of six character
-- references begins (WHATWG HTML, "Character references", "Attributes").
--
-- `a&lt;b` is such a text, and `a&b` is not.
use Rattle.std.specs.Prelude.{◌≡◌, ℕ, List, [], ◌∷◌, ◌++◌, Bool, IsTrue, nat_eq, codes}
use Rattle.std.specs.List.{list_any, starts_with}
use Rattle.soy_base.specs.Among.{lacks}
use Rattle.soy_base.specs.Characters.{ampersand}

abbrev pub html_markup : List ℕ
html_markup = 0x0 ∷ codes "<>\"'\r"

abbrev pub html_references : List (List ℕ)
html_references =
    codes "&amp;" ∷ codes "&lt;" ∷ codes "&gt;" ∷ codes "&quot;"
    ∷ codes "&#39;" ∷ codes "&#13;" ∷ []

abbrev pub begins_reference : List ℕ → Bool
begins_reference text = list_any (λ reference. starts_with nat_eq text reference) html_references

pub record IsHtmlText (text : List ℕ) : Type 0 where
  pub no_markup : IsTrue (lacks html_markup text)
  pub references : (before after : List ℕ) → text ≡ before ++ ampersand ∷ after
      → IsTrue (begins_reference (ampersand ∷ after))
