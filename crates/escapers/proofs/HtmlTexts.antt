-- Each `&` of a text escaped by the rows of HTML begins a reference.
use Rattle.std.proofs.Common.{◌≡◌, ℕ, Bool, true, false, not, ◌&&◌, ◌||◌, eqb, List, [], ◌∷◌, ◌++◌, None, refl, ap, ◌∙◌}
use Rattle.std.proofs.Common.{subst, arith}
use Rattle.std.proofs.lemmas.Bool.{and_parts}
use Rattle.std.proofs.lemmas.Bool.Decides.{nat_tests}
use Rattle.esc_table.specs.EscapedText.{escaped_text}
use Rattle.esc_table.specs.HtmlRows.{html_rows}
use Rattle.esc_table.specs.RowText.{row_text}
use Rattle.escapers.specs.IsHtmlText.{begins_reference}
use Rattle.soy_base.specs.Characters.{ampersand}
use Rattle.escapers.proofs.KeptByRows.{Keeps, escaped_keeps}

-- wherever an `&` stands, a reference begins
abbrev has_references : List ℕ → Bool
has_references [] = true
has_references (c ∷ text) = (not (eqb c ampersand) || begins_reference (c ∷ text)) && has_references text

abbrev Holds : List ℕ → Type 0
Holds text = has_references text ≡ true

-- an `&` has a row
no_ampersand : (c : ℕ) → row_text html_rows c ≡ None → eqb c ampersand ≡ false
no_ampersand c none = grind (arith, nat_tests)

-- so a character without one begins no reference
plain_kept : (c : ℕ) → row_text html_rows c ≡ None → Keeps Holds (c ∷ [])
plain_kept c none rest holds =
    ap (λ t. (not t || begins_reference (c ∷ rest)) && has_references rest) (no_ampersand c none) ∙ holds

-- each row's text is computed
html_holds : (text : List ℕ) → Holds (escaped_text html_rows text)
html_holds =
    escaped_keeps Holds html_rows
    (λ _ h. h, (λ _ h. h, (λ _ h. h, (λ _ h. h, (λ _ h. h, (λ _ h. h, (λ _ h. h, tt))))))) plain_kept refl

-- a reference begins at an `&` in the text
from_ampersand : (before after : List ℕ) → has_references (before ++ ampersand ∷ after) ≡ true
    → begins_reference (ampersand ∷ after) ≡ true
from_ampersand [] after holds = (and_parts _ _ holds).0
from_ampersand (c ∷ before) after holds = from_ampersand before after (and_parts _ _ holds).1

-- and does in every escaped text
pub html_references_begin : (text before after : List ℕ) → escaped_text html_rows text ≡ before ++ ampersand ∷ after
    → begins_reference (ampersand ∷ after) ≡ true
html_references_begin text before after cut =
    from_ampersand before after (subst (λ l. has_references l ≡ true) cut (html_holds text))
