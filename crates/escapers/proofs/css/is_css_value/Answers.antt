use Rattle.std.proofs.Common.{◌≡◌, ◌∙◌, ℕ, List, [], ◌∷◌, length, encode_utf8_all, ap, sym, refl, arith, not}
use Rattle.std.specs.List.{list_all}
use Rattle.std.specs.Str.{chars}
use Rattle.std.proofs.lemmas.Bool.Decides.{nat_tests}
use Rattle.std.proofs.lemmas.List.{nil_from_length}
use Rattle.std.proofs.lemmas.Str.{chars-nil, encodes-chars}
use Rattle.escapers.specs.CssValue.{is_css_value, is_value_character}
use Rattle.escapers.proofs.css.is_css_value.Goals as goal

-- a text that isn't empty is tested character by character
tested : (cs : List ℕ) → (length (encode_utf8_all cs) ≡ 0 → ⊥) → list_all is_value_character cs ≡ is_css_value cs
tested [] some = absurd (some refl)
tested (c ∷ cs) some = refl

pub returns-then-not-is_empty : goal.returns-then-not-is_empty
returns-then-not-is_empty c =
    c.has_value_characters.ensures
    ∙ tested (chars c.args.text.now)
    (λ none. grind (
      arith,
      nat_tests,
      none,
      ap length (encodes-chars c.args.text.now c.utf8.text),
      c.is_empty.ensures,
      c.if-not-is_empty.ensures,
    ))

pub returns-else-not-is_empty : goal.returns-else-not-is_empty
returns-else-not-is_empty c =
    ap not c.if-not-is_empty.false
    ∙ sym (ap is_css_value
    (ap chars (nil_from_length c.args.text.now
    (grind (arith, nat_tests, c.is_empty.ensures, c.if-not-is_empty.ensures))) ∙ chars-nil))
