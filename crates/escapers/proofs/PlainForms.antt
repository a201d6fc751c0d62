-- By Plain a text is its own form.
use Rattle.std.proofs.Common.{◌≡◌, ℕ, List, [], ◌∷◌, refl, ap}
use Rattle.std.specs.List.{flat_map}
use Rattle.escapers.specs.Esc.{escaped_character}
use Rattle.escapers.specs.declared.escaper.Escaper.TheVariants as escaper

pub plain_form : (text : List ℕ) → flat_map (escaped_character escaper.Plain) text ≡ text
plain_form [] = refl
plain_form (c ∷ text) = ap (λ l. c ∷ l) (plain_form text)
