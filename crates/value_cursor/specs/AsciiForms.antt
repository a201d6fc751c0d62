-- The escaped forms of the 128 characters of ASCII by an escaper by characters, in bytes, one after another.
--
-- By Html the one at 38, the number of `&`, is `&amp;`.
use Rattle.std.specs.Prelude.{ℕ, zero, suc, ◌+◌, List, [], ◌∷◌, encode_utf8_all}
use Rattle.escapers.specs.declared.escaper.Escaper.{Escaper}
use Rattle.escapers.specs.Esc.{escaped_character}

-- of so many characters from one on
abbrev pub forms_from : Escaper → ℕ → ℕ → List (List ℕ)
forms_from how c zero = []
forms_from how c (suc n) = encode_utf8_all (escaped_character how c) ∷ forms_from how (c + 1) n

abbrev pub ascii_forms : Escaper → List (List ℕ)
ascii_forms how = forms_from how 0 128
