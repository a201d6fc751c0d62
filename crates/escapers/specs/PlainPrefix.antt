-- The longest prefix of a text whose characters stand for themselves by an escaper by characters.
--
-- By Html the prefix of `a b<c` is `a b`, and by UriComponent it is `a`.
use Rattle.std.specs.Prelude.{ℕ, List, [], ◌∷◌, Bool}
use Rattle.std.specs.Str.{bytes_eq}
use Rattle.soy_base.specs.Cuts.{prefix_while}
use Rattle.escapers.specs.declared.escaper.Escaper.{Escaper}
use Rattle.escapers.specs.Esc.{escaped_character}

abbrev pub stands_for_itself : Escaper → ℕ → Bool
stands_for_itself how c = bytes_eq (escaped_character how c) (c ∷ [])

abbrev pub plain_prefix : Escaper → List ℕ → List ℕ
plain_prefix how text = prefix_while (stands_for_itself how) text
