-- The escaped form of a value's text at any place but inside a tag: the wrapped text by Wrap, and `esc` by every other
-- escaper.
--
-- By Wrap in a context from left to right the text `<` becomes `<span dir="ltr">&lt;</span>`.
use Rattle.std.specs.Prelude.{ℕ, List, Option, Some}
use Rattle.soy_base.specs.declared.direction.Dir.{Dir}
use Rattle.soy_base.specs.declared.place.ValueClass.{ValueClass}
use Rattle.escapers.specs.declared.escaper.Escaper.{Escaper}
use Rattle.escapers.specs.declared.escaper.Escaper.TheVariants as escaper
use Rattle.escapers.specs.Esc.{esc}
use Rattle.bidi_text.specs.Wrap.{wrapped_text}

abbrev pub escaped_form : Escaper → ValueClass → List ℕ → Dir → Option (List ℕ)
escaped_form escaper.Wrap class text context = Some (wrapped_text text context)
escaped_form how class text context = esc how class text
