-- The escaped form of a value's text at a place, over all places.
--
-- The place and the value's class give the escaper, and the escaper gives the form. At the place Text the form is the
-- wrapped text, which alone goes by the direction of the context. Where a place doesn't take a class, and where a block
-- is printed, which gives pieces of its own, there is no form. Beside it is which texts a value of a class may have.
-- Example: the string `<` becomes `<span dir="ltr">&lt;</span>` in text, and `\x3c` in a string of a script.
use Rattle.std.specs.Prelude.{ℕ, Bool, true, false, ◌==◌, List, [], ◌∷◌, Option, Some, None, if◌then◌else◌, codes}
use Rattle.std.specs.Prelude.{Result, Ok, Err, unwrap_or}
use Rattle.std.specs.Char.{is_ascii_digit}
use Rattle.std.specs.List.{list_all}
use Rattle.soy_base.specs.Among.{is_among}
use Rattle.soy_base.specs.Characters.{minus_sign}
use Rattle.soy_base.specs.declared.direction.Dir.{Dir}
use Rattle.soy_base.specs.declared.place.Place.{Place}
use Rattle.soy_base.specs.declared.place.Placing.{Placing}
use Rattle.soy_base.specs.declared.place.Placing.TheVariants.{Takes, Refuses}
use Rattle.soy_base.specs.declared.place.ValueClass.{ValueClass}
use Rattle.soy_base.specs.declared.place.ValueClass.TheVariants as class
use Rattle.escapers.specs.declared.escaper.Escaper.{Escaper}
use Rattle.escapers.specs.declared.escaper.Escaper.TheVariants as escaper
use Rattle.escapers.specs.Esc.{esc}
use Rattle.escapers.specs.EscaperFor.{escaper_of}
use Rattle.bidi_text.specs.Wrap.{wrapped_text}
use Rattle.soy_base.specs.declared.code.Code.{Code}

abbrev pub escaped_by : Option Escaper → ValueClass → List ℕ → Dir → Option (List ℕ)
escaped_by None value text context = None
escaped_by (Some escaper.Wrap) value text context = Some (wrapped_text text context)
escaped_by (Some how) value text context = esc how value text

abbrev pub escaped_at : Place → ValueClass → List ℕ → Dir → Option (List ℕ)
escaped_at point value text context = escaped_by (escaper_of point value) value text context

-- the same by a placing; where a value is refused there is no form
abbrev pub escaped_where : Placing → ValueClass → List ℕ → Dir → Option (List ℕ)
escaped_where (Takes point) value text context = escaped_at point value text context
escaped_where (Refuses code) value text context = None

-- ---- which texts a value of a class has

abbrev pub are_some_digits : List ℕ → Bool
are_some_digits [] = false
are_some_digits (c ∷ cs) = list_all is_ascii_digit (c ∷ cs)

-- decimal digits, with or without a `-` before them
abbrev pub is_int_text : List ℕ → Bool
is_int_text [] = false
is_int_text (c ∷ cs) = if c == minus_sign then are_some_digits cs else are_some_digits (c ∷ cs)

-- a printed value of this class may have this text; a block has none
abbrev pub is_text_of : ValueClass → List ℕ → Bool
is_text_of class.Text text = true
is_text_of class.Int text = is_int_text text
is_text_of class.Bool text = is_among (codes "true" ∷ codes "false" ∷ []) text
is_text_of class.Null text = is_among (codes "null" ∷ []) text
is_text_of _ text = false

-- where a value has no form, it gives nothing
abbrev pub value_form : Result Placing Code → ValueClass → List ℕ → Dir → List ℕ
value_form (Ok placing) value text context = unwrap_or (escaped_where placing value text context) []
value_form (Err code) value text context = []
