-- Whether a place takes a value of a class.
--
-- A block of HTML stands in text alone and a block of attributes in a tag alone. What isn't markup stands anywhere but
-- in a tag.
-- Example: a string may stand in the query of a URI, and a block of HTML may not.
use Rattle.std.specs.Prelude.{Bool, true, false, not}
use Rattle.soy_base.specs.declared.place.Place.{Place}
use Rattle.soy_base.specs.declared.place.Place.TheVariants as place
use Rattle.soy_base.specs.declared.place.Placing.{Placing}
use Rattle.soy_base.specs.declared.place.Placing.TheVariants.{Takes, Refuses}
use Rattle.soy_base.specs.declared.place.ValueClass.{ValueClass}
use Rattle.soy_base.specs.declared.place.ValueClass.TheVariants as class

abbrev pub is_text_place : Place → Bool
is_text_place place.Text = true
is_text_place _ = false

abbrev pub is_tag_place : Place → Bool
is_tag_place place.Tag = true
is_tag_place _ = false

abbrev pub takes_class : Placing → ValueClass → Bool
takes_class (Takes point) class.Html = is_text_place point
takes_class (Takes point) class.Attributes = is_tag_place point
takes_class (Takes point) _ = not (is_tag_place point)
takes_class (Refuses _) _ = false
