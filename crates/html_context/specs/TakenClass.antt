-- A class that a place takes.
--
-- Example: a tag takes attributes, and any other place takes a text.
use Rattle.soy_base.specs.declared.place.Place.{Place}
use Rattle.soy_base.specs.declared.place.Place.TheVariants as place
use Rattle.soy_base.specs.declared.place.ValueClass.{ValueClass}
use Rattle.soy_base.specs.declared.place.ValueClass.TheVariants as class

abbrev pub taken_class : Place → ValueClass
taken_class place.Tag = class.Attributes
taken_class _ = class.Text
