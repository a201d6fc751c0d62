-- The class that the general category of a character gives, where no code point of the table decides before it (Unicode
-- Character Database, General_Category).
--
-- Mn gives NSM, Lu gives L, and Sm gives ON.
use Rattle.std.specs.Prelude.{if◌then◌else◌}
use Rattle.ucd_category.specs.declared.GeneralCategory.{GeneralCategory}
use Rattle.bidi_class.specs.declared.class.Class.{Class}
use Rattle.bidi_class.specs.declared.class.Class.TheVariants.{L, NSM, ON}
use Rattle.bidi_class.specs.Class.{is_one_of, mark_categories, letter_categories}

-- NSM for a mark, and the other class for the rest
abbrev pub unless_mark : Class → GeneralCategory → Class
unless_mark other category = if is_one_of category mark_categories then NSM else other

-- NSM for a mark, L for a letter, a number or a spacing mark, and ON for the rest
abbrev pub category_class : GeneralCategory → Class
category_class category = unless_mark (if is_one_of category letter_categories then L else ON) category
