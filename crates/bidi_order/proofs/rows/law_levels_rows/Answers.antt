use Rattle.std.proofs.Common.{refl}
use Rattle.bidi_class.specs.Class.{bidi_class}
use Rattle.bidi_class.specs.Brackets.{bracket}
use Rattle.bidi_order.specs.Levels.{line_levels}
use Rattle.bidi_order.specs.Resolve.{resolve}
use Rattle.ucd_category.specs.GeneralCategory.{general_category}
use Rattle.ucd_category.specs.GeneralCategoryRows.{general_category_rows}
use Rattle.ucd_table.specs.Rows.{value_in}
use Rattle.bidi_order.proofs.rows.law_levels_rows.Goals as goal

pub returns-clause-isolate : goal.returns-clause-isolate
unfolding line_levels resolve bidi_class bracket general_category value_in general_category_rows
returns-clause-isolate c = refl

pub returns-clause-digit : goal.returns-clause-digit
unfolding line_levels resolve bidi_class bracket general_category value_in general_category_rows
returns-clause-digit c = refl

pub returns-clause-reset : goal.returns-clause-reset
unfolding line_levels resolve bidi_class bracket general_category value_in general_category_rows
returns-clause-reset c = refl

pub returns-clause-brackets : goal.returns-clause-brackets
unfolding line_levels resolve bidi_class bracket general_category value_in general_category_rows
returns-clause-brackets c = refl

pub returns-clause-separator : goal.returns-clause-separator
unfolding line_levels resolve bidi_class bracket general_category value_in general_category_rows
returns-clause-separator c = refl

pub returns-clause-found : goal.returns-clause-found
unfolding line_levels resolve bidi_class bracket general_category value_in general_category_rows
returns-clause-found c = refl

pub returns-clause-terminator : goal.returns-clause-terminator
unfolding line_levels resolve bidi_class bracket general_category value_in general_category_rows
returns-clause-terminator c = refl
