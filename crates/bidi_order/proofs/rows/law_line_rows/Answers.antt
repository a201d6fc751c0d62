use Rattle.std.proofs.Common.{refl}
use Rattle.bidi_class.specs.Class.{bidi_class}
use Rattle.html_state.specs.References.{may_go_on}
use Rattle.ucd_category.specs.GeneralCategory.{general_category}
use Rattle.ucd_category.specs.GeneralCategoryRows.{general_category_rows}
use Rattle.ucd_table.specs.Rows.{value_in}
use Rattle.bidi_order.specs.Lines.{lines}
use Rattle.bidi_order.proofs.rows.law_line_rows.Goals as goal

pub returns-clause-with_override : goal.returns-clause-with_override
unfolding lines may_go_on bidi_class general_category value_in general_category_rows
returns-clause-with_override c = refl

pub returns-clause-with_override_hebrew : goal.returns-clause-with_override_hebrew
unfolding lines may_go_on bidi_class general_category value_in general_category_rows
returns-clause-with_override_hebrew c = refl

pub returns-clause-with_auto : goal.returns-clause-with_auto
unfolding lines may_go_on bidi_class general_category value_in general_category_rows
returns-clause-with_auto c = refl

pub returns-clause-with_auto_hebrew : goal.returns-clause-with_auto_hebrew
unfolding lines may_go_on bidi_class general_category value_in general_category_rows
returns-clause-with_auto_hebrew c = refl

pub returns-clause-nested : goal.returns-clause-nested
unfolding lines may_go_on bidi_class general_category value_in general_category_rows
returns-clause-nested c = refl

pub returns-clause-nested_hebrew : goal.returns-clause-nested_hebrew
unfolding lines may_go_on bidi_class general_category value_in general_category_rows
returns-clause-nested_hebrew c = refl

pub returns-clause-past : goal.returns-clause-past
unfolding lines may_go_on bidi_class general_category value_in general_category_rows
returns-clause-past c = refl

pub returns-clause-past_hebrew : goal.returns-clause-past_hebrew
unfolding lines may_go_on bidi_class general_category value_in general_category_rows
returns-clause-past_hebrew c = refl

pub returns-clause-fault : goal.returns-clause-fault
unfolding lines may_go_on bidi_class general_category value_in general_category_rows
returns-clause-fault c = refl

pub returns-clause-cut : goal.returns-clause-cut
unfolding lines may_go_on bidi_class general_category value_in general_category_rows
returns-clause-cut c = refl
