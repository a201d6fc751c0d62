use Rattle.stable_bidi.proofs.WorkedPages.{auto_lines, b_left, nested_lines, override_lines, past_lines, shown_past}
use Rattle.stable_bidi.proofs.WorkedPages.{shown_within, value_left, word_left}
use Rattle.stable_bidi.proofs.rows.law_page_line_rows.Goals as goal

pub returns-clause-override_lines : goal.returns-clause-override_lines
returns-clause-override_lines c = override_lines

pub returns-clause-value_before : goal.returns-clause-value_before
returns-clause-value_before c = value_left

pub returns-clause-after_value : goal.returns-clause-after_value
returns-clause-after_value c = b_left

pub returns-clause-auto_lines : goal.returns-clause-auto_lines
returns-clause-auto_lines c = auto_lines

pub returns-clause-word_before : goal.returns-clause-word_before
returns-clause-word_before c = word_left

pub returns-clause-nested_lines : goal.returns-clause-nested_lines
returns-clause-nested_lines c = nested_lines

pub returns-clause-nested_within : goal.returns-clause-nested_within
returns-clause-nested_within c = shown_within

pub returns-clause-past_lines : goal.returns-clause-past_lines
returns-clause-past_lines c = past_lines

pub returns-clause-past_limit : goal.returns-clause-past_limit
returns-clause-past_limit c = shown_past
