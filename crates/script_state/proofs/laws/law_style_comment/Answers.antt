use Rattle.script_state.proofs.Comments.{style_comment_ends, within_style_comment}
use Rattle.script_state.proofs.laws.law_style_comment.Goals as goal

pub returns-clause-within : goal.returns-clause-within
returns-clause-within c = within_style_comment

pub returns-clause-after : goal.returns-clause-after
returns-clause-after c = style_comment_ends
