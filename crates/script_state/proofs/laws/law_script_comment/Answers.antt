use Rattle.std.proofs.Common.{refl}
use Rattle.script_state.specs.JsNext.{js_next}
use Rattle.script_state.specs.declared.js_state.JsState.TheVariants as js
use Rattle.script_state.proofs.Comments.{comment_ends, line_comment_ends, within_block, within_line}
use Rattle.script_state.proofs.laws.law_script_comment.Goals as goal

pub returns-clause-within_block : goal.returns-clause-within_block
returns-clause-within_block c = within_block

pub returns-clause-within_line : goal.returns-clause-within_line
returns-clause-within_line c = within_line

pub returns-clause-after_block : goal.returns-clause-after_block
returns-clause-after_block c = comment_ends js_next js.Block js.BlockStar js.Code (λ c. refl) (λ c. refl)

pub returns-clause-after_line : goal.returns-clause-after_line
returns-clause-after_line c = line_comment_ends
