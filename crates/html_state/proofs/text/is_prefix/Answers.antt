use Rattle.std.proofs.Common.{sym, ◌∙◌, arith}
use Rattle.html_state.proofs.Texts.{past_text}
use Rattle.html_state.proofs.text.is_prefix.Goals as goal

pub returns-then-i-text : goal.returns-then-i-text
returns-then-i-text c = sym (past_text c.loop-i.i c.args.characters.now c.args.text.now (omega arith) (omega arith))
    ∙ c.loop-i.invariant
