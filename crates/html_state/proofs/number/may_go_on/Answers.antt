use Rattle.std.proofs.Common.{arith, ◌∙◌}
use Rattle.html_state.proofs.GoesOn.{goes_on_end}
use Rattle.html_state.proofs.number.may_go_on.Goals as goal

pub returns : goal.returns
returns c = c.is_some_allowed-2.ensures ∙ goes_on_end c.args.base c.args.more c.loop-turn.turn c.loop-turn.low
    c.loop-turn.high _ (omega arith) c.loop-turn.invariant.same
