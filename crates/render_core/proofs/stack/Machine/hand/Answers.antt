use Rattle.render_core.proofs.stack.Machine.hand.Goals as goal

pub returns-in-Block : goal.returns-in-Block
returns-in-Block g c = c.hand_block.ensures _

pub returns-in-Same : goal.returns-in-Same
returns-in-Same g c = c.hand_same.ensures _
