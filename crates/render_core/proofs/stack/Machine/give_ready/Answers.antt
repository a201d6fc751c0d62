use Rattle.render_core.proofs.stack.Machine.give_ready.Goals as goal

pub returns-in-Static-clause-gives : goal.returns-in-Static-clause-gives
returns-in-Static-clause-gives g c = c.static_ready.ensures.gives _
