use Rattle.render_core.proofs.stack.Machine.step.Goals as goal

pub returns-in-Static-clause-stepped : goal.returns-in-Static-clause-stepped
returns-in-Static-clause-stepped g c = c.step_static.ensures.stepped _
