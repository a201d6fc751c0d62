use Rattle.std.proofs.Common.{Some, ap}
use Rattle.render_core.proofs.step_loop.loop_of.Goals as goal

pub returns-in-For : goal.returns-in-For
returns-in-For c = (c.in-For.field-0, c.in-For.field-2, ap Some c.in-For.is)
