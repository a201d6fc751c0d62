use Rattle.std.proofs.Common.{subst}
use Rattle.render_core.specs.Stepping.{GaveForm}
use Rattle.render_core.specs.declared.frame.Ahead.{Ahead}
use Rattle.render_core.specs.declared.frame.Frame.TheVariants as frame
use Rattle.render_core.proofs.stack.Machine.gather_static.Goals as goal

pub returns-clause-gave : goal.returns-clause-gave
returns-clause-gave c p input out =
    subst (λ (g : Ahead). GaveForm p input c.args.self.now c.gather_more.new.self (frame.Ops g) c.args.text.now
    out c.gather_more.result) c.past.ensures (c.gather_more.ensures.gave p input out)
