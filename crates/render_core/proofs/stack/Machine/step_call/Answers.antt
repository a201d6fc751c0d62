use Rattle.std.proofs.Common.{refl, ap}
use Rattle.soy_tree.specs.ViewValues.{view_value}
use Rattle.render_core.specs.declared.frame.Frame.TheVariants as frame
use Rattle.render_core.specs.declared.stack.Machine.{Machine}
use Rattle.render_core.proofs.Calls.{call_begins, no_handing}
use Rattle.render_core.proofs.stack.Machine.step_call.Goals as goal

pub returns : goal.returns
returns c n =
    let p = c.args.scene.now.program.now in
    let input = view_value c.args.scene.now.input.now in
    let old = c.args.self.now in
    let f = c.args.ahead in
    let new : Machine = record old { top = frame.Call f (record { next = 0; inner = 0; mark = c.mark.result }) } in
    call_begins p input old new f c.args.callee.now n c.requires.top c.requires.fits c.requires.op c.requires.low
    (ap (λ k. frame.Call f (no_handing p input k)) c.mark.ensures) refl refl refl
