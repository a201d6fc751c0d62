use Rattle.std.proofs.Common.{◌≡◌, [], subst}
use Rattle.std.specs.Prelude.{IfOk}
use Rattle.soy_tree.specs.ViewValues.{view_value}
use Rattle.template_ir.specs.Run.{run}
use Rattle.template_ir.specs.ViewOps.{view_program}
use Rattle.template_ir.specs.declared.program.ProgramParts.{ProgramParts}
use Rattle.render_core.specs.Rest.{Fits, rest_of, solid}
use Rattle.render_core.proofs.rendering.Rendering.begin.Goals as goal

pub returns-clause-fits : goal.returns-clause-fits
returns-clause-fits c =
    let input = view_value c.args.input.now in
    subst (λ (q : ProgramParts). IfOk c.begin_in.result (λ r. Fits q input r)) c.parts.ensures.parts
    c.begin_in.ensures.fits

pub returns-clause-rest : goal.returns-clause-rest
returns-clause-rest c =
    let input = view_value c.args.input.now in
    subst (λ (q : ProgramParts). IfOk c.begin_in.result (λ r. rest_of q input r
    ≡ record { begun = []; coming = solid (run (view_program q) c.args.template input) })) c.parts.ensures.parts
    c.begin_in.ensures.rest
