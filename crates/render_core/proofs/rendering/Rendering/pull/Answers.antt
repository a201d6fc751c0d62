use Rattle.std.proofs.Common.{refl, subst, sym}
use Rattle.soy_tree.specs.ViewValues.{view_value}
use Rattle.template_ir.specs.declared.program.ProgramParts.{ProgramParts}
use Rattle.render_core.specs.Pulls.{Pulls}
use Rattle.render_core.specs.Rest.{Fits, rest_of}
use Rattle.render_core.proofs.Pullings.{ended_whole, pulled_bytes, pulled_deep, pulled_end}
use Rattle.render_core.proofs.rendering.Rendering.pull.Goals as goal

pub pull_in-requires : goal.pull_in-requires
pull_in-requires g c =
    subst (λ (q : ProgramParts). Fits q (view_value c.args.input.now) c.args.self.now) (sym c.parts.ensures.parts)
    c.requires

pub returns : goal.returns
returns g c =
    let p = c.args.program.now in
    let input = view_value c.args.input.now in
    let old = c.args.self.now in
    let new = c.pull_in.new.self in
    let pulls = subst (λ (q : ProgramParts). Pulls (rest_of q input old).begun (rest_of q input old)
    (rest_of q input new)
    old.done new.done c.args.room.now c.pull_in.new.room c.args.steps.now c.pull_in.new.steps c.pull_in.result)
    c.parts.ensures.parts c.pull_in.ensures.pulls in
    record {
      fits = subst (λ (q : ProgramParts). Fits q input new) c.parts.ensures.parts c.pull_in.ensures.fits;
      pulls = pulls;
      bytes =
          pulled_bytes (rest_of p input old).begun (rest_of p input old) (rest_of p input new) old.done new.done
          c.args.room.now c.pull_in.new.room c.args.steps.now c.pull_in.new.steps c.pull_in.result refl pulls;
      end =
          pulled_end (rest_of p input old).begun (rest_of p input old) (rest_of p input new) old.done new.done
          c.args.room.now c.pull_in.new.room c.args.steps.now c.pull_in.new.steps c.pull_in.result pulls;
      deep =
          λ call none some pieces stop.
          pulled_deep (rest_of p input old).begun (rest_of p input old) (rest_of p input new) old.done new.done
          c.args.room.now c.pull_in.new.room c.args.steps.now c.pull_in.new.steps c.pull_in.result call refl
          (ended_whole p input old c.requires) pulls none some pieces stop;
    }
