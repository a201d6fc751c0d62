use Rattle.std.proofs.Common.{ap, ◌∙◌, sym, length, ◌≤◌, arith, ℕ, List, Option}
use Rattle.std.specs.List.{slice_get}
use Rattle.soy_tree.specs.ViewTrees.{view_params}
use Rattle.soy_tree.specs.ViewValues.{view_value}
use Rattle.soy_pieces.specs.InputEnv.{input_env, names_of}
use Rattle.soy_tree.specs.declared.tree.Param.{Param}
use Rattle.template_ir.specs.declared.program.Routine.{Routine}
use Rattle.render_core.specs.Variables.{cells_of, env_at, param_name, name_of_param}
use Rattle.render_core.proofs.Begins.{entry_fits, rest_some}
use Rattle.render_core.proofs.rendering.Rendering.begin_routine.Goals as goal

pub bind_params-requires-clause-params : goal.bind_params-requires-clause-params
bind_params-requires-clause-params c =
    λ (number : ℕ). ap (λ (ps : List Param). name_of_param (slice_get ps number)) c.items.ensures
    ∙ sym (ap (λ (r : Option Routine). param_name number r) c.requires.routine)

pub returns-in-Ok-clause-fits : goal.returns-in-Ok-clause-fits
returns-in-Ok-clause-fits c =
    let p = c.args.scene.now.program.now in
    let input = view_value c.args.scene.now.input.now in
    let ends = c.fresh.ensures in
    entry_fits p input c.fresh.result c.args.routine.now.body c.in-Ok.env ends.top ends.below ends.piece ends.done
    (let h : c.in-Ok.env ≤ length c.fresh.result.machine.bound =
    omega (arith, c.in-Ok.ensures.low, ap length ends.bound)
    in h)

pub returns-in-Ok-clause-rest : goal.returns-in-Ok-clause-rest
returns-in-Ok-clause-rest c =
    let p = c.args.scene.now.program.now in
    let input = view_value c.args.scene.now.input.now in
    let ends = c.fresh.ensures in
    rest_some p input c.fresh.result c.args.template c.args.routine.now c.in-Ok.env c.requires.routine ends.top
    ends.below
    ends.texts ends.piece
    (ap (λ bs. env_at (cells_of p input bs) c.in-Ok.env) ends.bound
    ∙ (c.in-Ok.ensures.env ∙ ap (λ ps. input_env (names_of (view_params ps)) input) c.items.ensures))
