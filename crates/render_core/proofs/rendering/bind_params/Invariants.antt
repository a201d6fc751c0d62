use Rattle.std.proofs.Common.{◌≡◌, ◌≤◌, drop, length}
use Rattle.soy_tree.specs.ViewTrees.{view_params}
use Rattle.soy_tree.specs.ViewValues.{view_value}
use Rattle.soy_pieces.specs.InputEnv.{input_env, names_of}
use Rattle.render_core.specs.Begins.{FindsFields, HasRoot}
use Rattle.render_core.specs.Variables.{cells_of, env_at}
use Rattle.render_core.proofs.rendering.bind_params.Given as goal

abbrev pub invariant-loop-number : goal.invariant-loop-number
invariant-loop-number l =
    let p = l.scene.program.now in
    let input = view_value l.scene.input.now in
    record {
      within : l.number ≤ length l.params;
      finds : FindsFields l.fields input;
      root : HasRoot l.bound;
      low : l.env ≤ length l.bound;
      env : env_at (cells_of p input l.bound) l.env
          ≡ input_env (names_of (view_params (drop l.number l.params))) input;
    }

abbrev pub decreases-loop-number : goal.decreases-loop-number
decreases-loop-number l = l.number
