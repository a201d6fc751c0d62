use Rattle.std.proofs.Common.{◌≡◌, ℕ, ◌+◌, ◌-◌, ◌<◌, ◌∙◌, ap, arith, drop, length, subst, sym}
use Rattle.soy_tree.specs.ViewTrees.{view_params}
use Rattle.soy_tree.specs.ViewValues.{view_value}
use Rattle.soy_tree.specs.declared.tree.Param.{Param}
use Rattle.soy_pieces.specs.InputEnv.{input_env, names_of}
use Rattle.render_core.specs.Begins.{FieldFound}
use Rattle.render_core.specs.Linked.{bound_over}
use Rattle.render_core.specs.Variables.{cells_of, env_at}
use Rattle.render_core.specs.declared.held.Bound.{Bound}
use Rattle.render_core.specs.declared.held.Naming.TheVariants as naming
use Rattle.render_core.proofs.Adds.{adds_length}
use Rattle.render_core.proofs.Begins.{param_next, root_stays}
use Rattle.render_core.proofs.rendering.bind_params.Goals as goal

pub loop-number-preserved : goal.loop-number-preserved
loop-number-preserved c =
    let p = c.args.scene.now.program.now in
    let input = view_value c.args.scene.now.input.now in
    let params = c.args.params.now in
    let bound = c.loop-number.bound in
    let wider = c.bind.new.self in
    let inv = c.loop-number.invariant in
    let low = inv.low in
    let within = inv.within in
    let n = c.loop-number.number - 1 in
    let some = c.loop-number-test.true in
    let below : n < length params = omega (arith, some, within) in
    let back : c.loop-number.number ≡ n + 1 = omega (arith, some) in
    let b : Bound = bound_over (naming.Param c.args.template n) c.held_field-to.result c.loop-number.env in
    let adds = c.in-Ok.ensures.ok in
    let size : length wider ≡ length bound + 1 = adds_length p b bound wider adds in
    let next = c.in-Ok.ensures.number in
    record {
      within = omega (arith, some, within);
      finds = inv.finds;
      root = root_stays p b bound wider adds inv.root;
      low = omega (arith, size, next);
      env =
          ap (λ (k : ℕ). env_at (cells_of p input wider) k) next
          ∙ param_next p input bound wider c.args.template n params c.index-params-number.result c.find.result
          c.held_field-to.result c.loop-number.env inv.root (c.requires.params n)
          (subst (λ (x : Param). FieldFound x.name input c.find.result) (sym c.index-params-number.is)
          (c.find.ensures input inv.finds)) c.held_field-to.ensures
          (inv.env ∙ ap (λ (k : ℕ). input_env (names_of (view_params (drop k params))) input) back) below
          c.index-params-number.is adds;
    }
