use mathlib.Core.Path.{refl}
use Rattle.std.proofs.Common.{◌∙◌, ap}
use Rattle.soy_tree.specs.ViewTrees.{view_params}
use Rattle.template_ir.specs.ViewOps.{view_ops}
use Rattle.ir_build.specs.Laid.{view_output}
use Rattle.soy_rules.specs.ViewTemplates.{view_all, view_declared}
use Rattle.msg_extract.specs.LanguageOf.{language_of}
use Rattle.ir_build.specs.declared.scene.Scene.{Scene}
use Rattle.ir_build.proofs.RoutineSteps.{routine_laid, scene_pushed}
use Rattle.ir_build.proofs.building.routine.Goals as goal

pub returns : goal.returns
returns c =
    let s : Scene = record {
      alloc = c.args.alloc;
      file = c.args.one.now.file;
      namespace = c.args.one.now.namespace;
      params = c.items.result;
      declared = c.args.all;
      bundle = c.args.bundle;
      places = c.args.places;
    } in
    routine_laid (language_of c.args.bundle.now) (view_all c.args.all.now) c.args.places.now
    (view_declared c.args.one.now) _ (view_output c.args.out.now) (view_output c.push_nodes.new.out)
    (view_output c.lay.new.self) (view_ops c.new-own.result.items) (view_ops c.push_nodes.new.own.items)
    c.in_ok-body.body (ap view_ops c.new-own.ensures.items)
    (scene_pushed (language_of c.args.bundle.now) (view_all c.args.all.now) c.args.places.now s c.args.one.now
    c.items-2.result.now (view_output c.args.out.now) (view_output c.push_nodes.new.out)
    (view_ops c.new-own.result.items) (view_ops c.push_nodes.new.own.items) refl refl c.items.ensures refl refl refl
    c.items-2.ensures c.in_ok-push_nodes.ensures) c.in_ok-body.ensures.block c.in_ok-body.ensures.made
    (c.in_ok-name.ensures ∙ c.args.one.now.named) refl refl
    (ap view_params (c.in_ok-params.ensures ∙ c.items-3.ensures)) refl
