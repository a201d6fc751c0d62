use mathlib.Core.Path.{refl}
use Rattle.std.proofs.Common.{◌∙◌, ap, option_map, sym, take}
use Rattle.std.proofs.lemmas.Result.{on_ok_weaker}
use Rattle.soy_tree.specs.ViewMessageParts.{view_parts}
use Rattle.soy_tree.specs.ViewNodes.{view_message}
use Rattle.template_ir.specs.ViewOps.{view_ops}
use Rattle.ir_build.specs.Laid.{cut_output, view_output}
use Rattle.ir_build.specs.ViewScene.{translation_in}
use Rattle.ir_build.proofs.Choosing.{alone_cut, alone_source, made_cut}
use Rattle.ir_build.proofs.messages.push_named.Goals as goal

pub returns-in-None : goal.returns-in-None
returns-in-None c =
    on_ok_weaker c.push_all.result
    (alone_source (translation_in c.args.scene.now) c.args.scene.now.places.now (view_message c.args.message.now)
    (view_output c.args.out.now) (cut_output c.args.old_length c.args.out.now) (view_ops c.args.source.items)
    (view_ops c.args.own.now.items) (view_ops c.push_all.new.own.items) (view_output c.args.out.now)
    (sym c.in_ok-find.ensures ∙ ap (option_map (λ parts. view_parts parts.now)) c.in-None.is) refl)
    c.push_all.ensures

pub returns-in-Some : goal.returns-in-Some
returns-in-Some c =
    on_ok_weaker c.push_translation.result
    (alone_cut (translation_in c.args.scene.now) c.args.scene.now.places.now (view_message c.args.message.now)
    (view_output c.args.out.now) (cut_output c.args.old_length c.args.out.now) (view_ops c.args.source.items)
    (view_ops c.args.own.now.items) (view_ops c.push_translation.new.own.items) _
    (view_output c.push_translation.new.out) (view_parts c.in-Some.parts.now)
    (sym c.in_ok-find.ensures ∙ ap (option_map (λ parts. view_parts parts.now)) c.in-Some.is)
    (made_cut _ c.truncate.new.self.items (take c.args.old_length c.args.out.now.ops.items) c.args.out.now.holes refl
    c.truncate.ensures.items)) c.push_translation.ensures
