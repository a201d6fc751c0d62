use mathlib.Core.Path.{refl}
use Rattle.std.proofs.Common.{◌∙◌, ap, option_map, sym, take}
use Rattle.std.proofs.lemmas.Result.{on_ok_weaker}
use Rattle.soy_tree.specs.ViewMessageParts.{view_parts}
use Rattle.soy_tree.specs.ViewNodes.{view_message}
use Rattle.template_ir.specs.ViewOps.{view_ops}
use Rattle.ir_build.specs.Laid.{cut_output, view_output}
use Rattle.ir_build.specs.ViewScene.{translation_in}
use Rattle.ir_build.proofs.Choosing.{both_cut, either_source, made_cut, other_cut, own_cut}
use Rattle.ir_build.proofs.messages.push_named_either.Goals as goal

pub returns-in-None-None : goal.returns-in-None-None
returns-in-None-None c =
    on_ok_weaker c.push_all.result
    (either_source (translation_in c.args.scene.now) c.args.scene.now.places.now (view_message c.args.message.now)
    (view_output c.args.out.now) (cut_output c.args.old_length c.args.out.now) (view_ops c.args.source.items)
    (view_ops c.args.own.now.items) (view_ops c.push_all.new.own.items) (view_message c.args.other.now)
    (view_output c.args.out.now)
    (sym c.in_ok-parts.ensures ∙ ap (option_map (λ parts. view_parts parts.now)) c.in-None-None.is-0)
    (sym c.in_ok-other_parts.ensures ∙ ap (option_map (λ parts. view_parts parts.now)) c.in-None-None.is-1) refl)
    c.push_all.ensures

pub returns-in-None-Some : goal.returns-in-None-Some
returns-in-None-Some c =
    on_ok_weaker c.push_translation.result
    (other_cut (translation_in c.args.scene.now) c.args.scene.now.places.now (view_message c.args.message.now)
    (view_output c.args.out.now) (cut_output c.args.old_length c.args.out.now) (view_ops c.args.source.items)
    (view_ops c.args.own.now.items) (view_ops c.push_translation.new.own.items) (view_message c.args.other.now) _
    (view_output c.push_translation.new.out) (view_parts c.in-None-Some.other_parts.now)
    (sym c.in_ok-parts.ensures ∙ ap (option_map (λ parts. view_parts parts.now)) c.in-None-Some.is-0)
    (sym c.in_ok-other_parts.ensures ∙ ap (option_map (λ parts. view_parts parts.now)) c.in-None-Some.is-1)
    (made_cut _ c.truncate.new.self.items (take c.args.old_length c.args.out.now.ops.items) c.args.out.now.holes refl
    c.truncate.ensures.items)) c.push_translation.ensures

pub returns-in-Some-None : goal.returns-in-Some-None
returns-in-Some-None c =
    on_ok_weaker c.push_translation-in-Some-None.result
    (own_cut (translation_in c.args.scene.now) c.args.scene.now.places.now (view_message c.args.message.now)
    (view_output c.args.out.now) (cut_output c.args.old_length c.args.out.now) (view_ops c.args.source.items)
    (view_ops c.args.own.now.items) (view_ops c.push_translation-in-Some-None.new.own.items)
    (view_message c.args.other.now) _ (view_output c.push_translation-in-Some-None.new.out)
    (view_parts c.in-Some-None.parts.now)
    (sym c.in_ok-parts.ensures ∙ ap (option_map (λ parts. view_parts parts.now)) c.in-Some-None.is-0)
    (sym c.in_ok-other_parts.ensures ∙ ap (option_map (λ parts. view_parts parts.now)) c.in-Some-None.is-1)
    (made_cut _ c.truncate-in-Some-None.new.self.items (take c.args.old_length c.args.out.now.ops.items)
    c.args.out.now.holes refl c.truncate-in-Some-None.ensures.items)) c.push_translation-in-Some-None.ensures

pub returns : goal.returns
returns c =
    on_ok_weaker c.pass_translation.result
    (both_cut (translation_in c.args.scene.now) c.args.scene.now.places.now (view_message c.args.message.now)
    (view_output c.args.out.now) (cut_output c.args.old_length c.args.out.now) (view_ops c.args.source.items)
    (view_ops c.args.own.now.items) (view_ops c.push_translation-in-Some-Some.new.own.items)
    (view_message c.args.other.now) _ (view_output c.push_translation-in-Some-Some.new.out)
    (view_output c.pass_translation.new.out) (view_parts c.in-Some-Some.parts.now)
    (view_parts c.in-Some-Some.other_parts.now)
    (sym c.in_ok-parts.ensures ∙ ap (option_map (λ parts. view_parts parts.now)) c.in-Some-Some.is-0)
    (sym c.in_ok-other_parts.ensures ∙ ap (option_map (λ parts. view_parts parts.now)) c.in-Some-Some.is-1)
    (made_cut _ c.truncate-in-Some-Some.new.self.items (take c.args.old_length c.args.out.now.ops.items)
    c.args.out.now.holes refl c.truncate-in-Some-Some.ensures.items)
    c.in_ok-push_translation-in-Some-Some.ensures) c.pass_translation.ensures
