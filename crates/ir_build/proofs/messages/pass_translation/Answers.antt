use mathlib.Core.Path.{refl}
use Rattle.std.proofs.Common.{arith, take}
use Rattle.soy_rules.specs.Placeholders.{uses_of}
use Rattle.soy_tree.specs.ViewMessageParts.{view_parts}
use Rattle.soy_tree.specs.ViewNodes.{view_message}
use Rattle.template_ir.specs.HoleCounts.{parts_holes}
use Rattle.template_ir.specs.ViewOps.{view_ops}
use Rattle.ir_build.specs.Claims.{translation_stands}
use Rattle.ir_build.specs.Laid.{view_output}
use Rattle.ir_build.proofs.Choosing.{cut_is, made_cut, passed}
use Rattle.ir_build.proofs.OpLists.{old_length}
use Rattle.ir_build.proofs.messages.pass_translation.Goals as goal

pub returns : goal.returns
returns c =
    passed (translation_stands c.args.scene.now.places.now (view_message c.args.message.now)
    (view_parts c.args.parts.now)) (parts_holes (uses_of (view_message c.args.message.now))
    (view_parts c.args.parts.now)) (view_output c.args.out.now)
    (view_output c.push_translation.new.out) _ (view_ops c.new-unused.result.items)
    (view_ops c.push_translation.new.own.items)
    (view_ops (take c.len-old_length.result c.push_translation.new.out.ops.items)) c.in_ok-push_translation.ensures
    (made_cut _ c.truncate.new.self.items (take c.len-old_length.result c.push_translation.new.out.ops.items)
    c.push_translation.new.out.holes refl c.truncate.ensures.items)
    (cut_is c.args.out.now.ops.items c.push_translation.new.out.ops.items c.in_ok-push_translation.ensures.inner
    c.len-old_length.result c.in_ok-push_translation.ensures.ops
    (old_length c.args.out.now.ops.items c.len-old_length.result (omega arith)))
