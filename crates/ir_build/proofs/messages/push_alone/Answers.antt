use mathlib.Core.Path.{refl}
use Rattle.std.proofs.Common.{◌∙◌, sym}
use Rattle.std.proofs.lemmas.Result.{on_ok_weaker}
use Rattle.soy_tree.specs.ViewNodes.{view_message}
use Rattle.msg_extract.specs.MessageId.{id_of}
use Rattle.msg_extract.proofs.FoundTranslations.{none_found}
use Rattle.template_ir.specs.ViewOps.{view_ops}
use Rattle.ir_build.specs.Laid.{cut_output, view_output}
use Rattle.ir_build.specs.ViewScene.{translation_in}
use Rattle.ir_build.proofs.Choosing.{alone_source}
use Rattle.ir_build.proofs.messages.push_alone.Goals as goal

pub returns-then-is_empty : goal.returns-then-is_empty
returns-then-is_empty c =
    on_ok_weaker c.push_all.result
    (alone_source (translation_in c.args.scene.now) c.args.scene.now.places.now (view_message c.args.message.now)
    (view_output c.args.out.now) (cut_output c.args.old_length c.args.out.now) (view_ops c.args.source.items)
    (view_ops c.args.own.now.items) (view_ops c.push_all.new.own.items) (view_output c.args.out.now)
    (none_found c.args.scene.now.bundle.now.messages (id_of (view_message c.args.message.now))
    (sym c.is_empty.ensures ∙ c.if-is_empty.true)) refl) c.push_all.ensures

pub returns : goal.returns
returns c = rw c.in_ok-named.ensures at c.push_named.ensures
