use Rattle.std.proofs.Common.{◌∙◌, ap, map}
use Rattle.msg_extract.specs.Views.ViewPlaceholders.{view_placeholder}
use Rattle.ir_build.proofs.messages.push_translation.Goals as goal

pub push_with_placeholders-pushed-requires : goal.push_with_placeholders-pushed-requires
push_with_placeholders-pushed-requires c = ap (map view_placeholder) c.items.ensures ∙ c.in_ok-placeholders.ensures
