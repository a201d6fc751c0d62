use Rattle.std.proofs.Common.{◌∙◌, ap, map}
use Rattle.msg_extract.specs.Views.ViewPlaceholders.{view_placeholder}
use Rattle.ir_build.proofs.messages.push_with_placeholders.Goals as goal

pub push_with_names-pushed-requires : goal.push_with_names-pushed-requires
push_with_names-pushed-requires c = ap (map view_placeholder) c.in_ok-named.ensures ∙ c.requires
