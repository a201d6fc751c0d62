use Rattle.std.proofs.Common.{◌∙◌, ap, map}
use Rattle.msg_extract.specs.SelectorRows.{view_selector}
use Rattle.ir_build.proofs.messages.push_with_names.Goals as goal

pub push_parts-pushed-requires : goal.push_parts-pushed-requires
push_parts-pushed-requires c = record {
  named = c.requires;
  selected = ap (map view_selector) c.items.ensures ∙ c.in_ok-selectors.ensures;
}
