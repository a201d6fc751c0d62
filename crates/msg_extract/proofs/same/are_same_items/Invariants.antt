use Rattle.std.proofs.Common.{◌≡◌, drop, map}
use Rattle.soy_rules.specs.Placeholders.{are_same_message_items}
use Rattle.msg_extract.specs.Views.ViewKeys.{view_key_item}
use Rattle.msg_extract.proofs.same.are_same_items.Given as goal

abbrev pub invariant-loop-item : goal.invariant-loop-item
invariant-loop-item l = record {
  number : l.number ≡ l.item-index;
  same : are_same_message_items (map view_key_item (drop l.item-index l.left))
      (drop l.number (map view_key_item l.right))
      ≡ are_same_message_items (map view_key_item l.left) (map view_key_item l.right);
}
