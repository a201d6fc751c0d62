use Rattle.std.proofs.Common.{◌≡◌, ◌++◌, drop, map}
use Rattle.msg_extract.specs.Views.ViewItems.{view_item}
use Rattle.msg_extract.specs.Views.ViewKeys.{view_key_item}
use Rattle.msg_extract.proofs.content_key.key_items.Given as goal

abbrev pub invariant-loop-item : goal.invariant-loop-item
invariant-loop-item l =
    map view_key_item l.copied ++ map view_item (drop l.item-index l.items) ≡ map view_item l.items
