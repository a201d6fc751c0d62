use Rattle.std.proofs.Common.{◌≡◌, drop, map}
use Rattle.std.specs.Prelude.{fold}
use Rattle.msg_extract.specs.ContentHash.{items_input}
use Rattle.msg_extract.specs.Views.ViewKeys.{view_key_item}
use Rattle.msg_extract.proofs.content_key.hash_items.Given as goal

abbrev pub invariant-loop-item : goal.invariant-loop-item
invariant-loop-item g l =
    fold g.H.Hasher.write l.state (items_input (map view_key_item (drop l.item-index l.items)))
    ≡ fold g.H.Hasher.write l.initial.state (items_input (map view_key_item l.items))
