use Rattle.std.proofs.Common.{◌≡◌, drop, map}
use Rattle.soy_tree.specs.MessageText.{cuts}
use Rattle.msg_extract.specs.Views.ViewItems.{view_item}
use Rattle.msg_extract.specs.Views.ViewCutter.{cutter_cuts}
use Rattle.msg_extract.proofs.cut.cut.Given as goal

abbrev pub invariant-loop-item : goal.invariant-loop-item
invariant-loop-item l = record {
  number : l.number ≡ l.item-index;
  same : cutter_cuts l.cutter (map view_item (drop l.item-index l.items)) ≡ cuts (map view_item l.items);
}
