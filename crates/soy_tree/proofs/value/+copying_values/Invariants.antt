use Rattle.std.proofs.Common.{◌≡◌, take}
use Rattle.soy_tree.proofs.value.+copying_values.Given as goal

abbrev pub invariant-copied_items-loop-item : goal.invariant-copied_items-loop-item
invariant-copied_items-loop-item l = l.copied.items ≡ take l.item-index l.items

abbrev pub invariant-copied_entries-loop-entry : goal.invariant-copied_entries-loop-entry
invariant-copied_entries-loop-entry l = l.copied.items ≡ take l.entry-index l.entries
