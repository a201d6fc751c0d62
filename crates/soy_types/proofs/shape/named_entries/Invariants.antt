use Rattle.std.proofs.Common.{◌-◌, length, take}
use Rattle.serde_json.specs.Data.{no_members}
use Rattle.soy_rules.specs.ShortLists.{EntriesShort}
use Rattle.soy_tree.specs.ViewValues.{view_entries}
use Rattle.soy_types.specs.Filling.{AreEntries, fields_at}
use Rattle.soy_types.proofs.shape.named_entries.Given as goal

abbrev pub invariant-loop-field : goal.invariant-loop-field
invariant-loop-field l =
    record {
      blank : AreEntries (take (length l.entries.items) (fields_at l.shape)) no_members l.entries.items;
      short : EntriesShort (view_entries l.entries.items);
    }

abbrev pub decreases-loop-field : goal.decreases-loop-field
decreases-loop-field l = length (fields_at l.shape) - length l.entries.items
