use Rattle.std.proofs.Common.{◌≡◌, ◌≤◌, ◌++◌, drop, length, map}
use Rattle.serde_json.specs.View.{items_view, members_view, view}
use Rattle.soy_tree.specs.ViewTypes.{view_fields, view_members, view_type}
use Rattle.soy_tree.specs.ViewValues.{entries_of, items_of, view_entry, view_value}
use Rattle.soy_rules.specs.ShortLists.{EntriesShort, ItemsShort}
use Rattle.soy_types.specs.Paths.{all_read, onward}
use Rattle.soy_types.specs.Read.{entry_results, field_results, first_read, item_results, value_at}
use Rattle.soy_types.proofs.reading.+reading.Given as goal

abbrev pub invariant-read_items-loop-index : goal.invariant-read_items-loop-index
invariant-read_items-loop-index l =
    record {
      read : all_read (item_results (value_at (view_type l.of)) 0 (items_view l.items))
          ≡ onward (λ rest. map view_value l.values.items ++ rest)
          (all_read (item_results (value_at (view_type l.of)) l.index (items_view (drop l.index l.items))));
      within : l.index ≤ length l.items;
      many : length l.values.items ≡ l.index;
      short : ItemsShort (items_of (map view_value l.values.items));
    }

abbrev pub invariant-read_entries-loop-key : goal.invariant-read_entries-loop-key
invariant-read_entries-loop-key l =
    record {
      read : all_read (entry_results (value_at (view_type l.of)) (members_view l.members.entries))
          ≡ onward (λ rest. map view_entry l.entries ++ rest)
          (all_read (entry_results (value_at (view_type l.of)) (members_view l.key-iterator)));
      short : EntriesShort (entries_of (map view_entry l.entries));
    }

abbrev pub invariant-read_fields-loop-field : goal.invariant-read_fields-loop-field
invariant-read_fields-loop-field l =
    record {
      read : all_read (field_results (view_fields l.fields) (view l.json))
          ≡ onward (λ rest. map view_entry l.entries.items ++ rest)
          (all_read (field_results (view_fields (drop l.field-index l.fields)) (view l.json)));
      short : EntriesShort (entries_of (map view_entry l.entries.items));
    }

abbrev pub invariant-read_first-loop-of : goal.invariant-read_first-loop-of
invariant-read_first-loop-of l =
    first_read (view_members l.types) (view l.json) ≡ first_read (view_members (drop l.of-index l.types)) (view l.json)
