use Rattle.std.proofs.Common.{◌≡◌, ◌≤◌, ◌++◌, drop, length, map}
use Rattle.json.specs.Value.{items_view, members_view, value_view}
use Rattle.serde_json.specs.Data.{no_members}
use Rattle.soy_tree.specs.ViewTypes.{view_fields, view_members, view_type}
use Rattle.soy_tree.specs.ViewValues.{entries_of, items_of, view_entry, view_value}
use Rattle.soy_rules.specs.ShortLists.{EntriesShort, ItemsShort}
use Rattle.soy_types.specs.LentData.{data_in_order, data_items, data_members, data_of}
use Rattle.soy_types.specs.Paths.{all_read, onward}
use Rattle.soy_types.specs.Read.{entry_results, field_results, first_read, item_results, value_at}
use Rattle.soy_types.proofs.lending.+lending.Given as goal

abbrev pub invariant-lent_items-loop-item : goal.invariant-lent_items-loop-item
invariant-lent_items-loop-item l =
    record {
      read : all_read (item_results (value_at (view_type l.of)) 0 (data_items (items_view l.items)))
          ≡ onward (λ rest. map view_value l.values.items ++ rest)
          (all_read (item_results (value_at (view_type l.of)) l.item-index
          (data_items (items_view (drop l.item-index l.items)))));
      within : l.item-index ≤ length l.items;
      many : length l.values.items ≡ l.item-index;
      short : ItemsShort (items_of (map view_value l.values.items));
    }

abbrev pub invariant-lent_fields-loop-field : goal.invariant-lent_fields-loop-field
invariant-lent_fields-loop-field l =
    record {
      read : all_read (field_results (view_fields l.fields) (data_of (value_view l.json)))
          ≡ onward (λ rest. map view_entry l.entries.items ++ rest)
          (all_read (field_results (view_fields (drop l.field-index l.fields)) (data_of (value_view l.json))));
      short : EntriesShort (entries_of (map view_entry l.entries.items));
    }

abbrev pub invariant-lent_first-loop-of : goal.invariant-lent_first-loop-of
invariant-lent_first-loop-of l =
    first_read (view_members l.types) (data_of (value_view l.json))
    ≡ first_read (view_members (drop l.of-index l.types)) (data_of (value_view l.json))

abbrev pub invariant-lent_entries-loop-key : goal.invariant-lent_entries-loop-key
invariant-lent_entries-loop-key l =
    record {
      read : all_read
          (entry_results (value_at (view_type l.of)) (data_members (members_view l.members.items) no_members))
          ≡ onward (λ rest. map view_entry l.entries.items ++ rest)
          (all_read (entry_results (value_at (view_type l.of)) (data_in_order l.key-iterator)));
      short : EntriesShort (entries_of (map view_entry l.entries.items));
    }
