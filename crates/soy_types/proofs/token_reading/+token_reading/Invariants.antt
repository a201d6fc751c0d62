use Rattle.std.proofs.Common.{◌+◌, ◌*◌, ◌≤◌, length, map}
use Rattle.soy_rules.specs.ShortLists.{EntriesShort, ItemsShort}
use Rattle.soy_tree.specs.ViewTypes.{view_type}
use Rattle.soy_tree.specs.ViewValues.{items_of, view_entries, view_value}
use Rattle.soy_types.specs.Filling.{fields_at}
use Rattle.soy_types.proofs.TokenFacts.{ItemsSoFar, MembersSoFar}
use Rattle.soy_types.proofs.token_reading.+token_reading.Given as goal

abbrev pub decreases-next_value : goal.decreases-next_value
decreases-next_value l = 6 * l.depth + 2

abbrev pub decreases-next_taken : goal.decreases-next_taken
decreases-next_taken l = 6 * l.depth + 3

abbrev pub decreases-next_field : goal.decreases-next_field
decreases-next_field l = 6 * l.depth + 4

abbrev pub decreases-next_member : goal.decreases-next_member
decreases-next_member l = 6 * l.depth + 5

abbrev pub decreases-next_members : goal.decreases-next_members
decreases-next_members l = 6 * l.depth + 6

abbrev pub decreases-next_items : goal.decreases-next_items
decreases-next_items l = 6 * l.depth + 3

abbrev pub decreases-next_list : goal.decreases-next_list
decreases-next_list l = 6 * l.depth + 1

abbrev pub decreases-next_object : goal.decreases-next_object
decreases-next_object l = 6 * l.depth + 1

abbrev pub invariant-next_items-loop-alloc : goal.invariant-next_items-loop-alloc
invariant-next_items-loop-alloc l =
    record {
      so_far : ItemsSoFar l.depth (view_type l.of) l.initial.reader l.reader l.values.items;
      short : ItemsShort (items_of (map view_value l.values.items));
      many : length l.values.items ≤ 9007199254740992;
      within : length l.reader ≤ length l.initial.reader;
    }

abbrev pub decreases-next_items-loop-alloc : goal.decreases-next_items-loop-alloc
decreases-next_items-loop-alloc l = length l.reader

abbrev pub invariant-next_members-loop-entries : goal.invariant-next_members-loop-entries
invariant-next_members-loop-entries l =
    record {
      so_far : MembersSoFar l.depth (fields_at l.shape) l.initial.reader l.reader l.entries.items;
      short : EntriesShort (view_entries l.entries.items);
      within : length l.reader ≤ length l.initial.reader;
    }

abbrev pub decreases-next_members-loop-entries : goal.decreases-next_members-loop-entries
decreases-next_members-loop-entries l = length l.reader
