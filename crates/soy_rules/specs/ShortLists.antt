-- Values whose lists are short: each list in them, at any depth, has at most 2^53 items, so that ints number the items
-- from 0.
-- Example: the record with `a` the list of 1 has short lists.
use Rattle.std.specs.Prelude.{ℕ, ◌+◌, ◌≤◌}
use Rattle.soy_tree.specs.Values.{Value, Items, Entries, ListValue, MapValue, RecordValue, no_item, item, no_entry}
use Rattle.soy_tree.specs.Values.{entry}

abbrev pub item_count : Items → ℕ
item_count no_item = 0
item_count (item v vs) = 1 + item_count vs

abbrev mutual
  pub HasShortLists : Value → Type 0
  HasShortLists (ListValue vs) = (item_count vs ≤ 9007199254740992) × ItemsShort vs
  HasShortLists (MapValue es) = EntriesShort es
  HasShortLists (RecordValue es) = EntriesShort es
  HasShortLists _ = Unit {0}

  pub ItemsShort : Items → Type 0
  ItemsShort no_item = Unit {0}
  ItemsShort (item v vs) = HasShortLists v × ItemsShort vs

  pub EntriesShort : Entries → Type 0
  EntriesShort no_entry = Unit {0}
  EntriesShort (entry name v es) = HasShortLists v × EntriesShort es
