-- Values whose lists have at most a number of items, at any depth.
-- Example: the record with `a` the list of 1 and 2 has lists of at most 2 items, and not of at most 1.
use Rattle.std.specs.Prelude.{ℕ, ◌≤◌}
use Rattle.soy_rules.specs.ShortLists.{item_count}
use Rattle.soy_tree.specs.Values.{Value, Items, Entries, ListValue, MapValue, RecordValue, no_item, item, no_entry}
use Rattle.soy_tree.specs.Values.{entry}

abbrev mutual
  pub HasListsWithin : ℕ → Value → Type 0
  HasListsWithin most (ListValue vs) = (item_count vs ≤ most) × ItemsWithin most vs
  HasListsWithin most (MapValue es) = EntriesWithin most es
  HasListsWithin most (RecordValue es) = EntriesWithin most es
  HasListsWithin most _ = Unit {0}

  pub ItemsWithin : ℕ → Items → Type 0
  ItemsWithin most no_item = Unit {0}
  ItemsWithin most (item v vs) = HasListsWithin most v × ItemsWithin most vs

  pub EntriesWithin : ℕ → Entries → Type 0
  EntriesWithin most no_entry = Unit {0}
  EntriesWithin most (entry name v es) = HasListsWithin most v × EntriesWithin most es
