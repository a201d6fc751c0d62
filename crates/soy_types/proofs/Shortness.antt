-- Lists that are short, item by item.
use Rattle.std.proofs.Common.{◌≡◌, ◌≤◌, List, [], ◌∷◌, ◌++◌, map, length, arith, sym, subst}
use Rattle.soy_tree.specs.declared.value.Value as code_value
use Rattle.soy_tree.specs.declared.value.Entry as code_entry
use Rattle.soy_rules.specs.ShortLists.{HasShortLists, ItemsShort, EntriesShort, item_count}
use Rattle.soy_tree.specs.Types.{Name}
use Rattle.soy_tree.specs.Values.{Value}
use Rattle.soy_tree.specs.ViewValues.{items_of, entries_of, view_entry, view_value}
use Rattle.soy_types.proofs.Views.{view_items, view_record}

-- one more short item, and one more entry
pub items_short-more : {B : Type 0} (seen : B → Value) (done : List B) (b : B)
    → ItemsShort (items_of (map seen done)) → HasShortLists (seen b)
    → ItemsShort (items_of (map seen (done ++ b ∷ [])))
items_short-more seen [] b short is = (is, tt)
items_short-more seen (x ∷ done) b short is = (short.0, items_short-more seen done b short.1 is)

pub entries_short-more : {B : Type 0} (seen : B → Name × Value) (done : List B) (b : B)
    → EntriesShort (entries_of (map seen done)) → HasShortLists (seen b).1
    → EntriesShort (entries_of (map seen (done ++ b ∷ [])))
entries_short-more seen [] b short is = (is, tt)
entries_short-more seen (x ∷ done) b short is = (short.0, entries_short-more seen done b short.1 is)

pub items-count : {B : Type 0} (seen : B → Value) (vs : List B) → item_count (items_of (map seen vs)) ≡ length vs
items-count seen [] = omega arith
items-count seen (x ∷ vs) = omega (arith, items-count seen vs)

-- a list of at most so many short items, and a record of short entries
pub short_list : (vs : List code_value.Value) → length vs ≤ 9007199254740992
    → ItemsShort (items_of (map view_value vs)) → HasShortLists (view_value (code_value.List vs))
short_list vs few short =
    let counted : item_count (items_of (map view_value vs)) ≤ 9007199254740992 =
    subst (λ n. n ≤ 9007199254740992) (sym (items-count view_value vs)) few in
    subst HasShortLists (sym (view_items vs)) (counted, short)

pub short_record : (es : List code_entry.Entry) → EntriesShort (entries_of (map view_entry es))
    → HasShortLists (view_value (code_value.Fields es))
short_record es short = subst HasShortLists (sym (view_record es)) short
