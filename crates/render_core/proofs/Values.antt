-- Parts of values by their numbers, as the code finds them.
use Rattle.std.proofs.Common.{◌≡◌, ℕ, zero, suc, ◌+◌, ◌<◌, List, [], ◌∷◌, ◌++◌, Option, Some, None, refl, sym, ap, ◌∙◌}
use Rattle.std.proofs.Common.{true, false, arith, drop, length, slice_index_or}
use Rattle.std.specs.List.{slice_get}
use Rattle.std.specs.Prelude.{bytes_eq, unwrap_or}
use Rattle.soy_rules.specs.Has.{entry_value}
use Rattle.soy_tree.specs.Types.{Name}
use Rattle.soy_tree.specs.Values.{Value, ListValue, NullValue, item, no_item}
use Rattle.soy_rules.specs.Val.{item_value}
use Rattle.soy_tree.specs.ViewValues.{view_entries, view_items, view_value}
use Rattle.soy_tree.specs.declared.value.Entry as code_entry
use Rattle.soy_tree.specs.declared.value.Value as code
use Rattle.soy_expr.specs.Parts.{child, nth_entry_value}
use Rattle.soy_expr.proofs.PartRows.{entry_nth, item_none, item_some, view_entry_is}
use Rattle.render_core.proofs.Conditions.{if_true}
use Rattle.render_core.specs.Finds.{HasItem, IsFirstEntry}
use Rattle.render_core.specs.Frames.{items_after}
use Rattle.render_core.specs.Variables.{led}

-- the part to which numbers lead from null is null
pub led_null : (ns : List ℕ) → led ns NullValue ≡ NullValue
led_null [] = refl
led_null (n ∷ ns) = led_null ns

pub led_end : (ns : List ℕ) (n : ℕ) (v : Value) → led (ns ++ n ∷ []) v ≡ child n (led ns v)
led_end [] n v = refl
led_end (m ∷ ns) n v = led_end ns n (child m v)

-- from one number on to the next
pub led_next : (ns : List ℕ) (i n : ℕ) (v : Value) → i < length ns → n ≡ slice_index_or ns i 0
    → led (drop i ns) v ≡ led (drop (i + 1) ns) (child n v)
led_next [] i n v h is = absurd (omega arith)
led_next (m ∷ ns) zero n v h is = ap (λ k. led ns (child k v)) (sym is)
led_next (m ∷ ns) (suc i) n v h is =
    let t : suc i + 1 ≡ suc (i + 1) = omega arith in rw t (led_next ns i n v (omega arith) is)

pub led_lost : (ns : List ℕ) (i n : ℕ) (v : Value) → i < length ns → n ≡ slice_index_or ns i 0
    → NullValue ≡ child n v → NullValue ≡ led (drop i ns) v
led_lost ns i n v h is lost =
    sym (led_next ns i n v h is ∙ (ap (λ w. led (drop (i + 1) ns) w) (sym lost) ∙ led_null (drop (i + 1) ns)))

pub item_some_value : (vs : List code.Value) (n : ℕ) (v : code.Value) → slice_get vs n ≡ Some v
    → view_value v ≡ item_value (view_items vs) n
item_some_value vs n v e = sym (item_some vs n v e)

pub item_none_value : (vs : List code.Value) (n : ℕ) → slice_get vs n ≡ None
    → NullValue ≡ item_value (view_items vs) n
item_none_value vs n e = sym (item_none vs n e)

pub entry_some_value : (es : List code_entry.Entry) (n : ℕ) (e : code_entry.Entry) → slice_get es n ≡ Some e
    → view_value e.value ≡ nth_entry_value (view_entries es) n
entry_some_value [] n e is = cc
entry_some_value (x ∷ es) zero e is =
    let same : x ≡ e = cc in
    ap (λ (y : code_entry.Entry). view_value y.value) (sym same)
    ∙ sym (ap (λ (v : Name × Value). v.1) (view_entry_is x))
entry_some_value (x ∷ es) (suc n) e is = entry_some_value es n e is

pub entry_none_value : (es : List code_entry.Entry) (n : ℕ) → slice_get es n ≡ None
    → NullValue ≡ nth_entry_value (view_entries es) n
entry_none_value [] n is = refl
entry_none_value (x ∷ es) zero is = cc
entry_none_value (x ∷ es) (suc n) is = entry_none_value es n is

-- the items after a number begin with the item of that number
pub items_some : (vs : List code.Value) (n : ℕ) (v : code.Value) → slice_get vs n ≡ Some v
    → items_after n (view_items vs) ≡ item (view_value v) (items_after (n + 1) (view_items vs))
items_some [] n v is = cc
items_some (x ∷ vs) zero v is = let same : x ≡ v = cc in ap (λ y. item (view_value y) (view_items vs)) same
items_some (x ∷ vs) (suc n) v is = let t : suc n + 1 ≡ suc (n + 1) = omega arith in rw t (items_some vs n v is)

pub items_none : (vs : List code.Value) (n : ℕ) → slice_get vs n ≡ None → items_after n (view_items vs) ≡ no_item
items_none [] zero is = refl
items_none [] (suc n) is = refl
items_none (x ∷ vs) zero is = cc
items_none (x ∷ vs) (suc n) is = items_none vs n is

pub no_items_after : (n : ℕ) → items_after n no_item ≡ no_item
no_items_after zero = refl
no_items_after (suc n) = refl

pub has_some : (vs : List code.Value) (n : ℕ) (v : code.Value) → Some v ≡ slice_get vs n
    → HasItem n (ListValue (view_items vs)) true
has_some vs n v is =
    (view_value v, items_after (n + 1) (view_items vs), items_some vs n v (sym is), sym (item_some vs n v (sym is)))

pub has_none : (vs : List code.Value) (n : ℕ) → None ≡ slice_get vs n → HasItem n (ListValue (view_items vs)) false
has_none vs n is = items_none vs n (sym is)

entry_named : (es : List code_entry.Entry) (n : ℕ) (e : code_entry.Entry) (name : Name) → n < length es
    → e ≡ slice_index_or es n e → bytes_eq e.name name ≡ true
    → entry_value name (view_entries (drop n es)) ≡ Some (view_value e.value)
entry_named [] n e name below is named = absurd (omega arith)
entry_named (x ∷ es) zero e name below is named =
    rw (view_entry_is x)
    (rw (sym is) (if_true (bytes_eq e.name name) (Some (view_value e.value))
    (entry_value name (view_entries es)) named))
entry_named (x ∷ es) (suc n) e name below is named = entry_named es n e name (omega arith) is named

pub entry_found : (es : List code_entry.Entry) (n : ℕ) (e : code_entry.Entry) (name : Name) → n < length es
    → e ≡ slice_index_or es n e → bytes_eq e.name name ≡ true
    → entry_value name (view_entries es) ≡ entry_value name (view_entries (drop n es))
    → nth_entry_value (view_entries es) n ≡ unwrap_or (entry_value name (view_entries es)) NullValue
entry_found es n e name below is named same =
    entry_nth es n e below is
    ∙ sym (ap (λ (o : Option Value). unwrap_or o NullValue) (same ∙ entry_named es n e name below is named))

pub entry_first : (es : List code_entry.Entry) (n : ℕ) (e : code_entry.Entry) (name : Name) → n < length es
    → e ≡ slice_index_or es n e → bytes_eq e.name name ≡ true
    → entry_value name (view_entries es) ≡ entry_value name (view_entries (drop n es))
    → IsFirstEntry name (view_entries es) n (view_value e.value)
entry_first es n e name below is named same =
    (entry_found es n e name below is named same, sym (entry_nth es n e below is))
