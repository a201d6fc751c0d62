-- Parts of values by their numbers.
use Rattle.std.proofs.Common.{◌≡◌, ℕ, zero, suc, ◌+◌, ◌<◌, Bool, true, false, List, [], ◌∷◌, Option, Some, None}
use Rattle.std.proofs.Common.{slice_get, slice_index_or, length, drop, arith}
use Rattle.std.specs.Prelude.{if◌then◌else◌, bytes_eq}
use mathlib.Core.Path.{refl, ap}
use Rattle.soy_tree.specs.declared.value.Value as code
use Rattle.soy_tree.specs.declared.value.Entry as code_entry
use Rattle.soy_tree.specs.Types.{Name}
use Rattle.soy_tree.specs.Values.{Value, NullValue}
use Rattle.soy_rules.specs.Has.{entry_value}
use Rattle.soy_rules.specs.Val.{item_value}
use Rattle.soy_tree.specs.ViewValues.{view_value, view_entry, view_items, view_entries, value_layer, entry_layer}
use Rattle.soy_expr.specs.Parts.{nth_entry_value}

pub item_some : (vs : List code.Value) (n : ℕ) (v : code.Value) → slice_get vs n ≡ Some v
    → item_value (view_items vs) n ≡ view_value v
item_some [] n v e = cc
item_some (x ∷ vs) zero v e = let p : x ≡ v = cc in ap view_value p
item_some (x ∷ vs) (suc n) v e = item_some vs n v e

pub item_none : (vs : List code.Value) (n : ℕ) → slice_get vs n ≡ None → item_value (view_items vs) n ≡ NullValue
item_none [] n e = refl
item_none (x ∷ vs) zero e = cc
item_none (x ∷ vs) (suc n) e = item_none vs n e

pub view_entry_is : (e : code_entry.Entry) → view_entry e ≡ (e.name, view_value e.value)
view_entry_is e = code_entry.fold_out-Entry Value (Name × Value) value_layer entry_layer e

pub entry_nth : (es : List code_entry.Entry) (n : ℕ) (e : code_entry.Entry) → n < length es → e ≡ slice_index_or es n e
    → nth_entry_value (view_entries es) n ≡ view_value e.value
entry_nth [] n e below is = absurd (omega arith)
entry_nth (x ∷ es) zero e below is = rw is (ap (λ (v : Name × Value). v.1) (view_entry_is x))
entry_nth (x ∷ es) (suc n) e below is = entry_nth es n e (omega arith) is

other_entry : (b : Bool) (v : Value) (rest : Option Value) → b ≡ false → (if b then Some v else rest) ≡ rest
other_entry false v rest e = refl
other_entry true v rest e = cc

-- an entry of another name is passed over
pub entry_passed : (es : List code_entry.Entry) (n : ℕ) (e : code_entry.Entry) (name : Name) → n < length es
    → e ≡ slice_index_or es n e → bytes_eq e.name name ≡ false
    → entry_value name (view_entries (drop n es)) ≡ entry_value name (view_entries (drop (n + 1) es))
entry_passed [] n e name below is other = absurd (omega arith)
entry_passed (x ∷ es) zero e name below is other =
    rw (view_entry_is x) (other_entry (bytes_eq x.name name) (view_value x.value) (entry_value name (view_entries es))
    (rw is at other))
entry_passed (x ∷ es) (suc n) e name below is other =
    let t : suc n + 1 ≡ suc (n + 1) = omega arith in rw t (entry_passed es n e name (omega arith) is other)
