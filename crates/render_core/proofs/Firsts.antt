-- The first number of a name among those of entries is that of its field.
use Rattle.std.proofs.Common.{◌≡◌, ℕ, suc, ◌+◌, Bool, true, false, List, [], ◌∷◌, Option, Some, None, arith, refl}
use Rattle.std.proofs.Common.{ap, sym, ◌∙◌}
use Rattle.std.specs.Prelude.{if◌then◌else◌, bytes_eq, unwrap_or}
use Rattle.soy_rules.specs.FirstNames.{first_from, first_number}
use Rattle.soy_rules.specs.Has.{entry_value}
use Rattle.soy_tree.specs.Types.{Name}
use Rattle.soy_tree.specs.Values.{Entries, Value, NullValue, RecordValue, entry}
use Rattle.soy_tree.specs.ViewValues.{view_entries, view_value}
use Rattle.soy_tree.specs.declared.value.Entry as code_entry
use Rattle.soy_expr.specs.Parts.{nth_entry_value}
use Rattle.soy_expr.proofs.PartRows.{view_entry_is}
use Rattle.render_core.specs.Begins.{EntryFound, FieldFound, entry_names}

-- a number that is counted from another on
abbrev FoundFrom : Name → Entries → ℕ → Option ℕ → Type 0
FoundFrom name es at None = NullValue ≡ unwrap_or (entry_value name es) NullValue
FoundFrom name es at (Some n) =
    (i : ℕ) × (n ≡ at + i) × (nth_entry_value es i ≡ unwrap_or (entry_value name es) NullValue)

found_next : (name other : Name) (v : Value) (es : Entries) (at : ℕ) (same : Bool) (found : Option ℕ)
    → bytes_eq other name ≡ same → FoundFrom name es (at + 1) found
    → FoundFrom name (entry other v es) at (if same then Some at else found)
found_next name other v es at true found e h =
    let t : at ≡ at + 0 = omega arith in (
      0,
      t,
      sym (ap (λ b. unwrap_or (if b then Some v else entry_value name es) NullValue) e),
    )
found_next name other v es at false None e h =
    h ∙ sym (ap (λ b. unwrap_or (if b then Some v else entry_value name es) NullValue) e)
found_next name other v es at false (Some n) e h =
    let is : n ≡ at + 1 + h.0 = h.1 in
    let t : n ≡ at + suc h.0 = omega (arith, is) in (
      suc h.0,
      t,
      h.2 ∙ sym (ap (λ b. unwrap_or (if b then Some v else entry_value name es) NullValue) e),
    )

found_from : (es : List code_entry.Entry) (name : Name) (at : ℕ)
    → FoundFrom name (view_entries es) at (first_from name at (entry_names es))
found_from [] name at = refl
found_from (x ∷ es) name at =
    rw (view_entry_is x) (found_next name x.name (view_value x.value) (view_entries es) at (bytes_eq x.name name)
    (first_from name (at + 1) (entry_names es)) refl (found_from es name (at + 1)))

found_first : (es : Entries) (name : Name) (found : Option ℕ) → FoundFrom name es 0 found → EntryFound name es found
found_first es name None h = h
found_first es name (Some n) h =
    let is : n ≡ 0 + h.0 = h.1 in let t : n ≡ h.0 = omega (arith, is) in ap (nth_entry_value es) t ∙ h.2

pub first_there : (es : List code_entry.Entry) (name : Name)
    → FieldFound name (RecordValue (view_entries es)) (first_number name (entry_names es))
first_there es name =
    let found : Option ℕ = first_number name (entry_names es) in
    let h : EntryFound name (view_entries es) found =
    found_first (view_entries es) name found (found_from es name 0) in
    field_is (view_entries es) name found h
  where
    field_is : (entries : Entries) (name : Name) (found : Option ℕ) → EntryFound name entries found
        → FieldFound name (RecordValue entries) found
    field_is entries name None h = h
    field_is entries name (Some n) h = h
