-- Entries of a record that are filled as the members of an object come, in any order.
-- Each entry has the name of its field, in the order of the fields. It is null until a member of its name comes, and
-- then the value of the last one that came, at the type of the field. No two entries have one name.
-- Example: after `{"b":1,"b":2` the entries for `[a: string, b: int]` are `a` null and `b` 2.
use Rattle.std.specs.Prelude.{◌≡◌, ℕ, zero, suc, Bool, true, false, not, ◌&&◌, ◌||◌, List, [], ◌∷◌, Option, Some, None}
use Rattle.std.specs.Prelude.{Ok, map, slice_get, if◌then◌else◌, encode_utf8_all}
use Rattle.std.specs.Str.{bytes_eq}
use Rattle.serde_json.specs.Data.{Data, Members, null}
use Rattle.serde_json.specs.Find.{get_member}
use Rattle.soy_rules.specs.Members.{joined}
use Rattle.soy_rules.specs.Templates.{param_scope}
use Rattle.soy_rules.specs.Val.{is_null_value}
use Rattle.soy_tree.specs.declared.value.Entry.{Entry}
use Rattle.soy_tree.specs.declared.value.Value as code_value
use Rattle.soy_tree.specs.Types.{Name, SoyType, NullType}
use Rattle.soy_tree.specs.Values.{Value, NullValue}
use Rattle.soy_tree.specs.ViewTrees.{view_params}
use Rattle.soy_tree.specs.ViewTypes.{view_field}
use Rattle.soy_tree.specs.ViewValues.{view_value}
use Rattle.soy_types.specs.Read.{value_at}
use Rattle.soy_types.specs.declared.shape.Shape.{Shape}
use Rattle.soy_types.specs.declared.shape.Shape.TheVariants.{Record, Params}

-- the fields that an object is read for, by name
abbrev pub fields_at : Shape → List (Name × SoyType)
fields_at (Record fields) = map view_field fields.now
fields_at (Params params) = param_scope (view_params params.now)

-- a field at an index
abbrev pub FieldAt : ℕ → Name → SoyType → List (Name × SoyType) → Type 0
FieldAt i name t fs = slice_get fs i ≡ Some (name, t)

-- what a field takes; one that isn't required also takes null
abbrev pub type_taken : Bool → SoyType → SoyType
type_taken required t = if required then t else joined t NullType

-- whether an entry has the name of a key
abbrev pub has_entry : List ℕ → List Entry → Bool
has_entry key [] = false
has_entry key (e ∷ es) = bytes_eq key (encode_utf8_all e.name) || has_entry key es

-- the entry at an index has the name of a key
abbrev pub IsEntryAt : List ℕ → ℕ → List Entry → Type 0
IsEntryAt key i [] = ⊥
IsEntryAt key zero (e ∷ es) = bytes_eq key (encode_utf8_all e.name) ≡ true
IsEntryAt key (suc i) (e ∷ es) = IsEntryAt key i es

-- whether no two entries have one name
abbrev pub are_distinct : List Entry → Bool
are_distinct [] = true
are_distinct (e ∷ es) = not (has_entry (encode_utf8_all e.name) es) && are_distinct es

-- the entries in which that at an index has another value
abbrev pub IsFilled : ℕ → code_value.Value → List Entry → List Entry → Type 0
IsFilled zero v (e ∷ es) (f ∷ fs) = (f.name ≡ e.name) × (f.value ≡ v) × (fs ≡ es)
IsFilled (suc i) v (e ∷ es) (f ∷ fs) = (f ≡ e) × IsFilled i v es fs
IsFilled i v _ _ = ⊥

-- the value of the member that came last, or null if none came
abbrev pub IsValueOf : SoyType → Option Data → Value → Type 0
IsValueOf t None v = v ≡ NullValue
IsValueOf t (Some d) v = value_at t d ≡ Ok v

-- entries that members have filled, one for each field and in their order
abbrev pub AreEntries : List (Name × SoyType) → Members → List Entry → Type 0
AreEntries [] ms [] = Unit {0}
AreEntries (f ∷ fs) ms (e ∷ es) =
    (e.name ≡ f.0) × IsValueOf f.1 (get_member (encode_utf8_all f.0) ms) (view_value e.value) × AreEntries fs ms es
AreEntries _ ms _ = ⊥

-- an entry that is null is of a type that null fits
abbrev pub MayBeNull : SoyType → Value → Type 0
MayBeNull t v = is_null_value v ≡ true → value_at t null ≡ Ok NullValue

-- the same of the field at an index
abbrev pub MayBeNullAt : ℕ → List (Name × SoyType) → Value → Type 0
MayBeNullAt i fs v = is_null_value v ≡ true → (name : Name) × (t : SoyType) × FieldAt i name t fs
    × (value_at t null ≡ Ok NullValue)

-- the same of each entry and its field: by AreEntries there are as many of both
abbrev pub NullsFit : List (Name × SoyType) → List Entry → Type 0
NullsFit (f ∷ fs) (e ∷ es) = MayBeNull f.1 (view_value e.value) × NullsFit fs es
NullsFit _ _ = Unit {0}
