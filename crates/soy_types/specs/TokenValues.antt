-- What is read of tokens: the value, at a type, of the JSON value with which they begin and whose numbers all have
-- values; and the tokens after it.
-- Example: of the tokens of `[1] 2` the list of 1 is read at `list<int>`, and that of `2` is left.
use Rattle.std.specs.Prelude.{◌≡◌, ℕ, true, List, [], ◌∷◌, length, Some, option_and_then, Result, Ok}
use Rattle.json.specs.Token.{Token}
use Rattle.json.specs.Json as json
use Rattle.json.specs.Json.{if_last}
use Rattle.serde_json.specs.Data.{Data, Members, object, no_members, put}
use Rattle.serde_json.specs.Read.{max_depth}
use Rattle.soy_base.specs.Path.{Path}
use Rattle.soy_tree.specs.declared.value.Entry.{Entry}
use Rattle.soy_tree.specs.Trees.{Param}
use Rattle.soy_tree.specs.Types.{Name, SoyType}
use Rattle.soy_tree.specs.Values.{Value, ListValue, RecordValue}
use Rattle.soy_tree.specs.ViewTypes.{fields_of}
use Rattle.soy_tree.specs.ViewValues.{items_of, entries_of}
use Rattle.soy_types.specs.Filling.{AreEntries, FieldAt, are_distinct}
use Rattle.soy_types.specs.LentData.{data_members, data_of, has_values, items_have_values, members_have_values}
use Rattle.soy_types.specs.Paths.{all_read, onward}
use Rattle.soy_types.specs.Read.{field_results, value_at}
use Rattle.soy_types.specs.ReadData.{values_at}

-- a value at a type, the JSON value nested no deeper than the number
abbrev pub ReadsAt : ℕ → SoyType → List Token → List Token → Value → Type 0
ReadsAt depth t old new v =
    (j : json.Json) × (json.value depth old ≡ Some (j, new)) × (has_values j ≡ true) × (value_at t (data_of j) ≡ Ok v)

-- items with their values, one by one
abbrev pub AreItemsAt : SoyType → json.Items → List Value → Type 0
AreItemsAt t json.no_items [] = Unit {0}
AreItemsAt t (json.item j js) (v ∷ vs) = (value_at t (data_of j) ≡ Ok v) × AreItemsAt t js vs
AreItemsAt t _ _ = ⊥

-- the list of the items before a closing bracket
abbrev pub ReadsItems : ℕ → SoyType → List Token → List Token → Value → Type 0
ReadsItems depth t old new v =
    (js : json.Items) × (vs : List Value) × (json.items (json.value depth) (length old) old ≡ Some (js, new))
    × (items_have_values js ≡ true) × AreItemsAt t js vs × (v ≡ ListValue (items_of vs))

-- the record of fields
abbrev pub record_at : List (Name × SoyType) → Data → Result Value Path
record_at fields d = onward (λ es. RecordValue (entries_of es)) (all_read (field_results (fields_of fields) d))

-- the record of the members before a closing brace
abbrev pub ReadsMembers : ℕ → List (Name × SoyType) → List Token → List Token → Value → Type 0
ReadsMembers depth fields old new v =
    (ms : json.Members) × (json.members (json.value depth) (length old) old ≡ Some (ms, new))
    × (members_have_values ms ≡ true) × (record_at fields (object (data_members ms no_members)) ≡ Ok v)

-- the record of an object
abbrev pub ReadsObject : ℕ → List (Name × SoyType) → List Token → List Token → Value → Type 0
ReadsObject depth fields old new v =
    (ms : json.Members) × (json.value depth old ≡ Some (json.object ms, new))
    × (members_have_values ms ≡ true) × (record_at fields (object (data_members ms no_members)) ≡ Ok v)

-- the value of the field at an index
abbrev pub ReadsField : ℕ → ℕ → List (Name × SoyType) → List Token → List Token → Value → Type 0
ReadsField depth i fields old new v =
    (name : Name) × (t : SoyType) × FieldAt i name t fields × ReadsAt depth t old new v

-- the values of parameters, of tokens that are one JSON value
abbrev pub ReadsDocument : List Param → List Token → Value → Type 0
ReadsDocument params old v =
    (j : json.Json) × (option_and_then (λ p. if_last p.0 p.1) (json.value max_depth old) ≡ Some j)
    × (has_values j ≡ true) × (values_at params (data_of j) ≡ Ok v)

-- entries after one member more, whose value the tokens have
abbrev pub TakesMember :
    ℕ → List (Name × SoyType) → List ℕ → List Token → List Token → List Entry → List Entry → Type 0
TakesMember depth fields key old new before now =
    (j : json.Json) × (json.value depth old ≡ Some (j, new)) × (has_values j ≡ true) × ((ms : Members)
    → AreEntries fields ms before → are_distinct before ≡ true
    → AreEntries fields (put key (data_of j) ms) now × (are_distinct now ≡ true))
