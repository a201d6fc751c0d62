-- The data that a JSON value of `json` is, where each of its numbers has a value.
-- As `of_json` of `serde_json` has it: members go in one after another, so the last value of a key stays. A number
-- without a value counts as 0 here, so these are the data only of a JSON value that has no such number.
-- Example: the data of `{"a":1,"a":[2]}` are the object with `a` the array of 2.
use Rattle.std.specs.Prelude.{ℕ, List, [], ◌∷◌, Bool, true, ◌&&◌, is_some, unwrap_or}
use Rattle.std.specs.Borrow.{Bor}
use Rattle.std.specs.declared.alloc.Global.{Global}
use Rattle.json.specs.Json as json
use Rattle.json.specs.Value.{value_view}
use Rattle.json.specs.declared.value.Value.{Value}
use Rattle.serde_json.specs.Data.{Num, unsigned, Data, null, boolean, number, string, array, object}
use Rattle.serde_json.specs.Data.{Items, no_items, item, Members, no_members, member, put}
use Rattle.serde_json.specs.Read.{number_of}

abbrev pub number_or_zero : List ℕ → Num
number_or_zero s = unwrap_or (number_of s) (unsigned 0)

abbrev mutual
  pub data_of : json.Json → Data
  data_of json.null = null
  data_of (json.boolean b) = boolean b
  data_of (json.number s) = number (number_or_zero s)
  data_of (json.string s) = string s
  data_of (json.array js) = array (data_items js)
  data_of (json.object ms) = object (data_members ms no_members)

  pub data_items : json.Items → Items
  data_items json.no_items = no_items
  data_items (json.item j js) = item (data_of j) (data_items js)

  -- with the members before
  pub data_members : json.Members → Members → Members
  data_members json.no_members found = found
  data_members (json.member k j ms) found = data_members ms (put k (data_of j) found)

-- the data of members that are in order
abbrev pub data_in_order : List (Bor (List ℕ) × Bor (Value Global)) → Members
data_in_order [] = no_members
data_in_order (m ∷ ms) = member m.0.now (data_of (value_view m.1.now)) (data_in_order ms)

-- whether each number has a value
abbrev mutual
  pub has_values : json.Json → Bool
  has_values json.null = true
  has_values (json.boolean b) = true
  has_values (json.number s) = is_some (number_of s)
  has_values (json.string s) = true
  has_values (json.array js) = items_have_values js
  has_values (json.object ms) = members_have_values ms

  pub items_have_values : json.Items → Bool
  items_have_values json.no_items = true
  items_have_values (json.item j js) = has_values j && items_have_values js

  pub members_have_values : json.Members → Bool
  members_have_values json.no_members = true
  members_have_values (json.member k j ms) = has_values j && members_have_values ms
