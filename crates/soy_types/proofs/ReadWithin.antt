-- The lists of values that are read have no more items than the data have bytes.
use Rattle.std.proofs.Common.{◌≡◌, ◌≤◌, ℕ, Bool, true, false, List, [], ◌∷◌, length, refl, sym, subst, arith}
use Rattle.std.specs.Prelude.{Option, Some, None, IfSome, Ok, Result, encode_utf8_all, if◌then◌else◌, unwrap_or}
use Rattle.std.specs.Str.{is_utf8}
use Rattle.serde_json.specs.Data as json
use Rattle.serde_json.specs.Data.{Data, null, boolean, number, string, array, object}
use Rattle.serde_json.specs.Find.{get}
use Rattle.serde_json.specs.Read.{read}
use Rattle.soy_rules.specs.ShortLists.{HasShortLists, ItemsShort, EntriesShort, item_count}
use Rattle.soy_rules.specs.Templates.{param_type}
use Rattle.soy_tree.specs.Trees.{Param}
use Rattle.soy_tree.specs.Types.{Name}
use Rattle.soy_tree.specs.Values.{Value, Items, Entries, NullValue, BoolValue, IntValue, StringValue, ListValue}
use Rattle.soy_tree.specs.Values.{MapValue, RecordValue, no_item, item, no_entry, entry}
use Rattle.soy_tree.specs.ViewValues.{entries_of}
use Rattle.soy_types.specs.ListsWithin.{HasListsWithin, ItemsWithin, EntriesWithin}
use Rattle.soy_types.specs.Paths.{all_read}
use Rattle.soy_base.specs.Path.{Path}
use Rattle.soy_types.specs.Read.{member_or_null, under_key, value_at}
use Rattle.soy_types.specs.ReadData.{data_at, json_of, param_results, values_at, values_of_json}
use Rattle.soy_types.specs.Stands.{StandsFor, ItemsStand, MembersStand, FieldsStand}
use Rattle.soy_types.proofs.JsonWithin.{IsDataWithin, AreDataWithin, AreNamedWithin, data_count, get_within}
use Rattle.soy_types.proofs.JsonWithin.{read_within}
use Rattle.soy_types.proofs.ParamsRead.{refused_ok}
use Rattle.soy_types.proofs.ReadFacts.{ok_same, onward_ok, headed_ok, under_key_ok}
use Rattle.soy_types.proofs.ReadStands.{value_stands}

-- ---- a value by the JSON value that it is read of

counted : (vs : Items) (ds : json.Items) → ItemsStand vs (Some ds) → item_count vs ≡ data_count ds
counted no_item json.no_items stand = refl
counted no_item (json.item d ds) stand = absurd stand
counted (item v vs) json.no_items stand = absurd stand
counted (item v vs) (json.item d ds) stand = omega (arith, counted vs ds stand.1)

no_items_stand : (vs : Items) → ItemsStand vs None → ⊥
no_items_stand no_item stand = stand
no_items_stand (item v vs) stand = stand

no_members_stand : (es : Entries) → MembersStand es None → ⊥
no_members_stand no_entry stand = stand
no_members_stand (entry name v es) stand = stand

or_null : (b : ℕ) (o : Option Data) → IfSome o (IsDataWithin b) → IsDataWithin b (unwrap_or o null)
or_null b None is = tt
or_null b (Some d) is = is

named_within : (b : ℕ) (name : Name) (d : Data) → IsDataWithin b d → IsDataWithin b (member_or_null name d)
named_within b name d is = or_null b (get (encode_utf8_all name) d) (get_within b (encode_utf8_all name) d is)

mutual
  value_within : (b : ℕ) (v : Value) (d : Data) → IsDataWithin b d → StandsFor v d → HasListsWithin b v
  value_within b NullValue d is stands = tt
  value_within b (BoolValue c) d is stands = tt
  value_within b (IntValue n) d is stands = tt
  value_within b (StringValue text) d is stands = tt
  value_within b (ListValue vs) (array ds) is stands =
      (omega (arith, is.0, counted vs ds stands), items_within b vs ds is.1 stands)
  value_within b (ListValue vs) null is stands = absurd (no_items_stand vs stands)
  value_within b (ListValue vs) (boolean c) is stands = absurd (no_items_stand vs stands)
  value_within b (ListValue vs) (number n) is stands = absurd (no_items_stand vs stands)
  value_within b (ListValue vs) (string s) is stands = absurd (no_items_stand vs stands)
  value_within b (ListValue vs) (object ms) is stands = absurd (no_items_stand vs stands)
  value_within b (MapValue es) (object ms) is stands = members_within b es ms is stands
  value_within b (MapValue es) null is stands = absurd (no_members_stand es stands)
  value_within b (MapValue es) (boolean c) is stands = absurd (no_members_stand es stands)
  value_within b (MapValue es) (number n) is stands = absurd (no_members_stand es stands)
  value_within b (MapValue es) (string s) is stands = absurd (no_members_stand es stands)
  value_within b (MapValue es) (array ds) is stands = absurd (no_members_stand es stands)
  value_within b (RecordValue es) (object ms) is stands = fields_within b es (object ms) is stands
  value_within b (RecordValue es) null is stands = absurd stands
  value_within b (RecordValue es) (boolean c) is stands = absurd stands
  value_within b (RecordValue es) (number n) is stands = absurd stands
  value_within b (RecordValue es) (string s) is stands = absurd stands
  value_within b (RecordValue es) (array ds) is stands = absurd stands

  items_within : (b : ℕ) (vs : Items) (ds : json.Items) → AreDataWithin b ds → ItemsStand vs (Some ds)
      → ItemsWithin b vs
  items_within b no_item ds are stand = tt
  items_within b (item v vs) json.no_items are stand = absurd stand
  items_within b (item v vs) (json.item d ds) are stand =
      (value_within b v d are.0 stand.0, items_within b vs ds are.1 stand.1)

  members_within : (b : ℕ) (es : Entries) (ms : json.Members) → AreNamedWithin b ms → MembersStand es (Some ms)
      → EntriesWithin b es
  members_within b no_entry ms are stand = tt
  members_within b (entry name v es) json.no_members are stand = absurd stand
  members_within b (entry name v es) (json.member key d ms) are stand =
      (value_within b v d are.0 stand.1, members_within b es ms are.1 stand.2)

  fields_within : (b : ℕ) (es : Entries) (d : Data) → IsDataWithin b d → FieldsStand es d → EntriesWithin b es
  fields_within b no_entry d is stand = tt
  fields_within b (entry name v es) d is stand =
      (value_within b v (member_or_null name d) (named_within b name d is) stand.0, fields_within b es d is stand.1)

-- ---- the values of parameters

params_within : (b : ℕ) (ps : List Param) (d : Data) (es : List (Name × Value)) → IsDataWithin b d
    → all_read (param_results ps d) ≡ Ok es → EntriesWithin b (entries_of es)
params_within b [] d es is e = let p : [] ≡ es = ok_same e in rw (sym p) tt
params_within b (p ∷ ps) d es is e =
    let read : Result Value Path = value_at (param_type p) (member_or_null p.name d) in
    let h = headed_ok (under_key p.name read) (all_read (param_results ps d)) es e in
    let k = under_key_ok p.name read h.0 h.2 in
    let one : EntriesWithin b (entries_of ((p.name, k.0) ∷ h.1)) = (
      value_within b k.0 (member_or_null p.name d) (named_within b p.name d is)
          (value_stands (param_type p) (member_or_null p.name d) k.0 k.1),
      params_within b ps d h.1 is h.3,
    ) in
    subst (λ x. EntriesWithin b (entries_of x)) h.4 (subst (λ x. EntriesWithin b (entries_of (x ∷ h.1))) k.2 one)

json_within : (b : ℕ) (ps : List Param) (o : Option Data) (v : Value) → IfSome o (IsDataWithin b)
    → values_of_json ps o ≡ Ok v → HasListsWithin b v
json_within b ps None v is e = let no : ⊥ = cc in absurd no
json_within b ps (Some d) v is e =
    let h = onward_ok (λ es. RecordValue (entries_of es)) (all_read (param_results ps d)) v
    (refused_ok (values_at ps d) v e) in
    subst (HasListsWithin b) h.2 (params_within b ps d h.0 is h.1)

only_if : (c : Bool) (b : ℕ) (o : Option Data) → IfSome o (IsDataWithin b)
    → IfSome (if c then o else None) (IsDataWithin b)
only_if true b o is = is
only_if false b o is = tt

json_of-within : (bytes : List ℕ) → IfSome (json_of bytes) (IsDataWithin (length bytes))
unfolding json_of
json_of-within bytes = only_if (is_utf8 bytes) (length bytes) (read bytes) (read_within bytes)

-- **lists that are read have no more items than the data have bytes**
pub data_within : (ps : List Param) (bytes : List ℕ) (v : Value) → data_at ps bytes ≡ Ok v
    → HasListsWithin (length bytes) v
data_within ps bytes v e = json_within (length bytes) ps (json_of bytes) v (json_of-within bytes) e

-- ---- so they are short

mutual
  short_when : (most : ℕ) (v : Value) → most ≤ 9007199254740992 → HasListsWithin most v → HasShortLists v
  short_when most NullValue less is = tt
  short_when most (BoolValue c) less is = tt
  short_when most (IntValue n) less is = tt
  short_when most (StringValue text) less is = tt
  short_when most (ListValue vs) less is = (omega (arith, less, is.0), items_short_when most vs less is.1)
  short_when most (MapValue es) less is = entries_short_when most es less is
  short_when most (RecordValue es) less is = entries_short_when most es less is

  items_short_when : (most : ℕ) (vs : Items) → most ≤ 9007199254740992 → ItemsWithin most vs → ItemsShort vs
  items_short_when most no_item less are = tt
  items_short_when most (item v vs) less are =
      (short_when most v less are.0, items_short_when most vs less are.1)

  entries_short_when : (most : ℕ) (es : Entries) → most ≤ 9007199254740992 → EntriesWithin most es → EntriesShort es
  entries_short_when most no_entry less are = tt
  entries_short_when most (entry name v es) less are =
      (short_when most v less are.0, entries_short_when most es less are.1)

-- **the lists of data of at most 2^53 bytes are short**
pub data_short : (ps : List Param) (bytes : List ℕ) (v : Value) → length bytes ≤ 9007199254740992
    → data_at ps bytes ≡ Ok v → HasShortLists v
data_short ps bytes v few e = short_when (length bytes) v few (data_within ps bytes v e)
