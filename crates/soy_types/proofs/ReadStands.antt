-- What is read of a JSON value is a value that it stands for.
use Rattle.std.proofs.Common.{◌≡◌, ℕ, ◌+◌, ℤ, Bool, true, false, List, [], ◌∷◌, refl, sym, subst}
use Rattle.std.specs.Prelude.{Option, Some, None, Result, Ok, Err, if◌then◌else◌}
use Rattle.std.specs.Str.{chars}
use Rattle.serde_json.specs.Data as json
use Rattle.serde_json.specs.Data.{Data, Num, null, boolean, number, string, array, object}
use Rattle.serde_json.specs.Find.{as_i64}
use Rattle.soy_base.specs.declared.path.PathStep.TheVariants as path_step
use Rattle.soy_tree.specs.Types as types
use Rattle.soy_tree.specs.Types.{Name, SoyType, FieldTypes, NullType, BoolType, IntType, StringType, HtmlType}
use Rattle.soy_tree.specs.Types.{AttributesType, ListType, MapType, RecordType, UnionType, no_field, field}
use Rattle.soy_tree.specs.Values.{Value, IntValue, ListValue, MapValue, RecordValue}
use Rattle.soy_tree.specs.ViewValues.{items_of, entries_of}
use Rattle.soy_types.specs.Paths.{below, all_read, either_read}
use Rattle.soy_base.specs.Path.{Path}
use Rattle.soy_types.specs.Read.{value_at, first_read, field_results, item_results, entry_results, under_key}
use Rattle.soy_types.specs.Read.{member_or_null, int_read, is_within_range}
use Rattle.soy_types.specs.Stands.{StandsFor, ItemsStand, MembersStand, FieldsStand}
use Rattle.soy_types.proofs.ReadFacts.{ok_same, onward_ok, below_ok, headed_ok, under_key_ok}

-- a reading that gives what is stood for
abbrev pub GivesStood : (Data → Result Value Path) → Type 0
GivesStood read = (d : Data) (v : Value) → read d ≡ Ok v → StandsFor v d

pub items_stand : (read : Data → Result Value Path) (ds : json.Items) (n : ℕ) (vs : List Value) → GivesStood read
    → all_read (item_results read n ds) ≡ Ok vs → ItemsStand (items_of vs) (Some ds)
items_stand read json.no_items n vs gives e = let p : [] ≡ vs = ok_same e in rw (sym p) tt
items_stand read (json.item d ds) n vs gives e =
    let h = headed_ok (below (path_step.Index n) (read d)) (all_read (item_results read (n + 1) ds)) vs e in
    let here : StandsFor h.0 d = gives d h.0 (below_ok (path_step.Index n) (read d) h.0 h.2) in
    let rest : ItemsStand (items_of h.1) (Some ds) = items_stand read ds (n + 1) h.1 gives h.3 in
    subst (λ x. ItemsStand (items_of x) (Some (json.item d ds))) h.4 (here, rest)

pub members_stand : (read : Data → Result Value Path) (ms : json.Members) (es : List (Name × Value)) → GivesStood read
    → all_read (entry_results read ms) ≡ Ok es → MembersStand (entries_of es) (Some ms)
members_stand read json.no_members es gives e = let p : [] ≡ es = ok_same e in rw (sym p) tt
members_stand read (json.member key d ms) es gives e =
    let h = headed_ok (under_key (chars key) (read d)) (all_read (entry_results read ms)) es e in
    let k = under_key_ok (chars key) (read d) h.0 h.2 in
    let rest : MembersStand (entries_of h.1) (Some ms) = members_stand read ms h.1 gives h.3 in
    let one : MembersStand (entries_of ((chars key, k.0) ∷ h.1)) (Some (json.member key d ms)) =
    (refl, gives d k.0 k.1, rest) in
    subst (λ x. MembersStand (entries_of x) (Some (json.member key d ms))) h.4
    (subst (λ x. MembersStand (entries_of (x ∷ h.1)) (Some (json.member key d ms))) k.2 one)

-- an int that is read is within the range
pub int_if : (b : Bool) (n : ℤ) (v : Value) → is_within_range n ≡ b
    → ◌≡◌ {A = Result Value Path} (if b then Ok (IntValue n) else Err []) (Ok v)
    → (is_within_range n ≡ true) × (IntValue n ≡ v)
int_if true n v is e = (is, ok_same e)
int_if false n v is e = let no : ⊥ = cc in absurd no

pub int_is : (o : Option ℤ) (v : Value) → int_read o ≡ Ok v
    → (n : ℤ) × (o ≡ Some n) × (is_within_range n ≡ true) × (IntValue n ≡ v)
int_is None v e = let no : ⊥ = cc in absurd no
int_is (Some n) v e =
    let h : (is_within_range n ≡ true) × (IntValue n ≡ v) = int_if (is_within_range n) n v refl e in (n, refl, h.0, h.1)

pub either_stands : (a b : Result Value Path) (d : Data) (v : Value) → (a ≡ Ok v → StandsFor v d)
    → (b ≡ Ok v → StandsFor v d) → either_read a b ≡ Ok v → StandsFor v d
either_stands (Ok w) b d v left right e = left e
either_stands (Err path) b d v left right e = right e

mutual
  pub value_stands : (t : SoyType) (d : Data) (v : Value) → value_at t d ≡ Ok v → StandsFor v d
  value_stands NullType null v e = subst (λ x. StandsFor x null) (ok_same e) refl
  value_stands BoolType (boolean b) v e = subst (λ x. StandsFor x (boolean b)) (ok_same e) refl
  value_stands IntType (number m) v e =
      let h = int_is (as_i64 m) v e in subst (λ x. StandsFor x (number m)) h.3 h.1
  value_stands StringType (string bytes) v e = subst (λ x. StandsFor x (string bytes)) (ok_same e) refl
  value_stands (ListType t) (array ds) v e =
      let h = onward_ok (λ vs. ListValue (items_of vs)) (all_read (item_results (value_at t) 0 ds)) v e in
      subst (λ x. StandsFor x (array ds)) h.2 (items_stand (value_at t) ds 0 h.0 (λ d w k. value_stands t d w k) h.1)
  value_stands (MapType t) (object ms) v e =
      let h = onward_ok (λ es. MapValue (entries_of es)) (all_read (entry_results (value_at t) ms)) v e in
      subst (λ x. StandsFor x (object ms)) h.2 (members_stand (value_at t) ms h.0 (λ d w k. value_stands t d w k) h.1)
  value_stands (RecordType fields) (object ms) v e =
      let h = onward_ok (λ es. RecordValue (entries_of es)) (all_read (field_results fields (object ms))) v e in
      subst (λ x. StandsFor x (object ms)) h.2 (fields_stand fields (object ms) h.0 h.1)
  value_stands (UnionType ts) d v e = first_stands ts d v e
  value_stands _ _ v e = let no : ⊥ = cc in absurd no

  pub first_stands : (ts : types.Members) (d : Data) (v : Value) → first_read ts d ≡ Ok v → StandsFor v d
  first_stands types.no_member d v e = let no : ⊥ = cc in absurd no
  first_stands (types.member t ts) d v e =
      either_stands (value_at t d) (first_read ts d) d v (λ k. value_stands t d v k) (λ k. first_stands ts d v k) e

  pub fields_stand : (fields : FieldTypes) (d : Data) (es : List (Name × Value))
      → all_read (field_results fields d) ≡ Ok es → FieldsStand (entries_of es) d
  fields_stand no_field d es e = let p : [] ≡ es = ok_same e in rw (sym p) tt
  fields_stand (field name t fields) d es e =
      let read : Result Value Path = value_at t (member_or_null name d) in
      let h = headed_ok (under_key name read) (all_read (field_results fields d)) es e in
      let k = under_key_ok name read h.0 h.2 in
      let one : FieldsStand (entries_of ((name, k.0) ∷ h.1)) d =
      (value_stands t (member_or_null name d) k.0 k.1, fields_stand fields d h.1 h.3) in
      subst (λ x. FieldsStand (entries_of x) d) h.4
      (subst (λ x. FieldsStand (entries_of (x ∷ h.1)) d) k.2 one)
