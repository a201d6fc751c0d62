-- What is read at a type that may be declared is of that type.
use Rattle.std.proofs.Common.{◌≡◌, ℕ, ◌+◌, ℤ, Bool, true, false, ◌||◌, List, [], ◌∷◌, ◌++◌, refl, sym, ◌∙◌, subst}
use Rattle.std.proofs.Common.{append_assoc}
use Rattle.std.specs.Prelude.{Option, Some, None, Result, Ok, Err, if◌then◌else◌, bytes_eq, pos, negsuc}
use Rattle.std.specs.Option.{option_or}
use Rattle.std.specs.Str.{chars}
use Rattle.std.proofs.lemmas.Bool.{leb-true, ltb-true}
use Rattle.std.proofs.lemmas.Slice.Eq.{bytes_eq-Decides}
use mathlib.Core.Logic.{inl, inr}
use Rattle.serde_json.specs.Data as json
use Rattle.serde_json.specs.Data.{Data, null, boolean, number, string, array, object}
use Rattle.serde_json.specs.Find.{as_i64}
use Rattle.soy_base.specs.declared.path.PathStep.TheVariants as path_step
use Rattle.soy_tree.specs.Types as types
use Rattle.soy_tree.specs.Types.{Name, SoyType, FieldTypes, NullType, BoolType, IntType, StringType, HtmlType}
use Rattle.soy_tree.specs.Types.{AttributesType, ListType, MapType, RecordType, UnionType, no_field, field}
use Rattle.soy_tree.specs.Values.{Value, ListValue, MapValue, RecordValue}
use Rattle.soy_tree.specs.ViewValues.{items_of, entries_of}
use Rattle.soy_base.specs.Limits.{largest}
use Rattle.soy_rules.specs.Faults.{TypeFault}
use Rattle.soy_rules.specs.Declarations.{type_fault, members_fault, fields_fault, twice, misplaced, mixes_blocks}
use Rattle.soy_base.specs.Among.{is_among}
use Rattle.soy_rules.specs.Has.{Has, HasSome, HasFields, IsWithinRange, EachItem, EachEntry, IsThere, entry_value}
use Rattle.soy_types.specs.Paths.{below, all_read, either_read}
use Rattle.soy_base.specs.Path.{Path}
use Rattle.soy_types.specs.Read.{value_at, first_read, field_results, item_results, entry_results, under_key}
use Rattle.soy_types.specs.Read.{member_or_null, is_within_range}
use Rattle.soy_types.proofs.ReadFacts.{ok_same, onward_ok, below_ok, headed_ok, under_key_ok}
use Rattle.soy_types.proofs.ReadStands.{int_is}

pub within_range : (n : ℤ) → is_within_range n ≡ true → IsWithinRange n
within_range (pos n) e = leb-true n largest e
within_range (negsuc n) e = ltb-true n largest e

-- neither of two has a fault
pub no_fault_left : (a b : Option TypeFault) → option_or a b ≡ None → a ≡ None
no_fault_left None b e = refl
no_fault_left (Some f) b e = let no : ⊥ = cc in absurd no

pub no_fault_right : (a b : Option TypeFault) → option_or a b ≡ None → b ≡ None
no_fault_right None b e = e
no_fault_right (Some f) b e = let no : ⊥ = cc in absurd no

-- a reading that gives values with a property
abbrev pub Gives : (Data → Result Value Path) → (Value → Type 0) → Type 0
Gives read P = (d : Data) (v : Value) → read d ≡ Ok v → P v

pub items_have : (read : Data → Result Value Path) (P : Value → Type 0) (ds : json.Items) (n : ℕ) (vs : List Value)
    → Gives read P → all_read (item_results read n ds) ≡ Ok vs → EachItem P (items_of vs)
items_have read P json.no_items n vs gives e = let p : [] ≡ vs = ok_same e in rw (sym p) tt
items_have read P (json.item d ds) n vs gives e =
    let h = headed_ok (below (path_step.Index n) (read d)) (all_read (item_results read (n + 1) ds)) vs e in
    let here : P h.0 = gives d h.0 (below_ok (path_step.Index n) (read d) h.0 h.2) in
    let rest : EachItem P (items_of h.1) = items_have read P ds (n + 1) h.1 gives h.3 in
    subst (λ x. EachItem P (items_of x)) h.4 (here, rest)

pub entries_have : (read : Data → Result Value Path) (P : Value → Type 0) (ms : json.Members) (es : List (Name × Value))
    → Gives read P → all_read (entry_results read ms) ≡ Ok es → EachEntry P (entries_of es)
entries_have read P json.no_members es gives e = let p : [] ≡ es = ok_same e in rw (sym p) tt
entries_have read P (json.member key d ms) es gives e =
    let h = headed_ok (under_key (chars key) (read d)) (all_read (entry_results read ms)) es e in
    let k = under_key_ok (chars key) (read d) h.0 h.2 in
    let rest : EachEntry P (entries_of h.1) = entries_have read P ms h.1 gives h.3 in
    let one : EachEntry P (entries_of ((chars key, k.0) ∷ h.1)) = (gives d k.0 k.1, rest) in
    subst (λ x. EachEntry P (entries_of x)) h.4 (subst (λ x. EachEntry P (entries_of (x ∷ h.1))) k.2 one)

-- entries by name
pub same_itself : (name : Name) → bytes_eq name name ≡ true
same_itself name = (bytes_eq-Decides name name).1 refl

pub later_if : (c : Bool) (v : Value) (o p q : Option Value) → (if c then Some v else o) ≡ None → (o ≡ None → p ≡ q)
    → (if c then Some v else p) ≡ q
later_if true v o p q e more = let no : ⊥ = cc in absurd no
later_if false v o p q e more = more e

pub entry_later : (name : Name) (done es : List (Name × Value)) → entry_value name (entries_of done) ≡ None
    → entry_value name (entries_of (done ++ es)) ≡ entry_value name (entries_of es)
entry_later name [] es e = refl
entry_later name (d ∷ done) es e = later_if (bytes_eq d.0 name) d.1 _ _ _ e (λ k. entry_later name done es k)

pub entry_here : (name : Name) (v : Value) (es : List (Name × Value))
    → entry_value name (entries_of ((name, v) ∷ es)) ≡ Some v
entry_here name v es = rw (same_itself name) refl

-- names that aren't among those before have no entry so far
abbrev pub HasNone : List Name → List (Name × Value) → Type 0
HasNone before done = (name : Name) → is_among before name ≡ false → entry_value name (entries_of done) ≡ None

pub or_false_left : (a b : Bool) → (a || b) ≡ false → a ≡ false
or_false_left true b e = let no : ⊥ = cc in absurd no
or_false_left false b e = refl

pub or_false_right : (a b : Bool) → (a || b) ≡ false → b ≡ false
or_false_right true b e = let no : ⊥ = cc in absurd no
or_false_right false b e = e

pub differs : (a b : Name) (c : Bool) → bytes_eq a b ≡ false → bytes_eq b a ≡ c → bytes_eq b a ≡ false
differs a b true e is =
    let q : b ≡ a = (bytes_eq-Decides b a).0 is in
    let p : bytes_eq a a ≡ false = rw q at e in
    let r : bytes_eq a a ≡ true = same_itself a in
    let no : ⊥ = cc in absurd no
differs a b false e is = is

pub none_after : (before : List Name) (done : List (Name × Value)) (name : Name) (v : Value) → HasNone before done
    → HasNone (name ∷ before) (done ++ (name, v) ∷ [])
none_after before done name v none other e =
    let a : bytes_eq other name ≡ false = or_false_left (bytes_eq other name) (is_among before other) e in
    let b : is_among before other ≡ false = or_false_right (bytes_eq other name) (is_among before other) e in
    entry_later other done ((name, v) ∷ []) (none other b)
    ∙ rw (differs other name (bytes_eq name other) a refl) refl

pub not_among : (b : Bool) (at : ℕ) (name : Name) (before : List Name) → is_among before name ≡ b
    → twice at name before ≡ None
    → is_among before name ≡ false
not_among true at name before is e = let k = rw is at e in let no : ⊥ = cc in absurd no
not_among false at name before is e = is

pub either_has : {P : Type 0} (a b : Result Value Path) (v : Value) → (a ≡ Ok v → P) → (b ≡ Ok v → P)
    → either_read a b ≡ Ok v → P
either_has (Ok w) b v left right e = left e
either_has (Err path) b v left right e = right e

mutual
  pub value_has : (t : SoyType) (d : Data) (v : Value) (at : ℕ) (alone : Bool) → type_fault t at alone ≡ None
      → value_at t d ≡ Ok v → Has v t
  value_has NullType null v at alone ok e = subst (λ x. Has x NullType) (ok_same e) tt
  value_has BoolType (boolean b) v at alone ok e = subst (λ x. Has x BoolType) (ok_same e) tt
  value_has IntType (number m) v at alone ok e =
      let h = int_is (as_i64 m) v e in subst (λ x. Has x IntType) h.3 (within_range h.0 h.2)
  value_has StringType (string bytes) v at alone ok e = subst (λ x. Has x StringType) (ok_same e) tt
  value_has (ListType t) (array ds) v at alone ok e =
      let h = onward_ok (λ vs. ListValue (items_of vs)) (all_read (item_results (value_at t) 0 ds)) v e in
      subst (λ x. Has x (ListType t)) h.2
      (items_have (value_at t) (λ w. Has w t) ds 0 h.0 (λ d w k. value_has t d w at false ok k) h.1)
  value_has (MapType t) (object ms) v at alone ok e =
      let h = onward_ok (λ es. MapValue (entries_of es)) (all_read (entry_results (value_at t) ms)) v e in
      subst (λ x. Has x (MapType t)) h.2
      (entries_have (value_at t) (λ w. Has w t) ms h.0 (λ d w k. value_has t d w at false ok k) h.1)
  value_has (RecordType fields) (object ms) v at alone ok e =
      let h = onward_ok (λ es. RecordValue (entries_of es)) (all_read (field_results fields (object ms))) v e in
      subst (λ x. Has x (RecordType fields)) h.2
      (fields_have fields (object ms) [] h.0 at [] ok (λ name k. refl) h.1)
  value_has (UnionType ts) d v at alone ok e =
      first_has ts d v at alone
      (no_fault_left (members_fault ts at alone) (misplaced at (UnionType ts) (mixes_blocks (UnionType ts))) ok) e
  value_has _ _ v at alone ok e = let no : ⊥ = cc in absurd no

  pub first_has : (ts : types.Members) (d : Data) (v : Value) (at : ℕ) (alone : Bool) → members_fault ts at alone ≡ None
      → first_read ts d ≡ Ok v → HasSome v ts
  first_has types.no_member d v at alone ok e = let no : ⊥ = cc in absurd no
  first_has (types.member t ts) d v at alone ok e =
      either_has (value_at t d) (first_read ts d) v
      (λ k. inl (value_has t d v at alone (no_fault_left (type_fault t at alone) (members_fault ts at alone) ok) k))
      (λ k. inr (first_has ts d v at alone (no_fault_right (type_fault t at alone) (members_fault ts at alone) ok) k)) e

  -- the fields that follow those of some names, which have the entries before
  pub fields_have : (fields : FieldTypes) (d : Data) (done es : List (Name × Value)) (at : ℕ) (before : List Name)
      → fields_fault fields at before ≡ None → HasNone before done → all_read (field_results fields d) ≡ Ok es
      → HasFields (RecordValue (entries_of (done ++ es))) fields
  fields_have no_field d done es at before ok none e = tt
  fields_have (field name t fields) d done es at before ok none e =
      let read : Result Value Path = value_at t (member_or_null name d) in
      let h = headed_ok (under_key name read) (all_read (field_results fields d)) es e in
      let k = under_key_ok name read h.0 h.2 in
      let more : Option TypeFault = option_or (type_fault t at false) (fields_fault fields at (name ∷ before)) in
      let new = not_among (is_among before name) at name before refl (no_fault_left (twice at name before) more ok) in
      let later = no_fault_right (twice at name before) more ok in
      let typed : Has k.0 t =
      value_has t (member_or_null name d) k.0 at false
      (no_fault_left (type_fault t at false) (fields_fault fields at (name ∷ before)) later) k.1 in
      let found : entry_value name (entries_of (done ++ (name, k.0) ∷ h.1)) ≡ Some k.0 =
      entry_later name done ((name, k.0) ∷ h.1) (none name new) ∙ entry_here name k.0 h.1 in
      let here : IsThere (λ w. Has w t) (entry_value name (entries_of (done ++ (name, k.0) ∷ h.1))) =
      subst (IsThere (λ w. Has w t)) (sym found) typed in
      let rest : HasFields (RecordValue (entries_of ((done ++ (name, k.0) ∷ []) ++ h.1))) fields =
      fields_have fields d (done ++ (name, k.0) ∷ []) h.1 at (name ∷ before)
      (no_fault_right (type_fault t at false) (fields_fault fields at (name ∷ before)) later)
      (none_after before done name k.0 none) h.3 in
      let rest' : HasFields (RecordValue (entries_of (done ++ (name, k.0) ∷ h.1))) fields =
      subst (λ x. HasFields (RecordValue (entries_of x)) fields) (append_assoc done ((name, k.0) ∷ []) h.1) rest in
      subst (λ x. HasFields (RecordValue (entries_of (done ++ x))) (field name t fields)) h.4
      (subst (λ x. HasFields (RecordValue (entries_of (done ++ x ∷ h.1))) (field name t fields)) k.2 (here, rest'))
