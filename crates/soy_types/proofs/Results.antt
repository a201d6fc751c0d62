-- Results of parts that are read one after another.
use Rattle.std.proofs.Common.{◌≡◌, ℕ, zero, suc, ◌+◌, ◌<◌, List, [], ◌∷◌, ◌++◌, drop, map, length, slice_index_or}
use Rattle.std.proofs.Common.{arith}
use Rattle.std.proofs.Common.{refl, sym, ap, ◌∙◌, append_assoc, String, string_bytes, Global, Vec, BTreeMap, subst}
use Rattle.std.proofs.lemmas.List.{map-append}
use Rattle.std.proofs.Common.{append-nil}
use Rattle.std.specs.Prelude.{Result, Ok, Err, encode_utf8_all, unwrap_or}
use Rattle.soy_base.specs.declared.memory.Refusal.{Refusal}
use Rattle.soy_base.specs.declared.memory.Refusal.TheVariants.{Because, OutOfMemory}
use Rattle.soy_tree.specs.declared.value.Value as code_value
use Rattle.soy_tree.specs.ViewValues.{view_value, items_of, entries_of}
use Rattle.serde_json.specs.Find.{get}
use Rattle.soy_types.specs.Reads.{Reads}
use Rattle.soy_types.proofs.Views.{view_list, view_map, view_array, view_object}
use Rattle.std.specs.Str.{chars}
use Rattle.serde_json.specs.Data.{Data, Items, item, null, array, object}
use Rattle.serde_json.specs.View.{view, items_view, members_view}
use Rattle.serde_json.specs.declared.value.Value as json
use Rattle.soy_base.specs.declared.path.PathStep.TheVariants as path_step
use Rattle.soy_tree.specs.declared.soy_type.Field as code_field
use Rattle.soy_tree.specs.declared.soy_type.SoyType as code_type
use Rattle.soy_tree.specs.declared.tree.Param as code_param
use Rattle.soy_tree.specs.Types.{Name, SoyType, ListType, MapType}
use Rattle.soy_tree.specs.Values.{Value, ListValue, MapValue}
use Rattle.soy_rules.specs.Templates.{param_type}
use Rattle.soy_tree.specs.ViewTypes.{view_fields, view_type}
use Rattle.soy_tree.specs.ViewTrees.{view_param, view_params}
use Rattle.soy_rules.proofs.Views.{fields-drop}
use Rattle.soy_types.specs.Paths.{onward, below, headed, all_read}
use Rattle.soy_base.specs.Path.{Path}
use Rattle.soy_types.specs.Read.{value_at, item_results, entry_results, field_results, under_key, member_or_null}
use Rattle.soy_types.specs.ReadData.{param_results}

-- one more result that is read
pub next_read : {A : Type 0} (done : List A) (r : Result A Path) (a : A) (rest : Result (List A) Path) → r ≡ Ok a
    → onward (λ as_. done ++ as_) (headed r rest) ≡ onward (λ as_. (done ++ a ∷ []) ++ as_) rest
next_read done r a (Ok as_) e = rw e (ap Ok (sym (append_assoc done (a ∷ []) as_)))
next_read done r a (Err path) e = rw e refl

-- a loop over the parts goes on, stops at the first that isn't read, or ends
pub goes_on : {A B : Type 0} (view : B → A) (whole : Result (List A) Path) (done : List B) (r : Result A Path)
    (rest : Result (List A) Path) (b : B)
    → whole ≡ onward (λ as_. map view done ++ as_) (headed r rest) → r ≡ Ok (view b)
    → whole ≡ onward (λ as_. map view (done ++ b ∷ []) ++ as_) rest
goes_on view whole done r rest b e is =
    rw (map-append view done (b ∷ [])) (e ∙ next_read (map view done) r (view b) rest is)

-- the first that isn't
pub next_fails : {A : Type 0} (done : List A) (r : Result A Path) (path : Path) (rest : Result (List A) Path)
    → r ≡ Err path
    → onward (λ as_. done ++ as_) (headed r rest) ≡ Err path
next_fails done r path rest e = rw e refl

pub items-drop : (vs : List json.Value) (i : ℕ) (v : json.Value) → i < length vs → v ≡ slice_index_or vs i v
    → items_view (drop i vs) ≡ item (view v) (items_view (drop (i + 1) vs))
items-drop [] i v below_ is = absurd (omega arith)
items-drop (x ∷ vs) zero v below_ is = rw is refl
items-drop (x ∷ vs) (suc i) v below_ is =
    let e : suc i + 1 ≡ suc (i + 1) = omega arith in rw e (items-drop vs i v (omega arith) is)

-- the items from an index on
pub items_left : (f : Data → Result Value Path) (vs : List json.Value) (i : ℕ) (v : json.Value) → i < length vs
    → v ≡ slice_index_or vs i v
    → all_read (item_results f i (items_view (drop i vs)))
    ≡ headed (below (path_step.Index i) (f (view v))) (all_read (item_results f (i + 1) (items_view (drop (i + 1) vs))))
items_left f vs i v below_ is = rw (items-drop vs i v below_ is) refl

-- the entries that an iterator has left
pub entries_left : (f : Data → Result Value Path) (left : List (String Global × json.Value)) (key : String Global)
    (v : json.Value) (rest : List (String Global × json.Value)) → left ≡ (key, v) ∷ rest
    → all_read (entry_results f (members_view left))
    ≡ headed (under_key (chars (string_bytes key)) (f (view v))) (all_read (entry_results f (members_view rest)))
entries_left f left key v rest is = rw is refl

-- the fields from an index on
pub fields_left : (fs : List code_field.Field) (d : Data) (i : ℕ) (f : code_field.Field) → i < length fs
    → f ≡ slice_index_or fs i f
    → all_read (field_results (view_fields (drop i fs)) d)
    ≡ headed (under_key f.name (value_at (view_type f.of) (member_or_null f.name d)))
    (all_read (field_results (view_fields (drop (i + 1) fs)) d))
fields_left fs d i f below_ is = rw (fields-drop fs i f below_ is) refl

pub params-drop : (ps : List code_param.Param) (i : ℕ) (p : code_param.Param) → i < length ps
    → p ≡ slice_index_or ps i p
    → view_params (drop i ps) ≡ view_param p ∷ view_params (drop (i + 1) ps)
params-drop [] i p below_ is = absurd (omega arith)
params-drop (x ∷ ps) zero p below_ is = rw is refl
params-drop (x ∷ ps) (suc i) p below_ is =
    let e : suc i + 1 ≡ suc (i + 1) = omega arith in rw e (params-drop ps i p (omega arith) is)

-- the parameters from an index on
pub params_left : (ps : List code_param.Param) (d : Data) (i : ℕ) (p : code_param.Param) → i < length ps
    → p ≡ slice_index_or ps i p
    → all_read (param_results (view_params (drop i ps)) d)
    ≡ headed (under_key p.name (value_at (param_type (view_param p)) (member_or_null p.name d)))
    (all_read (param_results (view_params (drop (i + 1) ps)) d))
params_left ps d i p below_ is = rw (params-drop ps i p below_ is) refl

pub stops : {A B C D : Type 0} (view : B → A) (out : D → C) (f : List A → C) (whole : Result (List A) Path)
    (done : List B) (r : Result A Path) (rest : Result (List A) Path) (refusal : Refusal Path)
    → whole ≡ onward (λ as_. map view done ++ as_) (headed r rest) → Reads view r (Err refusal)
    → Reads out (onward f whole) (Err refusal)
stops view out f whole done r rest (Because path) e is =
    rw (e ∙ next_fails (map view done) r path rest is) refl
stops view out f whole done r rest OutOfMemory e is = tt

pub ends : {A B C : Type 0} (view : B → A) (f : List A → C) (whole : Result (List A) Path) (done : List B)
    → whole ≡ onward (λ as_. map view done ++ as_) (Ok []) → onward f whole ≡ Ok (f (map view done))
ends view f whole done e = rw e (rw (append-nil (map view done)) refl)

-- an entry under a key whose text is a name
pub named_read : {B : Type 0} (name key : Name) (f : Data → Result Value Path) (d : Data) (seen : B → Name × Value)
    (r : Result B (Refusal Path)) → chars key ≡ name → key ≡ encode_utf8_all name
    → Reads seen (under_key (chars key) (f (unwrap_or (get key d) null))) r
    → Reads seen (under_key name (f (member_or_null name d))) r
named_read name key f d seen r characters bytes is =
    subst (λ x. Reads seen (under_key name (f (unwrap_or (get x d) null))) r) bytes
    (subst (λ x. Reads seen (under_key x (f (unwrap_or (get key d) null))) r) characters is)

-- an entry under the bytes of a key
pub keyed_read : {B : Type 0} (bytes key : Name) (read : Result Value Path) (seen : B → Name × Value)
    (r : Result B (Refusal Path)) → key ≡ bytes → Reads seen (under_key (chars key) read) r
    → Reads seen (under_key (chars bytes) read) r
keyed_read bytes key read seen r same is = subst (λ x. Reads seen (under_key (chars x) read) r) same is

pub list_read : (of inner taken : code_type.SoyType) (j : json.Value) (v : Vec json.Value Global)
    (items : List json.Value)
    (r : Result code_value.Value (Refusal Path))
    → of ≡ code_type.List inner → taken ≡ inner → j ≡ json.Array v → items ≡ v.items
    → Reads view_value
    (onward (λ vs. ListValue (items_of vs))
    (all_read (item_results (value_at (view_type taken)) 0 (items_view items)))) r
    → Reads view_value (value_at (view_type of) (view j)) r
list_read of inner taken j v items r of_is taken_is j_is items_is is =
    let t : view_type of ≡ ListType (view_type inner) = ap view_type of_is ∙ view_list inner in
    let d : view j ≡ array (items_view v.items) = ap view j_is ∙ view_array v in
    let read : SoyType → Items → Result Value Path =
    λ u ds. onward (λ vs. ListValue (items_of vs)) (all_read (item_results (value_at u) 0 ds)) in
    subst (λ x. Reads view_value (value_at x (view j)) r) (sym t)
    (subst (λ x. Reads view_value (value_at (ListType (view_type inner)) x) r) (sym d)
    (subst (λ x. Reads view_value (read (view_type inner) (items_view x)) r) items_is
    (subst (λ x. Reads view_value (read (view_type x) (items_view items)) r) taken_is is)))

pub map_read : (of inner taken : code_type.SoyType) (j : json.Value) (m : BTreeMap (String Global) json.Value)
    (r : Result code_value.Value (Refusal Path))
    → of ≡ code_type.Map inner → taken ≡ inner → j ≡ json.Object m
    → Reads view_value
    (onward (λ es. MapValue (entries_of es))
    (all_read (entry_results (value_at (view_type taken)) (members_view m.entries)))) r
    → Reads view_value (value_at (view_type of) (view j)) r
map_read of inner taken j m r of_is taken_is j_is is =
    let t : view_type of ≡ MapType (view_type inner) = ap view_type of_is ∙ view_map inner in
    let d : view j ≡ object (members_view m.entries) = ap view j_is ∙ view_object m in
    subst (λ x. Reads view_value (value_at x (view j)) r) (sym t)
    (subst (λ x. Reads view_value (value_at (MapType (view_type inner)) x) r) (sym d)
    (subst
    (λ x. Reads view_value
    (onward (λ es. MapValue (entries_of es))
    (all_read (entry_results (value_at (view_type x)) (members_view m.entries)))) r)
    taken_is is))
