-- Results of parts that are read over lent texts.
use Rattle.std.proofs.Common.{◌≡◌, ℕ, ◌+◌, ◌<◌, true, false, List, ◌∷◌, ◌++◌, drop, map, length, slice_index_or}
use Rattle.std.proofs.Common.{refl, sym, ap, ◌∙◌, subst, Vec, Global, IfOk}
use Rattle.std.specs.Prelude.{Result, Ok, Err, is_ok, is_some}
use Rattle.std.specs.Borrow.{Bor}
use Rattle.std.specs.Str.{IsUtf8, chars}
use Rattle.json.specs.Find.{is_null}
use Rattle.serde_json.specs.Find.{as_null}
use Rattle.serde_json.specs.Read.{read}
use Rattle.soy_rules.specs.Members.{joined}
use Rattle.json.specs.Json as json_of
use Rattle.json.specs.Value.{items_view, members_view, value_view}
use Rattle.json.specs.declared.value.Value as lent
use Rattle.json.proofs.Trees.{view-Array, view-Object}
use Rattle.serde_json.specs.Data.{Data, Items, no_members}
use Rattle.soy_base.specs.Path.{Path}
use Rattle.soy_base.specs.declared.path.PathStep.TheVariants as path_step
use Rattle.soy_tree.specs.declared.soy_type.SoyType as code_type
use Rattle.soy_tree.specs.declared.value.Value as code_value
use Rattle.soy_tree.specs.Trees.{Param}
use Rattle.soy_tree.specs.Types.{SoyType, ListType, MapType, NullType}
use Rattle.soy_tree.specs.Values.{Value, ListValue, MapValue, NullValue}
use Rattle.soy_tree.specs.ViewTypes.{view_type}
use Rattle.soy_tree.specs.ViewValues.{entries_of, items_of, view_value}
use Rattle.soy_types.specs.declared.unread.Unread.{Unread}
use Rattle.soy_types.specs.declared.unread.Unread.TheVariants.{Unfit, Undecided, OutOfMemory}
use Rattle.soy_types.specs.Fits.{Fits}
use Rattle.soy_types.specs.LentData.{data_in_order, data_items, data_members, data_of}
use Rattle.soy_types.specs.Paths.{all_read, below, headed, onward}
use Rattle.soy_types.specs.Read.{entry_results, item_results, under_key, value_at}
use Rattle.soy_types.specs.ReadData.{data_at, values_of_json}
use Rattle.soy_types.proofs.Joining.{joined_null}
use Rattle.soy_types.proofs.JsonOf.{json_of-utf8}
use Rattle.soy_types.proofs.LentFacts.{items-left}
use Rattle.soy_types.proofs.Views.{view_list, view_map}

-- the path of what isn't read
pub path_of : {A : Type 0} (r : Result A Path) → is_ok r ≡ false → (path : Path) × (r ≡ Err path)
path_of (Ok a) h = let no : ⊥ = cc in absurd no
path_of (Err path) h = (path, refl)

onward_ok_is : {A B : Type 0} (f : A → B) (r : Result A Path) → is_ok (onward f r) ≡ is_ok r
onward_ok_is f (Ok a) = refl
onward_ok_is f (Err path) = refl

head_fails : {A B : Type 0} (f : List A → B) (r : Result A Path) (rest : Result (List A) Path) → is_ok r ≡ false
    → is_ok (onward f (headed r rest)) ≡ false
head_fails f (Ok a) rest h = let no : ⊥ = cc in absurd no
head_fails f (Err path) rest h = refl

-- the first part that isn't read ends a loop
pub fits_stops : {A B C D : Type 0} (view : B → A) (out : D → C) (f : List A → C) (whole : Result (List A) Path)
    (done : List B) (r : Result A Path) (rest : Result (List A) Path) (unread : Unread)
    → whole ≡ onward (λ as_. map view done ++ as_) (headed r rest) → Fits view r (Err unread)
    → Fits out (onward f whole) (Err unread)
fits_stops view out f whole done r rest Unfit e is =
    onward_ok_is f whole ∙ ap is_ok e ∙ head_fails (λ as_. map view done ++ as_) r rest is
fits_stops view out f whole done r rest Undecided e is = tt
fits_stops view out f whole done r rest OutOfMemory e is = tt

-- the items from an index on
pub lent_items_left : (f : Data → Result Value Path) (vs : List (lent.Value Global)) (i : ℕ) (v : lent.Value Global)
    → i < length vs → v ≡ slice_index_or vs i v
    → all_read (item_results f i (data_items (items_view (drop i vs))))
    ≡ headed (below (path_step.Index i) (f (data_of (value_view v))))
    (all_read (item_results f (i + 1) (data_items (items_view (drop (i + 1) vs)))))
lent_items_left f vs i v below_ is =
    ap (λ js. all_read (item_results f i (data_items js))) (items-left vs i v below_ is)

-- an item fits as what is read below its index
pub fits_below : (i : ℕ) (r : Result Value Path) (v : code_value.Value) → r ≡ Ok (view_value v)
    → below (path_step.Index i) r ≡ Ok (view_value v)
fits_below i r v e = ap (below (path_step.Index i)) e

pub unfit_below : (i : ℕ) (r : Result Value Path) (unread : Unread) → Fits view_value r (Err unread)
    → Fits view_value (below (path_step.Index i) r) (Err unread)
unfit_below i (Ok a) Unfit h = let no : ⊥ = cc in absurd no
unfit_below i (Err path) Unfit h = refl
unfit_below i r Undecided h = tt
unfit_below i r OutOfMemory h = tt

pub lent_list : (of inner taken : code_type.SoyType) (j : lent.Value Global) (v : Vec (lent.Value Global) Global)
    (items : List (lent.Value Global)) (r : Result code_value.Value Unread)
    → of ≡ code_type.List inner → taken ≡ inner → j ≡ lent.Array v → items ≡ v.items
    → Fits view_value
    (onward (λ vs. ListValue (items_of vs))
    (all_read (item_results (value_at (view_type taken)) 0 (data_items (items_view items))))) r
    → Fits view_value (value_at (view_type of) (data_of (value_view j))) r
lent_list of inner taken j v items r of_is taken_is j_is items_is is =
    let t : view_type of ≡ ListType (view_type inner) = ap view_type of_is ∙ view_list inner in
    let d : value_view j ≡ json_of.array (items_view v.items) = ap value_view j_is ∙ view-Array v in
    let read : SoyType → Items → Result Value Path =
    λ u ds. onward (λ vs. ListValue (items_of vs)) (all_read (item_results (value_at u) 0 ds)) in
    subst (λ x. Fits view_value (value_at x (data_of (value_view j))) r) (sym t)
    (subst (λ x. Fits view_value (value_at (ListType (view_type inner)) (data_of x)) r) (sym d)
    (subst (λ x. Fits view_value (read (view_type inner) (data_items (items_view x))) r) items_is
    (subst (λ x. Fits view_value (read (view_type x) (data_items (items_view items))) r) taken_is is)))

-- null at a type that takes null too
null_seen : (j : json_of.Json) → true ≡ is_null j → true ≡ is_some (as_null (data_of j))
null_seen json_of.null e = refl
null_seen (json_of.boolean b) e = let no : ⊥ = cc in absurd no
null_seen (json_of.number s) e = let no : ⊥ = cc in absurd no
null_seen (json_of.string s) e = let no : ⊥ = cc in absurd no
null_seen (json_of.array js) e = let no : ⊥ = cc in absurd no
null_seen (json_of.object ms) e = let no : ⊥ = cc in absurd no

pub lent_null : (t : SoyType) (j : json_of.Json) → is_ok (value_at t (data_of j)) ≡ false → true ≡ is_null j
    → value_at (joined t NullType) (data_of j) ≡ Ok NullValue
lent_null t j unfit is =
    let p = path_of (value_at t (data_of j)) unfit in joined_null t (data_of j) p.0 p.1 (null_seen j is)

-- the same of the bytes of a text
pub of_bytes : (ps : List Param) (bytes text : List ℕ) (r : Result code_value.Value Unread) → text ≡ bytes
    → IsUtf8 bytes → IfOk r (λ v. values_of_json ps (read text) ≡ Ok (view_value v))
    → IfOk r (λ v. data_at ps bytes ≡ Ok (view_value v))
of_bytes ps bytes text (Ok v) same utf8 is =
    ap (values_of_json ps) (sym (json_of-utf8 bytes text (read text) same utf8 refl)) ∙ is
of_bytes ps bytes text (Err unread) same utf8 is = tt

-- the entries that an iterator has left
pub lent_entries_left : (f : Data → Result Value Path) (left : List (Bor (List ℕ) × Bor (lent.Value Global)))
    (key : Bor (List ℕ)) (v : Bor (lent.Value Global)) (rest : List (Bor (List ℕ) × Bor (lent.Value Global)))
    → left ≡ (key, v) ∷ rest
    → all_read (entry_results f (data_in_order left))
    ≡ headed (under_key (chars key.now) (f (data_of (value_view v.now))))
    (all_read (entry_results f (data_in_order rest)))
lent_entries_left f left key v rest is = rw is refl

pub lent_map : (of inner taken : code_type.SoyType) (j : lent.Value Global)
    (v : Vec (Bor (List ℕ) × lent.Value Global) Global)
    (r : Result code_value.Value Unread) → of ≡ code_type.Map inner → taken ≡ inner → j ≡ lent.Object v
    → Fits view_value
    (onward (λ es. MapValue (entries_of es))
    (all_read (entry_results (value_at (view_type taken)) (data_members (members_view v.items) no_members)))) r
    → Fits view_value (value_at (view_type of) (data_of (value_view j))) r
lent_map of inner taken j v r of_is taken_is j_is is =
    let t : view_type of ≡ MapType (view_type inner) = ap view_type of_is ∙ view_map inner in
    let d : value_view j ≡ json_of.object (members_view v.items) = ap value_view j_is ∙ view-Object v in
    let read : SoyType → Result Value Path =
    λ u. onward (λ es. MapValue (entries_of es))
    (all_read (entry_results (value_at u) (data_members (members_view v.items) no_members))) in
    subst (λ x. Fits view_value (value_at x (data_of (value_view j))) r) (sym t)
    (subst (λ x. Fits view_value (value_at (MapType (view_type inner)) (data_of x)) r) (sym d)
    (subst (λ x. Fits view_value (read (view_type x)) r) taken_is is))
