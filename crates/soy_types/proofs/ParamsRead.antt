-- The values of parameters that are read are of the parameters' types.
use Rattle.std.proofs.Common.{◌≡◌, ℕ, Bool, true, false, List, [], ◌∷◌, ◌++◌, refl, sym, ap, ◌∙◌, subst, append_assoc}
use Rattle.std.specs.Prelude.{Option, Some, None, Result, Ok, Err, if◌then◌else◌, unwrap_or}
use Rattle.std.specs.Option.{option_or}
use Rattle.serde_json.specs.Data.{Data}
use Rattle.soy_tree.specs.Types.{Name, SoyType, NullType}
use Rattle.soy_rules.specs.Members.{joined}
use Rattle.soy_tree.specs.Values.{Value, NullValue, RecordValue}
use Rattle.soy_rules.specs.Val.{member_value}
use Rattle.soy_tree.specs.ViewValues.{entries_of}
use Rattle.soy_rules.specs.Faults.{TypeFault}
use Rattle.soy_tree.specs.Trees.{Param}
use Rattle.soy_rules.specs.Templates.{param_type}
use Rattle.soy_rules.specs.Declarations.{type_fault, params_fault, twice}
use Rattle.soy_base.specs.Among.{is_among}
use Rattle.soy_rules.specs.Has.{Has, entry_value}
use Rattle.soy_rules.proofs.MembersHave.{joined_left, joined_right}
use Rattle.soy_types.specs.Paths.{all_read, either_read}
use Rattle.soy_base.specs.Path.{Path}
use Rattle.soy_types.specs.ParamsHave.{ParamsHave}
use Rattle.soy_types.specs.Read.{member_or_null, under_key, value_at}
use Rattle.soy_types.specs.ReadData.{data_at, json_of, param_results, refused, values_at, values_of_json}
use Rattle.soy_types.proofs.ReadFacts.{ok_same, onward_ok, headed_ok, under_key_ok}
use Rattle.soy_types.proofs.ReadHas.{value_has, no_fault_left, no_fault_right, not_among, entry_later, entry_here}
use Rattle.soy_types.proofs.ReadHas.{HasNone, none_after}
use Rattle.soy_types.proofs.Joining.{joined_read, joined_ok, either_ok}

-- what is read at a type that also takes null is of that type
pub optional_has : (t : SoyType) (d : Data) (v : Value) (r : Result Value Path) → value_at t d ≡ r
    → ((w : Value) → value_at t d ≡ Ok w → Has w t) → value_at (joined t NullType) d ≡ Ok v → Has v (joined t NullType)
optional_has t d v (Ok w) is has e =
    let same : w ≡ v = ok_same (sym (joined_ok t d w is) ∙ e) in
    subst (λ x. Has x (joined t NullType)) same (joined_left w t NullType (has w is))
optional_has t d v (Err p) is has e =
    let null_is : either_read (value_at NullType d) (Err []) ≡ Ok v =
    sym (joined_read t d (Err []) ∙ ap (λ x. either_read x (either_read (value_at NullType d) (Err []))) is)
    ∙ ap (λ x. either_read x (Err [])) e in
    joined_right v t NullType (value_has NullType d v 0 true refl (either_ok (value_at NullType d) v null_is))

-- what is read at a parameter's type, required or not
pub param_has : (required : Bool) (t : SoyType) (d : Data) (v : Value) (at : ℕ) → type_fault t at true ≡ None
    → value_at (if required then t else joined t NullType) d ≡ Ok v → Has v (if required then t else joined t NullType)
param_has true t d v at ok e = value_has t d v at true ok e
param_has false t d v at ok e = optional_has t d v (value_at t d) refl (λ w k. value_has t d w at true ok k) e

-- the parameters that follow those of some names, which have the entries before
pub params_have : (ps : List Param) (d : Data) (done es : List (Name × Value)) (before : List Name)
    → params_fault ps before ≡ None → HasNone before done → all_read (param_results ps d) ≡ Ok es
    → ParamsHave ps (RecordValue (entries_of (done ++ es)))
params_have [] d done es before ok none e = tt
params_have (p ∷ ps) d done es before ok none e =
    let name : Name = p.name in
    let at : ℕ = p.span.start in
    let read : Result Value Path = value_at (param_type p) (member_or_null name d) in
    let h = headed_ok (under_key name read) (all_read (param_results ps d)) es e in
    let k = under_key_ok name read h.0 h.2 in
    let more : Option TypeFault = option_or (type_fault p.of at true) (params_fault ps (name ∷ before)) in
    let new = not_among (is_among before name) at name before refl (no_fault_left (twice at name before) more ok) in
    let later = no_fault_right (twice at name before) more ok in
    let typed : Has k.0 (param_type p) =
    param_has p.required p.of (member_or_null name d) k.0 at
    (no_fault_left (type_fault p.of at true) (params_fault ps (name ∷ before)) later) k.1 in
    let found : entry_value name (entries_of (done ++ (name, k.0) ∷ h.1)) ≡ Some k.0 =
    entry_later name done ((name, k.0) ∷ h.1) (none name new) ∙ entry_here name k.0 h.1 in
    let here : Has (member_value name (RecordValue (entries_of (done ++ (name, k.0) ∷ h.1)))) (param_type p) =
    subst (λ o. Has (unwrap_or o NullValue) (param_type p)) (sym found) typed in
    let rest : ParamsHave ps (RecordValue (entries_of ((done ++ (name, k.0) ∷ []) ++ h.1))) =
    params_have ps d (done ++ (name, k.0) ∷ []) h.1 (name ∷ before)
    (no_fault_right (type_fault p.of at true) (params_fault ps (name ∷ before)) later)
    (none_after before done name k.0 none) h.3 in
    let rest' : ParamsHave ps (RecordValue (entries_of (done ++ (name, k.0) ∷ h.1))) =
    subst (λ x. ParamsHave ps (RecordValue (entries_of x))) (append_assoc done ((name, k.0) ∷ []) h.1) rest in
    subst (λ x. ParamsHave (p ∷ ps) (RecordValue (entries_of (done ++ x)))) h.4
    (subst (λ x. ParamsHave (p ∷ ps) (RecordValue (entries_of (done ++ x ∷ h.1)))) k.2 (here, rest'))

-- what is read of data
pub refused_ok : (r : Result Value Path) (v : Value) → refused r ≡ Ok v → r ≡ Ok v
refused_ok (Ok w) v e = cc
refused_ok (Err path) v e = let no : ⊥ = cc in absurd no

json_have : (ps : List Param) (o : Option Data) (v : Value) → params_fault ps [] ≡ None → values_of_json ps o ≡ Ok v
    → ParamsHave ps v
json_have ps None v ok e = let no : ⊥ = cc in absurd no
json_have ps (Some d) v ok e =
    let h = onward_ok (λ es. RecordValue (entries_of es)) (all_read (param_results ps d)) v
    (refused_ok (values_at ps d) v e) in
    subst (ParamsHave ps) h.2 (params_have ps d [] h.0 [] ok (λ name k. refl) h.1)

pub data_have : (ps : List Param) (bytes : List ℕ) (v : Value) → params_fault ps [] ≡ None → data_at ps bytes ≡ Ok v
    → ParamsHave ps v
data_have ps bytes v ok e = json_have ps (json_of bytes) v ok e
