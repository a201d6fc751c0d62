-- Fields of shapes and entries, at an index.
use Rattle.std.proofs.Common.{◌≡◌, ℕ, zero, suc, ◌+◌, ◌<◌, Bool, true, false, not, ◌&&◌, ◌||◌, List, [], ◌∷◌}
use Rattle.std.proofs.Common.{◌++◌, drop, map, length, length-append, take, set, slice_index_or, bytes_eq, arith, refl}
use Rattle.std.proofs.Common.{sym, ap, ◌∙◌, subst, encode_utf8_all}
use Rattle.std.specs.Bool.{OnTrue}
use Rattle.std.specs.Prelude.{MatchOption, Ok, Option, Some, None, is_some}
use Rattle.serde_json.specs.Data.{no_members, null}
use Rattle.soy_rules.proofs.Views.{view_field-is}
use Rattle.soy_rules.specs.ShortLists.{EntriesShort, HasShortLists}
use Rattle.soy_rules.specs.Templates.{param_scope, param_type}
use Rattle.soy_tree.specs.declared.soy_type.Field as code_field
use Rattle.soy_tree.specs.declared.tree.Param as code_param
use Rattle.soy_tree.specs.declared.value.Entry.{Entry}
use Rattle.soy_tree.specs.declared.value.Value as code_value
use Rattle.soy_tree.specs.Types.{Name, SoyType}
use Rattle.soy_tree.specs.Values.{NullValue}
use Rattle.soy_tree.specs.ViewTrees.{view_param, view_params}
use Rattle.soy_tree.specs.ViewTypes.{view_field, view_type}
use Rattle.soy_tree.specs.ViewValues.{view_entries, view_entry, view_value}
use Rattle.soy_types.specs.Filling.{AreEntries, FieldAt, IsEntryAt, IsFilled, NullsFit, are_distinct, has_entry}
use Rattle.soy_types.specs.Read.{value_at}
use Rattle.soy_types.proofs.Filled.{entry_found, entry_short, field_taken, one_blank}
use Rattle.soy_types.proofs.Shortness.{entries_short-more}

pub field_at : (fs : List code_field.Field) (i : ℕ) (f : code_field.Field) → i < length fs → f ≡ slice_index_or fs i f
    → FieldAt i f.name (view_type f.of) (map view_field fs)
field_at [] i f below_ is = absurd (omega arith)
field_at (x ∷ fs) zero f below_ is = ap (λ y. Some (view_field y)) (sym is) ∙ ap Some (view_field-is f)
field_at (x ∷ fs) (suc i) f below_ is = field_at fs i f (omega arith) is

pub param_at : (ps : List code_param.Param) (i : ℕ) (p : code_param.Param) → i < length ps
    → p ≡ slice_index_or ps i p → FieldAt i p.name (param_type (view_param p)) (param_scope (view_params ps))
param_at [] i p below_ is = absurd (omega arith)
param_at (x ∷ ps) zero p below_ is = ap (λ y. Some (y.name, param_type (view_param y))) (sym is)
param_at (x ∷ ps) (suc i) p below_ is = param_at ps i p (omega arith) is

-- ---- entries

pub entry_at : (es : List Entry) (i : ℕ) (e : Entry) (key : List ℕ) → i < length es → e ≡ slice_index_or es i e
    → bytes_eq key (encode_utf8_all e.name) ≡ true → IsEntryAt key i es
entry_at [] i e key below_ is same = absurd (omega arith)
entry_at (x ∷ es) zero e key below_ is same = ap (λ y. bytes_eq key (encode_utf8_all y.name)) (sym is) ∙ same
entry_at (x ∷ es) (suc i) e key below_ is same = entry_at es i e key (omega arith) is same

-- whether an entry from an index on has a key
pub entry_left : (es : List Entry) (i : ℕ) (e : Entry) (key : List ℕ) → i < length es → e ≡ slice_index_or es i e
    → has_entry key (drop i es) ≡ (bytes_eq key (encode_utf8_all e.name) || has_entry key (drop (i + 1) es))
entry_left [] i e key below_ is = absurd (omega arith)
entry_left (x ∷ es) zero e key below_ is =
    ap (λ y. bytes_eq key (encode_utf8_all y.name) || has_entry key es) (sym is)
entry_left (x ∷ es) (suc i) e key below_ is =
    let n : suc i + 1 ≡ suc (i + 1) = omega arith in rw n (entry_left es i e key (omega arith) is)

-- an index is found where an entry has a key
pub found_where : (r : Option ℕ) (key : List ℕ) (es : List Entry)
    → MatchOption r (has_entry key es ≡ false) (λ i. IsEntryAt key i es) → is_some r ≡ has_entry key es
found_where None key es none = sym none
found_where (Some i) key es at = sym (entry_found key i es at)

-- whether the entries from an index on have names of their own
pub distinct_left : (es : List Entry) (i : ℕ) (e : Entry) → i < length es → e ≡ slice_index_or es i e
    → are_distinct (drop i es)
    ≡ (not (has_entry (encode_utf8_all e.name) (drop (i + 1) es)) && are_distinct (drop (i + 1) es))
distinct_left [] i e below_ is = absurd (omega arith)
distinct_left (x ∷ es) zero e below_ is =
    ap (λ y. not (has_entry (encode_utf8_all y.name) es) && are_distinct es) (sym is)
distinct_left (x ∷ es) (suc i) e below_ is =
    let n : suc i + 1 ≡ suc (i + 1) = omega arith in rw n (distinct_left es i e (omega arith) is)

-- ---- what tests say

pub on_true : {A : Type 0} (b : Bool) → OnTrue b A → b ≡ true → A
on_true true h e = h
on_true false h e = let no : ⊥ = cc in absurd no

-- a type that null is known to fit, at its index
pub null_taken : (b : Bool) (i : ℕ) (name : Name) (t : SoyType) (fs : List (Name × SoyType))
    → OnTrue b (value_at t null ≡ Ok NullValue) → FieldAt i name t fs
    → OnTrue b ((n : Name) × (u : SoyType) × FieldAt i n u fs × (value_at u null ≡ Ok NullValue))
null_taken false i name t fs fits at = tt
null_taken true i name t fs fits at = (name, t, at, fits)

pub named_where : (b : Bool) (es : List Entry) (i : ℕ) (e : Entry) (key : List ℕ) → i < length es
    → e ≡ slice_index_or es i e → b ≡ bytes_eq key (encode_utf8_all e.name) → OnTrue b (IsEntryAt key i es)
named_where false es i e key below_ is same = tt
named_where true es i e key below_ is same = entry_at es i e key below_ is (sym same)

pub set_filled : (es : List Entry) (i : ℕ) (e x : Entry) (v : code_value.Value) → i < length es
    → x ≡ slice_index_or es i x → e.name ≡ x.name → e.value ≡ v → IsFilled i v es (set es i e)
set_filled [] i e x v below_ is named valued = absurd (omega arith)
set_filled (y ∷ es) zero e x v below_ is named valued = (named ∙ ap (λ z. z.name) is, valued, refl)
set_filled (y ∷ es) (suc i) e x v below_ is named valued =
    (refl, set_filled es i e x v (omega arith) is named valued)

pub null_end : (fs : List (Name × SoyType)) → NullsFit fs []
null_end [] = tt
null_end (f ∷ fs) = tt

-- ---- entries that are made

pub blank_turn : (fs : List (Name × SoyType)) (es now : List Entry) (name : Name) (t : SoyType) (e : Entry)
    → FieldAt (length es) name t fs → e.name ≡ name → view_value e.value ≡ NullValue → now ≡ es ++ e ∷ []
    → AreEntries (take (length es) fs) no_members es → AreEntries (take (length now) fs) no_members now
blank_turn fs es now name t e at named blank made are =
    let taken = field_taken (length es) name t fs at in
    let count : length (es ++ e ∷ []) ≡ length es + 1 = length-append es (e ∷ []) in
    subst (λ xs. AreEntries (take (length xs) fs) no_members xs) (sym made)
    (subst (λ gs. AreEntries gs no_members (es ++ e ∷ [])) (sym (ap (λ n. take n fs) count ∙ taken))
    (one_blank (take (length es) fs) es name t e are named blank))

pub blank_short : (es now : List Entry) (e : Entry) → view_value e.value ≡ NullValue → now ≡ es ++ e ∷ []
    → EntriesShort (view_entries es) → EntriesShort (view_entries now)
blank_short es now e blank made were =
    let short = entry_short e e.value refl (subst HasShortLists (sym blank) tt) in
    subst (λ xs. EntriesShort (view_entries xs)) (sym made) (entries_short-more view_entry es e were short)
