-- Records that aren't read, since one of their fields isn't.
use Rattle.std.proofs.Common.{◌≡◌, ◌<◌, Bool, true, false, List, ℕ, zero, suc, []}
use Rattle.std.proofs.Common.{◌∷◌, length, slice_index_or, arith, refl, sym, ap}
use Rattle.std.proofs.Common.{◌∙◌, subst}
use Rattle.std.specs.Bool.{OnTrue}
use Rattle.std.specs.Prelude.{Result, Ok, Err, is_ok}
use Rattle.serde_json.specs.Data.{Data, null, boolean, number, string, array, object}
use Rattle.soy_base.specs.Path.{Path}
use Rattle.soy_tree.specs.declared.soy_type.Field as code_field
use Rattle.soy_tree.specs.declared.soy_type.SoyType as code_type
use Rattle.soy_tree.specs.declared.soy_type.SoyType.TheVariants as type_form
use Rattle.soy_tree.specs.declared.soy_type.SoyType.TheOpen.{SoyType-F}
use Rattle.soy_tree.specs.Types.{Name, SoyType, FieldTypes, RecordType}
use Rattle.soy_tree.specs.Values.{Value}
use Rattle.soy_tree.specs.ViewTypes.{view_fields, view_type, type_layer, field_layer}
use Rattle.soy_types.specs.Paths.{all_read, headed, onward}
use Rattle.soy_types.specs.Read.{field_results, member_or_null, under_key, value_at}
use Rattle.soy_types.proofs.Results.{fields_left}

head_unfit : (name : Name) (r : Result Value Path) (rest : Result (List (Name × Value)) Path) → is_ok r ≡ false
    → is_ok (headed (under_key name r) rest) ≡ false
head_unfit name (Ok v) rest h = let no : ⊥ = cc in absurd no
head_unfit name (Err path) rest h = refl

onward_is : {A B : Type 0} (f : A → B) (r : Result A Path) → is_ok r ≡ false → is_ok (onward f r) ≡ false
onward_is f (Ok a) h = let no : ⊥ = cc in absurd no
onward_is f (Err path) h = refl

tail_unfit : {A : Type 0} (r : Result A Path) (rest : Result (List A) Path) → is_ok rest ≡ false
    → is_ok (headed r rest) ≡ false
tail_unfit (Ok a) rest h = onward_is (λ as_. a ∷ as_) rest h
tail_unfit (Err path) rest h = refl

-- fields aren't read where one isn't
pub unfit_at : (fs : List code_field.Field) (d : Data) (i : ℕ) (f : code_field.Field) → i < length fs
    → f ≡ slice_index_or fs i f → is_ok (value_at (view_type f.of) (member_or_null f.name d)) ≡ false
    → is_ok (all_read (field_results (view_fields fs) d)) ≡ false
unfit_at [] d i f below_ is h = absurd (omega arith)
unfit_at (x ∷ fs) d zero f below_ is h =
    ap is_ok (fields_left (x ∷ fs) d 0 f below_ is)
    ∙ head_unfit f.name (value_at (view_type f.of) (member_or_null f.name d)) _ h
unfit_at (x ∷ fs) d (suc i) f below_ is h =
    ap is_ok (fields_left (x ∷ fs) d 0 x (omega arith) refl)
    ∙ tail_unfit (under_key x.name (value_at (view_type x.of) (member_or_null x.name d))) _
    (unfit_at fs d i f (omega arith) is h)

-- the same where a test says so
pub unfit_where : (fs : List code_field.Field) (d : Data) (i : ℕ) (f : code_field.Field) (is_unfit : Bool)
    → i < length fs → f ≡ slice_index_or fs i f → is_unfit ≡ true
    → OnTrue is_unfit (is_ok (value_at (view_type f.of) (member_or_null f.name d)) ≡ false)
    → is_ok (all_read (field_results (view_fields fs) d)) ≡ false
unfit_where fs d i f true below_ is e h = unfit_at fs d i f below_ is h
unfit_where fs d i f false below_ is e h = let no : ⊥ = cc in absurd no

record_unfit : (fields : FieldTypes) (d : Data) → is_ok (all_read (field_results fields d)) ≡ false
    → is_ok (value_at (RecordType fields) d) ≡ false
record_unfit fields null h = refl
record_unfit fields (boolean b) h = refl
record_unfit fields (number n) h = refl
record_unfit fields (string s) h = refl
record_unfit fields (array ds) h = refl
record_unfit fields (object ms) h = onward_is _ (all_read (field_results fields (object ms))) h

record_type : (fs : List code_field.Field) → view_type (code_type.Fields fs) ≡ RecordType (view_fields fs)
record_type fs =
    ap view_type (sym (type_form.rolls-Fields fs))
    ∙ code_type.fold-roll-SoyType SoyType (Name × SoyType) type_layer field_layer (SoyType-F.Fields fs)

-- so the record doesn't fit
pub record_has_unfit : (of : code_type.SoyType) (fs taken : List code_field.Field) (d : Data) (lacks : Bool)
    → of ≡ code_type.Fields fs → taken ≡ fs
    → OnTrue lacks (is_ok (all_read (field_results (view_fields taken) d)) ≡ false)
    → OnTrue lacks (is_ok (value_at (view_type of) d) ≡ false)
record_has_unfit of fs taken d false of_is taken_is h = tt
record_has_unfit of fs taken d true of_is taken_is h =
    ap (λ t. is_ok (value_at t d)) (ap view_type of_is ∙ record_type fs)
    ∙ record_unfit (view_fields fs) d
    (subst (λ x. is_ok (all_read (field_results (view_fields x) d)) ≡ false) taken_is h)
