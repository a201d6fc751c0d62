-- A list of the code and the list that it stands for, from an index on.
use Rattle.std.proofs.Common.{◌≡◌, ℕ, zero, suc, ◌+◌, ◌<◌, List, [], ◌∷◌, drop, length, slice_index_or, arith, ◌&&◌}
use mathlib.Core.Path.{refl}
use Rattle.soy_tree.specs.declared.soy_type.Field as code_field
use Rattle.soy_tree.specs.Types.{Name, SoyType, FieldTypes, field}
use Rattle.soy_rules.specs.Accepts.{accepts_fields, has_field, each_member, accepts_member}
use Rattle.soy_tree.specs.ViewTypes.{view_type, view_field, view_fields, type_layer, field_layer}

pub view_field-is : (f : code_field.Field) → view_field f ≡ (f.name, view_type f.of)
view_field-is f = code_field.fold_out-Field SoyType (Name × SoyType) type_layer field_layer f

-- the field at an index stands before those from the next index on
pub fields-drop : (fs : List code_field.Field) (i : ℕ) (f : code_field.Field) → i < length fs
    → f ≡ slice_index_or fs i f → view_fields (drop i fs)
    ≡ field f.name (view_type f.of) (view_fields (drop (i + 1) fs))
fields-drop [] i f below is = absurd (omega arith)
fields-drop (x ∷ fs) zero f below is = rw is (rw (view_field-is x) refl)
fields-drop (x ∷ fs) (suc i) f below is = let e : suc i + 1 ≡ suc (i + 1) =
    omega arith in rw e (fields-drop fs i f (omega arith) is)

-- the fields that a record has to accept from an index on: the field there, and those after it
pub accepts_fields-drop : (fs : List code_field.Field) (from : FieldTypes) (i : ℕ) (f : code_field.Field)
    → i < length fs → f ≡ slice_index_or fs i f → accepts_fields (view_fields (drop i fs)) from
    ≡ (has_field f.name (each_member (accepts_member (view_type f.of))) from
    && accepts_fields (view_fields (drop (i + 1) fs)) from)
accepts_fields-drop fs from i f below is = rw (fields-drop fs i f below is) refl
