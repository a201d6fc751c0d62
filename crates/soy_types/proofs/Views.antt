-- What types, values and JSON values of the code stand for, form by form.
use Rattle.std.proofs.Common.{◌≡◌, Bool, List, map, sym, ap, ◌∙◌, String, Global, Vec, BTreeMap}
use Rattle.serde_json.specs.Data.{Data, array, object}
use Rattle.serde_json.specs.View.{view, view_step, items_view, members_view}
use Rattle.serde_json.specs.declared.value.Value as json
use Rattle.serde_json.specs.declared.value.Value.TheVariants as json_form
use Rattle.serde_json.specs.declared.value.Value.TheOpen.{Value-F}
use Rattle.soy_tree.specs.declared.soy_type.SoyType as code_type
use Rattle.soy_tree.specs.declared.soy_type.SoyType.TheVariants as type_form
use Rattle.soy_tree.specs.declared.soy_type.SoyType.TheOpen.{SoyType-F}
use Rattle.soy_tree.specs.declared.value.Value as code_value
use Rattle.soy_tree.specs.declared.value.Entry as code_entry
use Rattle.soy_tree.specs.declared.value.Value.TheVariants as value_form
use Rattle.soy_tree.specs.declared.value.Value.TheOpen as value_open
use Rattle.soy_tree.specs.Types.{Name, SoyType, ListType, MapType}
use Rattle.soy_tree.specs.Values.{Value, NullValue, BoolValue, ListValue, RecordValue}
use Rattle.soy_tree.specs.ViewTypes.{view_type, type_layer, field_layer}
use Rattle.soy_tree.specs.ViewValues.{view_value, view_entry, items_of, entries_of, value_layer, entry_layer}

pub view_list : (t : code_type.SoyType) → view_type (code_type.List t) ≡ ListType (view_type t)
view_list t =
    ap view_type (sym (type_form.rolls-List t))
    ∙ code_type.fold-roll-SoyType SoyType (Name × SoyType) type_layer field_layer (SoyType-F.List t)

pub view_map : (t : code_type.SoyType) → view_type (code_type.Map t) ≡ MapType (view_type t)
view_map t =
    ap view_type (sym (type_form.rolls-Map t))
    ∙ code_type.fold-roll-SoyType SoyType (Name × SoyType) type_layer field_layer (SoyType-F.Map t)

pub view_array : (v : Vec json.Value Global) → view (json.Array v) ≡ array (items_view v.items)
view_array v = ap view (sym (json_form.rolls-Array v)) ∙ json.fold-roll-Value Data view_step (Value-F.Array v)

pub view_object : (m : BTreeMap (String Global) json.Value) → view (json.Object m) ≡ object (members_view m.entries)
view_object m = ap view (sym (json_form.rolls-Object m)) ∙ json.fold-roll-Value Data view_step (Value-F.Object m)

pub view_null : view_value code_value.Null ≡ NullValue
view_null =
    ap view_value (sym value_form.rolls-Null)
    ∙ code_value.fold-roll-Value Value (Name × Value) value_layer entry_layer value_open.Value-F.Null

pub view_bool : (b : Bool) → view_value (code_value.Bool b) ≡ BoolValue b
view_bool b =
    ap view_value (sym (value_form.rolls-Bool b))
    ∙ code_value.fold-roll-Value Value (Name × Value) value_layer entry_layer (value_open.Value-F.Bool b)

pub view_items : (vs : List code_value.Value) → view_value (code_value.List vs)
    ≡ ListValue (items_of (map view_value vs))
view_items vs =
    ap view_value (sym (value_form.rolls-List vs))
    ∙ code_value.fold-roll-Value Value (Name × Value) value_layer entry_layer (value_open.Value-F.List vs)

pub view_record : (es : List code_entry.Entry)
    → view_value (code_value.Fields es) ≡ RecordValue (entries_of (map view_entry es))
view_record es =
    ap view_value (sym (value_form.rolls-Fields es))
    ∙ code_value.fold-roll-Value Value (Name × Value) value_layer entry_layer (value_open.Value-F.Fields es)
