-- The type that a `SoyType` of the code stands for.
use Rattle.std.specs.Prelude.{List, [], ◌∷◌, map}
use Rattle.soy_tree.specs.declared.soy_type.SoyType as code
use Rattle.soy_tree.specs.declared.soy_type.Field as code_field
use Rattle.soy_tree.specs.declared.soy_type.SoyType.TheOpen.{SoyType-F, Field-F}
use Rattle.soy_tree.specs.Types.{Name, SoyType, Members, FieldTypes, NullType, BoolType, IntType, StringType, HtmlType}
use Rattle.soy_tree.specs.Types.{AttributesType, ListType, MapType, RecordType, UnionType, no_field, field}
use Rattle.soy_tree.specs.Types.{members_of}

abbrev pub fields_of : List (Name × SoyType) → FieldTypes
fields_of [] = no_field
fields_of (f ∷ fs) = field f.0 f.1 (fields_of fs)

abbrev pub type_layer : SoyType-F SoyType (Name × SoyType) → SoyType
type_layer SoyType-F.Null = NullType
type_layer SoyType-F.Bool = BoolType
type_layer SoyType-F.Int = IntType
type_layer SoyType-F.Str = StringType
type_layer SoyType-F.Html = HtmlType
type_layer SoyType-F.Attributes = AttributesType
type_layer (SoyType-F.List t) = ListType t
type_layer (SoyType-F.Map t) = MapType t
type_layer (SoyType-F.Fields fields) = RecordType (fields_of fields)
type_layer (SoyType-F.Union ts) = UnionType (members_of ts)

abbrev pub field_layer : Field-F SoyType (Name × SoyType) → Name × SoyType
field_layer f = (f.name, f.of)

abbrev pub view_type : code.SoyType → SoyType
view_type = code.fold-SoyType SoyType (Name × SoyType) type_layer field_layer

abbrev pub view_field : code_field.Field → Name × SoyType
view_field = code_field.fold-Field SoyType (Name × SoyType) type_layer field_layer

abbrev pub view_members : List code.SoyType → Members
view_members ts = members_of (map view_type ts)

abbrev pub view_fields : List code_field.Field → FieldTypes
view_fields fields = fields_of (map view_field fields)
