-- Which type accepts which.
-- A type accepts another where each member of the other's union is accepted by one of its own members; a type that is
-- no union is the one member of itself. A member null, bool, int, string, html or attributes accepts only an equal
-- member. A list or map accepts one whose items it accepts, and a record accepts a record that has each of its fields
-- with an accepted type.
-- Example: `[a: int|null]` accepts `[b: string, a: int]`, and not `[b: string]`.
use Rattle.std.specs.Prelude.{Bool, true, false, ◌&&◌, ◌||◌, if◌then◌else◌, bytes_eq}
use Rattle.std.specs.List.{list_all}
use Rattle.soy_rules.specs.Members.{members}
use Rattle.soy_tree.specs.Types.{Name, SoyType, Members, FieldTypes, NullType, BoolType, IntType, StringType, HtmlType}
use Rattle.soy_tree.specs.Types.{AttributesType, ListType, MapType, RecordType, UnionType, no_member, member, no_field}
use Rattle.soy_tree.specs.Types.{field}

-- whether each member of the type passes
abbrev pub each_member : (SoyType → Bool) → SoyType → Bool
each_member test t = list_all test (members t)

-- whether there is a field of this name, and the type of the first such field passes
abbrev pub has_field : Name → (SoyType → Bool) → FieldTypes → Bool
has_field name test no_field = false
has_field name test (field other t fields) = if bytes_eq other name then test t else has_field name test fields

abbrev mutual
  -- whether one of the type's members accepts the other member
  pub accepts_member : SoyType → SoyType → Bool
  accepts_member NullType NullType = true
  accepts_member BoolType BoolType = true
  accepts_member IntType IntType = true
  accepts_member StringType StringType = true
  accepts_member HtmlType HtmlType = true
  accepts_member AttributesType AttributesType = true
  accepts_member (ListType to) (ListType from) = each_member (accepts_member to) from
  accepts_member (MapType to) (MapType from) = each_member (accepts_member to) from
  accepts_member (RecordType to) (RecordType from) = accepts_fields to from
  accepts_member (UnionType to) from = some_accepts to from
  accepts_member _ _ = false

  pub some_accepts : Members → SoyType → Bool
  some_accepts no_member from = false
  some_accepts (member t ts) from = accepts_member t from || some_accepts ts from

  pub accepts_fields : FieldTypes → FieldTypes → Bool
  accepts_fields no_field from = true
  accepts_fields (field name to fields) from =
      has_field name (each_member (accepts_member to)) from && accepts_fields fields from

abbrev pub accepts : SoyType → SoyType → Bool
accepts to from = each_member (accepts_member to) from
