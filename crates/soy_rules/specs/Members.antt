-- The members of types, types without null, and types that are joined.
-- A type that is no union is the one member of itself, and a union of one member is that member. (The grammar has no
-- union in a union; the members of such a one are members.) Two types are joined into the union of the left one's
-- members and then those of the right one that aren't yet among them.
-- Example: `int|null` without null is `int`; `int|null` joined with `string|null` is `int|null|string`.
use Rattle.std.specs.Prelude.{Bool, true, false, not, ◌&&◌, List, [], ◌∷◌, ◌++◌, filter, if◌then◌else◌, bytes_eq}
use Rattle.std.specs.List.{list_any, list_all}
use Rattle.soy_tree.specs.Types.{SoyType, Members, FieldTypes, NullType, BoolType, IntType, StringType, HtmlType}
use Rattle.soy_tree.specs.Types.{AttributesType, ListType, MapType, RecordType, UnionType, no_member, member, no_field}
use Rattle.soy_tree.specs.Types.{field}
use Rattle.soy_tree.specs.Types.{members_of}

abbrev mutual
  pub members : SoyType → List SoyType
  members (UnionType ts) = union_members ts
  members t = t ∷ []

  pub union_members : Members → List SoyType
  union_members no_member = []
  union_members (member t ts) = members t ++ union_members ts

abbrev pub union_of : List SoyType → SoyType
union_of (t ∷ []) = t
union_of ts = UnionType (members_of ts)

abbrev mutual
  -- whether two types are the same, member by member and field by field
  pub is_same_type : SoyType → SoyType → Bool
  is_same_type NullType NullType = true
  is_same_type BoolType BoolType = true
  is_same_type IntType IntType = true
  is_same_type StringType StringType = true
  is_same_type HtmlType HtmlType = true
  is_same_type AttributesType AttributesType = true
  is_same_type (ListType t) (ListType u) = is_same_type t u
  is_same_type (MapType t) (MapType u) = is_same_type t u
  is_same_type (RecordType fs) (RecordType gs) = are_same_fields fs gs
  is_same_type (UnionType ts) (UnionType us) = are_same_members ts us
  is_same_type _ _ = false

  pub are_same_members : Members → Members → Bool
  are_same_members no_member no_member = true
  are_same_members (member t ts) (member u us) = is_same_type t u && are_same_members ts us
  are_same_members _ _ = false

  pub are_same_fields : FieldTypes → FieldTypes → Bool
  are_same_fields no_field no_field = true
  are_same_fields (field x t fs) (field y u gs) = bytes_eq x y && is_same_type t u && are_same_fields fs gs
  are_same_fields _ _ = false

abbrev pub is_null_type : SoyType → Bool
is_null_type NullType = true
is_null_type _ = false

abbrev pub is_some_type : SoyType → Bool
is_some_type t = not (is_null_type t)

abbrev pub has_null : SoyType → Bool
has_null t = list_any is_null_type (members t)

abbrev pub type_without_null : SoyType → SoyType
type_without_null t = union_of (filter is_some_type (members t))

-- the members, with one more unless it is among them
abbrev pub with_member : List SoyType → SoyType → List SoyType
with_member ts t = if list_any (is_same_type t) ts then ts else ts ++ t ∷ []

abbrev pub with_members : List SoyType → List SoyType → List SoyType
with_members ts [] = ts
with_members ts (u ∷ us) = with_members (with_member ts u) us

abbrev pub joined : SoyType → SoyType → SoyType
joined left right = union_of (with_members (members left) (members right))

-- whether a member is null, bool, int or string
abbrev pub is_simple_member : SoyType → Bool
is_simple_member NullType = true
is_simple_member BoolType = true
is_simple_member IntType = true
is_simple_member StringType = true
is_simple_member _ = false

-- whether a type is made of null, bool, int and string alone
abbrev pub is_simple : SoyType → Bool
is_simple t = list_all is_simple_member (members t)

-- whether a member is html or attributes
abbrev pub is_block_member : SoyType → Bool
is_block_member HtmlType = true
is_block_member AttributesType = true
is_block_member _ = false

abbrev pub has_block : SoyType → Bool
has_block t = list_any is_block_member (members t)
