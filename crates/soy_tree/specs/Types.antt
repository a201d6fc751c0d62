-- Types of values, as plain data.
-- A type is null, bool, int, string, html, attributes, a list or map of a type, a record, or a union of its members in
-- the order in which they are written. The union of no members is the type that no value has.
-- Example: `list<[a: int]>|null` is a union of two members, a list of records with one field, and null.
use Rattle.std.specs.Prelude.{ℕ, List, [], ◌∷◌}

abbrev pub Name : Type 0
Name = List ℕ

mutual
  pub data SoyType : Type 0 where
    NullType : SoyType
    BoolType : SoyType
    IntType : SoyType
    StringType : SoyType
    HtmlType : SoyType
    AttributesType : SoyType
    ListType : SoyType → SoyType
    MapType : SoyType → SoyType
    RecordType : FieldTypes → SoyType
    UnionType : Members → SoyType

  pub data Members : Type 0 where
    no_member : Members
    member : SoyType → Members → Members

  pub data FieldTypes : Type 0 where
    no_field : FieldTypes
    field : Name → SoyType → FieldTypes → FieldTypes

abbrev pub members_of : List SoyType → Members
members_of [] = no_member
members_of (t ∷ ts) = member t (members_of ts)
