-- How a type is written in a fault.
-- A list is `list<T>`, a map `map<string, T>`, a record `[a: T, b: U]`, a union `T|U`.
-- Example: a list of records that may be null is `list<[a: int]|null>`.
use Rattle.std.specs.Prelude.{ℕ, List, [], ◌++◌, codes}
use Rattle.soy_tree.specs.Types.{SoyType, Members, FieldTypes, NullType, BoolType, IntType, StringType, HtmlType}
use Rattle.soy_tree.specs.Types.{AttributesType, ListType, MapType, RecordType, UnionType, no_member, member, no_field}
use Rattle.soy_tree.specs.Types.{field}

abbrev mutual
  pub type_text : SoyType → List ℕ
  type_text NullType = codes "null"
  type_text BoolType = codes "bool"
  type_text IntType = codes "int"
  type_text StringType = codes "string"
  type_text HtmlType = codes "html"
  type_text AttributesType = codes "attributes"
  type_text (ListType t) = codes "list<" ++ (type_text t ++ codes ">")
  type_text (MapType t) = codes "map<string, " ++ (type_text t ++ codes ">")
  type_text (RecordType fields) = codes "[" ++ (fields_text fields ++ codes "]")
  type_text (UnionType ts) = members_text ts

  pub members_text : Members → List ℕ
  members_text no_member = []
  members_text (member t ts) = type_text t ++ more_members_text ts

  pub more_members_text : Members → List ℕ
  more_members_text no_member = []
  more_members_text (member t ts) = codes "|" ++ (type_text t ++ more_members_text ts)

  pub fields_text : FieldTypes → List ℕ
  fields_text no_field = []
  fields_text (field name t fields) = name ++ (codes ": " ++ (type_text t ++ more_fields_text fields))

  pub more_fields_text : FieldTypes → List ℕ
  more_fields_text no_field = []
  more_fields_text (field name t fields) =
      codes ", " ++ (name ++ (codes ": " ++ (type_text t ++ more_fields_text fields)))
