-- The lexemes of a type as it is written.
-- Example: those of a list of ints that may be null are `list`, `<`, `int`, `|`, `null` and `>`.
use Rattle.std.specs.Prelude.{List, [], ◌∷◌, ◌++◌, codes}
use Rattle.soy_lexer.specs.declared.token.TokenKind.TheVariants as kind
use Rattle.soy_tree.specs.Types.{SoyType, Members, FieldTypes, NullType, BoolType, IntType, StringType, HtmlType}
use Rattle.soy_tree.specs.Types.{AttributesType, ListType, MapType, RecordType, UnionType, no_member, member, no_field}
use Rattle.soy_tree.specs.Types.{field}
use Rattle.formatted_source.specs.Lexemes.{Lexeme}

abbrev mutual
  pub type_lexemes : SoyType → List Lexeme
  type_lexemes NullType = (kind.Word, codes "null") ∷ []
  type_lexemes BoolType = (kind.Word, codes "bool") ∷ []
  type_lexemes IntType = (kind.Word, codes "int") ∷ []
  type_lexemes StringType = (kind.Word, codes "string") ∷ []
  type_lexemes HtmlType = (kind.Word, codes "html") ∷ []
  type_lexemes AttributesType = (kind.Word, codes "attributes") ∷ []
  type_lexemes (ListType t) =
      (kind.Word, codes "list") ∷ ((kind.Symbol, codes "<") ∷ (type_lexemes t ++ ((kind.Symbol, codes ">") ∷ [])))
  type_lexemes (MapType t) =
      (kind.Word, codes "map") ∷ ((kind.Symbol, codes "<") ∷ ((kind.Word, codes "string") ∷ ((kind.Symbol, codes ",")
      ∷ (type_lexemes t ++ ((kind.Symbol, codes ">") ∷ [])))))
  type_lexemes (RecordType fields) =
      (kind.Symbol, codes "[") ∷ (fields_lexemes fields ++ ((kind.Symbol, codes "]") ∷ []))
  type_lexemes (UnionType ts) = members_lexemes ts

  pub members_lexemes : Members → List Lexeme
  members_lexemes no_member = []
  members_lexemes (member t ts) = type_lexemes t ++ more_members_lexemes ts

  pub more_members_lexemes : Members → List Lexeme
  more_members_lexemes no_member = []
  more_members_lexemes (member t ts) = (kind.Symbol, codes "|") ∷ (type_lexemes t ++ more_members_lexemes ts)

  pub fields_lexemes : FieldTypes → List Lexeme
  fields_lexemes no_field = []
  fields_lexemes (field name t fields) =
      (kind.Word, name) ∷ ((kind.Symbol, codes ":") ∷ (type_lexemes t ++ more_fields_lexemes fields))

  pub more_fields_lexemes : FieldTypes → List Lexeme
  more_fields_lexemes no_field = []
  more_fields_lexemes (field name t fields) =
      (kind.Symbol, codes ",") ∷ ((kind.Word, name) ∷ ((kind.Symbol, codes ":")
      ∷ (type_lexemes t ++ more_fields_lexemes fields)))
