-- What the rows below are made of: spans, names, types and expressions.
use Rattle.std.specs.Prelude.{ℕ, pos, List, [], ◌∷◌, codes}
use Rattle.soy_base.specs.declared.fault.Span.{Span}
use Rattle.soy_tree.specs.Types.{Name, SoyType, RecordType, UnionType, no_member, member, no_field, field}
use Rattle.soy_tree.specs.Expressions.{Expr, IntLiteral, StringLiteral, Variable}
use Rattle.soy_rules.specs.TypeOf.{Scope}

abbrev pub at : ℕ → Span
at n = record { start = n; end = n }

abbrev pub a : Name
a = codes "a"

abbrev pub b : Name
b = codes "b"

abbrev pub n : Name
n = codes "n"

abbrev pub union : SoyType → SoyType → SoyType
union t u = UnionType (member t (member u no_member))

-- one type, written as a union
abbrev pub alone : SoyType → SoyType
alone t = UnionType (member t no_member)

abbrev pub none : SoyType
none = UnionType no_member

abbrev pub one_field : Name → SoyType → SoyType
one_field name t = RecordType (field name t no_field)

abbrev pub two_fields : Name → SoyType → Name → SoyType → SoyType
two_fields x t y u = RecordType (field x t (field y u no_field))

-- expressions, at the offset that is given
abbrev pub var : Name → ℕ → Expr
var name offset = Variable name (at offset)

abbrev pub int : ℕ → ℕ → Expr
int m offset = IntLiteral (pos m) (at offset)

abbrev pub text : List ℕ → ℕ → Expr
text chars offset = StringLiteral chars (at offset)

abbrev pub scope_of : Name → SoyType → Scope
scope_of name t = (name, t) ∷ []
