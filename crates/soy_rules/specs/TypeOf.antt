-- The type of an expression in a scope, or the first fault.
-- Operands are asked from left to right, then the expression itself. A fault is at the first character of the
-- expression that fails; it keeps the name, or the types of both operands as they are: of an access that takes null
-- with null. A choice keeps the type of its condition, where that has html or attributes, and else those of the two
-- others.
-- Example: with `$n` an int, `$n + 'a'` is a string, and `$n + true` fails with 8, keeping int and bool.
use Rattle.std.specs.Prelude.{pos, negsuc, Bool, true, false, not, ◌&&◌, ◌||◌, ◌==◌, List, [], ◌∷◌, Option, Some, None}
use Rattle.std.specs.Prelude.{Result, Ok, if◌then◌else◌, bytes_eq}
use Rattle.soy_base.specs.declared.fault.Span.{Span}
use Rattle.soy_tree.specs.declared.expr.BinaryOp.{BinaryOp}
use Rattle.soy_tree.specs.declared.expr.BinaryOp.TheVariants as op
use Rattle.soy_tree.specs.Types.{Name, SoyType, FieldTypes, NullType, BoolType, IntType, StringType, ListType, MapType}
use Rattle.soy_tree.specs.Types.{RecordType, no_field, field}
use Rattle.soy_rules.specs.Members.{is_same_type, has_null, type_without_null, joined, is_simple, has_block}
use Rattle.soy_rules.specs.TypeText.{type_text}
use Rattle.soy_rules.specs.Faults.{TypeFault, followed_by, found, mistyped}
use Rattle.soy_tree.specs.Expressions.{Expr, NullLiteral, BoolLiteral, IntLiteral, StringLiteral, Variable, Member}
use Rattle.soy_tree.specs.Expressions.{Index, Minus, Not, Binary, Coalesce, Conditional}

-- the variables that are visible, with their types
abbrev pub Scope : Type 0
Scope = List (Name × SoyType)

abbrev pub variable_type : Name → Scope → Option SoyType
variable_type name [] = None
variable_type name (v ∷ scope) = if bytes_eq v.0 name then Some v.1 else variable_type name scope

-- the type of the first field of this name
abbrev pub field_type : Name → FieldTypes → Option SoyType
field_type name no_field = None
field_type name (field other t fields) = if bytes_eq other name then Some t else field_type name fields

-- the type, if the operands' types fit
abbrev pub fitting : Bool → SoyType → Span → SoyType → SoyType → Result SoyType TypeFault
fitting fits t span left right = if fits then Ok t else mistyped span (type_text left) (type_text right)

abbrev pub is_int : SoyType → Bool
is_int t = is_same_type t IntType

abbrev pub is_string : SoyType → Bool
is_string t = is_same_type t StringType

abbrev pub is_null_literal : Expr → Bool
is_null_literal (NullLiteral span) = true
is_null_literal _ = false

abbrev pub is_divisor : Expr → Bool
is_divisor (IntLiteral (pos n) span) = not (n == 0)
is_divisor (IntLiteral (negsuc n) span) = true
is_divisor _ = false

-- one side is exactly string, and the other is made of null, bool, int and string alone
abbrev pub are_texts : SoyType → SoyType → Bool
are_texts t u = is_string t && is_simple u || is_string u && is_simple t

abbrev pub sum_type : Span → SoyType → SoyType → Result SoyType TypeFault
sum_type span t u = if is_int t && is_int u then Ok IntType else fitting (are_texts t u) StringType span t u

abbrev pub binary_type : BinaryOp → Expr → Expr → Span → SoyType → SoyType → Result SoyType TypeFault
binary_type op.Mul a b span t u = fitting (is_int t && is_int u) IntType span t u
binary_type op.Rem a b span t u = fitting (is_int t && is_divisor b) IntType span t u
binary_type op.Add a b span t u = sum_type span t u
binary_type op.Sub a b span t u = fitting (is_int t && is_int u) IntType span t u
binary_type op.Eq a b span t u =
    fitting (is_simple t && is_simple u || is_null_literal a || is_null_literal b) BoolType span t u
binary_type op.Ne a b span t u =
    fitting (is_simple t && is_simple u || is_null_literal a || is_null_literal b) BoolType span t u
binary_type op.And a b span t u = Ok BoolType
binary_type op.Or a b span t u = Ok BoolType
binary_type _ a b span t u = fitting (is_int t && is_int u || is_string t && is_string u) BoolType span t u

-- the type that an access is asked of
abbrev pub accessed_type : Bool → SoyType → SoyType
accessed_type takes_null t = if takes_null then type_without_null t else t

-- and null, where the access takes it and the left type has it
abbrev pub with_null_of : Bool → SoyType → SoyType → SoyType
with_null_of takes_null left t = if takes_null && has_null left then joined t NullType else t

-- the type of an access, asked of the second type; a fault keeps the first
abbrev pub member_type : Name → Span → SoyType → SoyType → Result SoyType TypeFault
member_type name span left (RecordType fields) = found name span (field_type name fields)
member_type name span left t = mistyped span (type_text left) []

abbrev pub index_type : Span → SoyType → SoyType → SoyType → Result SoyType TypeFault
index_type span left (ListType t) u = fitting (is_int u) (joined t NullType) span left u
index_type span left (MapType t) u = fitting (is_string u) (joined t NullType) span left u
index_type span left t u = mistyped span (type_text left) (type_text u)

-- the type of `c ? a : b` by those of the three
abbrev pub choice_type : Span → SoyType → SoyType → SoyType → Result SoyType TypeFault
choice_type span s t u =
    if has_block s
    then mistyped span (type_text s) []
    else fitting (not (has_block t || has_block u)) (joined t u) span t u

abbrev pub type_of : Expr → Scope → Result SoyType TypeFault
type_of (NullLiteral span) scope = Ok NullType
type_of (BoolLiteral b span) scope = Ok BoolType
type_of (IntLiteral n span) scope = Ok IntType
type_of (StringLiteral text span) scope = Ok StringType
type_of (Variable name span) scope = found name span (variable_type name scope)
type_of (Member e name takes_null span) scope =
    followed_by (type_of e scope) (λ t.
    followed_by (member_type name span t (accessed_type takes_null t)) (λ u. Ok (with_null_of takes_null t u)))
type_of (Index e i takes_null span) scope =
    followed_by (type_of e scope) (λ t.
    followed_by (type_of i scope) (λ k.
    followed_by (index_type span t (accessed_type takes_null t) k) (λ u. Ok (with_null_of takes_null t u))))
type_of (Minus e span) scope =
    followed_by (type_of e scope) (λ t. if is_int t then Ok IntType else mistyped span (type_text t) [])
type_of (Not e span) scope = followed_by (type_of e scope) (λ t. Ok BoolType)
type_of (Binary op a b span) scope =
    followed_by (type_of a scope) (λ t. followed_by (type_of b scope) (λ u. binary_type op a b span t u))
type_of (Coalesce a b span) scope =
    followed_by (type_of a scope) (λ t.
    followed_by (type_of b scope)
    (λ u. fitting (not (has_block t || has_block u)) (joined (type_without_null t) u) span t u))
type_of (Conditional c a b span) scope =
    followed_by (type_of c scope) (λ s.
    followed_by (type_of a scope) (λ t.
    followed_by (type_of b scope) (λ u. choice_type span s t u)))
