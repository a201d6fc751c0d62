-- Rows: the types of operators and accesses, and where they fail.
use Rattle.std.proofs.Common.{◌≡◌, List, [], ◌∷◌, true, false}
use Rattle.std.specs.Prelude.{Ok, codes, ℕ, Result}
use mathlib.Core.Path.{refl}
use Rattle.soy_base.specs.declared.code.Code.TheVariants as code
use Rattle.soy_tree.specs.declared.expr.BinaryOp.TheVariants as op
use Rattle.soy_tree.specs.Types.{SoyType, NullType, BoolType, IntType, StringType, HtmlType, ListType, MapType}
use Rattle.soy_tree.specs.Expressions.{NullLiteral, BoolLiteral, Member, Index, Minus, Not, Binary, Coalesce}
use Rattle.soy_tree.specs.Expressions.{Conditional}
use Rattle.soy_rules.specs.Faults.{TypeFault, fails}
use Rattle.soy_rules.specs.TypeOf.{Scope, type_of}
use Rattle.soy_rules.specs.Narrowing.{narrowed}
use Rattle.soy_rules.proofs.Rows.{at, a, b, n, union, none, one_field, var, int, text, scope_of}

abbrev failed : ℕ → List ℕ → List ℕ → Result SoyType TypeFault
failed offset left right = fails code.Mistyped offset left right

-- `+` adds ints, and joins texts where one side is exactly string
sum_of_ints : type_of (Binary op.Add (int 1 0) (int 2 4) (at 0)) [] ≡ Ok IntType
sum_of_ints = refl

text_and_int : type_of (Binary op.Add (text a 0) (int 2 4) (at 0)) [] ≡ Ok StringType
text_and_int = refl

int_and_bool : type_of (Binary op.Add (int 1 0) (BoolLiteral true (at 4)) (at 0)) []
    ≡ failed 0 (codes "int") (codes "bool")
int_and_bool = refl

text_or_null_and_int : type_of (Binary op.Add (var a 0) (int 2 4) (at 0)) (scope_of a (union StringType NullType))
    ≡ failed 0 (codes "string|null") (codes "int")
text_or_null_and_int = refl

-- neither `int|int` nor the union of no members is int
int_twice_is_no_int : type_of (Minus (var a 1) (at 0)) (scope_of a (union IntType IntType))
    ≡ failed 0 (codes "int|int") []
int_twice_is_no_int = refl

-- `%` takes a non-zero int literal on the right
remainder_by_a_literal : type_of (Binary op.Rem (var a 0) (int 3 5) (at 0)) (scope_of a IntType) ≡ Ok IntType
remainder_by_a_literal = refl

remainder_by_zero : type_of (Binary op.Rem (var a 0) (int 0 5) (at 0)) (scope_of a IntType)
    ≡ failed 0 (codes "int") (codes "int")
remainder_by_zero = refl

remainder_by_a_variable : type_of (Binary op.Rem (var a 0) (var a 5) (at 0)) (scope_of a IntType)
    ≡ failed 0 (codes "int") (codes "int")
remainder_by_a_variable = refl

-- comparisons take two ints or two strings
comparison_of_strings : type_of (Binary op.Le (text a 0) (text b 7) (at 0)) [] ≡ Ok BoolType
comparison_of_strings = refl

comparison_of_two_types : type_of (Binary op.Lt (int 1 0) (text b 4) (at 0)) []
    ≡ failed 0 (codes "int") (codes "string")
comparison_of_two_types = refl

-- `==` takes null, bool, int and string, or anything beside the literal null
equal_to_null : type_of (Binary op.Eq (var a 0) (NullLiteral (at 6)) (at 0)) (scope_of a (ListType IntType))
    ≡ Ok BoolType
equal_to_null = refl

equal_lists : type_of (Binary op.Eq (var a 0) (var a 6) (at 0)) (scope_of a (ListType IntType))
    ≡ failed 0 (codes "list<int>") (codes "list<int>")
equal_lists = refl

-- `and`, `or` and `not` take any types
html_and_list : type_of (Binary op.And (var a 0) (Not (var a 11) (at 7)) (at 0)) (scope_of a HtmlType) ≡ Ok BoolType
html_and_list = refl

-- `a ?: b` has the left type without null, joined with the right; no operand is html
without_null_joined : type_of (Coalesce (var a 0) (text b 6) (at 0)) (scope_of a (union IntType NullType))
    ≡ Ok (union IntType StringType)
without_null_joined = refl

block_in_a_condition : type_of (Conditional (var a 0) (int 1 5) (int 2 9) (at 0)) (scope_of a HtmlType)
    ≡ failed 0 (codes "html") []
block_in_a_condition = refl

block_in_a_choice : type_of (Conditional (int 1 0) (int 1 5) (var a 9) (at 0)) (scope_of a HtmlType)
    ≡ failed 0 (codes "int") (codes "html")
block_in_a_choice = refl

-- accesses
field_of_a_record : type_of (Member (var a 0) b false (at 0)) (scope_of a (one_field b IntType)) ≡ Ok IntType
field_of_a_record = refl

field_that_is_not_there : type_of (Member (var a 0) n false (at 0)) (scope_of a (one_field b IntType))
    ≡ fails code.Unknown 0 n []
field_that_is_not_there = refl

field_of_a_record_or_null : type_of (Member (var a 0) b false (at 0))
    (scope_of a (union (one_field b IntType) NullType)) ≡ failed 0 (codes "[b: int]|null") []
field_of_a_record_or_null = refl

access_that_takes_null : type_of (Member (var a 0) b true (at 0)) (scope_of a (union (one_field b IntType) NullType))
    ≡ Ok (union IntType NullType)
access_that_takes_null = refl

access_of_null_alone : type_of (Member (var a 0) b true (at 0)) (scope_of a NullType) ≡ failed 0 (codes "null") []
access_of_null_alone = refl

index_of_int_or_null : type_of (Index (var a 0) (int 0 3) true (at 0)) (scope_of a (union IntType NullType))
    ≡ failed 0 (codes "int|null") (codes "int")
index_of_int_or_null = refl

item_of_a_list : type_of (Index (var a 0) (int 0 3) false (at 0)) (scope_of a (ListType IntType))
    ≡ Ok (union IntType NullType)
item_of_a_list = refl

item_of_a_map_by_an_int : type_of (Index (var a 0) (int 0 3) false (at 0)) (scope_of a (MapType IntType))
    ≡ failed 0 (codes "map<string, int>") (codes "int")
item_of_a_map_by_an_int = refl

-- the fault of an operand goes before that of the expression, the left one's first
unknown_operand : type_of (Binary op.Mul (var b 0) (var n 5) (at 0)) [] ≡ fails code.Unknown 0 b []
unknown_operand = refl

-- conditions that take null away
abbrev nullable : SoyType
nullable = union IntType NullType

abbrev three : SoyType → SoyType → SoyType → Scope
three t u v = (a, t) ∷ ((b, u) ∷ ((n, v) ∷ []))

-- $a and (not $b and $n != null)
conjunction :
    narrowed
    (Binary op.And (var a 0)
    (Binary op.And (Not (var b 0) (at 0)) (Binary op.Ne (var n 0) (NullLiteral (at 0)) (at 0)) (at 0)) (at 0))
    (three nullable nullable nullable)
    ≡ three IntType nullable IntType
conjunction = refl

null_on_the_left : narrowed (Binary op.Ne (NullLiteral (at 0)) (var a 0) (at 0)) (scope_of a nullable)
    ≡ scope_of a nullable
null_on_the_left = refl

alternative : narrowed (Binary op.Or (var a 0) (var a 0) (at 0)) (scope_of a nullable) ≡ scope_of a nullable
alternative = refl

-- of two variables of one name the first is meant
first_of_a_name :
    narrowed (var a 0) ((a, nullable) ∷ ((a, nullable) ∷ [])) ≡ (a, IntType) ∷ ((a, nullable) ∷ [])
first_of_a_name = refl

null_alone_narrowed : narrowed (var a 0) (scope_of a NullType) ≡ scope_of a none
null_alone_narrowed = refl
