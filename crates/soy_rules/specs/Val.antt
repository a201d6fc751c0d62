-- The value of a typed expression under an environment, its truth, and its text.
-- A variable is bound to a value, or to a block of kind html or attributes. A block is truthy and isn't null; an
-- expression whose type has an html or attributes member is a variable. Where an expression has no type, the value says
-- nothing.
-- Example: `-7 % 3` is -1, and `$n + 1` with `$n` 9007199254740991 is 9007199254740991.
use Rattle.std.specs.Prelude.{ℕ, zero, suc, ℤ, pos, negsuc, ◌+ℤ◌, ◌-ℤ◌, ◌*ℤ◌, neg_ℤ, int_lt, int_rem, Bool, true, false}
use Rattle.std.specs.Prelude.{not, ◌&&◌, ◌||◌, ◌==◌, nat_lt, List, [], ◌∷◌, ◌++◌, if◌then◌else◌, unwrap_or, bytes_eq}
use Rattle.std.specs.Prelude.{codes}
use Rattle.std.specs.Fmt.{signed_decimal}
use Rattle.soy_tree.specs.declared.expr.BinaryOp.{BinaryOp}
use Rattle.soy_tree.specs.declared.expr.BinaryOp.TheVariants as op
use Rattle.soy_tree.specs.Types.{Name}
use Rattle.soy_tree.specs.Values.{Value, Items, NullValue, BoolValue, IntValue, StringValue, ListValue, MapValue}
use Rattle.soy_tree.specs.Values.{no_item, item}
use Rattle.soy_tree.specs.Ints.{nearest}
use Rattle.soy_rules.specs.Has.{entry_value, field_value}
use Rattle.soy_tree.specs.Expressions.{Expr, NullLiteral, BoolLiteral, IntLiteral, StringLiteral, Variable, Member}
use Rattle.soy_tree.specs.Expressions.{Index, Minus, Not, Binary, Coalesce, Conditional}

-- what a variable is bound to: a value, or a block, of which an expression knows nothing
pub data Binding (A : Type 0) : Type 0 where
  Known : Value → Binding A
  BlockOf : A → Binding A

abbrev pub Env : Type 0 → Type 0
Env A = List (Name × Binding A)

abbrev pub binding : {A : Type 0} → Name → Env A → Binding A
binding name [] = Known NullValue
binding name (v ∷ env) = if bytes_eq v.0 name then v.1 else binding name env

abbrev pub truth : Value → Bool
truth NullValue = false
truth (BoolValue b) = b
truth (IntValue (pos n)) = not (n == 0)
truth (StringValue []) = false
truth _ = true

abbrev pub is_truthy : {A : Type 0} → Binding A → Bool
is_truthy (Known v) = truth v
is_truthy (BlockOf a) = true

abbrev pub is_null_value : Value → Bool
is_null_value NullValue = true
is_null_value _ = false

abbrev pub is_null : {A : Type 0} → Binding A → Bool
is_null (Known v) = is_null_value v
is_null (BlockOf a) = false

-- the text of null, a bool, an int or a string
abbrev pub value_text : Value → List ℕ
value_text NullValue = codes "null"
value_text (BoolValue true) = codes "true"
value_text (BoolValue false) = codes "false"
value_text (IntValue n) = signed_decimal n
value_text (StringValue text) = text
value_text _ = []

-- whether two values are of one type and equal
abbrev pub is_same_bool : Bool → Bool → Bool
is_same_bool true b = b
is_same_bool false b = not b

abbrev pub is_same_int : ℤ → ℤ → Bool
is_same_int (pos m) (pos n) = m == n
is_same_int (negsuc m) (negsuc n) = m == n
is_same_int _ _ = false

abbrev pub is_same_value : Value → Value → Bool
is_same_value NullValue NullValue = true
is_same_value (BoolValue a) (BoolValue b) = is_same_bool a b
is_same_value (IntValue m) (IntValue n) = is_same_int m n
is_same_value (StringValue s) (StringValue t) = bytes_eq s t
is_same_value _ _ = false

-- whether a text stands before another, compared by code points
abbrev pub is_text_before : List ℕ → List ℕ → Bool
is_text_before [] [] = false
is_text_before [] (d ∷ ds) = true
is_text_before (c ∷ cs) [] = false
is_text_before (c ∷ cs) (d ∷ ds) = nat_lt c d || c == d && is_text_before cs ds

abbrev pub is_less : Value → Value → Bool
is_less (IntValue m) (IntValue n) = int_lt m n
is_less (StringValue s) (StringValue t) = is_text_before s t
is_less _ _ = false

-- an int computed from two, or the nearest end of the range
abbrev pub int_result : (ℤ → ℤ → ℤ) → Value → Value → Value
int_result f (IntValue m) (IntValue n) = IntValue (nearest (f m n))
int_result f _ _ = NullValue

abbrev pub sum_or_text : Value → Value → Value
sum_or_text (IntValue m) (IntValue n) = IntValue (nearest (m +ℤ n))
sum_or_text v w = StringValue (value_text v ++ value_text w)

abbrev pub negated : Value → Value
negated (IntValue n) = IntValue (nearest (neg_ℤ n))
negated _ = NullValue

abbrev pub binary_value : BinaryOp → Value → Value → Value
binary_value op.Mul v w = int_result (λ m n. m *ℤ n) v w
binary_value op.Rem v w = int_result int_rem v w
binary_value op.Add v w = sum_or_text v w
binary_value op.Sub v w = int_result (λ m n. m -ℤ n) v w
binary_value op.Lt v w = BoolValue (is_less v w)
binary_value op.Gt v w = BoolValue (is_less w v)
binary_value op.Le v w = BoolValue (not (is_less w v))
binary_value op.Ge v w = BoolValue (not (is_less v w))
binary_value op.Eq v w = BoolValue (is_same_value v w)
binary_value op.Ne v w = BoolValue (not (is_same_value v w))
binary_value op.And v w = BoolValue (truth v && truth w)
binary_value op.Or v w = BoolValue (truth v || truth w)

-- a block counts as true: it is truthy, and differs from null
abbrev pub operand : {A : Type 0} → Binding A → Value
operand (Known v) = v
operand (BlockOf a) = BoolValue true

-- the field of this name, or null
abbrev pub member_value : Name → Value → Value
member_value name v = unwrap_or (field_value name v) NullValue

abbrev pub item_value : Items → ℕ → Value
item_value no_item n = NullValue
item_value (item v vs) zero = v
item_value (item v vs) (suc n) = item_value vs n

-- the item or entry, or null where nothing is there
abbrev pub index_value : Value → Value → Value
index_value (ListValue vs) (IntValue (pos n)) = item_value vs n
index_value (MapValue es) (StringValue key) = unwrap_or (entry_value key es) NullValue
index_value _ _ = NullValue

abbrev pub val : {A : Type 0} → Expr → Env A → Binding A
val (NullLiteral span) env = Known NullValue
val (BoolLiteral b span) env = Known (BoolValue b)
val (IntLiteral n span) env = Known (IntValue n)
val (StringLiteral text span) env = Known (StringValue text)
val (Variable name span) env = binding name env
val (Member e name takes_null span) env = Known (member_value name (operand (val e env)))
val (Index e i takes_null span) env = Known (index_value (operand (val e env)) (operand (val i env)))
val (Minus e span) env = Known (negated (operand (val e env)))
val (Not e span) env = Known (BoolValue (not (is_truthy (val e env))))
val (Binary op a b span) env = Known (binary_value op (operand (val a env)) (operand (val b env)))
val (Coalesce a b span) env = if is_null (val a env) then val b env else val a env
val (Conditional c a b span) env = if is_truthy (val c env) then val a env else val b env
