-- Rows: values, truth and cost.
use Rattle.std.proofs.Common.{◌≡◌, [], ◌∷◌, true, false}
use Rattle.std.specs.Prelude.{pos, negsuc, codes}
use mathlib.Core.Path.{refl}
use Rattle.soy_tree.specs.declared.expr.BinaryOp.{BinaryOp}
use Rattle.soy_tree.specs.declared.expr.BinaryOp.TheVariants as op
use Rattle.soy_tree.specs.Values.{Value, NullValue, BoolValue, IntValue, StringValue, ListValue, MapValue, no_item}
use Rattle.soy_tree.specs.Values.{item, no_entry, entry}
use Rattle.soy_tree.specs.Expressions.{Expr, NullLiteral, BoolLiteral, Member, Index, Minus, Not, Binary, Coalesce}
use Rattle.soy_tree.specs.Expressions.{Conditional}
use Rattle.soy_rules.specs.Val.{Binding, Known, BlockOf, Env, val}
use Rattle.soy_rules.specs.Cost.{cost}
use Rattle.soy_rules.proofs.Rows.{at, a, b, var, int, text}

-- an environment of one value, and one of one block
abbrev bound : Value → Env (Unit {0})
bound v = (a, Known v) ∷ []

abbrev with_block : Env (Unit {0})
with_block = (a, BlockOf tt) ∷ []

abbrev valued : Expr → Value → Binding (Unit {0})
valued e v = val e (bound v)

abbrev operated : BinaryOp → Expr → Expr → Binding (Unit {0})
operated op left right = val (Binary op left right (at 0)) (bound NullValue)

abbrev minus_seven : Expr
minus_seven = Minus (int 7 1) (at 0)

-- -7 % 3
negative_remainder : operated op.Rem minus_seven (int 3 5) ≡ Known (IntValue (negsuc 0))
negative_remainder = refl

remainder : operated op.Rem (int 7 0) (int 3 5) ≡ Known (IntValue (pos 1))
remainder = refl

-- $a + 1 with $a 9007199254740991
largest_int : valued (Binary op.Add (var a 0) (int 1 5) (at 0)) (IntValue (pos 9007199254740991))
    ≡ Known (IntValue (pos 9007199254740991))
largest_int = refl

least_int : valued (Binary op.Sub (Minus (var a 1) (at 0)) (int 1 5) (at 0)) (IntValue (pos 9007199254740991))
    ≡ Known (IntValue (negsuc 9007199254740990))
least_int = refl

product_beyond : valued (Binary op.Mul (var a 0) (Minus (var a 6) (at 5)) (at 0)) (IntValue (pos 9007199254740991))
    ≡ Known (IntValue (negsuc 9007199254740990))
product_beyond = refl

text_of_null : operated op.Add (text b 0) (NullLiteral (at 5)) ≡ Known (StringValue (codes "bnull"))
text_of_null = refl

text_of_true : operated op.Add (BoolLiteral true (at 0)) (text b 0) ≡ Known (StringValue (codes "trueb"))
text_of_true = refl

prefix_is_less : operated op.Lt (text a 0) (text (codes "ab") 0) ≡ Known (BoolValue true)
prefix_is_less = refl

by_code_points : operated op.Lt (text (0xff21 ∷ []) 0) (text (0x10400 ∷ []) 0) ≡ Known (BoolValue true)
by_code_points = refl

two_types_differ : operated op.Eq (int 0 0) (BoolLiteral false (at 0)) ≡ Known (BoolValue false)
two_types_differ = refl

null_is_falsy : valued (Not (var a 0) (at 0)) NullValue ≡ Known (BoolValue true)
null_is_falsy = refl

zero_is_falsy : valued (Not (var a 0) (at 0)) (IntValue (pos 0)) ≡ Known (BoolValue true)
zero_is_falsy = refl

empty_is_falsy : valued (Not (var a 0) (at 0)) (StringValue []) ≡ Known (BoolValue true)
empty_is_falsy = refl

empty_list_is_truthy : valued (Not (var a 0) (at 0)) (ListValue no_item) ≡ Known (BoolValue false)
empty_list_is_truthy = refl

block_is_truthy : val (Not (var a 0) (at 0)) with_block ≡ Known (BoolValue false)
block_is_truthy = refl

block_is_not_null : val (Binary op.Eq (var a 0) (NullLiteral (at 0)) (at 0)) with_block ≡ Known (BoolValue false)
block_is_not_null = refl

falsy_is_not_null : valued (Coalesce (var a 0) (int 1 0) (at 0)) (BoolValue false) ≡ Known (BoolValue false)
falsy_is_not_null = refl

null_gives_the_other : valued (Coalesce (var a 0) (int 1 0) (at 0)) NullValue ≡ Known (IntValue (pos 1))
null_gives_the_other = refl

-- accesses
item_there : valued (Index (var a 0) (int 0 0) false (at 0)) (ListValue (item (IntValue (pos 5)) no_item))
    ≡ Known (IntValue (pos 5))
item_there = refl

item_past_the_end : valued (Index (var a 0) (int 1 0) false (at 0)) (ListValue (item (IntValue (pos 5)) no_item))
    ≡ Known NullValue
item_past_the_end = refl

item_before_the_start : valued (Index (var a 0) (Minus (int 1 0) (at 0)) false (at 0))
    (ListValue (item (IntValue (pos 5)) no_item)) ≡ Known NullValue
item_before_the_start = refl

first_entry_counts : valued (Index (var a 0) (text b 0) false (at 0))
    (MapValue (entry b (IntValue (pos 1)) (entry b (IntValue (pos 2)) no_entry))) ≡ Known (IntValue (pos 1))
first_entry_counts = refl

member_of_null : valued (Member (var a 0) b true (at 0)) NullValue ≡ Known NullValue
member_of_null = refl

-- a later operand is valued only where its value is needed
cost_of_and : cost (Binary op.And (var a 0) (int 1 0) (at 0)) (bound (BoolValue false)) ≡ 2
cost_of_and = refl

cost_of_and_that_goes_on : cost (Binary op.And (var a 0) (int 1 0) (at 0)) (bound (BoolValue true)) ≡ 3
cost_of_and_that_goes_on = refl

cost_of_or : cost (Binary op.Or (var a 0) (int 1 0) (at 0)) (bound (BoolValue true)) ≡ 2
cost_of_or = refl

cost_of_coalesce : cost (Coalesce (var a 0) (Minus (int 1 0) (at 0)) (at 0)) (bound (BoolValue false)) ≡ 2
cost_of_coalesce = refl

cost_of_a_choice : cost (Conditional (var a 0) (int 1 0) (Minus (int 1 0) (at 0)) (at 0)) (bound NullValue) ≡ 4
cost_of_a_choice = refl

cost_of_an_access : cost (Index (Member (var a 0) b true (at 0)) (int 1 0) false (at 0)) (bound NullValue) ≡ 4
cost_of_an_access = refl
