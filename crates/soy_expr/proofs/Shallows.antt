-- An operator gives the same of what it sees of its operands as of them.
use Rattle.std.proofs.Common.{◌≡◌, ℕ, Bool, true, false, not}
use Rattle.std.specs.Prelude.{ℤ, ◌*ℤ◌, ◌-ℤ◌, int_rem}
use mathlib.Core.Path.{refl, ap}
use Rattle.soy_tree.specs.declared.expr.BinaryOp.{BinaryOp}
use Rattle.soy_tree.specs.declared.expr.BinaryOp.TheVariants as op
use Rattle.soy_tree.specs.Values.{Value, NullValue, BoolValue, IntValue, StringValue, ListValue, MapValue, RecordValue}
use Rattle.soy_rules.specs.Val.{binary_value, int_result, sum_or_text, value_text, is_less, is_same_value, truth}
use Rattle.soy_rules.specs.Cost.{right_cost}
use Rattle.soy_expr.specs.ViewShallow.{shallow_value}
use Rattle.soy_expr.specs.Evaluates.{is_settled}

int_seen : (f : ℤ → ℤ → ℤ) (v w : Value) → int_result f (shallow_value v) (shallow_value w) ≡ int_result f v w
int_seen f (IntValue m) (IntValue n) = refl
int_seen f (IntValue m) NullValue = refl
int_seen f (IntValue m) (BoolValue b) = refl
int_seen f (IntValue m) (StringValue t) = refl
int_seen f (IntValue m) (ListValue vs) = refl
int_seen f (IntValue m) (MapValue es) = refl
int_seen f (IntValue m) (RecordValue es) = refl
int_seen f NullValue w = refl
int_seen f (BoolValue b) w = refl
int_seen f (StringValue t) w = refl
int_seen f (ListValue vs) w = refl
int_seen f (MapValue es) w = refl
int_seen f (RecordValue es) w = refl

text_seen : (v : Value) → value_text (shallow_value v) ≡ value_text v
text_seen NullValue = refl
text_seen (BoolValue b) = refl
text_seen (IntValue n) = refl
text_seen (StringValue t) = refl
text_seen (ListValue vs) = refl
text_seen (MapValue es) = refl
text_seen (RecordValue es) = refl

sum_seen : (v w : Value) → sum_or_text (shallow_value v) (shallow_value w) ≡ sum_or_text v w
sum_seen (IntValue m) (IntValue n) = refl
sum_seen (IntValue m) NullValue = refl
sum_seen (IntValue m) (BoolValue b) = refl
sum_seen (IntValue m) (StringValue t) = refl
sum_seen (IntValue m) (ListValue vs) = refl
sum_seen (IntValue m) (MapValue es) = refl
sum_seen (IntValue m) (RecordValue es) = refl
sum_seen NullValue w = rw (text_seen w) refl
sum_seen (BoolValue b) w = rw (text_seen w) refl
sum_seen (StringValue t) w = rw (text_seen w) refl
sum_seen (ListValue vs) w = rw (text_seen w) refl
sum_seen (MapValue es) w = rw (text_seen w) refl
sum_seen (RecordValue es) w = rw (text_seen w) refl

less_seen : (v w : Value) → is_less (shallow_value v) (shallow_value w) ≡ is_less v w
less_seen (IntValue m) (IntValue n) = refl
less_seen (IntValue m) NullValue = refl
less_seen (IntValue m) (BoolValue b) = refl
less_seen (IntValue m) (StringValue t) = refl
less_seen (IntValue m) (ListValue vs) = refl
less_seen (IntValue m) (MapValue es) = refl
less_seen (IntValue m) (RecordValue es) = refl
less_seen (StringValue s) (StringValue t) = refl
less_seen (StringValue s) NullValue = refl
less_seen (StringValue s) (BoolValue b) = refl
less_seen (StringValue s) (IntValue n) = refl
less_seen (StringValue s) (ListValue vs) = refl
less_seen (StringValue s) (MapValue es) = refl
less_seen (StringValue s) (RecordValue es) = refl
less_seen NullValue w = refl
less_seen (BoolValue b) w = refl
less_seen (ListValue vs) w = refl
less_seen (MapValue es) w = refl
less_seen (RecordValue es) w = refl

pub same_seen : (v w : Value) → is_same_value (shallow_value v) (shallow_value w) ≡ is_same_value v w
same_seen NullValue NullValue = refl
same_seen NullValue (BoolValue b) = refl
same_seen NullValue (IntValue n) = refl
same_seen NullValue (StringValue t) = refl
same_seen NullValue (ListValue vs) = refl
same_seen NullValue (MapValue es) = refl
same_seen NullValue (RecordValue es) = refl
same_seen (BoolValue a) NullValue = refl
same_seen (BoolValue a) (BoolValue b) = refl
same_seen (BoolValue a) (IntValue n) = refl
same_seen (BoolValue a) (StringValue t) = refl
same_seen (BoolValue a) (ListValue vs) = refl
same_seen (BoolValue a) (MapValue es) = refl
same_seen (BoolValue a) (RecordValue es) = refl
same_seen (IntValue m) NullValue = refl
same_seen (IntValue m) (BoolValue b) = refl
same_seen (IntValue m) (IntValue n) = refl
same_seen (IntValue m) (StringValue t) = refl
same_seen (IntValue m) (ListValue vs) = refl
same_seen (IntValue m) (MapValue es) = refl
same_seen (IntValue m) (RecordValue es) = refl
same_seen (StringValue s) NullValue = refl
same_seen (StringValue s) (BoolValue b) = refl
same_seen (StringValue s) (IntValue n) = refl
same_seen (StringValue s) (StringValue t) = refl
same_seen (StringValue s) (ListValue vs) = refl
same_seen (StringValue s) (MapValue es) = refl
same_seen (StringValue s) (RecordValue es) = refl
same_seen (ListValue vs) w = refl
same_seen (MapValue es) w = refl
same_seen (RecordValue es) w = refl

truth_seen : (v : Value) → truth (shallow_value v) ≡ truth v
truth_seen NullValue = refl
truth_seen (BoolValue b) = refl
truth_seen (IntValue n) = refl
truth_seen (StringValue t) = refl
truth_seen (ListValue vs) = refl
truth_seen (MapValue es) = refl
truth_seen (RecordValue es) = refl

pub shallow_binary : (o : BinaryOp) (v w : Value) → binary_value o (shallow_value v) (shallow_value w)
    ≡ binary_value o v w
shallow_binary op.Mul v w = int_seen (λ m n. m *ℤ n) v w
shallow_binary op.Rem v w = int_seen int_rem v w
shallow_binary op.Add v w = sum_seen v w
shallow_binary op.Sub v w = int_seen (λ m n. m -ℤ n) v w
shallow_binary op.Lt v w = ap BoolValue (less_seen v w)
shallow_binary op.Gt v w = ap BoolValue (less_seen w v)
shallow_binary op.Le v w = ap (λ (b : Bool). BoolValue (not b)) (less_seen w v)
shallow_binary op.Ge v w = ap (λ (b : Bool). BoolValue (not b)) (less_seen v w)
shallow_binary op.Eq v w = ap BoolValue (same_seen v w)
shallow_binary op.Ne v w = ap (λ (b : Bool). BoolValue (not b)) (same_seen v w)
shallow_binary op.And v w = rw (truth_seen v, truth_seen w) refl
shallow_binary op.Or v w = rw (truth_seen v, truth_seen w) refl

-- the right operand is valued unless the left one settles the operator
pub unsettled_cost : (o : BinaryOp) (left : Bool) (n : ℕ) → is_settled o left ≡ false → right_cost o left n ≡ n
unsettled_cost op.And true n e = refl
unsettled_cost op.And false n e = cc
unsettled_cost op.Or true n e = cc
unsettled_cost op.Or false n e = refl
unsettled_cost op.Mul left n e = refl
unsettled_cost op.Rem left n e = refl
unsettled_cost op.Add left n e = refl
unsettled_cost op.Sub left n e = refl
unsettled_cost op.Lt left n e = refl
unsettled_cost op.Gt left n e = refl
unsettled_cost op.Le left n e = refl
unsettled_cost op.Ge left n e = refl
unsettled_cost op.Eq left n e = refl
unsettled_cost op.Ne left n e = refl
