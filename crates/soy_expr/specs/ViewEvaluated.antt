-- What an `Evaluated` of the code stands for: a value, or a block of which nothing is known.
use Rattle.std.specs.Prelude.{◌≡◌}
use Rattle.soy_tree.specs.Values.{Value, NullValue, BoolValue, IntValue, StringValue}
use Rattle.soy_rules.specs.Val.{Binding, Known, BlockOf}
use Rattle.soy_tree.specs.ViewValues.{view_value}
use Rattle.soy_expr.specs.declared.evaluated.Made.{Made}
use Rattle.soy_expr.specs.declared.evaluated.Made.TheVariants as made
use Rattle.soy_expr.specs.declared.evaluated.Evaluated.{Evaluated}
use Rattle.soy_expr.specs.declared.evaluated.Evaluated.TheVariants as evaluated

abbrev pub view_made : Made → Value
view_made made.Null = NullValue
view_made (made.Bool b) = BoolValue b
view_made (made.Int n) = IntValue n
view_made (made.Str text) = StringValue text

abbrev pub view_evaluated : {P : Type 0} → Evaluated P → Binding (Unit {0})
view_evaluated (evaluated.Made m) = Known (view_made m)
view_evaluated (evaluated.Part v path) = Known (view_value v.now)
view_evaluated evaluated.Block = BlockOf tt

-- whether the path of a part names that part
abbrev pub NamesPart : {P : Type 0} → (P → Value → Type 0) → Evaluated P → Type 0
NamesPart Names (evaluated.Part v path) = Names path (view_value v.now)
NamesPart Names _ = Unit {0}

-- whether this is what a variable or an expression stands for, and its path names it
abbrev pub IsBinding : {P : Type 0} → (P → Value → Type 0) → Binding (Unit {0}) → Evaluated P → Type 0
IsBinding Names b v = (view_evaluated v ≡ b) × NamesPart Names v
