-- Whether a condition holds of a whole number.
-- UTS #35 (LDML), part 3, "Operands" and "Relations": of a whole number n and i are the absolute value, and the
-- operands that count digits of a fraction or an exponent are 0. `=` asks for a value of the list, `!=` for none, and
-- `%` compares the remainder. A range has both its ends; one whose first end is above its second has nothing.
-- Example: `n % 10 = 2..4 and n % 100 != 12..14` holds of 23 and -102, and not of 13 or 5.
use Rattle.std.specs.Prelude.{ℕ, ℤ, ◌%◌, Bool, true, false, not, ◌&&◌, nat_le, unsigned_abs, List, Option, Some, None}
use Rattle.std.specs.List.{list_any, list_all}
use Rattle.plural_rules.specs.declared.condition.Operand.{Operand}
use Rattle.plural_rules.specs.declared.condition.Operand.TheVariants.{N, I}
use Rattle.plural_rules.specs.declared.condition.Comparison.{Comparison}
use Rattle.plural_rules.specs.declared.condition.Values.{Values}
use Rattle.plural_rules.specs.Condition.{Relation, Alternatives}

abbrev pub operand_value : Operand → ℤ → ℕ
operand_value N n = unsigned_abs n
operand_value I n = unsigned_abs n
operand_value _ n = 0

abbrev pub remainder_of : Option ℕ → ℕ → ℕ
remainder_of None value = value
remainder_of (Some m) value = value % m

-- what is compared
abbrev pub compared : Comparison → ℤ → ℕ
compared by n = remainder_of by.modulus (operand_value by.operand n)

abbrev pub is_in_ranges : ℕ → List Values → Bool
is_in_ranges value ranges = list_any (λ range. nat_le range.first value && nat_le value range.last) ranges

-- `=` asks that the value is found, `!=` that it isn't
abbrev pub is_met : Bool → Bool → Bool
is_met true found = found
is_met false found = not found

abbrev pub relation_holds : ℤ → Relation → Bool
relation_holds n relation =
    is_met relation.comparison.equal (is_in_ranges (compared relation.comparison n) relation.ranges)

abbrev pub holds : Alternatives → ℤ → Bool
holds says n = list_any (list_all (relation_holds n)) says
