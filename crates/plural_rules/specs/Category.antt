-- The category of a whole number.
-- UTS #35 (LDML), part 3, "Language plural rules": the first of zero, one, two, few and many whose condition holds of
-- the number, else other. Of two rules of one category the first counts, and a category without a rule has none that
-- holds.
-- Example: with `one: n = 1` and `few: n = 1..4`, 1 is one, 3 and -3 are few, and 0 is other.
use Rattle.std.specs.Prelude.{ℕ, ℤ, Bool, false, ◌==◌, List, [], ◌∷◌, if◌then◌else◌, unwrap_or}
use Rattle.std.specs.List.{find}
use Rattle.plural_rules.specs.declared.category.Category.{Category}
use Rattle.plural_rules.specs.declared.category.Category.TheVariants.{Zero, One, Two, Few, Many, Other}
use Rattle.plural_rules.specs.Condition.{Alternatives}
use Rattle.plural_rules.specs.Holds.{holds}

-- the position of a category among the six
abbrev pub order_of : Category → ℕ
order_of Zero = 0
order_of One = 1
order_of Two = 2
order_of Few = 3
order_of Many = 4
order_of Other = 5

abbrev pub is_same : Category → Category → Bool
is_same a b = order_of a == order_of b

-- whether the category's condition, its first among the rules, holds of n
abbrev pub holds_for : List (Category × Alternatives) → ℤ → Category → Bool
holds_for [] n category = false
holds_for ((of, says) ∷ rules) n category = (if is_same of category then holds says n else holds_for rules n category)

abbrev pub category_of : List (Category × Alternatives) → ℤ → Category
category_of rules n = unwrap_or (find (holds_for rules n) (Zero ∷ One ∷ Two ∷ Few ∷ Many ∷ [])) Other
