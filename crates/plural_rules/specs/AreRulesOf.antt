-- What `Rules::parse` answers where it succeeds: rules that say what the entries spell, and no others do.
--
-- Example: the entries `one: n = 1` and `other:` have two rules, of which the first asks of n for a value of 1..1.
use Rattle.std.specs.Prelude.{◌≡◌, ℕ, List, [], ◌∷◌}
use Rattle.plural_rules.specs.declared.category.Category.{Category}
use Rattle.plural_rules.specs.Condition.{Condition, Alternatives}

-- the rule has the category of the entry, and says what the entry's text spells
abbrev pub IsRuleOf : Category × List ℕ → Category × Alternatives → Type 0
IsRuleOf entry rule = (rule.0 ≡ entry.0) × Condition entry.0 entry.1 rule.1

-- each rule is that of its entry
abbrev pub AreRulesOf : List (Category × List ℕ) → List (Category × Alternatives) → Type 0
AreRulesOf [] [] = Unit {0}
AreRulesOf [] (rule ∷ rules) = ⊥
AreRulesOf (entry ∷ entries) [] = ⊥
AreRulesOf (entry ∷ entries) (rule ∷ rules) = IsRuleOf entry rule × AreRulesOf entries rules

-- no other rules are those of the entries
abbrev pub AreOnlyRulesOf : List (Category × List ℕ) → List (Category × Alternatives) → Type 0
AreOnlyRulesOf entries rules = (others : List (Category × Alternatives)) → AreRulesOf entries others → others ≡ rules
