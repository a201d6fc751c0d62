-- What `Rules::parse` answers where it refuses: the first entry that spells no rule, and where its text stops being
-- one.
--
-- Example: `one: n = 1` and `few: n is 2` are refused at few, 2 bytes into its text: rules begin with "n " and none
-- with "n i".
use Rattle.std.specs.Prelude.{◌≡◌, ℕ, ◌≤◌, ◌⊎◌, length, List, [], ◌∷◌, ◌++◌, encode_utf8_all}
use Rattle.plural_rules.specs.declared.category.Category.{Category}
use Rattle.plural_rules.specs.declared.rules.RuleFault.{RuleFault}
use Rattle.plural_rules.specs.declared.rules.RuleRefusal.{RuleRefusal}
use Rattle.plural_rules.specs.declared.rules.RuleRefusal.TheVariants.{Because, OutOfMemory}
use Rattle.plural_rules.specs.Condition.{Condition, Alternatives}

-- the text is a rule of the category
abbrev pub IsSpelled : Category × List ℕ → Type 0
IsSpelled entry = (says : Alternatives) × Condition entry.0 entry.1 says

-- some rule of the category begins with the text
abbrev pub BeginsRule : Category → List ℕ → Type 0
BeginsRule category text = (more : List ℕ) × IsSpelled (category, text ++ more)

-- prefix is the longest prefix of the text with which some rule of the category begins
pub record IsLongestPrefix (category : Category) (text prefix : List ℕ) : Type 0 where
  pub rest : List ℕ
  pub whole : text ≡ prefix ++ rest
  pub begins : BeginsRule category prefix
  pub longest : (longer after : List ℕ) → text ≡ longer ++ after → BeginsRule category longer
      → length longer ≤ length prefix

-- the entry spells no rule, and this is its fault
pub record HasFault (entry : Category × List ℕ) (fault : RuleFault) : Type 0 where
  pub prefix : List ℕ
  pub refused : IsSpelled entry → ⊥
  pub category : fault.category ≡ entry.0
  pub longest : IsLongestPrefix entry.0 entry.1 prefix
  pub offset : fault.at ≡ length (encode_utf8_all prefix)

-- memory aside, the entry is refused for its fault
abbrev pub RefusesEntry : Category × List ℕ → RuleRefusal → Type 0
RefusesEntry entry (Because fault) = HasFault entry fault
RefusesEntry entry OutOfMemory = Unit {0}

-- the entries before are spelled, and then comes the fault
abbrev pub HasFirstFault : List (Category × List ℕ) → RuleFault → Type 0
HasFirstFault [] fault = ⊥
HasFirstFault (entry ∷ entries) fault = HasFault entry fault ⊎ (IsSpelled entry × HasFirstFault entries fault)

abbrev pub RefusesEntries : List (Category × List ℕ) → RuleRefusal → Type 0
RefusesEntries entries (Because fault) = HasFirstFault entries fault
RefusesEntries entries OutOfMemory = Unit {0}
