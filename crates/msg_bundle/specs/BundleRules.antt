-- The plural rules of a bundle, and their first fault (23).
-- `plural` and `ordinal` bring rules under the keywords of their categories; where one is left out there are none. They
-- are asked in the order zero, one, two, few, many, other.
-- Example: `{"dir":"ltr","plural":{"one":"n = 1","few":"n is 2"},"messages":{}}` is refused at `plural`, `few`.
use Rattle.std.specs.Prelude.{◌≡◌, ℕ, List, [], ◌∷◌, ◌++◌, Option, Some, None, Result, Ok, Err, option_and_then}
use Rattle.std.specs.Str.{chars}
use Rattle.serde_json.specs.Data.{Data}
use Rattle.serde_json.specs.Find.{get, as_str}
use Rattle.plural_rules.specs.declared.category.Category.{Category}
use Rattle.plural_rules.specs.declared.rules.RuleFault.{RuleFault}
use Rattle.plural_rules.specs.Condition.{Alternatives}
use Rattle.plural_rules.specs.AreRulesOf.{AreRulesOf, AreOnlyRulesOf}
use Rattle.plural_rules.specs.RefusesEntries.{HasFirstFault}
use Rattle.soy_base.specs.declared.code.Code.TheVariants as code
use Rattle.soy_base.specs.declared.memory.Refusal.{Refusal}
use Rattle.soy_base.specs.declared.memory.Refusal.TheVariants as refusal
use Rattle.soy_rules.specs.IcuText.{keyword}
use Rattle.msg_bundle.specs.declared.fault.BundleFault.{BundleFault}
use Rattle.msg_bundle.specs.BundleFault.{entry_path, fault_at}
use Rattle.msg_bundle.specs.BundleForm.{categories}

-- the rule of a category, if there is one
abbrev pub rule_under : Category → Option (List ℕ) → List (Category × List ℕ)
rule_under c None = []
rule_under c (Some text) = (c, chars text) ∷ []

-- the rules of an object under the keywords of these categories
abbrev pub rules_under : List Category → Data → List (Category × List ℕ)
rules_under [] json = []
rules_under (c ∷ cs) json = rule_under c (option_and_then as_str (get (keyword c) json)) ++ rules_under cs json

abbrev pub rules_in : Option Data → List (Category × List ℕ)
rules_in None = []
rules_in (Some json) = rules_under categories json

-- the rules of a bundle under a name, as they are written
abbrev pub rule_texts : List ℕ → Data → List (Category × List ℕ)
rule_texts name json = rules_in (get name json)

-- these are the rules that the texts say, and no others are
abbrev pub AreTheRules : List (Category × List ℕ) → List (Category × Alternatives) → Type 0
AreTheRules texts rules = AreRulesOf texts rules × AreOnlyRulesOf texts rules

-- each text is a rule
abbrev pub HasRules : List (Category × List ℕ) → Type 0
HasRules texts = (rules : List (Category × Alternatives)) × AreRulesOf texts rules

-- the first text under a name that is no rule
pub record HasRuleFault (name : List ℕ) (texts : List (Category × List ℕ)) (fault : BundleFault) : Type 0 where
  pub of : RuleFault
  pub first : HasFirstFault texts of
  pub is : fault ≡ fault_at code.Rule (entry_path name (keyword of.category))

abbrev pub ReadsRules : List ℕ → List (Category × List ℕ) → Result (List (Category × Alternatives))
    (Refusal BundleFault)
    → Type 0
ReadsRules name texts (Ok rules) = AreTheRules texts rules
ReadsRules name texts (Err (refusal.Because fault)) = HasRuleFault name texts fault
ReadsRules name texts (Err refusal.OutOfMemory) = Unit {0}
