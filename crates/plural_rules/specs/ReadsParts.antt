-- What the reader answers for a text of a category: the parts that it read, or the fault at the end of the prefix that
-- it read.
-- Example: `n is 2` is read up to its third character, and `n = 1, 3` gives the parts Alternative, Comparison n, 1..1
-- and 3..3.
use Rattle.std.specs.Prelude.{◌≡◌, ℕ, length, List, ◌++◌, Option, Some, None, Result, Ok, Err, encode_utf8_all}
use Rattle.std.specs.declared.alloc.AllocError.{AllocError}
use Rattle.std.specs.Option.{option_map}
use Rattle.std.specs.declared.vec.Vec.{Vec}
use Rattle.std.specs.declared.alloc.Global.{Global}
use Rattle.plural_rules.specs.declared.category.Category.{Category}
use Rattle.plural_rules.specs.declared.condition.RulePart.{RulePart}
use Rattle.plural_rules.specs.declared.rules.RuleRefusal.{RuleRefusal}
use Rattle.plural_rules.specs.declared.rules.RuleRefusal.TheVariants.{Because, OutOfMemory}
use Rattle.plural_rules.specs.declared.steps.RuleState.{RuleState}
use Rattle.plural_rules.specs.declared.steps.RuleStep.{RuleStep}
use Rattle.plural_rules.specs.NextStep.{start_step, option_to_list, parts_read, prefix_read}

-- a step's part is appended, and its state is next
abbrev pub AppendsPart : RuleStep → List RulePart → List RulePart → Result RuleState AllocError → Type 0
AppendsPart step old new (Ok to) = (to ≡ step.state) × (new ≡ old ++ option_to_list step.part)
AppendsPart step old new (Err _) = Unit {0}

-- the parts that are read of a text of the category
abbrev pub condition_read : Category → List ℕ → Option (List RulePart)
condition_read category text =
    option_map (λ parts. option_to_list (start_step category).part ++ parts)
    (parts_read text (start_step category).state)

-- how many bytes are read of it
abbrev pub bytes_read : Category → List ℕ → ℕ
bytes_read category text = length (encode_utf8_all (prefix_read text (start_step category).state))

abbrev pub fault_at : Category → ℕ → RuleRefusal
fault_at category at = Because (record { category = category; at = at })

abbrev pub RefusesText : Category → List ℕ → RuleRefusal → Type 0
RefusesText category text (Because fault) =
    (condition_read category text ≡ None) × (fault ≡ record { category = category; at = bytes_read category text })
RefusesText category text OutOfMemory = Unit {0}

abbrev pub ReadsParts : Category → List ℕ → Result (Vec RulePart Global) RuleRefusal → Type 0
ReadsParts category text (Ok parts) = condition_read category text ≡ Some parts.items
ReadsParts category text (Err refusal) = RefusesText category text refusal
