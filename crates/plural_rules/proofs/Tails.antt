-- What is read of a text from a state on, as what the parts say.
use Rattle.std.proofs.Common.{◌≡◌, ℕ, List, [], ◌∷◌, ◌++◌, Option, Some, None, refl, ◌∙◌, ap}
use Rattle.std.specs.Option.{option_map}
use Rattle.plural_rules.specs.declared.condition.RulePart.{RulePart}
use Rattle.plural_rules.specs.declared.steps.RuleState.{RuleState}
use Rattle.plural_rules.specs.declared.steps.RuleStep.{RuleStep}
use Rattle.plural_rules.specs.declared.steps.Symbol.TheVariants.{At}
use Rattle.plural_rules.specs.Parts.{Rest, with_part, rest_of, nothing_more}
use Rattle.plural_rules.specs.NextStep.{option_to_list, parts_read, parts_after, next_step, symbol_of}

abbrev pub with_optional : Option RulePart → Rest → Rest
with_optional None rest = rest
with_optional (Some made) rest = with_part made rest

abbrev pub tail_after : (RuleState → Option Rest) → Option RuleStep → Option Rest
tail_after read None = None
tail_after read (Some step) = option_map (with_optional step.part) (read step.state)

abbrev pub tail_read : List ℕ → RuleState → Option Rest
tail_read [] from = option_map (λ (step : RuleStep). with_optional step.part nothing_more) (next_step from At)
tail_read (c ∷ cs) from = tail_after (tail_read cs) (next_step from (symbol_of c))

-- a part that is given comes first in the rest
rest_of-option_to_list : (made : Option RulePart) (parts : List RulePart)
    → rest_of (option_to_list made ++ parts) ≡ with_optional made (rest_of parts)
rest_of-option_to_list None parts = refl
rest_of-option_to_list (Some part) parts = refl

-- the same of what is read after a step
rest_of-parts_after : (made : Option RulePart) (read : Option (List RulePart))
    → option_map rest_of (option_map (λ parts. option_to_list made ++ parts) read)
    ≡ option_map (with_optional made) (option_map rest_of read)
rest_of-parts_after made None = refl
rest_of-parts_after made (Some parts) = ap Some (rest_of-option_to_list made parts)

-- the same where the text ends
rest_of-end : (step : Option RuleStep)
    → option_map rest_of (option_map (λ (s : RuleStep). option_to_list s.part) step)
    ≡ option_map (λ (s : RuleStep). with_optional s.part nothing_more) step
rest_of-end None = refl
rest_of-end (Some step) = ap Some (rest_of-alone step.part)
  where
    rest_of-alone : (made : Option RulePart) → rest_of (option_to_list made) ≡ with_optional made nothing_more
    rest_of-alone None = refl
    rest_of-alone (Some part) = refl

-- the parts that are read say the tail
pub tail_read-parts : (text : List ℕ) (from : RuleState)
    → option_map rest_of (parts_read text from) ≡ tail_read text from
tail_read-parts [] from = rest_of-end (next_step from At)
tail_read-parts (c ∷ cs) from = over (next_step from (symbol_of c)) (tail_read-parts cs)
  where
    over : (step : Option RuleStep) → ((to : RuleState) → option_map rest_of (parts_read cs to) ≡ tail_read cs to)
        → option_map rest_of (parts_after (parts_read cs) step) ≡ tail_after (tail_read cs) step
    over None inside = refl
    over (Some step) inside =
        rest_of-parts_after step.part (parts_read cs step.state)
        ∙ ap (option_map (with_optional step.part)) (inside step.state)
