-- The reader of rules as a machine that takes one character a step: its state in a rule, what a character is to it,
-- and where it goes. It has no step at a character with which no rule goes on.
-- Example: after `n = 1` a comma gives the part 1..1, and a value has to come; after `n` a comma has no step.
use Rattle.std.specs.Prelude.{ℕ, ◌+◌, ◌-◌, ◌*◌, Bool, true, false, ◌==◌, nat_le, nat_lt, if◌then◌else◌, List, [], ◌∷◌}
use Rattle.std.specs.Prelude.{◌++◌, Option, Some, None}
use Rattle.std.specs.Char.{is_ascii_digit}
use Rattle.std.specs.Option.{option_map}
use Rattle.plural_rules.specs.declared.category.Category.{Category}
use Rattle.plural_rules.specs.declared.category.Category.TheVariants.{Other}
use Rattle.plural_rules.specs.declared.condition.Operand.{Operand}
use Rattle.plural_rules.specs.declared.condition.Operand.TheVariants as operand
use Rattle.plural_rules.specs.declared.condition.Values.{Values}
use Rattle.plural_rules.specs.declared.condition.RulePart.{RulePart}
use Rattle.plural_rules.specs.declared.condition.RulePart.TheVariants as part
use Rattle.plural_rules.specs.declared.steps.Symbol.{Symbol}
use Rattle.plural_rules.specs.declared.steps.Symbol.TheVariants.{White, Digit, Percent, Equals, Exclamation, Dot, Comma}
use Rattle.plural_rules.specs.declared.steps.Symbol.TheVariants.{At, Letter, A, D, O, R, Foreign}
use Rattle.plural_rules.specs.declared.steps.Slot.{Slot}
use Rattle.plural_rules.specs.declared.steps.Slot.TheVariants as slot
use Rattle.plural_rules.specs.declared.steps.RuleState.{RuleState}
use Rattle.plural_rules.specs.declared.steps.RuleState.TheVariants as state
use Rattle.plural_rules.specs.declared.steps.RuleStep.{RuleStep}
use Rattle.plural_rules.specs.Condition.{is_white, largest}

-- what a letter is to the reader: an operand, or a letter of the keywords `and` and `or`
abbrev pub letter_symbol_of : ℕ → Symbol
letter_symbol_of c =
    if c == 110 then Letter operand.N else
    if c == 105 then Letter operand.I else
    if c == 118 then Letter operand.V else
    if c == 119 then Letter operand.W else
    if c == 102 then Letter operand.F else
    if c == 116 then Letter operand.T else
    if c == 99 then Letter operand.C else
    if c == 101 then Letter operand.E else
    if c == 97 then A else
    if c == 100 then D else
    if c == 111 then O else
    if c == 114 then R else Foreign

-- what a character is to the reader
abbrev pub symbol_of : ℕ → Symbol
symbol_of c =
    if is_white c then White else
    if is_ascii_digit c then Digit (c - 48) else
    if c == 37 then Percent else
    if c == 61 then Equals else
    if c == 33 then Exclamation else
    if c == 46 then Dot else
    if c == 44 then Comma else
    if c == 64 then At else
    letter_symbol_of c

abbrev pub going : RuleState → Option RuleStep
going to = Some (record { state = to; part = None })

abbrev pub giving : RulePart → RuleState → Option RuleStep
giving made to = Some (record { state = to; part = Some made })

-- where a relation has to come
abbrev pub relation_step : Symbol → Option RuleStep
relation_step White = going state.Relation
relation_step (Letter of) = going (state.Operand of)
relation_step _ = None

-- an operator has come, and values have to come
abbrev pub comparison_step : Operand → Option ℕ → Bool → Option RuleStep
comparison_step of by equal =
    giving (part.Comparison (record { operand = of; modulus = by; equal = equal })) (state.Value slot.First)

-- where the operator of a relation has to come
abbrev pub operator_step : Operand → Option ℕ → Symbol → Option RuleStep
operator_step of by Equals = comparison_step of by true
operator_step of by Exclamation = going (state.Exclamation of by)
operator_step of by _ = None

-- after an operand
abbrev pub operand_step : Operand → Symbol → Option RuleStep
operand_step of White = going (state.Operand of)
operand_step of Percent = going (state.Value (slot.Modulus of))
operand_step of symbol = operator_step of None symbol

-- after `!`
abbrev pub exclamation_step : Operand → Option ℕ → Symbol → Option RuleStep
exclamation_step of by Equals = comparison_step of by false
exclamation_step of by _ = None

-- where a value has to come
abbrev pub value_step : Slot → Symbol → Option RuleStep
value_step in_slot White = going (state.Value in_slot)
value_step in_slot (Digit d) = going (state.Digits in_slot d)
value_step in_slot _ = None

-- after the values of a relation, or one of them
abbrev pub range_step : Values → Symbol → Option RuleStep
range_step range Comma = giving (part.Values range) (state.Value slot.First)
range_step range A = giving (part.Values range) state.A
range_step range O = giving (part.Values range) state.O
range_step range At = giving (part.Values range) state.Samples
range_step range _ = None

-- after a value that may begin a range
abbrev pub first_step : ℕ → Symbol → Option RuleStep
first_step n Dot = going (state.Dot n)
first_step n symbol = range_step (record { first = n; last = n }) symbol

-- after a value, with no white space to come
abbrev pub after_step : Slot → ℕ → Symbol → Option RuleStep
after_step (slot.Modulus of) n symbol = operator_step of (Some n) symbol
after_step slot.First n symbol = first_step n symbol
after_step (slot.Last first) n symbol = range_step (record { first = first; last = n }) symbol

-- after a value and white space
abbrev pub spaced_step : Slot → ℕ → Symbol → Option RuleStep
spaced_step in_slot n White = going (state.After in_slot n)
spaced_step in_slot n symbol = after_step in_slot n symbol

-- a modulus is above 0
abbrev pub is_fit : Slot → ℕ → Bool
is_fit (slot.Modulus of) n = nat_lt 0 n
is_fit _ n = true

-- one more digit of a value
abbrev pub digit_step : Slot → ℕ → Option RuleStep
digit_step in_slot n = if nat_le n largest then going (state.Digits in_slot n) else None

-- after the last digit of a value
abbrev pub digits_end_step : Slot → ℕ → Symbol → Option RuleStep
digits_end_step in_slot n symbol = (if is_fit in_slot n then spaced_step in_slot n symbol else None)

-- after a digit of a value
abbrev pub digits_step : Slot → ℕ → Symbol → Option RuleStep
digits_step in_slot n (Digit d) = digit_step in_slot (10 * n + d)
digits_step in_slot n symbol = digits_end_step in_slot n symbol

-- after the first of the two dots of a range
abbrev pub dot_step : ℕ → Symbol → Option RuleStep
dot_step first Dot = going (state.Value (slot.Last first))
dot_step first _ = None

-- in the keywords `and` and `or`
abbrev pub a_step : Symbol → Option RuleStep
a_step (Letter operand.N) = going state.An
a_step _ = None

abbrev pub an_step : Symbol → Option RuleStep
an_step D = going state.Relation
an_step _ = None

abbrev pub o_step : Symbol → Option RuleStep
o_step R = giving part.Alternative state.Relation
o_step _ = None

-- in the condition of other
abbrev pub blank_step : Symbol → Option RuleStep
blank_step White = going state.Blank
blank_step At = going state.Samples
blank_step _ = None

abbrev pub next_step : RuleState → Symbol → Option RuleStep
next_step state.Relation symbol = relation_step symbol
next_step (state.Operand of) symbol = operand_step of symbol
next_step (state.Exclamation of by) symbol = exclamation_step of by symbol
next_step (state.Value in_slot) symbol = value_step in_slot symbol
next_step (state.Digits in_slot n) symbol = digits_step in_slot n symbol
next_step (state.After in_slot n) symbol = spaced_step in_slot n symbol
next_step (state.Dot first) symbol = dot_step first symbol
next_step state.A symbol = a_step symbol
next_step state.An symbol = an_step symbol
next_step state.O symbol = o_step symbol
next_step state.Samples symbol = going state.Samples
next_step state.Blank symbol = blank_step symbol

-- the part that a step gives, if any
abbrev pub option_to_list : Option RulePart → List RulePart
option_to_list None = []
option_to_list (Some made) = made ∷ []

-- the parts that a step and the states after it give
abbrev pub parts_after : (RuleState → Option (List RulePart)) → Option RuleStep → Option (List RulePart)
parts_after read None = None
parts_after read (Some step) = option_map (λ parts. option_to_list step.part ++ parts) (read step.state)

-- the parts that are read of a text from a state on; a text may end where samples may come
abbrev pub parts_read : List ℕ → RuleState → Option (List RulePart)
parts_read [] from = option_map (λ step. option_to_list step.part) (next_step from At)
parts_read (c ∷ cs) from = parts_after (parts_read cs) (next_step from (symbol_of c))

-- the characters that are read of a text from a state on
abbrev pub prefix_after : ℕ → (RuleState → List ℕ) → Option RuleStep → List ℕ
prefix_after c read None = []
prefix_after c read (Some step) = c ∷ read step.state

abbrev pub prefix_read : List ℕ → RuleState → List ℕ
prefix_read [] from = []
prefix_read (c ∷ cs) from = prefix_after c (prefix_read cs) (next_step from (symbol_of c))

-- the state where a rule begins, and the part that begins it
abbrev pub start_step : Category → RuleStep
start_step Other = record { state = state.Blank; part = None }
start_step _ = record { state = state.Relation; part = Some part.Alternative }
