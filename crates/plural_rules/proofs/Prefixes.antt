-- What is read of a text is the longest prefix with which a rule begins.
use Rattle.std.proofs.Common.{◌≡◌, ℕ, zero, suc, ◌≤◌, length, List, [], ◌∷◌, ◌++◌, Option, Some, None, refl, ap, arith}
use Rattle.std.specs.Prelude.{codes, nat_lt, true}
use Rattle.std.proofs.lemmas.Grind.{common_steps}
use Rattle.std.specs.Option.{option_map}
use Rattle.plural_rules.specs.declared.condition.RulePart.{RulePart}
use Rattle.plural_rules.specs.declared.condition.RulePart.TheVariants as part
use Rattle.plural_rules.specs.declared.steps.Slot.{Slot}
use Rattle.plural_rules.specs.declared.steps.Slot.TheVariants as slot
use Rattle.plural_rules.specs.declared.steps.RuleState.{RuleState}
use Rattle.plural_rules.specs.declared.steps.RuleState.TheVariants as state
use Rattle.plural_rules.specs.declared.steps.RuleStep.{RuleStep}
use Rattle.plural_rules.specs.NextStep.{option_to_list, parts_read, parts_after, prefix_read, prefix_after, next_step}
use Rattle.plural_rules.specs.NextStep.{symbol_of}

-- the text is read to its end
abbrev pub IsRead : List ℕ → RuleState → Type 0
IsRead text from = (parts : List RulePart) × (parts_read text from ≡ Some parts)

-- what completes a rule at a state
record Completes (from : RuleState) : Type 0 where
  more : List ℕ
  parts : List RulePart
  reads : parts_read more from ≡ Some parts

-- the test of a number above 0
above_zero : (n : ℕ) → nat_lt 0 (suc n) ≡ true
above_zero n = grind (arith, common_steps)

-- a rule can be completed after a digit
digits_completed : (in_slot : Slot) (n : ℕ) → Completes (state.Digits in_slot n)
digits_completed (slot.Modulus of) zero = record { more = codes "1=1"; parts = _; reads = refl }
digits_completed (slot.Modulus of) (suc n) = record {
  more = codes "=1";
  parts =
      part.Comparison (record { operand = of; modulus = Some (suc n); equal = true })
      ∷ part.Values (record { first = 1; last = 1 }) ∷ [];
  reads = rw (above_zero n) refl;
}
digits_completed slot.First n = record { more = []; parts = _; reads = refl }
digits_completed (slot.Last first) n = record { more = []; parts = _; reads = refl }

-- after a value
after_completed : (in_slot : Slot) (n : ℕ) → Completes (state.After in_slot n)
after_completed (slot.Modulus of) n = record { more = codes "=1"; parts = _; reads = refl }
after_completed slot.First n = record { more = []; parts = _; reads = refl }
after_completed (slot.Last first) n = record { more = []; parts = _; reads = refl }

-- where a value has to come
value_completed : (in_slot : Slot) → Completes (state.Value in_slot)
value_completed (slot.Modulus of) = record { more = codes "1=1"; parts = _; reads = refl }
value_completed slot.First = record { more = codes "1"; parts = _; reads = refl }
value_completed (slot.Last first) = record { more = codes "1"; parts = _; reads = refl }

-- at every state
completed : (from : RuleState) → Completes from
completed state.Relation = record { more = codes "n=1"; parts = _; reads = refl }
completed (state.Operand of) = record { more = codes "=1"; parts = _; reads = refl }
completed (state.Exclamation of by) = record { more = codes "=1"; parts = _; reads = refl }
completed (state.Value in_slot) = value_completed in_slot
completed (state.Digits in_slot n) = digits_completed in_slot n
completed (state.After in_slot n) = after_completed in_slot n
completed (state.Dot first) = record { more = codes ".1"; parts = _; reads = refl }
completed state.A = record { more = codes "ndn=1"; parts = _; reads = refl }
completed state.An = record { more = codes "dn=1"; parts = _; reads = refl }
completed state.O = record { more = codes "rn=1"; parts = _; reads = refl }
completed state.Samples = record { more = []; parts = _; reads = refl }
completed state.Blank = record { more = []; parts = _; reads = refl }

-- the prefix that is read begins a text that is read to its end
pub prefix_begins : (text : List ℕ) (from : RuleState) → (more : List ℕ) × IsRead (prefix_read text from ++ more) from
prefix_begins [] from = let c = completed from in (c.more, (c.parts, c.reads))
prefix_begins (c ∷ cs) from = over (next_step from (symbol_of c)) refl (prefix_begins cs)
  where
    over : (step : Option RuleStep) → next_step from (symbol_of c) ≡ step
        → ((to : RuleState) → (more : List ℕ) × IsRead (prefix_read cs to ++ more) to)
        → (more : List ℕ) × IsRead (prefix_after c (prefix_read cs) step ++ more) from
    over None is inside = let e = completed from in (e.more, (e.parts, e.reads))
    over (Some step) is inside =
        let i = inside step.state in
        (i.0, (option_to_list step.part ++ i.1.0, rw (is, i.1.1) refl))

-- the prefix that is read begins the text
pub prefix_read-rest : (text : List ℕ) (from : RuleState) → (rest : List ℕ) × (text ≡ prefix_read text from ++ rest)
prefix_read-rest [] from = ([], refl)
prefix_read-rest (c ∷ cs) from = over (next_step from (symbol_of c)) (prefix_read-rest cs)
  where
    over : (step : Option RuleStep) → ((to : RuleState) → (rest : List ℕ) × (cs ≡ prefix_read cs to ++ rest))
        → (rest : List ℕ) × (c ∷ cs ≡ prefix_after c (prefix_read cs) step ++ rest)
    over None inside = (c ∷ cs, refl)
    over (Some step) inside = let i = inside step.state in (i.0, ap (λ t. c ∷ t) i.1)

-- what is read from the next state on
inner_read : (step : RuleStep) (read : Option (List RulePart)) (parts : List RulePart)
    → option_map (λ more. option_to_list step.part ++ more) read ≡ Some parts → (inner : List RulePart)
    × (read ≡ Some inner)
inner_read step None parts h = absurd (cc h)
inner_read step (Some inner) parts h = (inner, refl)

-- a prefix of the text that begins a text that is read to its end is no longer
pub prefix_read-longest : (prefix after more : List ℕ) (from : RuleState) → IsRead (prefix ++ more) from
    → length prefix ≤ length (prefix_read (prefix ++ after) from)
prefix_read-longest [] after more from read = omega arith
prefix_read-longest (c ∷ cs) after more from read =
    over (next_step from (symbol_of c)) read.0 read.1 (prefix_read-longest cs after more)
  where
    over : (step : Option RuleStep) (parts : List RulePart) → parts_after (parts_read (cs ++ more)) step ≡ Some parts
        → ((to : RuleState) → IsRead (cs ++ more) to → length cs ≤ length (prefix_read (cs ++ after) to))
        → suc (length cs) ≤ length (prefix_after c (prefix_read (cs ++ after)) step)
    over None parts h inside = absurd (cc h)
    over (Some step) parts h inside =
        let below = inside step.state (inner_read step (parts_read (cs ++ more) step.state) parts h) in omega
        (arith, below)
