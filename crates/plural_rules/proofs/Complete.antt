-- What the grammar has is read.
use Rattle.std.proofs.Common.{◌≡◌, ℕ, ◌+◌, ◌-◌, ◌*◌, ◌<◌, ◌≤◌, Bool, true, false, List, [], ◌∷◌, ◌++◌, Option, Some}
use Rattle.std.proofs.Common.{None, refl, sym, ◌∙◌, ap, append_assoc, arith}
use Rattle.std.specs.Prelude.{codes, nat_le, nat_lt}
use Rattle.std.specs.Option.{option_map}
use Rattle.std.proofs.lemmas.Iterator.Adapters.{option_map_id}
use Rattle.std.proofs.lemmas.Grind.{common_steps}
use Rattle.plural_rules.specs.declared.condition.Operand.{Operand}
use Rattle.plural_rules.specs.declared.condition.Operand.TheVariants as operand
use Rattle.plural_rules.specs.declared.condition.Values.{Values}
use Rattle.plural_rules.specs.declared.condition.RulePart.TheVariants as part
use Rattle.plural_rules.specs.declared.steps.Symbol.{Symbol}
use Rattle.plural_rules.specs.declared.steps.Symbol.TheVariants.{White, Digit, Comma, At, A, O}
use Rattle.plural_rules.specs.declared.steps.Slot.{Slot}
use Rattle.plural_rules.specs.declared.steps.Slot.TheVariants as slot
use Rattle.plural_rules.specs.declared.steps.RuleState.{RuleState}
use Rattle.plural_rules.specs.declared.steps.RuleState.TheVariants as state
use Rattle.plural_rules.specs.declared.steps.RuleStep.{RuleStep}
use Rattle.plural_rules.specs.Condition.{IsWhite, Spaced, IsValue, AreDigits, value_after, largest, IsModulus}
use Rattle.plural_rules.specs.Condition.{operator_of, letter_of, IsRange, Follow, Joined, IsRelation, IsAlternative}
use Rattle.plural_rules.specs.Condition.{IsEnd, AreSamples, Relation, Alternatives}
use Rattle.plural_rules.specs.Parts.{Rest, with_part, nothing_more}
use Rattle.plural_rules.specs.NextStep.{symbol_of, going, next_step, range_step, is_fit}
use Rattle.plural_rules.proofs.Symbols.{symbol_of-white, symbol_of-digit}
use Rattle.plural_rules.proofs.Tails.{with_optional, tail_after, tail_read}

-- white space is skipped where it may stand

-- a state that skips white space skips any of it
skipped : (from : RuleState) → next_step from White ≡ going from → (white : List ℕ) → IsWhite white → (text : List ℕ)
    → tail_read (white ++ text) from ≡ tail_read text from
skipped from skips [] blank text = refl
skipped from skips (c ∷ cs) blank text =
    rw (symbol_of-white c blank.0, skips)
    (option_map_id (tail_read (cs ++ text) from) ∙ skipped from skips cs blank.1 text)

-- digits

-- more digits make no smaller number
number_grows : (n : ℕ) (digits : List ℕ) → n ≤ value_after n digits
number_grows n [] = omega arith
number_grows n (c ∷ cs) = omega (arith, number_grows (10 * n + (c - 48)) cs)

-- the test of an order that holds
small_enough : (n m : ℕ) → n ≤ m → nat_le n m ≡ true
small_enough n m h = grind (arith, common_steps)

-- further digits are read up to the state after them
digits_read : (in_slot : Slot) (n : ℕ) (digits : List ℕ) → AreDigits digits → value_after n digits ≤ largest
    → (text : List ℕ)
    → tail_read (digits ++ text) (state.Digits in_slot n) ≡ tail_read text (state.Digits in_slot (value_after n digits))
digits_read in_slot n [] decimal within text = refl
digits_read in_slot n (c ∷ cs) decimal within text =
    let small : 10 * n + (c - 48) ≤ largest = omega (arith, number_grows (10 * n + (c - 48)) cs, within) in
    rw (symbol_of-digit c decimal.0, small_enough (10 * n + (c - 48)) largest small)
    (option_map_id (tail_read (cs ++ text) (state.Digits in_slot (10 * n + (c - 48))))
    ∙ digits_read in_slot (10 * n + (c - 48)) cs decimal.1 within text)

-- digits are read where a value has to come
first_digit : (in_slot : Slot) (digits : List ℕ) (n : ℕ) → AreDigits digits → (digits ≡ [] → ⊥)
    → value_after 0 digits ≡ n → n ≤ largest → (text : List ℕ)
    → tail_read (digits ++ text) (state.Value in_slot) ≡ tail_read text (state.Digits in_slot n)
first_digit in_slot [] n decimal some number within text = absurd (some refl)
first_digit in_slot (c ∷ cs) n decimal some number within text =
    let start : 10 * 0 + (c - 48) ≡ c - 48 = omega arith in
    let number' : value_after (c - 48) cs ≡ n = ap (λ k. value_after k cs) (sym start) ∙ number in
    let within' : value_after (c - 48) cs ≤ largest = rw number' within in
    rw (symbol_of-digit c decimal.0)
    (option_map_id (tail_read (cs ++ text) (state.Digits in_slot (c - 48)))
    ∙ (digits_read in_slot (c - 48) cs decimal.1 within' text
    ∙ ap (λ k. tail_read text (state.Digits in_slot k)) number'))

-- a value is read up to the state after its digits
value_read : (in_slot : Slot) (value : List ℕ) (n : ℕ) → IsValue value n → (text : List ℕ)
    → tail_read (value ++ text) (state.Value in_slot) ≡ tail_read text (state.Digits in_slot n)
value_read in_slot value n v text =
    rw (v.spaced.whole, append_assoc v.spaced.white v.digits text)
    (skipped (state.Value in_slot) refl v.spaced.white v.spaced.blank (v.digits ++ text)
    ∙ first_digit in_slot v.digits n v.decimal v.some v.number v.within text)

-- after the digits, an operator or a keyword, or the end

abbrev IsNoDigit : Symbol → Type 0
IsNoDigit (Digit d) = ⊥
IsNoDigit White = ⊥
IsNoDigit _ = Unit {0}

abbrev GoesOn : List ℕ → Type 0
GoesOn [] = Unit {0}
GoesOn (c ∷ cs) = IsNoDigit (symbol_of c)

-- without a digit or white space, the state after the digits has the steps of the state after the value
same_step : (in_slot : Slot) (n : ℕ) (s : Symbol) → is_fit in_slot n ≡ true → IsNoDigit s
    → next_step (state.Digits in_slot n) s ≡ next_step (state.After in_slot n) s
same_step in_slot n (Digit d) fit other = absurd other
same_step in_slot n White fit other = absurd other
same_step in_slot n s fit other = rw fit

-- white space ends the digits
white_step : (in_slot : Slot) (n : ℕ) → is_fit in_slot n ≡ true
    → next_step (state.Digits in_slot n) White ≡ going (state.After in_slot n)
white_step in_slot n fit = rw fit

-- white space and what goes on from it are read as after the value
after_digits : (in_slot : Slot) (n : ℕ) → is_fit in_slot n ≡ true → (white : List ℕ) → IsWhite white → (text : List ℕ)
    → GoesOn text
    → tail_read (white ++ text) (state.Digits in_slot n) ≡ tail_read text (state.After in_slot n)
after_digits in_slot n fit [] blank [] on =
    ap (option_map (λ (step : RuleStep). with_optional step.part nothing_more)) (same_step in_slot n At fit tt)
after_digits in_slot n fit [] blank (c ∷ cs) on =
    ap (tail_after (tail_read cs)) (same_step in_slot n (symbol_of c) fit on)
after_digits in_slot n fit (c ∷ cs) blank text on =
    rw (symbol_of-white c blank.0, white_step in_slot n fit)
    (option_map_id (tail_read (cs ++ text) (state.After in_slot n))
    ∙ skipped (state.After in_slot n) refl cs blank.1 text)

-- what is read once a value or a range has ended
abbrev joint_read : Values → List ℕ → Option Rest
joint_read range [] = option_map (λ (step : RuleStep). with_optional step.part nothing_more) (range_step range At)
joint_read range (c ∷ cs) = tail_after (tail_read cs) (range_step range (symbol_of c))

abbrev IsJoint : Symbol → Type 0
IsJoint Comma = Unit {0}
IsJoint A = Unit {0}
IsJoint O = Unit {0}
IsJoint At = Unit {0}
IsJoint _ = ⊥

abbrev Joins : List ℕ → Type 0
Joins [] = Unit {0}
Joins (c ∷ cs) = IsJoint (symbol_of c)

-- what may come after values is no digit and no white space
joint_no_digit : (s : Symbol) → IsJoint s → IsNoDigit s
joint_no_digit Comma j = tt
joint_no_digit A j = tt
joint_no_digit O j = tt
joint_no_digit At j = tt
joint_no_digit _ j = absurd j

-- the same of a text
joins_on : (text : List ℕ) → Joins text → GoesOn text
joins_on [] j = tt
joins_on (c ∷ cs) j = joint_no_digit (symbol_of c) j

-- at this state the range may have ended
record Pending (range : Values) (from : RuleState) : Type 0 where
  ended : (white : List ℕ) → IsWhite white → (text : List ℕ) → Joins text
      → tail_read (white ++ text) from ≡ joint_read range text

-- after a value alone these symbols end a relation's value
first_joint : (n : ℕ) (s : Symbol) → IsJoint s
    → next_step (state.After slot.First n) s ≡ range_step (record { first = n; last = n }) s
first_joint n Comma j = refl
first_joint n A j = refl
first_joint n O j = refl
first_joint n At j = refl
first_joint n _ j = absurd j

-- after the last value of a range too
last_joint : (first n : ℕ) (s : Symbol) → IsJoint s
    → next_step (state.After (slot.Last first) n) s ≡ range_step (record { first = first; last = n }) s
last_joint first n Comma j = refl
last_joint first n A j = refl
last_joint first n O j = refl
last_joint first n At j = refl
last_joint first n _ j = absurd j

-- so a text is read after a value as after values
first_read : (n : ℕ) (text : List ℕ) → Joins text
    → tail_read text (state.After slot.First n) ≡ joint_read (record { first = n; last = n }) text
first_read n [] j = refl
first_read n (c ∷ cs) j = ap (tail_after (tail_read cs)) (first_joint n (symbol_of c) j)

-- and after a range
last_read : (first n : ℕ) (text : List ℕ) → Joins text
    → tail_read text (state.After (slot.Last first) n) ≡ joint_read (record { first = first; last = n }) text
last_read first n [] j = refl
last_read first n (c ∷ cs) j = ap (tail_after (tail_read cs)) (last_joint first n (symbol_of c) j)

-- a value may have ended after its digits
pending_first : (n : ℕ) → Pending (record { first = n; last = n }) (state.Digits slot.First n)
pending_first n =
    record {
      ended = λ white blank text j. after_digits slot.First n refl white blank text (joins_on text j)
          ∙ first_read n text j;
    }

-- a range may have ended after the digits of its last value
pending_last : (first n : ℕ) → Pending (record { first = first; last = n }) (state.Digits (slot.Last first) n)
pending_last first n =
    record {
      ended = λ white blank text j. after_digits (slot.Last first) n refl white blank text (joins_on text j)
          ∙ last_read first n text j;
    }

-- a value or range is read up to a state where it may have ended
record ReadsTo (range : Values) (value : List ℕ) : Type 0 where
  to : RuleState
  pending : Pending range to
  reads : (text : List ℕ) → tail_read (value ++ text) (state.Value slot.First) ≡ tail_read text to

-- two dots, and what comes after them
dots_read : (first : ℕ) (dots : List ℕ) → Spaced (codes "..") dots → (text : List ℕ)
    → tail_read (dots ++ text) (state.Digits slot.First first) ≡ tail_read text (state.Value (slot.Last first))
dots_read first dots s text =
    rw (s.whole, append_assoc s.white (codes "..") text)
    (after_digits slot.First first refl s.white s.blank (codes ".." ++ text) tt
    ∙ (option_map_id _ ∙ option_map_id (tail_read text (state.Value (slot.Last first)))))

-- a value or range is read
range_read : (value : List ℕ) (range : Values) → IsRange value range → ReadsTo range value
range_read _ _ (IsRange.single value n v) =
    record { to = state.Digits slot.First n; pending = pending_first n; reads = value_read slot.First value n v }
range_read _ _ (IsRange.pair low dots high first last v s w) = record {
  to = state.Digits (slot.Last first) last;
  pending = pending_last first last;
  reads = λ text. rw (append_assoc low (dots ++ high) text, append_assoc dots high text)
      (value_read slot.First low first v (dots ++ (high ++ text))
      ∙ (dots_read first dots s (high ++ text) ∙ value_read (slot.Last first) high last w text));
}

-- after any value or range, the text reads as this rest
record Continues (text : List ℕ) (rest : Rest) : Type 0 where
  reads : (range : Values) (from : RuleState) → Pending range from
      → tail_read text from ≡ Some (with_part (part.Values range) rest)

-- a separator after a value or range
joined_read : (range : Values) (from : RuleState) → Pending range from → (separator join text : List ℕ)
    → Spaced separator join → Joins (separator ++ text)
    → tail_read (join ++ text) from ≡ joint_read range (separator ++ text)
joined_read range from pending separator join text s j =
    rw (s.whole, append_assoc s.white separator text) (pending.ended s.white s.blank (separator ++ text) j)

-- samples are skipped
samples_read : (samples : List ℕ) → tail_read samples state.Samples ≡ Some nothing_more
samples_read [] = refl
samples_read (c ∷ cs) = option_map_id (tail_read cs state.Samples) ∙ samples_read cs

-- samples may come after values
samples_join : (samples : List ℕ) → AreSamples samples → Joins samples
samples_join [] are = tt
samples_join (c ∷ cs) are = rw are tt

-- the samples after values give nothing more
samples_joint : (range : Values) (samples : List ℕ) → AreSamples samples
    → joint_read range samples ≡ Some (with_part (part.Values range) nothing_more)
samples_joint range [] are = refl
samples_joint range (c ∷ cs) are = rw (are, samples_read cs) refl

-- an end gives nothing more
end_continues : (ending : List ℕ) → IsEnd ending → Continues ending nothing_more
end_continues ending e = record {
  reads = λ range from pending.
      rw (e.spaced.whole) (pending.ended e.spaced.white e.spaced.blank e.samples (samples_join e.samples e.are)
      ∙ samples_joint range e.samples e.are);
}

-- further values and ranges are read
values_continue : (list : List ℕ) (ranges : List Values) → Follow (codes ",") IsRange list ranges
    → (text : List ℕ) (more : List Relation) (others : Alternatives)
    → Continues text (record { ranges = []; relations = more; alternatives = others })
    → Continues (list ++ text) (record { ranges = ranges; relations = more; alternatives = others })
values_continue _ _ Follow.none text more others on = on
values_continue _ _ (Follow.more join item list x xs s i f) text more others on =
    let inside = values_continue list xs f text more others on in
    let to = range_read item x i in
    record {
      reads = λ range from pending.
          rw (append_assoc join (item ++ list) text, append_assoc item list text)
          (joined_read range from pending (codes ",") join (item ++ (list ++ text)) s tt
          ∙ ap (option_map (with_part (part.Values range)))
          (to.reads (list ++ text) ∙ inside.reads x to.to to.pending));
    }

-- an operator, and the values after it
abbrev operator_read : Operand → Option ℕ → Bool → List ℕ → Option Rest
operator_read of by equal text =
    option_map (with_part (part.Comparison (record { operand = of; modulus = by; equal = equal })))
    (tail_read text (state.Value slot.First))

-- an operator is read after an operand
operator_after_operand : (of : Operand) (equal : Bool) (text : List ℕ)
    → tail_read (operator_of equal ++ text) (state.Operand of) ≡ operator_read of None equal text
operator_after_operand of true text = refl
operator_after_operand of false text = option_map_id (operator_read of None false text)

-- an operator is read after a modulus
operator_after_modulus : (of : Operand) (n : ℕ) (equal : Bool) (text : List ℕ)
    → tail_read (operator_of equal ++ text) (state.After (slot.Modulus of) n) ≡ operator_read of (Some n) equal text
operator_after_modulus of n true text = refl
operator_after_modulus of n false text = option_map_id (operator_read of (Some n) false text)

-- an operator is no digit and no white space
operator_goes_on : (equal : Bool) (text : List ℕ) → GoesOn (operator_of equal ++ text)
operator_goes_on true text = tt
operator_goes_on false text = tt

-- the test of a number above 0
positive : (n : ℕ) → 0 < n → nat_lt 0 n ≡ true
positive n h = grind (arith, common_steps)

-- a modulus, if any, and an operator
modulus_read : (of : Operand) (equal : Bool) (modulus : List ℕ) (by : Option ℕ) → IsModulus modulus by
    → (operator : List ℕ) → Spaced (operator_of equal) operator → (text : List ℕ)
    → tail_read (modulus ++ (operator ++ text)) (state.Operand of) ≡ operator_read of by equal text
modulus_read of equal _ _ IsModulus.plain operator s text =
    rw (s.whole, append_assoc s.white (operator_of equal) text)
    (skipped (state.Operand of) refl s.white s.blank (operator_of equal ++ text) ∙ operator_after_operand of equal text)
modulus_read of equal _ _ (IsModulus.remainder percent value m p v above) operator s text =
    rw (
      append_assoc percent value (operator ++ text),
      p.whole,
      append_assoc p.white (codes "%")
          (value ++ (operator ++ text)),
    )
    (skipped (state.Operand of) refl p.white p.blank (codes "%" ++ (value ++ (operator ++ text)))
    ∙ (option_map_id (tail_read (value ++ (operator ++ text)) (state.Value (slot.Modulus of)))
    ∙ (value_read (slot.Modulus of) value m v (operator ++ text)
    ∙ rw (s.whole, append_assoc s.white (operator_of equal) text)
    (after_digits (slot.Modulus of) m (positive m above) s.white s.blank (operator_of equal ++ text)
    (operator_goes_on equal text) ∙ operator_after_modulus of m equal text))))

-- the letter of an operand is read
letter_read : (of : Operand) (text : List ℕ)
    → tail_read (letter_of of ++ text) state.Relation ≡ tail_read text (state.Operand of)
letter_read operand.N text = option_map_id (tail_read text (state.Operand operand.N))
letter_read operand.I text = option_map_id (tail_read text (state.Operand operand.I))
letter_read operand.V text = option_map_id (tail_read text (state.Operand operand.V))
letter_read operand.W text = option_map_id (tail_read text (state.Operand operand.W))
letter_read operand.F text = option_map_id (tail_read text (state.Operand operand.F))
letter_read operand.T text = option_map_id (tail_read text (state.Operand operand.T))
letter_read operand.C text = option_map_id (tail_read text (state.Operand operand.C))
letter_read operand.E text = option_map_id (tail_read text (state.Operand operand.E))

-- the values of a relation
list_read : (list : List ℕ) (ranges : List Values) → Joined (codes ",") IsRange list ranges
    → (text : List ℕ) (more : List Relation) (others : Alternatives)
    → Continues text (record { ranges = []; relations = more; alternatives = others })
    → tail_read (list ++ text) (state.Value slot.First)
    ≡ Some (record { ranges = ranges; relations = more; alternatives = others })
list_read _ _ (Joined.items item list x xs i f) text more others on =
    let to = range_read item x i in
    rw (append_assoc item list text)
    (to.reads (list ++ text) ∙ (values_continue list xs f text more others on).reads x to.to to.pending)

-- a relation is read
relation_read : (relation : List ℕ) (r : Relation) → IsRelation relation r
    → (text : List ℕ) (more : List Relation) (others : Alternatives)
    → Continues text (record { ranges = []; relations = more; alternatives = others })
    → tail_read (relation ++ text) state.Relation
    ≡ Some (record { ranges = []; relations = r ∷ more; alternatives = others })
relation_read _ _ (IsRelation.relation operand modulus operator list of by equal ranges o m s l) text more others on =
    let whole : (operand ++ (modulus ++ (operator ++ list))) ++ text ≡ o.white
    ++ (letter_of of ++ (modulus ++ (operator ++ (list ++ text)))) = rw (o.whole) (simp append_assoc) in
    rw whole
    (skipped state.Relation refl o.white o.blank (letter_of of ++ (modulus ++ (operator ++ (list ++ text))))
    ∙ (letter_read of (modulus ++ (operator ++ (list ++ text)))
    ∙ (modulus_read of equal modulus by m operator s (list ++ text)
    ∙ ap (option_map (with_part (part.Comparison (record { operand = of; modulus = by; equal = equal }))))
    (list_read list ranges l text more others on))))

-- the keyword `and` is read after values
and_read : (range : Values) (text : List ℕ)
    → joint_read range (codes "and" ++ text) ≡ option_map (with_part (part.Values range))
    (tail_read text state.Relation)
and_read range text =
    ap (option_map (with_part (part.Values range))) (option_map_id _ ∙ option_map_id (tail_read text state.Relation))

-- the keyword `or` is read after values
or_read : (range : Values) (text : List ℕ)
    → joint_read range (codes "or" ++ text) ≡ option_map (with_part (part.Values range))
    (option_map (with_part part.Alternative) (tail_read text state.Relation))
or_read range text = refl

-- further relations are read
relations_continue : (relations : List ℕ) (more : List Relation) → Follow (codes "and") IsRelation relations more
    → (text : List ℕ) (others : Alternatives)
    → Continues text (record { ranges = []; relations = []; alternatives = others })
    → Continues (relations ++ text) (record { ranges = []; relations = more; alternatives = others })
relations_continue _ _ Follow.none text others on = on
relations_continue _ _ (Follow.more join item list x xs s i f) text others on =
    let inside = relations_continue list xs f text others on in
    record {
      reads = λ range from pending.
          rw (append_assoc join (item ++ list) text, append_assoc item list text)
          (joined_read range from pending (codes "and") join (item ++ (list ++ text)) s tt
          ∙ (and_read range (item ++ (list ++ text))
          ∙ ap (option_map (with_part (part.Values range))) (relation_read item x i (list ++ text) xs others inside)));
    }

-- an alternative is read
alternative_read : (alternative : List ℕ) (relations : List Relation) → IsAlternative alternative relations
    → (text : List ℕ) (others : Alternatives)
    → Continues text (record { ranges = []; relations = []; alternatives = others })
    → option_map (with_part part.Alternative) (tail_read (alternative ++ text) state.Relation)
    ≡ Some (record { ranges = []; relations = []; alternatives = relations ∷ others })
alternative_read _ _ (Joined.items item list x xs i f) text others on =
    rw (append_assoc item list text)
    (ap (option_map (with_part part.Alternative))
    (relation_read item x i (list ++ text) xs others (relations_continue list xs f text others on)))

-- further alternatives are read
alternatives_continue : (alternatives : List ℕ) (others : Alternatives)
    → Follow (codes "or") IsAlternative alternatives others → (text : List ℕ)
    → Continues text nothing_more
    → Continues (alternatives ++ text) (record { ranges = []; relations = []; alternatives = others })
alternatives_continue _ _ Follow.none text on = on
alternatives_continue _ _ (Follow.more join item list x xs s i f) text on =
    let inside = alternatives_continue list xs f text on in
    record {
      reads = λ range from pending.
          rw (append_assoc join (item ++ list) text, append_assoc item list text)
          (joined_read range from pending (codes "or") join (item ++ (list ++ text)) s tt
          ∙ (or_read range (item ++ (list ++ text))
          ∙ ap (option_map (with_part (part.Values range))) (alternative_read item x i (list ++ text) xs inside)));
    }

-- a whole condition and its end are read
pub alternatives_read : (condition : List ℕ) (says : Alternatives) → Joined (codes "or") IsAlternative condition says
    → (ending : List ℕ) → IsEnd ending
    → option_map (with_part part.Alternative) (tail_read (condition ++ ending) state.Relation)
    ≡ Some (record { ranges = []; relations = []; alternatives = says })
alternatives_read _ _ (Joined.items item list x xs i f) ending e =
    rw (append_assoc item list ending)
    (alternative_read item x i (list ++ ending) xs (alternatives_continue list xs f ending (end_continues ending e)))

-- the condition of other is read
pub blank_read : (ending : List ℕ) → IsEnd ending → tail_read ending state.Blank ≡ Some nothing_more
blank_read ending e =
    rw (e.spaced.whole) (skipped state.Blank refl e.spaced.white e.spaced.blank e.samples
    ∙ samples_after_blank e.samples e.are)
  where
    samples_after_blank : (samples : List ℕ) → AreSamples samples → tail_read samples state.Blank ≡ Some nothing_more
    samples_after_blank [] are = refl
    samples_after_blank (c ∷ cs) are = rw (are, samples_read cs) refl
