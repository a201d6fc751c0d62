-- How a rule goes on from each state of the reader.
use Rattle.std.proofs.Common.{◌≡◌, ℕ, ◌<◌, ◌≤◌, Bool, false, List, [], ◌∷◌, ◌++◌, Option, Some}
use Rattle.std.specs.Prelude.{codes}
use Rattle.plural_rules.specs.declared.condition.Operand.{Operand}
use Rattle.plural_rules.specs.declared.condition.Comparison.{Comparison}
use Rattle.plural_rules.specs.declared.condition.Values.{Values}
use Rattle.plural_rules.specs.declared.condition.RulePart.{RulePart}
use Rattle.plural_rules.specs.declared.condition.RulePart.TheVariants as part
use Rattle.plural_rules.specs.declared.steps.Slot.{Slot}
use Rattle.plural_rules.specs.declared.steps.Slot.TheVariants as slot
use Rattle.plural_rules.specs.declared.steps.RuleState.{RuleState}
use Rattle.plural_rules.specs.declared.steps.RuleState.TheVariants as state
use Rattle.plural_rules.specs.Condition.{Spaced, IsValue, AreDigits, value_after, largest, IsModulus, operator_of}
use Rattle.plural_rules.specs.Condition.{IsRange, Follow, IsRelation, IsAlternative, IsEnd, Relation, Alternatives}
use Rattle.plural_rules.specs.Parts.{Rest, with_part, nothing_more}

-- what may come after a relation: more relations, more alternatives, and the end
pub record Onward (text : List ℕ) (more : List Relation) (others : Alternatives) : Type 0 where
  pub relations : List ℕ
  pub alternatives : List ℕ
  pub ending : List ℕ
  pub whole : text ≡ relations ++ (alternatives ++ ending)
  pub relations_are : Follow (codes "and") IsRelation relations more
  pub alternatives_are : Follow (codes "or") IsAlternative alternatives others
  pub ends : IsEnd ending

-- what may come after a value or range: more of them, and then what may come after the relation
pub record Tail (text : List ℕ) (rest : Rest) : Type 0 where
  pub values : List ℕ
  pub onward : List ℕ
  pub whole : text ≡ values ++ onward
  pub values_are : Follow (codes ",") IsRange values rest.ranges
  pub goes : Onward onward rest.relations rest.alternatives

-- something, and then what goes on from it
pub record Before {A : Type 0} (Spells : List ℕ → A → Type 0) (Then : A → List ℕ → Rest → Type 0) (text : List ℕ)
    (rest : Rest) : Type 0 where
  pub value : A
  pub prefix : List ℕ
  pub suffix : List ℕ
  pub whole : text ≡ prefix ++ suffix
  pub spells : Spells prefix value
  pub goes : Then value suffix rest

-- a piece, and then what goes on from it
pub record Behind (piece : List ℕ) (Then : List ℕ → Rest → Type 0) (text : List ℕ) (rest : Rest) : Type 0 where
  pub suffix : List ℕ
  pub whole : text ≡ piece ++ suffix
  pub goes : Then suffix rest

-- a part has been read, and then what goes on from it
pub record AfterPart (made : RulePart) (Then : List ℕ → Rest → Type 0) (text : List ℕ) (rest : Rest) : Type 0 where
  pub tail : Rest
  pub with_tail : rest ≡ with_part made tail
  pub goes : Then text tail

abbrev pub AfterRange : Values → List ℕ → Rest → Type 0
AfterRange range = AfterPart (part.Values range) Tail

-- a value may be the first end of a range
pub data IsRangeFrom : ℕ → List ℕ → Values → Type 0 where
  alone : (n : ℕ) → IsRangeFrom n [] (record { first = n; last = n })
  dotted : (n : ℕ) (dots high : List ℕ) (last : ℕ) → Spaced (codes "..") dots → IsValue high last
      → IsRangeFrom n (dots ++ high) (record { first = n; last = last })

abbrev pub AfterOperator : Comparison → List ℕ → Rest → Type 0
AfterOperator by = AfterPart (part.Comparison by) (Before IsRange AfterRange)

abbrev pub IsOperator : List ℕ → Bool → Type 0
IsOperator text equal = Spaced (operator_of equal) text

abbrev pub BeforeOperator : Operand → Option ℕ → List ℕ → Rest → Type 0
BeforeOperator of by = Before IsOperator (λ equal. AfterOperator (record { operand = of; modulus = by; equal = equal }))

abbrev pub AfterValue : Slot → ℕ → List ℕ → Rest → Type 0
AfterValue (slot.Modulus of) n = BeforeOperator of (Some n)
AfterValue slot.First n = Before (IsRangeFrom n) AfterRange
AfterValue (slot.Last first) n = AfterRange (record { first = first; last = n })

abbrev pub IsFit : Slot → ℕ → Type 0
IsFit (slot.Modulus of) n = 0 < n
IsFit _ n = Unit {0}

abbrev pub AfterDigits : Slot → ℕ → List ℕ → Rest → Type 0
AfterDigits in_slot n text rest = IsFit in_slot n × AfterValue in_slot n text rest

-- more digits of a value
pub record AreMore (n : ℕ) (text : List ℕ) (m : ℕ) : Type 0 where
  pub decimal : AreDigits text
  pub number : value_after n text ≡ m
  pub within : n ≤ largest → m ≤ largest

-- what may come after this relation
pub record AfterRelation (relation : Relation) (text : List ℕ) (rest : Rest) : Type 0 where
  pub more : List Relation
  pub others : Alternatives
  pub goes : Onward text more others
  pub with_relation : rest ≡ record { ranges = []; relations = relation ∷ more; alternatives = others }

abbrev pub BeforeRelation : List ℕ → Rest → Type 0
BeforeRelation = Before IsRelation AfterRelation

abbrev pub Goes : RuleState → List ℕ → Rest → Type 0
Goes state.Relation = BeforeRelation
Goes (state.Operand of) = Before IsModulus (BeforeOperator of)
Goes (state.Exclamation of by) =
    Behind (codes "=") (AfterOperator (record { operand = of; modulus = by; equal = false }))
Goes (state.Value in_slot) = Before IsValue (AfterDigits in_slot)
Goes (state.Digits in_slot n) = Before (AreMore n) (AfterDigits in_slot)
Goes (state.After in_slot n) = AfterValue in_slot n
Goes (state.Dot first) =
    Behind (codes ".") (Before IsValue (λ last. AfterRange (record { first = first; last = last })))
Goes state.A = Behind (codes "nd") BeforeRelation
Goes state.An = Behind (codes "d") BeforeRelation
Goes state.O = Behind (codes "r") (AfterPart part.Alternative BeforeRelation)
Goes state.Samples = λ text rest. rest ≡ nothing_more
Goes state.Blank = λ text rest. IsEnd text × (rest ≡ nothing_more)
