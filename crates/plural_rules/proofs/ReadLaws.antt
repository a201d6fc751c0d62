-- The reader reads exactly the rules of a category, and a refused text up to its fault.
use Rattle.std.proofs.Common.{◌≡◌, ℕ, List, [], ◌∷◌, ◌++◌, Option, Some, None, refl, sym, ◌∙◌, ap, append_assoc}
use Rattle.std.specs.Option.{option_map}
use Rattle.plural_rules.specs.declared.category.Category.{Category}
use Rattle.plural_rules.specs.declared.category.Category.TheVariants.{One, Other}
use Rattle.plural_rules.specs.declared.condition.RulePart.{RulePart}
use Rattle.plural_rules.specs.declared.condition.RulePart.TheVariants as part
use Rattle.plural_rules.specs.declared.rules.RuleRefusal.{RuleRefusal}
use Rattle.plural_rules.specs.declared.rules.RuleRefusal.TheVariants.{Because, OutOfMemory}
use Rattle.plural_rules.specs.declared.steps.RuleState.{RuleState}
use Rattle.plural_rules.specs.declared.steps.RuleState.TheVariants as state
use Rattle.plural_rules.specs.Condition.{Condition, IsRule, Joined, Alternatives}
use Rattle.plural_rules.specs.Parts.{Rest, rest_of, with_part, condition_of, nothing_more}
use Rattle.plural_rules.specs.ReadsParts.{condition_read, bytes_read, RefusesText}
use Rattle.plural_rules.specs.RefusesEntries.{IsSpelled, IsLongestPrefix, HasFault, RefusesEntry}
use Rattle.plural_rules.specs.NextStep.{start_step, option_to_list, parts_read, prefix_read}
use Rattle.plural_rules.proofs.Tails.{tail_read, tail_read-parts}
use Rattle.plural_rules.proofs.Goes.{BeforeRelation, Goes}
use Rattle.plural_rules.proofs.Sound.{tail_read-Goes}
use Rattle.plural_rules.proofs.Complete.{alternatives_read, blank_read}
use Rattle.plural_rules.proofs.Prefixes.{IsRead, prefix_begins, prefix_read-rest, prefix_read-longest}

-- from what is read after the part that begins a rule, and back

-- what is in two equal options is equal
some_inner : {A : Type 0} (x y : A) → ◌≡◌ {A = Option A} (Some x) (Some y) → x ≡ y
some_inner x y h = cc

-- what is read after the part that begins a rule
inner_read : (before : List RulePart) (read : Option (List RulePart)) (parts : List RulePart)
    → option_map (λ more. before ++ more) read ≡ Some parts
    → (inner : List RulePart) × (read ≡ Some inner) × (parts ≡ before ++ inner)
inner_read before None parts h = absurd (cc h)
inner_read before (Some inner) parts h = (inner, refl, some_inner _ _ (sym h))

-- what is read goes on from the start as the grammar has it
tail_of : (text : List ℕ) (category : Category) (inner : List RulePart)
    → parts_read text (start_step category).state ≡ Some inner
    → Goes (start_step category).state text (rest_of inner)
tail_of text category inner h =
    tail_read-Goes text (start_step category).state (rest_of inner)
    (sym (tail_read-parts text (start_step category).state) ∙ ap (option_map rest_of) h)

-- a relation and what may come after it is a rule
ruled : (text : List ℕ) (rest : Rest) → BeforeRelation text rest → IsRule text (rest.relations ∷ rest.alternatives)
ruled text rest b =
    let a = b.goes in
    let o = a.goes in
    let whole : text ≡ ((b.prefix ++ o.relations) ++ o.alternatives)
    ++ o.ending = rw (b.whole, o.whole) (simp append_assoc) in
    rw (whole, ap (λ (x : Rest). x.relations) a.with_relation, ap (λ (x : Rest). x.alternatives) a.with_relation)
    (IsRule.rule ((b.prefix ++ o.relations) ++ o.alternatives) o.ending ((b.value ∷ a.more) ∷ a.others)
    (Joined.items (b.prefix ++ o.relations) o.alternatives (b.value ∷ a.more) a.others
    (Joined.items b.prefix o.relations b.value a.more b.spells o.relations_are) o.alternatives_are)
    o.ends)

-- what is read where a relation has to come is a rule
rule_read : (text : List ℕ) (parts inner : List RulePart) → parts_read text state.Relation ≡ Some inner
    → parts ≡ part.Alternative ∷ inner → IsRule text (condition_of parts)
rule_read text parts inner h is = rw is (ruled text (rest_of inner) (tail_of text One inner h))

-- what is read is spelled
pub condition_read-Condition : (category : Category) (text : List ℕ) (parts : List RulePart)
    → condition_read category text ≡ Some parts → Condition category text (condition_of parts)
condition_read-Condition Other text parts h =
    let i = inner_read [] (parts_read text state.Blank) parts h in
    let g = tail_of text Other i.0 i.1 in
    (ap condition_of i.2 ∙ ap (λ (x : Rest). x.alternatives) g.1, g.0)
condition_read-Condition category text parts h =
    let i = inner_read (part.Alternative ∷ []) (parts_read text state.Relation) parts h in
    rule_read text parts i.0 i.1 i.2

-- a tail comes from parts
tail_parts : (read : Option (List RulePart)) (rest : Rest) → option_map rest_of read ≡ Some rest
    → (parts : List RulePart) × (read ≡ Some parts)
tail_parts None rest h = absurd (cc h)
tail_parts (Some parts) rest h = (parts, refl)

-- a text with a tail is read to its end
read_tail : (text : List ℕ) (from : RuleState) (rest : Rest) → tail_read text from ≡ Some rest → IsRead text from
read_tail text from rest h = tail_parts (parts_read text from) rest (tail_read-parts text from ∙ h)

-- a mapped tail comes from a tail
some_tail : (f : Rest → Rest) (read : Option Rest) (rest : Rest) → option_map f read ≡ Some rest
    → (tail : Rest) × (read ≡ Some tail)
some_tail f None rest h = absurd (cc h)
some_tail f (Some tail) rest h = (tail, refl)

-- a rule is read to its end
rule_IsRead : (text : List ℕ) (says : Alternatives) → IsRule text says → IsRead text state.Relation
rule_IsRead _ _ (IsRule.rule condition ending says c e) =
    let t = some_tail (with_part part.Alternative) (tail_read (condition ++ ending) state.Relation) _
    (alternatives_read condition says c ending e) in
    read_tail (condition ++ ending) state.Relation t.0 t.1

-- what is spelled is read
pub Condition-IsRead : (category : Category) (text : List ℕ) (says : Alternatives) → Condition category text says
    → IsRead text (start_step category).state
Condition-IsRead Other text says h = read_tail text state.Blank nothing_more (blank_read text h.1)
Condition-IsRead category text says h = rule_IsRead text says h

-- a text that is read to its end has the parts of a condition
read_condition : (category : Category) (text : List ℕ) → IsRead text (start_step category).state
    → (parts : List RulePart) × (condition_read category text ≡ Some parts)
read_condition category text r = (option_to_list (start_step category).part ++ r.0, rw r.1 refl)

-- a text that is read to its end spells a condition
read_spelled : (category : Category) (text : List ℕ) → IsRead text (start_step category).state
    → IsSpelled (category, text)
read_spelled category text r =
    let c = read_condition category text r in
    (condition_of c.0, condition_read-Condition category text c.0 c.1)

-- no option is both
none_and_some : {A : Type 0} (o : Option A) (x : A) → o ≡ None → o ≡ Some x → ⊥
none_and_some o x n s = cc

-- what is read is the longest prefix with which a rule of the category begins
prefix_is_longest : (category : Category) (text : List ℕ)
    → IsLongestPrefix category text (prefix_read text (start_step category).state)
prefix_is_longest category text =
    let from = (start_step category).state in
    let r = prefix_read-rest text from in
    let b = prefix_begins text from in
    record {
      rest = r.0;
      whole = r.1;
      begins = (b.0, read_spelled category (prefix_read text from ++ b.0) b.1);
      longest = λ longer after split begins.
          rw split (prefix_read-longest longer after begins.0 from
          (Condition-IsRead category (longer ++ begins.0) begins.1.0 begins.1.1));
    }

-- what isn't read is spelled by nothing, and its fault is where the reader stops
pub condition_read-None : (category : Category) (text : List ℕ) → condition_read category text ≡ None
    → HasFault (category, text) (record { category = category; at = bytes_read category text })
condition_read-None category text h = record {
  prefix = prefix_read text (start_step category).state;
  refused =
      λ spelled. let c = read_condition category text (Condition-IsRead category text spelled.0 spelled.1) in
      none_and_some (condition_read category text) c.0 h c.1;
  category = refl;
  longest = prefix_is_longest category text;
  offset = refl;
}

-- what the reader answers for a text that isn't read is the fault of its entry
pub refused_entry : (category : Category) (text : List ℕ) (refusal : RuleRefusal) → RefusesText category text refusal
    → RefusesEntry (category, text) refusal
refused_entry category text (Because fault) r = rw r.1 (condition_read-None category text r.0)
refused_entry category text OutOfMemory r = tt

-- a text spells one condition at most

-- two tails that are read say the same alternatives
same_alternatives : (x y : Alternatives)
    → ◌≡◌ {A = Option Rest} (Some (record { ranges = []; relations = []; alternatives = x }))
    (Some (record { ranges = []; relations = []; alternatives = y })) → x ≡ y
same_alternatives x y h = ap (λ (r : Rest). r.alternatives) (some_inner _ _ h)

-- a rule is read as what it says
rule_reads : (text : List ℕ) (says : Alternatives) → IsRule text says
    → option_map (with_part part.Alternative) (tail_read text state.Relation)
    ≡ Some (record { ranges = []; relations = []; alternatives = says })
rule_reads _ _ (IsRule.rule condition ending says c e) = alternatives_read condition says c ending e

-- a rule says one thing
IsRule-unique : (text : List ℕ) (x y : Alternatives) → IsRule text x → IsRule text y → x ≡ y
IsRule-unique text x y a b = same_alternatives x y (sym (rule_reads text x a) ∙ rule_reads text y b)

-- a text spells one condition of a category
pub Condition-unique : (category : Category) (text : List ℕ) (x y : Alternatives) → Condition category text x
    → Condition category text y → x ≡ y
Condition-unique Other text x y a b = a.0 ∙ sym b.0
Condition-unique category text x y a b = IsRule-unique text x y a b
