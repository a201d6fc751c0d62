-- What is read from a state on goes on from it as the grammar has it.
use Rattle.std.proofs.Common.{◌≡◌, ℕ, ◌+◌, ◌-◌, ◌*◌, ◌≤◌, Bool, true, false, List, [], ◌∷◌, ◌++◌, Option, Some, None}
use Rattle.std.proofs.Common.{refl, sym, ◌∙◌, ap, append_assoc, append-nil, arith}
use Rattle.std.specs.Prelude.{IsTrue, codes, nat_le, if◌then◌else◌}
use Rattle.std.specs.Option.{option_map}
use Rattle.std.proofs.lemmas.Grind.{common_steps}
use Rattle.std.specs.Char.{is_ascii_digit}
use Rattle.std.proofs.lemmas.Bool.{leb-true, ltb-true}
use Rattle.plural_rules.specs.declared.condition.Operand.{Operand}
use Rattle.plural_rules.specs.declared.condition.Operand.TheVariants as operand
use Rattle.plural_rules.specs.declared.condition.Comparison.{Comparison}
use Rattle.plural_rules.specs.declared.condition.Values.{Values}
use Rattle.plural_rules.specs.declared.condition.RulePart.{RulePart}
use Rattle.plural_rules.specs.declared.condition.RulePart.TheVariants as part
use Rattle.plural_rules.specs.declared.steps.Symbol.{Symbol}
use Rattle.plural_rules.specs.declared.steps.Symbol.TheVariants.{White, Digit, Percent, Equals, Exclamation, Dot, Comma}
use Rattle.plural_rules.specs.declared.steps.Symbol.TheVariants.{At, Letter, A, D, O, R}
use Rattle.plural_rules.specs.declared.steps.Slot.{Slot}
use Rattle.plural_rules.specs.declared.steps.Slot.TheVariants as slot
use Rattle.plural_rules.specs.declared.steps.RuleState.{RuleState}
use Rattle.plural_rules.specs.declared.steps.RuleState.TheVariants as state
use Rattle.plural_rules.specs.declared.steps.RuleStep.{RuleStep}
use Rattle.plural_rules.specs.Condition.{is_white, Spaced, IsValue, value_after, largest, IsModulus, operator_of}
use Rattle.plural_rules.specs.Condition.{letter_of, IsRange, Follow, Joined, IsRelation, IsAlternative, IsEnd, Relation}
use Rattle.plural_rules.specs.Condition.{Alternatives}
use Rattle.plural_rules.specs.Parts.{Rest, with_part, nothing_more}
use Rattle.plural_rules.specs.NextStep.{symbol_of, next_step, relation_step, operand_step, operator_step}
use Rattle.plural_rules.specs.NextStep.{exclamation_step, value_step, digits_step, spaced_step, after_step, first_step}
use Rattle.plural_rules.specs.NextStep.{range_step, dot_step, a_step, an_step, o_step, blank_step, is_fit}
use Rattle.plural_rules.proofs.Symbols.{Marks, symbol_marks}
use Rattle.plural_rules.proofs.Tails.{with_optional, tail_after, tail_read}
use Rattle.plural_rules.proofs.Goes.{Tail, Before, Behind, AfterRange, IsRangeFrom, AfterOperator, IsOperator}
use Rattle.plural_rules.proofs.Goes.{BeforeOperator, AfterValue, IsFit, AfterDigits, AreMore, AfterRelation, Onward}
use Rattle.plural_rules.proofs.Goes.{BeforeRelation, Goes}

-- what a step gives

-- no step gives no tail
nothing_read : {A : Type 0} {rest : Rest} → ◌≡◌ {A = Option Rest} None (Some rest) → A
nothing_read h = absurd (cc h)

-- a step without a part leaves the tail
gone : (read : Option Rest) (rest : Rest) → option_map (with_optional None) read ≡ Some rest → read ≡ Some rest
gone None rest h = cc
gone (Some tail) rest h = h

-- a tail, and the part before it
record HasTail (read : Option Rest) (made : RulePart) (rest : Rest) : Type 0 where
  tail : Rest
  reads : read ≡ Some tail
  whole : rest ≡ with_part made tail

-- what is in two equal options is equal
some_inner : {A : Type 0} (x y : A) → ◌≡◌ {A = Option A} (Some x) (Some y) → x ≡ y
some_inner x y h = cc

-- a step with a part gives it before the tail
given_read : (read : Option Rest) (made : RulePart) (rest : Rest)
    → option_map (with_optional (Some made)) read ≡ Some rest → HasTail read made rest
given_read None made rest h = nothing_read h
given_read (Some tail) made rest h =
    record { tail = tail; reads = refl; whole = sym (some_inner (with_part made tail) rest h) }

-- White space may stand before:

-- a spaced piece
spaced_white : (c : ℕ) (piece text : List ℕ) → IsTrue (is_white c) → Spaced piece text → Spaced piece (c ∷ text)
spaced_white c piece text h s = record { white = c ∷ s.white; blank = (h, s.blank); whole = ap (λ t. c ∷ t) s.whole }

-- a value
value_white : (c : ℕ) (text : List ℕ) (n : ℕ) → IsTrue (is_white c) → IsValue text n → IsValue (c ∷ text) n
value_white c text n h v =
    record {
      digits = v.digits;
      spaced = spaced_white c v.digits text h v.spaced;
      decimal = v.decimal;
      some = v.some;
      number = v.number;
      within = v.within;
    }

-- something that takes white space before it, and what goes on from it
before_white : {A : Type 0} (Spells : List ℕ → A → Type 0) (Then : A → List ℕ → Rest → Type 0) (c : ℕ) (text : List ℕ)
    (rest : Rest)
    → ((prefix : List ℕ) (x : A) → Spells prefix x → Spells (c ∷ prefix) x) → Before Spells Then text rest
    → Before Spells Then (c ∷ text) rest
before_white Spells Then c text rest grows b = record {
  value = b.value;
  prefix = c ∷ b.prefix;
  suffix = b.suffix;
  whole = ap (λ t. c ∷ t) b.whole;
  spells = grows b.prefix b.value b.spells;
  goes = b.goes;
}

-- a relation
relation_white : (c : ℕ) → IsTrue (is_white c) → (text : List ℕ) (r : Relation) → IsRelation text r
    → IsRelation (c ∷ text) r
relation_white c h _ _ (IsRelation.relation a b d e of by equal ranges s m q l) =
    IsRelation.relation (c ∷ a) b d e of by equal ranges (spaced_white c _ a h s) m q l

-- an operator
operator_white : (of : Operand) (by : Option ℕ) (c : ℕ) (text : List ℕ) (rest : Rest) → IsTrue (is_white c)
    → BeforeOperator of by text rest → BeforeOperator of by (c ∷ text) rest
operator_white of by c text rest h =
    before_white IsOperator _ c text rest (λ prefix equal. spaced_white c (operator_of equal) prefix h)

-- a modulus, if any, and the operator after it
modulus_white : (of : Operand) (c : ℕ) (rest : Rest) → IsTrue (is_white c) → (prefix : List ℕ) (by : Option ℕ)
    → IsModulus prefix by → (suffix : List ℕ) → BeforeOperator of by suffix rest
    → Before IsModulus (BeforeOperator of) (c ∷ (prefix ++ suffix)) rest
modulus_white of c rest h _ _ IsModulus.plain suffix goes =
    record {
      value = None;
      prefix = [];
      suffix = c ∷ suffix;
      whole = refl;
      spells = IsModulus.plain;
      goes = operator_white of None c suffix rest h goes;
    }
modulus_white of c rest h _ _ (IsModulus.remainder operator value m s v p) suffix goes =
    record {
      value = Some m;
      prefix = c ∷ (operator ++ value);
      suffix = suffix;
      whole = refl;
      spells = IsModulus.remainder (c ∷ operator) value m (spaced_white c (codes "%") operator h s) v p;
      goes = goes;
    }

-- what comes after an operand
operand_white : (of : Operand) (c : ℕ) (text : List ℕ) (rest : Rest) → IsTrue (is_white c)
    → Before IsModulus (BeforeOperator of) text rest → Before IsModulus (BeforeOperator of) (c ∷ text) rest
operand_white of c text rest h b = rw b.whole (modulus_white of c rest h b.prefix b.value b.spells b.suffix b.goes)

-- an end
end_white : (c : ℕ) (text : List ℕ) → IsTrue (is_white c) → IsEnd text → IsEnd (c ∷ text)
end_white c text h e = record { samples = e.samples; spaced = spaced_white c e.samples text h e.spaced; are = e.are }

-- what comes after a relation, whichever part of it is there first
onward_white : (c : ℕ) → IsTrue (is_white c)
    → (relations : List ℕ) (more : List Relation) (alternatives : List ℕ) (others : Alternatives) (ending : List ℕ)
    → Follow (codes "and") IsRelation relations more → Follow (codes "or") IsAlternative alternatives others
    → IsEnd ending
    → Onward (c ∷ (relations ++ (alternatives ++ ending))) more others
onward_white c h _ _ alternatives others ending (Follow.more join item rest x xs s i f) g e =
    record {
      relations = c ∷ (join ++ (item ++ rest));
      alternatives = alternatives;
      ending = ending;
      whole = refl;
      relations_are = Follow.more (c ∷ join) item rest x xs (spaced_white c (codes "and") join h s) i f;
      alternatives_are = g;
      ends = e;
    }
onward_white c h _ _ _ _ ending Follow.none (Follow.more join item rest x xs s i f) e =
    record {
      relations = [];
      alternatives = c ∷ (join ++ (item ++ rest));
      ending = ending;
      whole = refl;
      relations_are = Follow.none;
      alternatives_are = Follow.more (c ∷ join) item rest x xs (spaced_white c (codes "or") join h s) i f;
      ends = e;
    }
onward_white c h _ _ _ _ ending Follow.none Follow.none e =
    record {
      relations = [];
      alternatives = [];
      ending = c ∷ ending;
      whole = refl;
      relations_are = Follow.none;
      alternatives_are = Follow.none;
      ends = end_white c ending h e;
    }

-- what comes after a value, whichever part of it is there first
values_white : (c : ℕ) → IsTrue (is_white c) → (values : List ℕ) (rest : Rest) (ranges : List Values)
    → ranges ≡ rest.ranges → Follow (codes ",") IsRange values ranges
    → (onward : List ℕ) → Onward onward rest.relations rest.alternatives → Tail (c ∷ (values ++ onward)) rest
values_white c h _ rest _ same (Follow.more join item more x xs s i f) onward goes =
    record {
      values = c ∷ (join ++ (item ++ more));
      onward = onward;
      whole = refl;
      values_are = rw (← same) (Follow.more (c ∷ join) item more x xs (spaced_white c (codes ",") join h s) i f);
      goes = goes;
    }
values_white c h _ rest _ same Follow.none onward goes =
    record {
      values = [];
      onward = c ∷ onward;
      whole = refl;
      values_are = rw (← same) Follow.none;
      goes =
          rw goes.whole (onward_white c h goes.relations rest.relations goes.alternatives rest.alternatives goes.ending
          goes.relations_are goes.alternatives_are goes.ends);
    }

-- what comes after a value
tail_white : (c : ℕ) (text : List ℕ) (rest : Rest) → IsTrue (is_white c) → Tail text rest → Tail (c ∷ text) rest
tail_white c text rest h t = rw t.whole (values_white c h t.values rest rest.ranges refl t.values_are t.onward t.goes)

-- what comes after a value or range
after_range_white : (range : Values) (c : ℕ) (text : List ℕ) (rest : Rest) → IsTrue (is_white c)
    → AfterRange range text rest → AfterRange range (c ∷ text) rest
after_range_white range c text rest h g =
    record { tail = g.tail; with_tail = g.with_tail; goes = tail_white c text g.tail h g.goes }

-- what comes after a value that may begin a range
range_from_white : (c : ℕ) (rest : Rest) → IsTrue (is_white c) → (n : ℕ) (prefix : List ℕ) (range : Values)
    → IsRangeFrom n prefix range → (suffix : List ℕ) → AfterRange range suffix rest
    → Before (IsRangeFrom n) AfterRange (c ∷ (prefix ++ suffix)) rest
range_from_white c rest h _ _ _ (IsRangeFrom.alone n) suffix goes =
    record {
      value = record { first = n; last = n };
      prefix = [];
      suffix = c ∷ suffix;
      whole = refl;
      spells = IsRangeFrom.alone n;
      goes = after_range_white _ c suffix rest h goes;
    }
range_from_white c rest h _ _ _ (IsRangeFrom.dotted n dots high last s v) suffix goes =
    record {
      value = record { first = n; last = last };
      prefix = c ∷ (dots ++ high);
      suffix = suffix;
      whole = refl;
      spells = IsRangeFrom.dotted n (c ∷ dots) high last (spaced_white c (codes "..") dots h s) v;
      goes = goes;
    }

-- what comes after a value in its slot
after_value_white : (in_slot : Slot) (n c : ℕ) (text : List ℕ) (rest : Rest) → IsTrue (is_white c)
    → AfterValue in_slot n text rest → AfterValue in_slot n (c ∷ text) rest
after_value_white (slot.Modulus of) n c text rest h g = operator_white of (Some n) c text rest h g
after_value_white slot.First n c text rest h g =
    rw g.whole (range_from_white c rest h n g.prefix g.value g.spells g.suffix g.goes)
after_value_white (slot.Last first) n c text rest h g =
    after_range_white (record { first = first; last = n }) c text rest h g

-- a value and what makes a range of it

-- a value and what makes a range of it are a range
made_range : (value : List ℕ) (n : ℕ) → IsValue value n → (text : List ℕ) (range : Values) → IsRangeFrom n text range
    → IsRange (value ++ text) range
made_range value _ v _ _ (IsRangeFrom.alone n) = rw append-nil (IsRange.single value n v)
made_range value _ v _ _ (IsRangeFrom.dotted n dots high last s w) = IsRange.pair value dots high n last v s w

-- a value and what goes on from it are a range and what goes on from it
first_range : (text : List ℕ) (rest : Rest) → Before IsValue (AfterDigits slot.First) text rest
    → Before IsRange AfterRange text rest
first_range text rest v =
    let b = v.goes.1 in
    record {
      value = b.value;
      prefix = v.prefix ++ b.prefix;
      suffix = b.suffix;
      whole = v.whole ∙ (ap (λ t. v.prefix ++ t) b.whole ∙ sym (append_assoc v.prefix b.prefix b.suffix));
      spells = made_range v.prefix v.value v.spells b.prefix b.value b.spells;
      goes = b.goes;
    }

-- The steps, one lemma for each state:

-- the least digit
digit_above : (c : ℕ) → IsTrue (is_ascii_digit c) → 48 ≤ c
digit_above c h = grind (arith, common_steps)

-- the greatest digit
digit_below : (c : ℕ) → IsTrue (is_ascii_digit c) → c ≤ 57
digit_below c h = grind (arith, common_steps)

-- the test of a value that fits its slot
fits : (in_slot : Slot) (n : ℕ) → is_fit in_slot n ≡ true → IsFit in_slot n
fits (slot.Modulus of) n h = ltb-true 0 n h
fits slot.First n h = tt
fits (slot.Last first) n h = tt

-- no space before a piece
unspaced : (piece : List ℕ) → Spaced piece piece
unspaced piece = record { white = []; blank = tt; whole = refl }

-- a first digit
one_digit : (c d : ℕ) (prefix : List ℕ) (n : ℕ) → IsTrue (is_ascii_digit c) → d ≡ c - 48 → AreMore d prefix n
    → IsValue (c ∷ prefix) n
one_digit c d prefix n h same m =
    let low = digit_below c h in
    let small : d ≤ largest = omega (arith, low, same) in
    let start : 10 * 0 + (c - 48) ≡ d = omega (arith, same) in
    record {
      digits = c ∷ prefix;
      spaced = unspaced (c ∷ prefix);
      decimal = (h, m.decimal);
      some = λ (e : c ∷ prefix ≡ []). cc;
      number = ap (λ k. value_after k prefix) start ∙ m.number;
      within = m.within small;
    }

-- one more digit
more_digits : (n c d : ℕ) (prefix : List ℕ) (m : ℕ) → IsTrue (is_ascii_digit c) → d ≡ c - 48 → 10 * n + d ≤ largest
    → AreMore (10 * n + d) prefix m → AreMore n (c ∷ prefix) m
more_digits n c d prefix m h same small more =
    record {
      decimal = (h, more.decimal);
      number = ap (λ k. value_after (10 * n + k) prefix) (sym same) ∙ more.number;
      within = λ _. more.within small;
    }

-- the pieces of a relation as one
relation_made : (c : ℕ) (of : Operand) (cs : List ℕ) (rest : Rest) → letter_of of ≡ c ∷ []
    → Before IsModulus (BeforeOperator of) cs rest → BeforeRelation (c ∷ cs) rest
relation_made c of cs rest mark m =
    let s = m.goes in
    let g = s.goes in
    let r = g.goes in
    let a = r.goes in
    let t = a.goes in
    let by : Comparison = record { operand = of; modulus = m.value; equal = s.value } in
    let whole : cs ≡ (m.prefix ++ (s.prefix ++ (r.prefix ++ t.values)))
    ++ t.onward = rw (m.whole, s.whole, r.whole, t.whole) (simp append_assoc) in
    record {
      value = record { comparison = by; ranges = r.value ∷ a.tail.ranges };
      prefix = (c ∷ []) ++ (m.prefix ++ (s.prefix ++ (r.prefix ++ t.values)));
      suffix = t.onward;
      whole = ap (λ x. c ∷ x) whole;
      spells =
          IsRelation.relation (c ∷ []) m.prefix s.prefix (r.prefix ++ t.values) of m.value s.value
          (r.value ∷ a.tail.ranges)
          (rw (← mark) (unspaced (letter_of of))) m.spells s.spells
          (Joined.items r.prefix t.values r.value a.tail.ranges r.spells t.values_are);
      goes = record {
        more = a.tail.relations;
        others = a.tail.alternatives;
        goes = t.goes;
        with_relation = g.with_tail ∙ ap (with_part (part.Comparison by)) a.with_tail;
      };
    }

module _ (c : ℕ) (cs : List ℕ) (onward : (to : RuleState) (tail : Rest) → tail_read cs to ≡ Some tail → Goes to cs tail)
  where
    relation_sound : (s : Symbol) (rest : Rest) → Marks s c → tail_after (tail_read cs) (relation_step s) ≡ Some rest
        → BeforeRelation (c ∷ cs) rest
    relation_sound White rest m h =
        before_white IsRelation AfterRelation c cs rest (relation_white c m)
        (onward state.Relation rest (gone _ rest h))
    relation_sound (Letter of) rest m h = relation_made c of cs rest m (onward (state.Operand of) rest (gone _ rest h))
    relation_sound _ rest m h = nothing_read h

    -- after an operator
    values_sound : (by : Comparison) (rest : Rest)
        → option_map (with_optional (Some (part.Comparison by))) (tail_read cs (state.Value slot.First)) ≡ Some rest
        → AfterOperator by cs rest
    values_sound by rest h =
        let t = given_read (tail_read cs (state.Value slot.First)) (part.Comparison by) rest h in
        record {
          tail = t.tail;
          with_tail = t.whole;
          goes = first_range cs t.tail (onward (state.Value slot.First) t.tail t.reads);
        }

    -- where an operator has to come
    operator_sound : (of : Operand) (by : Option ℕ) (s : Symbol) (rest : Rest) → Marks s c
        → tail_after (tail_read cs) (operator_step of by s) ≡ Some rest → BeforeOperator of by (c ∷ cs) rest
    operator_sound of by Equals rest m h =
        record {
          value = true;
          prefix = codes "=";
          suffix = cs;
          whole = ap (λ x. x ∷ cs) m;
          spells = unspaced (codes "=");
          goes = values_sound _ rest h;
        }
    operator_sound of by Exclamation rest m h =
        let b = onward (state.Exclamation of by) rest (gone _ rest h) in
        record {
          value = false;
          prefix = codes "!=";
          suffix = b.suffix;
          whole = ap (λ x. x ∷ cs) m ∙ ap (λ t. 33 ∷ t) b.whole;
          spells = unspaced (codes "!=");
          goes = b.goes;
        }
    operator_sound of by _ rest m h = nothing_read h

    -- after an operand
    operand_sound : (of : Operand) (s : Symbol) (rest : Rest) → Marks s c
        → tail_after (tail_read cs) (operand_step of s) ≡ Some rest → Before IsModulus (BeforeOperator of) (c ∷ cs) rest
    operand_sound of White rest m h = operand_white of c cs rest m (onward (state.Operand of) rest (gone _ rest h))
    operand_sound of Percent rest m h =
        let v = onward (state.Value (slot.Modulus of)) rest (gone _ rest h) in
        record {
          value = Some v.value;
          prefix = codes "%" ++ v.prefix;
          suffix = v.suffix;
          whole = ap (λ x. x ∷ cs) m ∙ ap (λ t. 37 ∷ t) v.whole;
          spells = IsModulus.remainder (codes "%") v.prefix v.value (unspaced (codes "%")) v.spells v.goes.0;
          goes = v.goes.1;
        }
    operand_sound of s rest m h =
        record {
          value = None;
          prefix = [];
          suffix = c ∷ cs;
          whole = refl;
          spells = IsModulus.plain;
          goes = operator_sound of None s rest m h;
        }

    -- after `!`
    exclamation_sound : (of : Operand) (by : Option ℕ) (s : Symbol) (rest : Rest) → Marks s c
        → tail_after (tail_read cs) (exclamation_step of by s) ≡ Some rest
        → Behind (codes "=") (AfterOperator (record { operand = of; modulus = by; equal = false })) (c ∷ cs) rest
    exclamation_sound of by Equals rest m h =
        record { suffix = cs; whole = ap (λ x. x ∷ cs) m; goes = values_sound _ rest h }
    exclamation_sound of by _ rest m h = nothing_read h

    -- where a value has to come
    value_sound : (in_slot : Slot) (s : Symbol) (rest : Rest) → Marks s c
        → tail_after (tail_read cs) (value_step in_slot s) ≡ Some rest
        → Before IsValue (AfterDigits in_slot) (c ∷ cs) rest
    value_sound in_slot White rest m h =
        before_white IsValue (AfterDigits in_slot) c cs rest (λ prefix n. value_white c prefix n m)
        (onward (state.Value in_slot) rest (gone _ rest h))
    value_sound in_slot (Digit d) rest m h =
        let v = onward (state.Digits in_slot d) rest (gone _ rest h) in
        record {
          value = v.value;
          prefix = c ∷ v.prefix;
          suffix = v.suffix;
          whole = ap (λ t. c ∷ t) v.whole;
          spells = one_digit c d v.prefix v.value m.0 m.1 v.spells;
          goes = v.goes;
        }
    value_sound in_slot _ rest m h = nothing_read h

    -- after a value or range
    range_sound : (range : Values) (s : Symbol) (rest : Rest) → Marks s c
        → tail_after (tail_read cs) (range_step range s) ≡ Some rest → AfterRange range (c ∷ cs) rest
    range_sound range Comma rest m h =
        let t = given_read (tail_read cs (state.Value slot.First)) (part.Values range) rest h in
        let r = first_range cs t.tail (onward (state.Value slot.First) t.tail t.reads) in
        let a = r.goes in
        let b = a.goes in
        record {
          tail = t.tail;
          with_tail = t.whole;
          goes = record {
            values = codes "," ++ (r.prefix ++ b.values);
            onward = b.onward;
            whole =
                ap (λ x. x ∷ cs) m ∙ ap (λ x. 44 ∷ x)
                (r.whole ∙ (ap (λ x. r.prefix ++ x) b.whole ∙ sym (append_assoc r.prefix b.values b.onward)));
            values_are =
                rw (ap (λ (x : Rest). x.ranges) a.with_tail)
                (Follow.more (codes ",") r.prefix b.values r.value a.tail.ranges (unspaced (codes ",")) r.spells
                b.values_are);
            goes =
                rw (ap (λ (x : Rest). x.relations) a.with_tail, ap (λ (x : Rest). x.alternatives) a.with_tail)
                b.goes;
          };
        }
    range_sound range A rest m h =
        let t = given_read (tail_read cs state.A) (part.Values range) rest h in
        let w = onward state.A t.tail t.reads in
        let r = w.goes in
        let a = r.goes in
        let b = a.goes in
        record {
          tail = t.tail;
          with_tail = t.whole;
          goes = record {
            values = [];
            onward = c ∷ cs;
            whole = refl;
            values_are = rw (ap (λ (x : Rest). x.ranges) a.with_relation) Follow.none;
            goes =
                rw (ap (λ (x : Rest). x.relations) a.with_relation, ap (λ (x : Rest). x.alternatives) a.with_relation)
                (record {
                  relations = codes "and" ++ (r.prefix ++ b.relations);
                  alternatives = b.alternatives;
                  ending = b.ending;
                  whole =
                      ap (λ x. x ∷ cs) m ∙ ap (λ x. 97 ∷ x)
                      (w.whole ∙ ap (λ x. codes "nd" ++ x)
                      (r.whole ∙ (ap (λ x. r.prefix ++ x) b.whole ∙ sym (append_assoc r.prefix b.relations _))));
                  relations_are =
                      Follow.more (codes "and") r.prefix b.relations r.value a.more (unspaced (codes "and")) r.spells
                      b.relations_are;
                  alternatives_are = b.alternatives_are;
                  ends = b.ends;
                });
          };
        }
    range_sound range O rest m h =
        let t = given_read (tail_read cs state.O) (part.Values range) rest h in
        let w = onward state.O t.tail t.reads in
        let g = w.goes in
        let r = g.goes in
        let a = r.goes in
        let b = a.goes in
        let says : g.tail.relations ≡ r.value ∷ a.more = ap (λ (x : Rest). x.relations) a.with_relation in
        let others : g.tail.alternatives ≡ a.others = ap (λ (x : Rest). x.alternatives) a.with_relation in
        let is : t.tail.alternatives ≡ g.tail.relations
        ∷ g.tail.alternatives = ap (λ (x : Rest). x.alternatives) g.with_tail in
        record {
          tail = t.tail;
          with_tail = t.whole;
          goes = record {
            values = [];
            onward = c ∷ cs;
            whole = refl;
            values_are = rw (ap (λ (x : Rest). x.ranges) g.with_tail) Follow.none;
            goes = rw (ap (λ (x : Rest). x.relations) g.with_tail, is, says, others) (record {
              relations = [];
              alternatives = codes "or" ++ ((r.prefix ++ b.relations) ++ b.alternatives);
              ending = b.ending;
              whole =
                  ap (λ x. x ∷ cs) m ∙ ap (λ x. 111 ∷ x)
                  (w.whole ∙ ap (λ x. codes "r" ++ x) (r.whole ∙ rw b.whole (simp append_assoc)));
              relations_are = Follow.none;
              alternatives_are =
                  Follow.more (codes "or") (r.prefix ++ b.relations) b.alternatives (r.value ∷ a.more) a.others
                  (unspaced (codes "or"))
                  (Joined.items r.prefix b.relations r.value a.more r.spells b.relations_are) b.alternatives_are;
              ends = b.ends;
            });
          };
        }
    range_sound range At rest m h =
        let t = given_read (tail_read cs state.Samples) (part.Values range) rest h in
        let nothing : t.tail ≡ nothing_more = onward state.Samples t.tail t.reads in
        record {
          tail = t.tail;
          with_tail = t.whole;
          goes = rw nothing (record {
            values = [];
            onward = c ∷ cs;
            whole = refl;
            values_are = Follow.none;
            goes = record {
              relations = [];
              alternatives = [];
              ending = c ∷ cs;
              whole = refl;
              relations_are = Follow.none;
              alternatives_are = Follow.none;
              ends = record { samples = c ∷ cs; spaced = unspaced (c ∷ cs); are = m };
            };
          });
        }
    range_sound range _ rest m h = nothing_read h

    -- after a value that may begin a range
    first_sound : (n : ℕ) (s : Symbol) (rest : Rest) → Marks s c
        → tail_after (tail_read cs) (first_step n s) ≡ Some rest
        → Before (IsRangeFrom n) AfterRange (c ∷ cs) rest
    first_sound n Dot rest m h =
        let w = onward (state.Dot n) rest (gone _ rest h) in
        let v = w.goes in
        record {
          value = record { first = n; last = v.value };
          prefix = codes ".." ++ v.prefix;
          suffix = v.suffix;
          whole = ap (λ x. x ∷ cs) m ∙ ap (λ x. 46 ∷ x) (w.whole ∙ ap (λ x. codes "." ++ x) v.whole);
          spells = IsRangeFrom.dotted n (codes "..") v.prefix v.value (unspaced (codes "..")) v.spells;
          goes = v.goes;
        }
    first_sound n s rest m h =
        record {
          value = record { first = n; last = n };
          prefix = [];
          suffix = c ∷ cs;
          whole = refl;
          spells = IsRangeFrom.alone n;
          goes = range_sound _ s rest m h;
        }

    -- after a value
    after_sound : (in_slot : Slot) (n : ℕ) (s : Symbol) (rest : Rest) → Marks s c
        → tail_after (tail_read cs) (after_step in_slot n s) ≡ Some rest → AfterValue in_slot n (c ∷ cs) rest
    after_sound (slot.Modulus of) n s rest m h = operator_sound of (Some n) s rest m h
    after_sound slot.First n s rest m h = first_sound n s rest m h
    after_sound (slot.Last first) n s rest m h = range_sound (record { first = first; last = n }) s rest m h

    -- after a value and white space
    spaced_sound : (in_slot : Slot) (n : ℕ) (s : Symbol) (rest : Rest) → Marks s c
        → tail_after (tail_read cs) (spaced_step in_slot n s) ≡ Some rest → AfterValue in_slot n (c ∷ cs) rest
    spaced_sound in_slot n White rest m h =
        after_value_white in_slot n c cs rest m (onward (state.After in_slot n) rest (gone _ rest h))
    spaced_sound in_slot n s rest m h = after_sound in_slot n s rest m h

    -- after the last digit of a value
    ended_sound : (in_slot : Slot) (n : ℕ) (s : Symbol) (rest : Rest) (b : Bool) → is_fit in_slot n ≡ b → Marks s c
        → tail_after (tail_read cs) (if b then spaced_step in_slot n s else None) ≡ Some rest
        → Before (AreMore n) (AfterDigits in_slot) (c ∷ cs) rest
    ended_sound in_slot n s rest true fit m h =
        record {
          value = n;
          prefix = [];
          suffix = c ∷ cs;
          whole = refl;
          spells = record { decimal = tt; number = refl; within = λ w. w };
          goes = (fits in_slot n fit, spaced_sound in_slot n s rest m h);
        }
    ended_sound in_slot n s rest false fit m h = nothing_read h

    -- at one more digit
    digit_sound : (in_slot : Slot) (n d : ℕ) (rest : Rest) (b : Bool) → nat_le (10 * n + d) largest ≡ b
        → Marks (Digit d) c
        → tail_after (tail_read cs) (if b
        then (Some (record { state = state.Digits in_slot (10 * n + d); part = None }))
        else None) ≡ Some rest
        → Before (AreMore n) (AfterDigits in_slot) (c ∷ cs) rest
    digit_sound in_slot n d rest true small m h =
        let v = onward (state.Digits in_slot (10 * n + d)) rest (gone _ rest h) in
        record {
          value = v.value;
          prefix = c ∷ v.prefix;
          suffix = v.suffix;
          whole = ap (λ t. c ∷ t) v.whole;
          spells = more_digits n c d v.prefix v.value m.0 m.1 (leb-true _ _ small) v.spells;
          goes = v.goes;
        }
    digit_sound in_slot n d rest false small m h = nothing_read h

    -- after a digit
    digits_sound : (in_slot : Slot) (n : ℕ) (s : Symbol) (rest : Rest) → Marks s c
        → tail_after (tail_read cs) (digits_step in_slot n s) ≡ Some rest
        → Before (AreMore n) (AfterDigits in_slot) (c ∷ cs) rest
    digits_sound in_slot n (Digit d) rest m h = digit_sound in_slot n d rest (nat_le (10 * n + d) largest) refl m h
    digits_sound in_slot n s rest m h = ended_sound in_slot n s rest (is_fit in_slot n) refl m h

    -- after the first dot of a range
    dot_sound : (first : ℕ) (s : Symbol) (rest : Rest) → Marks s c
        → tail_after (tail_read cs) (dot_step first s) ≡ Some rest → Goes (state.Dot first) (c ∷ cs) rest
    dot_sound first Dot rest m h =
        let v = onward (state.Value (slot.Last first)) rest (gone _ rest h) in
        record {
          suffix = cs;
          whole = ap (λ x. x ∷ cs) m;
          goes = record {
            value = v.value;
            prefix = v.prefix;
            suffix = v.suffix;
            whole = v.whole;
            spells = v.spells;
            goes = v.goes.1;
          };
        }
    dot_sound first _ rest m h = nothing_read h

    -- after the `a` of `and`
    a_sound : (s : Symbol) (rest : Rest) → Marks s c → tail_after (tail_read cs) (a_step s) ≡ Some rest
        → Goes state.A (c ∷ cs) rest
    a_sound (Letter operand.N) rest m h =
        let b = onward state.An rest (gone _ rest h) in
        record { suffix = b.suffix; whole = ap (λ t. t ++ cs) (sym m) ∙ ap (λ t. 110 ∷ t) b.whole; goes = b.goes }
    a_sound _ rest m h = nothing_read h

    -- after the `an` of `and`
    an_sound : (s : Symbol) (rest : Rest) → Marks s c → tail_after (tail_read cs) (an_step s) ≡ Some rest
        → Goes state.An (c ∷ cs) rest
    an_sound D rest m h =
        record { suffix = cs; whole = ap (λ x. x ∷ cs) m; goes = onward state.Relation rest (gone _ rest h) }
    an_sound _ rest m h = nothing_read h

    -- after the `o` of `or`
    o_sound : (s : Symbol) (rest : Rest) → Marks s c → tail_after (tail_read cs) (o_step s) ≡ Some rest
        → Goes state.O (c ∷ cs) rest
    o_sound R rest m h =
        let t = given_read (tail_read cs state.Relation) part.Alternative rest h in
        record {
          suffix = cs;
          whole = ap (λ x. x ∷ cs) m;
          goes = record { tail = t.tail; with_tail = t.whole; goes = onward state.Relation t.tail t.reads };
        }
    o_sound _ rest m h = nothing_read h

    -- in the condition of other
    blank_sound : (s : Symbol) (rest : Rest) → Marks s c → tail_after (tail_read cs) (blank_step s) ≡ Some rest
        → Goes state.Blank (c ∷ cs) rest
    blank_sound White rest m h = let e = onward state.Blank rest (gone _ rest h) in (end_white c cs m e.0, e.1)
    blank_sound At rest m h =
        (record { samples = c ∷ cs; spaced = unspaced (c ∷ cs); are = m }, onward state.Samples rest (gone _ rest h))
    blank_sound _ rest m h = nothing_read h

    -- at every state
    step_sound : (from : RuleState) (s : Symbol) (rest : Rest) → Marks s c
        → tail_after (tail_read cs) (next_step from s) ≡ Some rest → Goes from (c ∷ cs) rest
    step_sound state.Relation s rest m h = relation_sound s rest m h
    step_sound (state.Operand of) s rest m h = operand_sound of s rest m h
    step_sound (state.Exclamation of by) s rest m h = exclamation_sound of by s rest m h
    step_sound (state.Value in_slot) s rest m h = value_sound in_slot s rest m h
    step_sound (state.Digits in_slot n) s rest m h = digits_sound in_slot n s rest m h
    step_sound (state.After in_slot n) s rest m h = spaced_sound in_slot n s rest m h
    step_sound (state.Dot first) s rest m h = dot_sound first s rest m h
    step_sound state.A s rest m h = a_sound s rest m h
    step_sound state.An s rest m h = an_sound s rest m h
    step_sound state.O s rest m h = o_sound s rest m h
    step_sound state.Samples s rest m h = onward state.Samples rest (gone _ rest h)
    step_sound state.Blank s rest m h = blank_sound s rest m h

-- Where the text ends:

-- an end may be empty
no_end : IsEnd []
no_end = record { samples = []; spaced = unspaced []; are = tt }

-- after a value or range the text may end
range_ends : (range : Values) (rest : Rest) → with_part (part.Values range) nothing_more ≡ rest
    → AfterRange range [] rest
range_ends range rest h = record {
  tail = nothing_more;
  with_tail = sym h;
  goes = record {
    values = [];
    onward = [];
    whole = refl;
    values_are = Follow.none;
    goes =
        record {
          relations = [];
          alternatives = [];
          ending = [];
          whole = refl;
          relations_are = Follow.none;
          alternatives_are = Follow.none;
          ends = no_end;
        };
  };
}

-- after a value
after_ends : (in_slot : Slot) (n : ℕ) (rest : Rest)
    → option_map (λ (step : RuleStep). with_optional step.part nothing_more) (after_step in_slot n At) ≡ Some rest
    → AfterValue in_slot n [] rest
after_ends (slot.Modulus of) n rest h = nothing_read h
after_ends slot.First n rest h =
    record {
      value = record { first = n; last = n };
      prefix = [];
      suffix = [];
      whole = refl;
      spells = IsRangeFrom.alone n;
      goes = range_ends _ rest (some_inner _ _ h);
    }
after_ends (slot.Last first) n rest h = range_ends _ rest (some_inner _ _ h)

-- after a digit
digits_end : (in_slot : Slot) (n : ℕ) (rest : Rest) (b : Bool) → is_fit in_slot n ≡ b
    → option_map (λ (step : RuleStep). with_optional step.part nothing_more)
    (if b then after_step in_slot n At else None) ≡ Some rest → Before (AreMore n) (AfterDigits in_slot) [] rest
digits_end in_slot n rest true fit h =
    record {
      value = n;
      prefix = [];
      suffix = [];
      whole = refl;
      spells = record { decimal = tt; number = refl; within = λ w. w };
      goes = (fits in_slot n fit, after_ends in_slot n rest h);
    }
digits_end in_slot n rest false fit h = nothing_read h

-- at every state
end_sound : (from : RuleState) (rest : Rest)
    → option_map (λ (step : RuleStep). with_optional step.part nothing_more) (next_step from At) ≡ Some rest
    → Goes from [] rest
end_sound (state.Digits in_slot n) rest h = digits_end in_slot n rest (is_fit in_slot n) refl h
end_sound (state.After in_slot n) rest h = after_ends in_slot n rest h
end_sound state.Samples rest h = sym (some_inner _ _ h)
end_sound state.Blank rest h = (no_end, sym (some_inner _ _ h))
end_sound state.Relation rest h = nothing_read h
end_sound (state.Operand of) rest h = nothing_read h
end_sound (state.Exclamation of by) rest h = nothing_read h
end_sound (state.Value in_slot) rest h = nothing_read h
end_sound (state.Dot first) rest h = nothing_read h
end_sound state.A rest h = nothing_read h
end_sound state.An rest h = nothing_read h
end_sound state.O rest h = nothing_read h

-- what is read of a text is what it says there
pub tail_read-Goes : (text : List ℕ) (from : RuleState) (rest : Rest) → tail_read text from ≡ Some rest
    → Goes from text rest
tail_read-Goes [] from rest h = end_sound from rest h
tail_read-Goes (c ∷ cs) from rest h = step_sound c cs (tail_read-Goes cs) from (symbol_of c) rest (symbol_marks c) h
