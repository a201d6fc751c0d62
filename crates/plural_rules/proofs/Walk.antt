-- The reader in the middle of a text.
use Rattle.std.proofs.Common.{◌≡◌, ℕ, ◌+◌, length, List, [], ◌∷◌, ◌++◌, Option, Some, None, refl, sym, ◌∙◌, ap}
use Rattle.std.proofs.Common.{append_assoc, add_assoc, zero-add, add-zero, length-append}
use Rattle.std.specs.Prelude.{encode_utf8, encode_utf8_all}
use Rattle.std.specs.Option.{option_map}
use Rattle.std.specs.Str.{chars, IsUtf8}
use Rattle.std.proofs.lemmas.Str.{chars_past_char, chars-nil}
use Rattle.plural_rules.specs.declared.category.Category.{Category}
use Rattle.plural_rules.specs.declared.condition.RulePart.{RulePart}
use Rattle.plural_rules.specs.declared.steps.RuleState.{RuleState}
use Rattle.plural_rules.specs.declared.steps.RuleStep.{RuleStep}
use Rattle.plural_rules.specs.declared.steps.Symbol.TheVariants.{At}
use Rattle.plural_rules.specs.NextStep.{start_step, option_to_list, parts_read, prefix_read, next_step, symbol_of}
use Rattle.plural_rules.specs.NextStep.{parts_after, prefix_after}
use Rattle.plural_rules.specs.ReadsParts.{condition_read, bytes_read, fault_at, RefusesText}

-- these parts have been read, the reader is in the state, and this is left of the text
pub record IsAt (category : Category) (text : List ℕ) (parts : List RulePart) (from : RuleState) (offset : ℕ)
    (rest : List ℕ) : Type 0 where
  pub read : option_map (λ more. parts ++ more) (parts_read rest from) ≡ condition_read category text
  pub bytes : offset + length (encode_utf8_all (prefix_read rest from)) ≡ bytes_read category text

-- the reader before a text
pub at_start : (category : Category) (text : List ℕ)
    → IsAt category text (option_to_list (start_step category).part) (start_step category).state 0 text
at_start category text = record { read = refl; bytes = zero-add (bytes_read category text) }

-- parts before parts before the rest
mapped_twice : (xs ys : List RulePart) (o : Option (List RulePart))
    → option_map (λ more. xs ++ more) (option_map (λ more. ys ++ more) o) ≡ option_map (λ more. (xs ++ ys) ++ more) o
mapped_twice xs ys None = refl
mapped_twice xs ys (Some zs) = ap Some (sym (append_assoc xs ys zs))

-- a step over a character
pub gone : (category : Category) (text : List ℕ) (parts : List RulePart) (from : RuleState) (offset : ℕ) (c : ℕ)
    (rest : List ℕ) (step : RuleStep)
    → IsAt category text parts from offset (c ∷ rest) → next_step from (symbol_of c) ≡ Some step
    → IsAt category text (parts ++ option_to_list step.part) step.state (offset + length (encode_utf8 c)) rest
gone category text parts from offset c rest step here is =
    let read : option_map (λ more. parts ++ more) (parts_after (parts_read rest) (next_step from (symbol_of c)))
    ≡ condition_read category text = here.read in
    let bytes : offset + length (encode_utf8_all (prefix_after c (prefix_read rest) (next_step from (symbol_of c))))
    ≡ bytes_read category text = here.bytes in
    record {
      read = sym (mapped_twice parts (option_to_list step.part) (parts_read rest step.state)) ∙ (rw is at read);
      bytes = add_assoc offset (length (encode_utf8 c)) (length (encode_utf8_all (prefix_read rest step.state)))
          ∙ (ap (λ n. offset + n) (sym (length-append (encode_utf8 c) (encode_utf8_all (prefix_read rest step.state))))
          ∙ (rw is at bytes));
    }

-- no step at a character
pub stopped : (category : Category) (text : List ℕ) (parts : List RulePart) (from : RuleState) (offset : ℕ) (c : ℕ)
    (rest : List ℕ)
    → IsAt category text parts from offset (c ∷ rest) → next_step from (symbol_of c) ≡ None
    → RefusesText category text (fault_at category offset)
stopped category text parts from offset c rest here is =
    let read : option_map (λ more. parts ++ more) (parts_after (parts_read rest) (next_step from (symbol_of c)))
    ≡ condition_read category text = here.read in
    let bytes : offset + length (encode_utf8_all (prefix_after c (prefix_read rest) (next_step from (symbol_of c))))
    ≡ bytes_read category text = here.bytes in
    (sym (rw is at read), ap (λ n. record { category = category; at = n }) (sym (add-zero offset) ∙ (rw is at bytes)))

-- the text ends where it may
pub ended : (category : Category) (text : List ℕ) (parts : List RulePart) (from : RuleState) (offset : ℕ)
    (step : RuleStep)
    → IsAt category text parts from offset [] → next_step from At ≡ Some step
    → condition_read category text ≡ Some (parts ++ option_to_list step.part)
ended category text parts from offset step here is =
    let read : option_map (λ more. parts ++ more)
    (option_map (λ (s : RuleStep). option_to_list s.part) (next_step from At))
    ≡ condition_read category text = here.read in
    sym (rw is at read)

-- the text ends where it may not
pub cut : (category : Category) (text : List ℕ) (parts : List RulePart) (from : RuleState) (offset : ℕ)
    → IsAt category text parts from offset [] → next_step from At ≡ None
    → RefusesText category text (fault_at category offset)
cut category text parts from offset here is =
    let read : option_map (λ more. parts ++ more)
    (option_map (λ (s : RuleStep). option_to_list s.part) (next_step from At))
    ≡ condition_read category text = here.read in
    (sym (rw is at read), ap (λ n. record { category = category; at = n }) (sym (add-zero offset) ∙ here.bytes))

-- the same over the bytes of the text

-- a step over a character
pub over_char : (category : Category) (text bytes rest : List ℕ) (parts parts' : List RulePart) (from to : RuleState)
    (offset offset' c : ℕ) (step : RuleStep)
    → IsUtf8 bytes → bytes ≡ encode_utf8 c ++ rest → offset' ≡ offset + length (encode_utf8 c)
    → IsAt category text parts from offset (chars bytes) → next_step from (symbol_of c) ≡ Some step → to ≡ step.state
    → parts' ≡ parts ++ option_to_list step.part
    → IsAt category text parts' to offset' (chars rest)
over_char category text bytes rest parts parts' from to offset offset' c step utf8 split moved here is to_is parts_is =
    let first : IsAt category text parts from offset (c ∷ chars rest) =
    (rw (chars_past_char bytes rest c utf8 split) at here) in
    rw (to_is, parts_is, moved) (gone category text parts from offset c (chars rest) step first is)

-- no step at a character
pub at_char : (category : Category) (text bytes rest : List ℕ) (parts : List RulePart) (from : RuleState)
    (offset at_byte c : ℕ)
    → IsUtf8 bytes → bytes ≡ encode_utf8 c ++ rest → at_byte ≡ offset
    → IsAt category text parts from offset (chars bytes) → next_step from (symbol_of c) ≡ None
    → RefusesText category text (fault_at category at_byte)
at_char category text bytes rest parts from offset at_byte c utf8 split same here is =
    let first : IsAt category text parts from offset (c ∷ chars rest) =
    (rw (chars_past_char bytes rest c utf8 split) at here) in
    rw same (stopped category text parts from offset c (chars rest) first is)

-- a text without bytes has no characters
no_chars : (bytes : List ℕ) → length bytes ≡ 0 → chars bytes ≡ []
no_chars [] _ = chars-nil
no_chars (b ∷ bs) h = cc

-- the text ends where it may
pub at_end : (category : Category) (text bytes : List ℕ) (parts parts' : List RulePart) (from : RuleState) (offset : ℕ)
    (step : RuleStep)
    → length bytes ≡ 0 → IsAt category text parts from offset (chars bytes) → next_step from At ≡ Some step
    → parts' ≡ parts ++ option_to_list step.part
    → condition_read category text ≡ Some parts'
at_end category text bytes parts parts' from offset step empty here is parts_is =
    rw parts_is (ended category text parts from offset step (rw (no_chars bytes empty) at here) is)

-- the text ends where it may not
pub cut_at_end : (category : Category) (text bytes : List ℕ) (parts : List RulePart) (from : RuleState)
    (offset at_byte : ℕ)
    → length bytes ≡ 0 → at_byte ≡ offset → IsAt category text parts from offset (chars bytes)
    → next_step from At ≡ None
    → RefusesText category text (fault_at category at_byte)
cut_at_end category text bytes parts from offset at_byte empty same here is =
    rw same (cut category text parts from offset (rw (no_chars bytes empty) at here) is)
