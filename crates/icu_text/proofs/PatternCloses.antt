-- Wherever the machine stands, some characters lead to the end of a pattern.
use Rattle.std.proofs.Common.{◌≡◌, ℕ, ◌==◌, Bool, true, false, List, [], ◌∷◌, ◌++◌, Some, refl, ◌∙◌}
use Rattle.std.proofs.Common.{arith}
use Rattle.std.specs.Prelude.{codes}
use Rattle.std.proofs.lemmas.Bool.Decides.{nat_tests}
use Rattle.plural_rules.specs.declared.category.Category.TheVariants as category
use Rattle.soy_tree.specs.MessageParts.{MsgPart, Placeholder, no_part}
use Rattle.soy_tree.specs.ViewMessageParts.{parts_of}
use Rattle.icu_text.specs.declared.state.ArmKey.{ArmKey}
use Rattle.icu_text.specs.declared.state.ArmKey.TheVariants as arm_key
use Rattle.icu_text.specs.PatternStates.{Argument}
use Rattle.icu_text.specs.declared.state.ChoiceKind.{ChoiceKind}
use Rattle.icu_text.specs.declared.state.ChoiceKind.TheVariants as choice
use Rattle.icu_text.specs.declared.state.OpenPlural.{OpenPlural}
use Rattle.icu_text.specs.declared.state.OpenSelect.{OpenSelect}
use Rattle.icu_text.specs.declared.state.Frame.{Frame}
use Rattle.icu_text.specs.declared.state.Frame.TheVariants as frame
use Rattle.icu_text.specs.PatternStates.{Expected}
use Rattle.icu_text.specs.PatternStates as expected
use Rattle.icu_text.specs.PatternStates.{PatternState}
use Rattle.icu_text.specs.FirstArms.{has_category, has_word, with_named, with_select}
use Rattle.icu_text.specs.PatternSteps.{with_arm, with_word, with_offset, opened, plural_part, select_part}
use Rattle.icu_text.specs.PatternSteps.{new_select, signed}
use Rattle.icu_text.proofs.PatternRunning.{at, in_text, parsed}
use Rattle.icu_text.proofs.ReadParts.{all_parts}
use Rattle.icu_text.proofs.KeptArms.{kept_other, kept_word}

pub record Closes (s : PatternState) : Type 0 where
  pub more : List ℕ
  pub parts : List MsgPart
  pub is : parsed more s ≡ Some parts

-- after these characters, where the state after them closes
led : {s : PatternState} (to : PatternState) (text : List ℕ)
    → ((more : List ℕ) → parsed (text ++ more) s ≡ parsed more to) → Closes to → Closes s
led to text step c = record { more = text ++ c.more; parts = c.parts; is = step c.more ∙ c.is }

same : (c : ℕ) → (c == c) ≡ true
same c = grind (arith, nat_tests)

other_there : (p : OpenPlural) → has_category category.Other (with_named p.named category.Other no_part) ≡ true
other_there p = kept_other category.Other p.named no_part

word_there : (s : OpenSelect) → has_word (codes "other") (with_select s.arms (codes "other") no_part) ≡ true
word_there s = kept_word (codes "other") s.arms no_part (codes "other")

module _ (fs : List Frame) (inside : (l : List MsgPart × List ℕ) → Closes (in_text fs l)) where
  key_closes : (p : OpenPlural) (starts : Bool) → Closes (at fs (expected.Key p starts))
  key_closes p starts =
      let q : OpenPlural = with_arm p (arm_key.Named category.Other) no_part in
      led (in_text fs (q.before ++ plural_part q ∷ [], [])) (codes "other{}}") (λ more. rw (other_there p) refl)
      (inside (q.before ++ plural_part q ∷ [], []))

  word_closes : (s : OpenSelect) → Closes (at fs (expected.Word s))
  word_closes s =
      let q : OpenSelect = with_word s (codes "other") no_part in
      led (in_text fs (q.before ++ select_part q ∷ [], [])) (codes "other{}}") (λ more. rw (word_there s) refl)
      (inside (q.before ++ select_part q ∷ [], []))

  arm_closes : (p : OpenPlural) (key : ArmKey) → Closes (at fs (expected.KeyLetter p key []))
  arm_closes p key = led (at fs (expected.Key (with_arm p key no_part) false)) (codes "{}") (λ more. refl)
      (key_closes (with_arm p key no_part) false)

  digit_closes : (p : OpenPlural) (minus : Bool) (v : ℕ) → Closes (at fs (expected.KeyDigit p minus v))
  digit_closes p minus v =
      led (at fs (expected.Key (with_arm p (arm_key.Exact (signed minus v)) no_part) false)) (codes "{}") (λ more. refl)
      (key_closes (with_arm p (arm_key.Exact (signed minus v)) no_part) false)

  o_closes : (p : OpenPlural) (starts : Bool) → Closes (at fs (expected.KeyAfterO p starts))
  o_closes p starts =
      led (at fs (expected.KeyLetter p (arm_key.Named category.Other) [])) (codes "ther") (λ more. refl)
      (arm_closes p (arm_key.Named category.Other))

  offset_closes : (p : OpenPlural) (v : ℕ) → Closes (at fs (expected.OffsetDigit p v))
  offset_closes p v = led (at fs (expected.KeyAfterO (with_offset p v) false)) (codes "o") (λ more. refl)
      (o_closes (with_offset p v) false)

  key_letters : (letters : List ℕ) (p : OpenPlural) (key : ArmKey) (more : List ℕ)
      → parsed (letters ++ more) (at fs (expected.KeyLetter p key letters)) ≡ parsed more
      (at fs (expected.KeyLetter p key []))
  key_letters [] p key more = refl
  key_letters (l ∷ ls) p key more = rw (same l) (key_letters ls p key more)

  offset_letters : (letters : List ℕ) (p : OpenPlural) (more : List ℕ)
      → parsed (letters ++ more) (at fs (expected.OffsetLetter p letters)) ≡ parsed more
      (at fs (expected.OffsetLetter p []))
  offset_letters [] p more = refl
  offset_letters (l ∷ ls) p more = rw (same l) (offset_letters ls p more)

  choice_letters : (letters : List ℕ) (a : Argument) (kind : ChoiceKind) (more : List ℕ)
      → parsed (letters ++ more) (at fs (expected.ChoiceLetter a kind letters)) ≡ parsed more
      (at fs (expected.ChoiceLetter a kind []))
  choice_letters [] a kind more = refl
  choice_letters (l ∷ ls) a kind more = rw (same l) (choice_letters ls a kind more)

  opened_closes : (a : Argument) (kind : ChoiceKind) → Closes (at fs (opened a kind))
  opened_closes a choice.Plural = key_closes _ true
  opened_closes a choice.Ordinal = key_closes _ true
  opened_closes a choice.Select = word_closes (new_select a)

  choice_end : (a : Argument) (kind : ChoiceKind) (more : List ℕ)
      → parsed (codes "," ++ more) (at fs (expected.ChoiceLetter a kind [])) ≡ parsed more (at fs (opened a kind))
  choice_end a choice.Plural more = refl
  choice_end a choice.Ordinal more = refl
  choice_end a choice.Select more = refl

  pub expected_closes : (x : Expected) → Closes (at fs x)
  expected_closes (expected.Text ps t expected.Unquoted) = inside (ps, t)
  expected_closes (expected.Text ps t expected.Apostrophe) =
      led (in_text fs (ps, t ++ codes "'")) (codes "'") (λ more. refl) (inside (ps, t ++ codes "'"))
  expected_closes (expected.Text ps t expected.Quoted) =
      led (in_text fs (ps, t ++ codes "x")) (codes "'x") (λ more. refl) (inside (ps, t ++ codes "x"))
  expected_closes (expected.Text ps t expected.QuotedApostrophe) =
      led (in_text fs (ps, t ++ codes "x")) (codes "x") (λ more. refl) (inside (ps, t ++ codes "x"))
  expected_closes (expected.Name before) =
      led (in_text fs (before ++ Placeholder (codes "x") ∷ [], [])) (codes "x}") (λ more. refl)
      (inside (before ++ Placeholder (codes "x") ∷ [], []))
  expected_closes (expected.NameCharacter before name) =
      led (in_text fs (before ++ Placeholder name ∷ [], [])) (codes "}") (λ more. refl)
      (inside (before ++ Placeholder name ∷ [], []))
  expected_closes (expected.NameEnd a) =
      led (in_text fs (a.before ++ Placeholder a.name ∷ [], [])) (codes "}") (λ more. refl)
      (inside (a.before ++ Placeholder a.name ∷ [], []))
  expected_closes (expected.Choice a) =
      led (at fs (opened a choice.Select)) (codes "select,") (λ more. refl) (opened_closes a choice.Select)
  expected_closes (expected.ChoiceLetter a kind letters) =
      led (at fs (expected.ChoiceLetter a kind [])) letters (choice_letters letters a kind)
      (led (at fs (opened a kind)) (codes ",") (choice_end a kind) (opened_closes a kind))
  expected_closes (expected.ChoiceEnd a kind) =
      led (at fs (opened a kind)) (codes ",") (λ more. refl) (opened_closes a kind)
  expected_closes (expected.Key p starts) = key_closes p starts
  expected_closes (expected.KeyAfterO p starts) = o_closes p starts
  expected_closes (expected.KeyLetter p key letters) =
      led (at fs (expected.KeyLetter p key [])) letters (key_letters letters p key) (arm_closes p key)
  expected_closes (expected.OffsetLetter p letters) =
      led (at fs (expected.OffsetLetter p [])) letters (offset_letters letters p)
      (led (at fs (expected.OffsetDigit p 0)) (codes "0") (λ more. refl) (offset_closes p 0))
  expected_closes (expected.OffsetDigit p v) = offset_closes p v
  expected_closes (expected.ExactKey p) =
      led (at fs (expected.KeyDigit p false 0)) (codes "0") (λ more. refl) (digit_closes p false 0)
  expected_closes (expected.NegativeKey p) =
      led (at fs (expected.KeyDigit p true 0)) (codes "0") (λ more. refl) (digit_closes p true 0)
  expected_closes (expected.KeyDigit p minus v) = digit_closes p minus v
  expected_closes (expected.Word s) = word_closes s
  expected_closes (expected.WordCharacter s word) = led (at fs (expected.Word (with_word s word no_part))) (codes "{}")
      (λ more. refl) (word_closes (with_word s word no_part))
  expected_closes (expected.WordEnd s word) = led (at fs (expected.Word (with_word s word no_part))) (codes "{}")
      (λ more. refl) (word_closes (with_word s word no_part))

text_closes : (fs : List Frame) (l : List MsgPart × List ℕ) → Closes (in_text fs l)
text_closes [] l = record { more = []; parts = all_parts l; is = refl }
text_closes (frame.Plural p key ∷ fs) l =
    led (at fs (expected.Key (with_arm p key (parts_of (all_parts l))) false)) (codes "}") (λ more. refl)
    (key_closes fs (text_closes fs) (with_arm p key (parts_of (all_parts l))) false)
text_closes (frame.Select s word ∷ fs) l =
    led (at fs (expected.Word (with_word s word (parts_of (all_parts l))))) (codes "}") (λ more. refl)
    (word_closes fs (text_closes fs) (with_word s word (parts_of (all_parts l))))

pub closes : (s : PatternState) → Closes s
closes s = expected_closes s.frames (text_closes s.frames) s.expected
