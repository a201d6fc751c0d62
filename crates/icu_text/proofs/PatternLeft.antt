-- What may follow where the machine stands, in the words of the grammar.
use Rattle.std.proofs.Common.{◌≡◌, ◌⊎◌, ℕ, suc, ◌≤◌, Bool, true, false, List, [], ◌∷◌, ◌++◌, IsTrue}
use Rattle.std.specs.Prelude.{codes}
use Rattle.std.specs.Char.{is_ascii_digit}
use Rattle.std.specs.List.{list_all}
use Rattle.std.specs.Str.Parse.{digits_value_after}
use Rattle.plural_rules.specs.declared.category.Category.TheVariants as category
use Rattle.soy_base.specs.Characters.{single_quote, left_brace, right_brace, comma, minus_sign}
use Rattle.soy_base.specs.Names.{continues_name}
use Rattle.soy_base.specs.WhiteSpace.{is_template_space}
use Rattle.soy_base.specs.Limits.{largest}
use Rattle.soy_tree.specs.Formed.{is_word_character}
use Rattle.soy_tree.specs.MessageParts.{MsgPart, MsgParts, Placeholder}
use Rattle.soy_tree.specs.ViewMessageParts.{parts_of}
use Rattle.soy_rules.specs.IcuText.{PatternMode, Reads, with_text, Quoted, IsNumber, Key, IsArgument, PluralArms}
use Rattle.soy_rules.specs.IcuText.{WordArms}
use Rattle.icu_text.specs.declared.state.ArmKey.{ArmKey}
use Rattle.icu_text.specs.declared.state.ArmKey.TheVariants as arm_key
use Rattle.icu_text.specs.PatternStates.{Argument}
use Rattle.icu_text.specs.declared.state.ChoiceKind.{ChoiceKind}
use Rattle.icu_text.specs.declared.state.ChoiceKind.TheVariants as choice
use Rattle.icu_text.specs.declared.state.OpenPlural.{OpenPlural}
use Rattle.icu_text.specs.declared.state.OpenSelect.{OpenSelect}
use Rattle.icu_text.specs.declared.state.Frame.{Frame}
use Rattle.icu_text.specs.declared.state.Frame.TheVariants as frame
use Rattle.icu_text.specs.PatternStates.{Expected}
use Rattle.icu_text.specs.PatternStates as expected
use Rattle.icu_text.specs.FirstArms.{has_category, has_word}
use Rattle.icu_text.specs.PatternSteps.{pattern_mode, with_arm, with_word, with_offset, new_plural, new_select}
use Rattle.icu_text.specs.PatternSteps.{plural_part, select_part, signed}
use Rattle.icu_text.proofs.KeptArms.{with_arms, with_words}
use Rattle.icu_text.proofs.ReadParts.{after_parts}
use Rattle.icu_text.proofs.Heads.{kind_word}

-- what stands after white space, a character, letters or digits

pub record After (A : List ℕ → Type 0) (text : List ℕ) : Type 0 where
  pub white : List ℕ
  pub tail : List ℕ
  pub whole : text ≡ white ++ tail
  pub is_white : IsTrue (list_all is_template_space white)
  pub left : A tail

pub record Behind (c : ℕ) (A : List ℕ → Type 0) (text : List ℕ) : Type 0 where
  pub tail : List ℕ
  pub whole : text ≡ c ∷ tail
  pub left : A tail

pub record Lettered (letters : List ℕ) (A : List ℕ → Type 0) (text : List ℕ) : Type 0 where
  pub tail : List ℕ
  pub whole : text ≡ letters ++ tail
  pub left : A tail

pub record Passed (test : ℕ → Bool) (before : List ℕ) (A : List ℕ → List ℕ → Type 0) (text : List ℕ) : Type 0 where
  pub more : List ℕ
  pub tail : List ℕ
  pub whole : text ≡ more ++ tail
  pub passes : IsTrue (list_all test more)
  pub left : A (before ++ more) tail

pub record Digits (n : ℕ) (A : ℕ → List ℕ → Type 0) (text : List ℕ) : Type 0 where
  pub more : List ℕ
  pub tail : List ℕ
  pub whole : text ≡ more ++ tail
  pub digits : IsTrue (list_all is_ascii_digit more)
  pub within : digits_value_after 10 n more ≤ largest
  pub left : A (digits_value_after 10 n more) tail

pub record Numbered (A : ℕ → List ℕ → Type 0) (text : List ℕ) : Type 0 where
  pub digits : List ℕ
  pub value : ℕ
  pub tail : List ℕ
  pub whole : text ≡ digits ++ tail
  pub is : IsNumber digits value
  pub left : A value tail

-- a text from here on, and what ends it

pub record IsText (at : PatternMode) (n : ℕ) (Ends : MsgParts → List ℕ → Type 0) (l : List MsgPart × List ℕ)
    (text : List ℕ) : Type 0 where
  pub parts : MsgParts
  pub rest : List ℕ
  pub reads : Reads at n text parts rest
  pub ends : Ends (after_parts l.0 (with_text l.1 parts)) rest

pub record IsArms (n : ℕ) (Then : List MsgPart × List ℕ → List ℕ → Type 0) (plural : OpenPlural)
    (text : List ℕ) : Type 0 where
  pub arms : List (Key × MsgParts)
  pub rest : List ℕ
  pub reads : PluralArms n text arms (right_brace ∷ rest)
  pub other : has_category category.Other (with_arms plural arms).named ≡ true
  pub follows : Then ((with_arms plural arms).before ++ plural_part (with_arms plural arms) ∷ [], []) rest

pub record IsWords (n : ℕ) (Then : List MsgPart × List ℕ → List ℕ → Type 0) (select : OpenSelect)
    (text : List ℕ) : Type 0 where
  pub arms : List (List ℕ × MsgParts)
  pub rest : List ℕ
  pub reads : WordArms n text arms (right_brace ∷ rest)
  pub other : has_word (codes "other") (with_words select arms).arms ≡ true
  pub follows : Then ((with_words select arms).before ++ select_part (with_words select arms) ∷ [], []) rest

pub record IsHead (n : ℕ) (Then : List MsgPart × List ℕ → List ℕ → Type 0) (before : List MsgPart)
    (text : List ℕ) : Type 0 where
  pub argument : MsgPart
  pub rest : List ℕ
  pub is : IsArgument n text argument (right_brace ∷ rest)
  pub follows : Then (before ++ argument ∷ [], []) rest

pub record IsKind (A : ChoiceKind → List ℕ → Type 0) (text : List ℕ) : Type 0 where
  pub kind : ChoiceKind
  pub tail : List ℕ
  pub whole : text ≡ kind_word kind ++ tail
  pub left : A kind tail

pub record IsQuoted (A : List ℕ → List ℕ → Type 0) (text : List ℕ) : Type 0 where
  pub chars : List ℕ
  pub after : List ℕ
  pub quoted : Quoted text chars after
  pub left : A chars after

-- the parts of a text in these frames, in which so many more braces may open, lead to all parts where this follows
abbrev pub Ends : List Frame → ℕ → List MsgPart → MsgParts → List ℕ → Type 0
Ends [] n out ps rest = (rest ≡ []) × (parts_of out ≡ ps)
Ends (frame.Plural plural key ∷ fs) n out ps rest =
    Behind right_brace (After (IsArms n (IsText (pattern_mode fs) (suc n) (Ends fs (suc n) out))
    (with_arm plural key ps))) rest
Ends (frame.Select select word ∷ fs) n out ps rest =
    Behind right_brace (After (IsWords n (IsText (pattern_mode fs) (suc n) (Ends fs (suc n) out))
    (with_word select word ps))) rest

module _ (fs : List Frame) (n : ℕ) (out : List MsgPart) where
  abbrev pub TextLeft : List MsgPart × List ℕ → List ℕ → Type 0
  TextLeft = IsText (pattern_mode fs) n (Ends fs n out)

  abbrev pub QuotedLeft : List MsgPart × List ℕ → List ℕ → Type 0
  QuotedLeft l = IsQuoted (λ chars. TextLeft (l.0, l.1 ++ chars))

module _ (fs : List Frame) (n : ℕ) (out : List MsgPart) where
  abbrev pub ArmsLeft : OpenPlural → List ℕ → Type 0
  ArmsLeft = IsArms n (TextLeft fs (suc n) out)

  abbrev pub WordsLeft : OpenSelect → List ℕ → Type 0
  WordsLeft = IsWords n (TextLeft fs (suc n) out)

  abbrev pub KeyEndLeft : OpenPlural → ArmKey → List ℕ → Type 0
  KeyEndLeft plural key = After (Behind left_brace (TextLeft (frame.Plural plural key ∷ fs) n out ([], [])))

  abbrev pub WordEndLeft : OpenSelect → List ℕ → List ℕ → Type 0
  WordEndLeft select word = After (Behind left_brace (TextLeft (frame.Select select word ∷ fs) n out ([], [])))

  abbrev pub OffsetLeft : OpenPlural → List ℕ → Type 0
  OffsetLeft plural = After (Numbered (λ v. After (ArmsLeft (with_offset plural v))))

  abbrev pub KeyTail : Bool → OpenPlural → List ℕ → Type 0
  KeyTail false plural text = ArmsLeft plural text
  KeyTail true plural text = ArmsLeft plural text ⊎ Lettered (codes "offset:") (OffsetLeft plural) text

  abbrev pub KeyLeft : Bool → OpenPlural → List ℕ → Type 0
  KeyLeft starts plural = After (KeyTail starts plural)

  abbrev pub OpenedLeft : Argument → ChoiceKind → List ℕ → Type 0
  OpenedLeft a choice.Plural text = KeyLeft true (new_plural false a) text
  OpenedLeft a choice.Ordinal text = KeyLeft true (new_plural true a) text
  OpenedLeft a choice.Select text = After (WordsLeft (new_select a)) text

  abbrev pub KindEndLeft : Argument → ChoiceKind → List ℕ → Type 0
  KindEndLeft a kind = After (Behind comma (OpenedLeft a kind))

  abbrev pub OrdinalMore : Argument → ChoiceKind → List ℕ → Type 0
  OrdinalMore a choice.Select text = Lettered (codes "ordinal") (KindEndLeft a choice.Ordinal) text
  OrdinalMore a _ text = ⊥

  abbrev pub KindMore : Argument → ChoiceKind → List ℕ → Type 0
  KindMore a kind text = KindEndLeft a kind text ⊎ OrdinalMore a kind text

  abbrev pub ChoiceLeft : Argument → List ℕ → Type 0
  ChoiceLeft a = After (IsKind (KindEndLeft a))

  abbrev pub NameTail : Argument → List ℕ → Type 0
  NameTail a text =
      Behind right_brace (TextLeft fs (suc n) out (a.before ++ Placeholder a.name ∷ [], [])) text
      ⊎ Behind comma (ChoiceLeft a) text

  abbrev pub NumberLeft : OpenPlural → Bool → ℕ → List ℕ → Type 0
  NumberLeft plural minus v = KeyEndLeft plural (arm_key.Exact (signed minus v))

  abbrev pub Left : Expected → List ℕ → Type 0
  Left (expected.Text ps t expected.Unquoted) text = TextLeft fs n out (ps, t) text
  Left (expected.Text ps t expected.Apostrophe) text = TextLeft fs n out (ps, t) (single_quote ∷ text)
  Left (expected.Text ps t expected.Quoted) text = QuotedLeft fs n out (ps, t) text
  Left (expected.Text ps t expected.QuotedApostrophe) text = QuotedLeft fs n out (ps, t) (single_quote ∷ text)
  Left (expected.Name before) text = IsHead n (TextLeft fs (suc n) out) before text
  Left (expected.NameCharacter before name) text =
      Passed continues_name name (λ whole. After (NameTail (record { before = before; name = whole }))) text
  Left (expected.NameEnd a) text = After (NameTail a) text
  Left (expected.Choice a) text = ChoiceLeft a text
  Left (expected.ChoiceLetter a kind letters) text = Lettered letters (KindMore a kind) text
  Left (expected.ChoiceEnd a kind) text = KindEndLeft a kind text
  Left (expected.Key plural starts) text = KeyLeft starts plural text
  Left (expected.KeyAfterO plural starts) text = KeyTail starts plural (111 ∷ text)
  Left (expected.KeyLetter plural key letters) text = Lettered letters (KeyEndLeft plural key) text
  Left (expected.OffsetLetter plural letters) text = Lettered letters (OffsetLeft plural) text
  Left (expected.OffsetDigit plural v) text = Digits v (λ w. After (ArmsLeft (with_offset plural w))) text
  Left (expected.ExactKey plural) text =
      After (λ t. Numbered (NumberLeft plural false) t ⊎ Behind minus_sign (Numbered (NumberLeft plural true)) t) text
  Left (expected.NegativeKey plural) text = Numbered (NumberLeft plural true) text
  Left (expected.KeyDigit plural minus v) text = Digits v (NumberLeft plural minus) text
  Left (expected.Word select) text = After (WordsLeft select) text
  Left (expected.WordCharacter select word) text = Passed is_word_character word (WordEndLeft select) text
  Left (expected.WordEnd select word) text = WordEndLeft select word text

-- how many more braces may open: in an argument one fewer than in the text around it
abbrev pub braces : Expected → ℕ
braces (expected.Text ps t q) = 64
braces _ = 63

-- a number that was read is within the range
abbrev pub Fits : Expected → Type 0
Fits (expected.OffsetDigit p v) = v ≤ largest
Fits (expected.KeyDigit p minus v) = v ≤ largest
Fits _ = Unit {0}
