-- What was read of a pattern: what is open, and what is expected there.
-- Example: after `{N, plural, ` nothing is open around the plural, and a key of it is expected, or its offset or end.
use Rattle.std.specs.Prelude.{ℕ, Bool, List}
use Rattle.soy_tree.specs.MessageParts.{MsgPart}
use Rattle.icu_text.specs.declared.state.ArmKey.{ArmKey}
use Rattle.icu_text.specs.declared.state.OpenPlural.{OpenPlural}
use Rattle.icu_text.specs.declared.state.OpenSelect.{OpenSelect}
use Rattle.icu_text.specs.declared.state.Frame.{Frame}
use Rattle.icu_text.specs.declared.state.ChoiceKind.{ChoiceKind}

-- an argument whose name was read, and the parts before it
pub record Argument : Type 0 where
  pub before : List MsgPart
  pub name : List ℕ

-- where a character stands among apostrophes: outside of quoted text, after an apostrophe that may begin some, in it,
-- or after an apostrophe in it
pub data Quoting : Type 0 where
  Unquoted : Quoting
  Apostrophe : Quoting
  Quoted : Quoting
  QuotedApostrophe : Quoting

pub data Expected : Type 0 where
  -- more of a text, of which these parts and these characters were read
  Text : List MsgPart → List ℕ → Quoting → Expected
  -- a name, after `{` and the parts before it; more of it; and what follows it
  Name : List MsgPart → Expected
  NameCharacter : List MsgPart → List ℕ → Expected
  NameEnd : Argument → Expected
  -- a word for a kind of choice, more letters of it, and the comma after it
  Choice : Argument → Expected
  ChoiceLetter : Argument → ChoiceKind → List ℕ → Expected
  ChoiceEnd : Argument → ChoiceKind → Expected
  -- a key of a plural or its end, or an offset where it says so; and what follows the `o` of either
  Key : OpenPlural → Bool → Expected
  KeyAfterO : OpenPlural → Bool → Expected
  -- more letters of a key, and then the text of its arm
  KeyLetter : OpenPlural → ArmKey → List ℕ → Expected
  -- more letters of `offset:`, and then its number; and more digits of that
  OffsetLetter : OpenPlural → List ℕ → Expected
  OffsetDigit : OpenPlural → ℕ → Expected
  -- the number of a key, its digits after a `-`, and more digits of it, negative where it says so
  ExactKey : OpenPlural → Expected
  NegativeKey : OpenPlural → Expected
  KeyDigit : OpenPlural → Bool → ℕ → Expected
  -- a word of a select, or its end; more of a word; and the text of its arm
  Word : OpenSelect → Expected
  WordCharacter : OpenSelect → List ℕ → Expected
  WordEnd : OpenSelect → List ℕ → Expected

pub record PatternState : Type 0 where
  pub frames : List Frame
  pub expected : Expected
