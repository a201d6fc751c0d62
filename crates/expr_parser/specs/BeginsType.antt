-- Which tokens some type begins with, the depths at them, and which of them are words that stand as types. Neither
-- limits the depth nor asks whether a word names a type.
-- Example: some type begins with `list <`, and with `lisp |`, and none with `list >`.
use Rattle.std.specs.Prelude.{◌≡◌, ℕ, Bool, List, ◌++◌, length}
use Rattle.soy_lexer.specs.declared.token.Token.{Token}
use Rattle.expr_parser.specs.declared.type_frame.TypeOperand.{TypeOperand}
use Rattle.expr_parser.specs.SpellsType.{SpellsType}

pub record BeginsType (tokens : List Token) (depths : List ℕ) (words : List Bool) : Type 0 where
  pub more : List Token
  pub other_depths : List ℕ
  pub other_words : List Bool
  pub operand : TypeOperand
  pub spells : SpellsType (tokens ++ more) (depths ++ other_depths) (words ++ other_words) operand
  pub one_depth_each : length depths ≡ length tokens
  pub one_word_each : length words ≡ length tokens
