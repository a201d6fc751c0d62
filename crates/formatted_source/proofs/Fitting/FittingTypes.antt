-- A type of a text fits as it is written, inside so many blocks: tokens of its lexemes spell it, none of them too deep,
-- and its words name types.
use Rattle.std.proofs.Common.{◌≡◌, ℕ, Bool, List, [], refl}
use Rattle.soy_lexer.specs.declared.token.Token.{Token}
use Rattle.soy_tree.specs.Types.{SoyType}
use Rattle.soy_tree.specs.ViewTypes.{view_type}
use Rattle.expr_parser.specs.declared.type_frame.TypeOperand.{TypeOperand}
use Rattle.expr_parser.specs.Depths.{AreWithin}
use Rattle.expr_parser.specs.ParsesType.{NameTypes}
use Rattle.expr_parser.specs.SpellsType.{SpellsType}
use Rattle.formatted_source.specs.Lexemes.{lexemes}
use Rattle.formatted_source.specs.TypeLexemes.{type_lexemes}
use Rattle.formatted_source.proofs.TypesSpelled.{spelled_lexemes}

pub record TypeFits (blocks : ℕ) (of : SoyType) : Type 0 where
  pub tokens : List Token
  pub depths : List ℕ
  pub words : List Bool
  pub operand : TypeOperand
  pub is : view_type operand.of ≡ of
  pub are : lexemes tokens ≡ type_lexemes of
  pub spells : SpellsType tokens depths words operand
  pub names : NameTypes tokens words []
  pub within : AreWithin blocks depths

pub type_fits : (blocks : ℕ) (ts : List Token) (ds : List ℕ) (ws : List Bool) (x : TypeOperand) → AreWithin blocks ds
    → NameTypes ts ws [] → SpellsType ts ds ws x → TypeFits blocks (view_type x.of)
type_fits blocks ts ds ws x within names s = record {
  tokens = ts;
  depths = ds;
  words = ws;
  operand = x;
  is = refl;
  are = spelled_lexemes ts ds ws x [] s names refl;
  spells = s;
  names = names;
  within = within;
}
