-- What canonical source is read as, part by part.
-- A written expression is read as one in a command, before a rest, where it begins with lexemes such that all tokens of
-- these lexemes spell an expression that is alike, none of them too deep inside so many blocks; and so is a type.
-- Example: `1 + (2 - 3)` is read as the sum of 1 and a difference before `}`, and isn't before `x`.
use Rattle.std.specs.Prelude.{◌≡◌, ℕ, Bool, List, ◌++◌, Result, Ok, Err}
use Rattle.std.specs.declared.alloc.Global.{Global}
use Rattle.std.specs.declared.vec.Vec.{Vec}
use Rattle.soy_base.specs.declared.fault.Fault.{Fault}
use Rattle.soy_base.specs.declared.memory.Refusal.{Refusal}
use Rattle.soy_base.specs.declared.memory.Refusal.TheVariants.{Because, OutOfMemory}
use Rattle.soy_lexer.specs.Tokens.{Tokens}
use Rattle.soy_lexer.specs.declared.token.Token.{Token}
use Rattle.soy_tree.specs.Expressions.{Expr}
use Rattle.soy_tree.specs.ViewExpressions.{view_expr}
use Rattle.expr_parser.specs.declared.operand.Operand.{Operand}
use Rattle.expr_parser.specs.declared.type_frame.TypeOperand.{TypeOperand}
use Rattle.expr_parser.specs.Depths.{AreWithin}
use Rattle.expr_parser.specs.SpellsExpr.{SpellsExpr}
use Rattle.expr_parser.specs.SpellsType.{SpellsType}
use Rattle.soy_format.specs.WithoutSpans.{expr_without_spans}
use Rattle.formatted_source.specs.CommandLexemes.{CommandLexemes}
use Rattle.formatted_source.specs.Lexemes.{Lexeme, lexemes}

-- the tokens spell an expression that is alike
pub record SpellAlike (blocks : ℕ) (tokens : List Token) (e : Expr) : Type 0 where
  pub depths : List ℕ
  pub operand : Operand
  pub spells : SpellsExpr 9 tokens depths operand
  pub within : AreWithin blocks depths
  pub alike : expr_without_spans (view_expr operand.expr) ≡ expr_without_spans e

pub record IsReadAsExpr (blocks : ℕ) (text rest : List ℕ) (e : Expr) : Type 0 where
  pub are : List Lexeme
  pub written : CommandLexemes (text ++ rest) are rest
  pub spell : (tokens : List Token) → lexemes tokens ≡ are → SpellAlike blocks tokens e

-- the tokens spell this type, at these depths and with these words that stand as types
pub record IsReadAsType (text rest : List ℕ) (depths : List ℕ) (words : List Bool) (x : TypeOperand) : Type 0 where
  pub are : List Lexeme
  pub written : CommandLexemes (text ++ rest) are rest
  pub spell : (tokens : List Token) → lexemes tokens ≡ are → SpellsType tokens depths words x

-- a whole text has tokens of these lexemes
pub record HasTokens (text : List ℕ) (ls : List Lexeme) : Type 0 where
  pub tokens : List Token
  pub whole : Tokens text tokens
  pub are : lexemes tokens ≡ ls

-- what `lex` answers are tokens of these lexemes, where memory doesn't run out
abbrev pub LexesAs : List Lexeme → Result (Vec Token Global) (Refusal Fault) → Type 0
LexesAs ls (Ok tokens) = lexemes tokens.items ≡ ls
LexesAs ls (Err (Because fault)) = ⊥
LexesAs ls (Err OutOfMemory) = Unit {0}
