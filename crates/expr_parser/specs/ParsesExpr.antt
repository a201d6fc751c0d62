-- What `parse_expr` answers for tokens: of the longest prefix with which some expression begins, the expression that it
-- spells and the number of its tokens; or the first token that no expression has there, or the first that lies too
-- deep.
-- Example: `1 + 2 }` gives `1 + 2` and 3, and `1 + }` is refused at its third token.
use Rattle.std.specs.Prelude.{◌≡◌, ℕ, ◌+◌, ◌<◌, List, [], ◌∷◌, ◌++◌, length, Result, Ok, Err}
use Rattle.soy_base.specs.declared.code.Code.{Code}
use Rattle.soy_base.specs.declared.code.Code.TheVariants as code
use Rattle.soy_base.specs.declared.fault.Fault.{Fault}
use Rattle.soy_base.specs.declared.memory.Refusal.{Refusal}
use Rattle.soy_base.specs.declared.memory.Refusal.TheVariants as refusal
use Rattle.soy_lexer.specs.declared.token.Token.{Token}
use Rattle.soy_tree.specs.declared.expr.Expr.{Expr}
use Rattle.expr_parser.specs.declared.operand.Operand.{Operand}
use Rattle.expr_parser.specs.BeginsExpr.{BeginsExpr}
use Rattle.expr_parser.specs.Depths.{depth_limit, AreWithin}
use Rattle.expr_parser.specs.Offsets.{offset_after}
use Rattle.expr_parser.specs.SpellsExpr.{SpellsExpr}

-- no expression goes on with the rest
abbrev pub NoneGoesOn : List Token → List Token → Type 0
NoneGoesOn prefix [] = Unit {0}
NoneGoesOn prefix (t ∷ rest) = (depths : List ℕ) → BeginsExpr (prefix ++ t ∷ []) depths → ⊥

-- the longest prefix with which some expression begins is this one, and no token of it lies too deep
pub record IsExpr (blocks : ℕ) (tokens : List Token) (e : Expr) (count : ℕ) : Type 0 where
  pub prefix : List Token
  pub rest : List Token
  pub depths : List ℕ
  pub operand : Operand
  pub whole : tokens ≡ prefix ++ rest
  pub spells : SpellsExpr 9 prefix depths operand
  pub expr_is : operand.expr ≡ e
  pub count_is : length prefix ≡ count
  pub longest : NoneGoesOn prefix rest
  pub within : AreWithin blocks depths

-- refusal 4: the longest such prefix is no expression, and no token of it lies too deep
pub record IsNoExpr (blocks : ℕ) (tokens : List Token) (offset : ℕ) : Type 0 where
  pub prefix : List Token
  pub rest : List Token
  pub depths : List ℕ
  pub whole : tokens ≡ prefix ++ rest
  pub begins : BeginsExpr prefix depths
  pub longest : NoneGoesOn prefix rest
  pub incomplete : (ds : List ℕ) (x : Operand) → SpellsExpr 9 prefix ds x → ⊥
  pub within : AreWithin blocks depths
  pub offset_is : offset_after prefix rest ≡ offset

-- refusal 5: some expression begins with these tokens, of which the last is the first that lies too deep
pub record IsTooDeepExpr (blocks : ℕ) (tokens : List Token) (offset : ℕ) : Type 0 where
  pub prefix : List Token
  pub token : Token
  pub rest : List Token
  pub depths : List ℕ
  pub depth : ℕ
  pub whole : tokens ≡ prefix ++ token ∷ rest
  pub begins : BeginsExpr (prefix ++ token ∷ []) (depths ++ depth ∷ [])
  pub within : AreWithin blocks depths
  pub deep : depth_limit < blocks + depth
  pub offset_is : token.span.start ≡ offset

-- why no expression is read, and where
abbrev pub RefusesExpr : ℕ → List Token → Code → ℕ → Type 0
RefusesExpr blocks tokens code.Syntax offset = IsNoExpr blocks tokens offset
RefusesExpr blocks tokens code.Nesting offset = IsTooDeepExpr blocks tokens offset
RefusesExpr blocks tokens _ offset = ⊥

abbrev pub ParsesExpr : ℕ → ℕ → List Token → Result (Expr × ℕ) (Refusal Fault) → Type 0
ParsesExpr file blocks tokens (Ok e) = IsExpr blocks tokens e.0 e.1
ParsesExpr file blocks tokens (Err (refusal.Because fault)) = (fault.file ≡ file) × RefusesExpr blocks tokens
    fault.code fault.at
ParsesExpr file blocks tokens (Err refusal.OutOfMemory) = Unit {0}
