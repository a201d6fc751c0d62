-- What `parse` answers for tokens: the tree that they all spell, or the first token with which no file goes on, that
-- lies too deep or that names no type.
-- Example: the tokens of `{namespace a` are refused with 4 at their end, and `{namespace a}{` there too.
use Rattle.std.specs.Prelude.{◌≡◌, ℕ, ◌<◌, Bool, true, false, List, [], ◌∷◌, ◌++◌, Result, Ok, Err}
use Rattle.soy_base.specs.declared.code.Code.{Code}
use Rattle.soy_base.specs.declared.code.Code.TheVariants as code
use Rattle.soy_base.specs.declared.fault.Fault.{Fault}
use Rattle.soy_base.specs.declared.memory.Refusal.{Refusal}
use Rattle.soy_base.specs.declared.memory.Refusal.TheVariants as refusal
use Rattle.soy_lexer.specs.declared.token.Token.{Token}
use Rattle.soy_tree.specs.declared.tree.Tree.{Tree}
use Rattle.expr_parser.specs.Depths.{depth_limit, AreWithin}
use Rattle.expr_parser.specs.Offsets.{offset_after}
use Rattle.expr_parser.specs.ParsesType.{NameTypes}
use Rattle.expr_parser.specs.TypeTerminals.{is_type_name}
use Rattle.soy_parser.specs.SpellsFile.{SpellsFile, BeginsFile}

-- the tokens are the tree, none of them lies too deep, and their words name types
pub record IsFile (tokens : List Token) (tree : Tree) : Type 0 where
  pub depths : List ℕ
  pub words : List Bool
  pub spells : SpellsFile tokens depths words tree
  pub within : AreWithin 0 depths
  pub known : NameTypes tokens words []

-- no file goes on with the rest; where there is none, the tokens are no file
abbrev pub NoFileGoesOn : List Token → List Token → Type 0
NoFileGoesOn prefix [] = (depths : List ℕ) (words : List Bool) (tree : Tree) → SpellsFile prefix depths words tree → ⊥
NoFileGoesOn prefix (t ∷ rest) = (depths : List ℕ) (words : List Bool) → BeginsFile (prefix ++ t ∷ []) depths words → ⊥

-- refusal 4: some file begins with the prefix, of which no token lies too deep and whose words name types; none goes on
pub record IsNoFile (tokens : List Token) (offset : ℕ) : Type 0 where
  pub prefix : List Token
  pub rest : List Token
  pub depths : List ℕ
  pub words : List Bool
  pub whole : tokens ≡ prefix ++ rest
  pub begins : BeginsFile prefix depths words
  pub longest : NoFileGoesOn prefix rest
  pub within : AreWithin 0 depths
  pub known : NameTypes prefix words rest
  pub offset_is : offset_after prefix rest ≡ offset

-- refusals 5 and 8: some file begins with the prefix and the token, and before the token none lies too deep or is an
-- unknown name
pub record BeginsFileFault (tokens : List Token) (offset : ℕ) : Type 0 where
  pub prefix : List Token
  pub token : Token
  pub rest : List Token
  pub depths : List ℕ
  pub depth : ℕ
  pub words : List Bool
  pub word : Bool
  pub whole : tokens ≡ prefix ++ token ∷ rest
  pub begins : BeginsFile (prefix ++ token ∷ []) (depths ++ depth ∷ []) (words ++ word ∷ [])
  pub within : AreWithin 0 depths
  pub known : NameTypes prefix words (token ∷ rest)
  pub offset_is : token.span.start ≡ offset

-- the token lies too deep
pub record IsTooDeep (tokens : List Token) (offset : ℕ) : Type 0 where
  pub fault : BeginsFileFault tokens offset
  pub deep : depth_limit < fault.depth

-- or it doesn't, stands as a type and names none
pub record IsUnknown (tokens : List Token) (offset : ℕ) : Type 0 where
  pub fault : BeginsFileFault tokens offset
  pub shallow : AreWithin 0 (fault.depth ∷ [])
  pub stands : fault.word ≡ true
  pub unknown : is_type_name fault.token fault.rest ≡ false

-- why no file is read, and where
abbrev pub RefusesTokens : List Token → Code → ℕ → Type 0
RefusesTokens tokens code.Syntax offset = IsNoFile tokens offset
RefusesTokens tokens code.Nesting offset = IsTooDeep tokens offset
RefusesTokens tokens code.Mistyped offset = IsUnknown tokens offset
RefusesTokens tokens _ offset = ⊥

abbrev pub ParsesFile : ℕ → List Token → Result Tree (Refusal Fault) → Type 0
ParsesFile file tokens (Ok tree) = IsFile tokens tree
ParsesFile file tokens (Err (refusal.Because fault)) = (fault.file ≡ file) × RefusesTokens tokens fault.code fault.at
ParsesFile file tokens (Err refusal.OutOfMemory) = Unit {0}
