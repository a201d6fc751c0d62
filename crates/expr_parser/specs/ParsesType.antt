-- What `parse_type` answers for tokens: of the longest prefix with which some type begins, the type that it spells
-- and the number of its tokens; or the first token that no type has there, that lies too deep, or that names no type.
-- Example: `list<int> x` gives a list of ints and 4; `list|int` is refused at `list`, and `map<int, T>` at its third
-- token.
use Rattle.std.specs.Prelude.{◌≡◌, ℕ, ◌+◌, ◌<◌, Bool, true, false, List, [], ◌∷◌, ◌++◌, length, Result, Ok, Err}
use Rattle.soy_base.specs.declared.code.Code.{Code}
use Rattle.soy_base.specs.declared.code.Code.TheVariants as code
use Rattle.soy_base.specs.declared.fault.Fault.{Fault}
use Rattle.soy_base.specs.declared.memory.Refusal.{Refusal}
use Rattle.soy_base.specs.declared.memory.Refusal.TheVariants as refusal
use Rattle.soy_lexer.specs.declared.token.Token.{Token}
use Rattle.soy_tree.specs.declared.soy_type.SoyType.{SoyType}
use Rattle.expr_parser.specs.declared.type_frame.TypeOperand.{TypeOperand}
use Rattle.expr_parser.specs.BeginsType.{BeginsType}
use Rattle.expr_parser.specs.Depths.{depth_limit, AreWithin}
use Rattle.expr_parser.specs.Offsets.{offset_after}
use Rattle.expr_parser.specs.SpellsType.{SpellsType}
use Rattle.expr_parser.specs.TypeTerminals.{is_type_name}

-- no type goes on with the rest
abbrev pub NoTypeGoesOn : List Token → List Token → Type 0
NoTypeGoesOn prefix [] = Unit {0}
NoTypeGoesOn prefix (t ∷ rest) = (depths : List ℕ) (words : List Bool) → BeginsType (prefix ++ t ∷ []) depths words → ⊥

-- each of the words that stand as types names one, with this rest after the tokens
abbrev pub NamesTypeIf : Bool → Token → List Token → Type 0
NamesTypeIf true token rest = is_type_name token rest ≡ true
NamesTypeIf false token rest = Unit {0}

abbrev pub NameTypes : List Token → List Bool → List Token → Type 0
NameTypes [] words rest = Unit {0}
NameTypes (t ∷ ts) [] rest = Unit {0}
NameTypes (t ∷ ts) (word ∷ words) rest = NamesTypeIf word t (ts ++ rest) × NameTypes ts words rest

-- the longest prefix with which some type begins is this one, no token of it lies too deep, and its words name types
pub record IsType (blocks : ℕ) (tokens : List Token) (of : SoyType) (count : ℕ) : Type 0 where
  pub prefix : List Token
  pub rest : List Token
  pub depths : List ℕ
  pub words : List Bool
  pub operand : TypeOperand
  pub whole : tokens ≡ prefix ++ rest
  pub spells : SpellsType prefix depths words operand
  pub type_is : operand.of ≡ of
  pub count_is : length prefix ≡ count
  pub longest : NoTypeGoesOn prefix rest
  pub within : AreWithin blocks depths
  pub known : NameTypes prefix words rest

-- refusal 4: the longest such prefix is no type, no token of it lies too deep, and its words name types
pub record IsNoType (blocks : ℕ) (tokens : List Token) (offset : ℕ) : Type 0 where
  pub prefix : List Token
  pub rest : List Token
  pub depths : List ℕ
  pub words : List Bool
  pub whole : tokens ≡ prefix ++ rest
  pub begins : BeginsType prefix depths words
  pub longest : NoTypeGoesOn prefix rest
  pub incomplete : (ds : List ℕ) (ws : List Bool) (x : TypeOperand) → SpellsType prefix ds ws x → ⊥
  pub within : AreWithin blocks depths
  pub known : NameTypes prefix words rest
  pub offset_is : offset_after prefix rest ≡ offset

-- refusals 5 and 8: some type begins with these tokens, and before the last of them none lies too deep or is an
-- unknown name
pub record BeginsFault (blocks : ℕ) (tokens : List Token) (offset : ℕ) : Type 0 where
  pub prefix : List Token
  pub token : Token
  pub rest : List Token
  pub depths : List ℕ
  pub depth : ℕ
  pub words : List Bool
  pub word : Bool
  pub whole : tokens ≡ prefix ++ token ∷ rest
  pub begins : BeginsType (prefix ++ token ∷ []) (depths ++ depth ∷ []) (words ++ word ∷ [])
  pub within : AreWithin blocks depths
  pub known : NameTypes prefix words (token ∷ rest)
  pub offset_is : token.span.start ≡ offset

-- the last of them lies too deep
pub record IsTooDeepType (blocks : ℕ) (tokens : List Token) (offset : ℕ) : Type 0 where
  pub fault : BeginsFault blocks tokens offset
  pub deep : depth_limit < blocks + fault.depth

-- or it doesn't, stands as a type and names none
pub record IsUnknownType (blocks : ℕ) (tokens : List Token) (offset : ℕ) : Type 0 where
  pub fault : BeginsFault blocks tokens offset
  pub shallow : AreWithin blocks (fault.depth ∷ [])
  pub stands : fault.word ≡ true
  pub unknown : is_type_name fault.token fault.rest ≡ false

-- why no type is read, and where
abbrev pub RefusesType : ℕ → List Token → Code → ℕ → Type 0
RefusesType blocks tokens code.Syntax offset = IsNoType blocks tokens offset
RefusesType blocks tokens code.Nesting offset = IsTooDeepType blocks tokens offset
RefusesType blocks tokens code.Mistyped offset = IsUnknownType blocks tokens offset
RefusesType blocks tokens _ offset = ⊥

abbrev pub ParsesType : ℕ → ℕ → List Token → Result (SoyType × ℕ) (Refusal Fault) → Type 0
ParsesType file blocks tokens (Ok t) = IsType blocks tokens t.0 t.1
ParsesType file blocks tokens (Err (refusal.Because fault)) =
    (fault.file ≡ file) × RefusesType blocks tokens fault.code fault.at
ParsesType file blocks tokens (Err refusal.OutOfMemory) = Unit {0}
