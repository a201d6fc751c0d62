-- What `lex` answers for the text of a file, given as its bytes: its tokens; or that it is over the limit; or the first
-- offset where no token begins; or that memory ran out, of which nothing is said.
use Rattle.std.specs.Prelude.{◌≡◌, ℕ, ◌≤◌, ◌<◌, List, length, ◌⊎◌, Result, Ok, Err}
use Rattle.std.specs.Str.{chars}
use Rattle.std.specs.declared.alloc.Global.{Global}
use Rattle.std.specs.declared.vec.Vec.{Vec}
use Rattle.soy_base.specs.declared.code.Code.TheVariants as code
use Rattle.soy_base.specs.declared.fault.Fault.{Fault}
use Rattle.soy_base.specs.declared.memory.Refusal.{Refusal}
use Rattle.soy_base.specs.declared.memory.Refusal.TheVariants.{Because, OutOfMemory}
use Rattle.soy_lexer.specs.Tokens.{Tokens, FirstFault}
use Rattle.soy_lexer.specs.declared.token.Token.{Token}
use Rattle.soy_base.specs.Limits.{largest_file}

pub record TooLarge (file : ℕ) (text : List ℕ) (fault : Fault) : Type 0 where
  pub over : largest_file < length text
  pub fault_is : fault ≡ record { code = code.TooLarge; file = file; at = 0 }

pub record NoToken (file : ℕ) (text : List ℕ) (fault : Fault) : Type 0 where
  pub within : length text ≤ largest_file
  pub offset : ℕ
  pub first : FirstFault (chars text) offset
  pub fault_is : fault ≡ record { code = code.Lex; file = file; at = offset }

abbrev pub RefusesFile : ℕ → List ℕ → Refusal Fault → Type 0
RefusesFile file text (Because fault) = TooLarge file text fault ⊎ NoToken file text fault
RefusesFile file text OutOfMemory = Unit {0}

abbrev pub Lexes : ℕ → List ℕ → Result (Vec Token Global) (Refusal Fault) → Type 0
Lexes file text (Ok tokens) = (length text ≤ largest_file) × Tokens (chars text) tokens.items
Lexes file text (Err refusal) = RefusesFile file text refusal
