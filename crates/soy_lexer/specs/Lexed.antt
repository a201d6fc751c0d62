-- What the reading of a text that is within the limit answers: its tokens, or the first offset where no token begins.
use Rattle.std.specs.Prelude.{◌≡◌, ℕ, List, [], ◌∷◌, ◌++◌, Result, Ok, Err}
use Rattle.std.specs.declared.alloc.Global.{Global}
use Rattle.std.specs.declared.vec.Vec.{Vec}
use Rattle.soy_base.specs.declared.memory.Refusal.{Refusal}
use Rattle.soy_base.specs.declared.memory.Refusal.TheVariants.{Because, OutOfMemory}
use Rattle.soy_lexer.specs.IsRunOf.{IsRunOf}
use Rattle.soy_lexer.specs.Lines.{RunCharacter}
use Rattle.soy_lexer.specs.Segment.{Segment}
use Rattle.soy_lexer.specs.Tokens.{Tokens, FirstFault, segment_tokens, run_after, run_token}
use Rattle.soy_lexer.specs.declared.lexer.Lexer.{Lexer}
use Rattle.soy_lexer.specs.declared.token.Token.{Token}

abbrev pub Lexed : List ℕ → Result (Vec Token Global) (Refusal ℕ) → Type 0
Lexed text (Ok tokens) = Tokens text tokens.items
Lexed text (Err (Because offset)) = FirstFault text offset
Lexed text (Err OutOfMemory) = Unit {0}

-- a lexer has these tokens so far, and its run these characters
pub record HasRead (lexer : Lexer) (tokens : List Token) (run : List RunCharacter) : Type 0 where
  pub tokens_are : lexer.tokens.items ≡ tokens
  pub run_is : IsRunOf lexer.run run

-- it takes a segment that stands at this offset
abbrev pub TakesSegment : Lexer → Lexer → ℕ → Segment → Type 0
TakesSegment old new offset segment =
    (tokens : List Token) (run : List RunCharacter) → HasRead old tokens run
    → HasRead new (tokens ++ segment_tokens offset run segment) (run_after offset run segment)

-- it ends its run, whose token it takes if anything is left of it
abbrev pub EndsRun : Lexer → Lexer → Type 0
EndsRun old new =
    (tokens : List Token) (run : List RunCharacter) → HasRead old tokens run → HasRead new (tokens ++ run_token run) []

-- it ends its run, and takes a token after it
abbrev pub TakesToken : Lexer → Lexer → Token → Type 0
TakesToken old new token =
    (tokens : List Token) (run : List RunCharacter) → HasRead old tokens run →
    HasRead new (tokens ++ (run_token run ++ token ∷ [])) []
