-- What `lex` answers for a text with tokens of known lexemes.
use Rattle.std.proofs.Common.{◌≡◌, ℕ, ◌≤◌, List, [], length, Result, Ok, Err, None, Some, inl, inr, sym, ap}
use Rattle.std.proofs.Common.{subst, ◌∙◌, arith}
use Rattle.std.specs.Str.{chars}
use Rattle.std.specs.declared.alloc.Global.{Global}
use Rattle.std.specs.declared.vec.Vec.{Vec}
use Rattle.soy_base.specs.declared.fault.Fault.{Fault}
use Rattle.soy_base.specs.declared.memory.Refusal.{Refusal}
use Rattle.soy_base.specs.declared.memory.Refusal.TheVariants.{Because, OutOfMemory}
use Rattle.soy_lexer.specs.Lexes.{Lexes}
use Rattle.soy_base.specs.Limits.{largest_file}
use Rattle.soy_lexer.specs.Tokens.{FirstFault, Tokens, tokens_of}
use Rattle.soy_lexer.specs.declared.token.Token.{Token}
use Rattle.soy_lexer.proofs.OneSegments.{one_segments}
use Rattle.formatted_source.specs.Lexemes.{Lexeme, lexemes}
use Rattle.formatted_source.specs.ReadsAs.{HasTokens, LexesAs}

-- a text has one list of tokens, and no fault beside it
pub same_tokens : (text : List ℕ) (first second : List Token) → Tokens text first → Tokens text second → first ≡ second
same_tokens text first second one two =
    one.tokens_are
    ∙ (ap (λ ps. tokens_of 0 [] ps)
    (one_segments 0 _ text one.segments two.segments None None one.whole two.whole).0
    ∙ sym two.tokens_are)

no_fault : (text : List ℕ) (tokens : List Token) (offset : ℕ) → Tokens text tokens → FirstFault text offset → ⊥
no_fault text tokens offset one two =
    let e : None ≡ Some offset =
    (one_segments 0 _ text one.segments two.segments None (Some offset) one.whole two.prefix).1 in
    cc

pub lexes_as : (file : ℕ) (page text : List ℕ) (ls : List Lexeme) (answer : Result (Vec Token Global) (Refusal Fault))
    → HasTokens text ls → chars page ≡ text → length page ≤ largest_file → Lexes file page answer → LexesAs ls answer
lexes_as file page text ls (Ok tokens) has is within h =
    let own : Tokens text tokens.items = subst (λ t. Tokens t tokens.items) is h.1 in
    ap lexemes (same_tokens text tokens.items has.tokens own has.whole) ∙ has.are
lexes_as file page text ls (Err (Because fault)) has is within h =
    elim h [
      | inl large ↦ omega (arith, within, large.over)
      | inr none ↦ no_fault text has.tokens none.offset has.whole (subst (λ t. FirstFault t none.offset) is none.first)
    ]
lexes_as file page text ls (Err OutOfMemory) has is within h = tt
