-- The tokens of a whole text: those that its segments give in their order, with each text run between them as one
-- token, or as none where nothing is left of it. And the first offset where no token begins.
--
-- `Hello // greet`, `world{sp}` and `<b>!</b>` as three lines give the text `Hello world`, the tokens `{`, `sp` and
-- `}`, and the text `<b>!</b>`.
use Rattle.std.specs.Prelude.{◌≡◌, ℕ, ◌+◌, List, [], ◌∷◌, ◌++◌, true, None, Some}
use Rattle.soy_base.specs.ByteLength.{byte_len}
use Rattle.soy_lexer.specs.Lines.{RunCharacter, Line, lines_of, joined, first_offset, last_end_offset}
use Rattle.soy_lexer.specs.Segment.{Segment, source_text}
use Rattle.soy_lexer.specs.Segment.Segment.{TextCharacter, Skipped, Literal, CommandToken}
use Rattle.soy_lexer.specs.declared.mode.Mode.TheVariants.{Outside}
use Rattle.soy_lexer.specs.Segments.{Segments}
use Rattle.soy_lexer.specs.declared.token.Token.{Token}
use Rattle.soy_lexer.specs.declared.token.TokenKind.{TokenKind}
use Rattle.soy_lexer.specs.declared.token.TokenKind.TheVariants as kind

abbrev pub token : TokenKind → ℕ → ℕ → List ℕ → Token
token kind start end text = record { kind = kind; span = record { start = start; end = end }; text = text }

-- a run stands from its first character that is left to its last one
abbrev pub token_of_lines : List Line → List Token
token_of_lines [] = []
token_of_lines (line ∷ lines) =
    token kind.Text (first_offset (line ∷ lines)) (last_end_offset 0 (line ∷ lines)) (joined (line ∷ lines)) ∷ []

abbrev pub run_token : List RunCharacter → List Token
run_token run = token_of_lines (lines_of run)

-- a literal stands from its first character, or from its `{` where it has none, up to its end
abbrev pub literal_start : ℕ → List ℕ → ℕ
literal_start offset [] = offset
literal_start offset (c ∷ cs) = offset + 9

-- the tokens that a segment at an offset gives, with the run before it where it ends that
abbrev pub segment_tokens : ℕ → List RunCharacter → Segment → List Token
segment_tokens offset run (TextCharacter c) = []
segment_tokens offset run (Skipped text) = []
segment_tokens offset run (Literal text) =
    run_token run ++ (token kind.Text (literal_start offset text) (offset + byte_len (source_text (Literal text))) text
    ∷ [])
segment_tokens offset run (CommandToken kind text value) =
    run_token run ++ (token kind offset (offset + byte_len text) value ∷ [])

-- the run so far after that segment
abbrev pub run_after : ℕ → List RunCharacter → Segment → List RunCharacter
run_after offset run (TextCharacter c) = run ++ (record { offset = offset; character = c } ∷ [])
run_after offset run (Skipped text) = run
run_after offset run (Literal text) = []
run_after offset run (CommandToken kind text value) = []

-- the tokens of segments from an offset on, after the run so far
abbrev pub tokens_of : ℕ → List RunCharacter → List Segment → List Token
tokens_of offset run [] = run_token run
tokens_of offset run (segment ∷ segments) =
    segment_tokens offset run segment
    ++ tokens_of (offset + byte_len (source_text segment)) (run_after offset run segment)
    segments

-- these are the tokens of the text
pub record Tokens (text : List ℕ) (tokens : List Token) : Type 0 where
  pub segments : List Segment
  pub whole : Segments 0 (Outside true) text segments None
  pub tokens_are : tokens ≡ tokens_of 0 [] segments

-- this is the first offset of the text, in bytes, where no token begins
pub record FirstFault (text : List ℕ) (offset : ℕ) : Type 0 where
  pub segments : List Segment
  pub prefix : Segments 0 (Outside true) text segments (Some offset)
