-- The reading of a text segment by segment: what the segments to come make of the rest, all segments make of the whole.
use Rattle.std.proofs.Common.{◌≡◌, ℕ, ◌+◌, ◌<◌, ◌≤◌, List, [], ◌∷◌, ◌++◌, true, false, Option, None, Some, length, refl}
use Rattle.std.proofs.Common.{ap, subst, ◌∙◌, arith, append_assoc}
use Rattle.soy_base.specs.Cuts.{is_nil}
use Rattle.soy_base.specs.ByteLength.{byte_len}
use Rattle.soy_lexer.specs.Lexed.{HasRead, TakesSegment}
use Rattle.soy_lexer.specs.Lines.{RunCharacter}
use Rattle.soy_lexer.specs.Segment.{Segment, source_text}
use Rattle.soy_lexer.specs.ModeAfter.{mode_after}
use Rattle.soy_lexer.specs.declared.mode.Mode.{Mode}
use Rattle.soy_lexer.specs.Found.Found.{Begins, Fails}
use Rattle.soy_lexer.specs.declared.mode.Mode.TheVariants.{Outside}
use Rattle.soy_lexer.specs.Segments.{Segments}
use Rattle.soy_lexer.specs.Segments.Segments.{Ended, Stopped, Goes}
use Rattle.soy_lexer.specs.TextSegment.{segment_of}
use Rattle.soy_lexer.specs.Tokens.{Tokens, FirstFault, segment_tokens, run_after, run_token, tokens_of}
use Rattle.soy_lexer.specs.declared.lexer.Lexer.{Lexer}
use Rattle.soy_lexer.specs.declared.token.Token.{Token}
use Rattle.soy_lexer.proofs.SomeSegments.{begins_stands, rest_shorter}
use Rattle.soy_base.proofs.Texts.{byte_len-append}
use Rattle.soy_lexer.proofs.SourceTexts.{Stands, segment_stands}

-- with these segments to come, the whole text has its segments and tokens
pub record Whole (text : List ℕ) (tokens : List Token) (offset : ℕ) (run : List RunCharacter) (ps : List Segment)
    (stop : Option ℕ) : Type 0 where
  pub segments : List Segment
  pub whole : Segments 0 (Outside true) text segments stop
  pub tokens_are : tokens ++ tokens_of offset run ps ≡ tokens_of 0 [] segments

pub record GoesOn (text rest : List ℕ) (mode : Mode) (lexer : Lexer) (offset : ℕ) : Type 0 where
  pub tokens : List Token
  pub run : List RunCharacter
  pub reads : HasRead lexer tokens run
  pub within : byte_len text ≡ offset + byte_len rest
  pub goes : (ps : List Segment) (stop : Option ℕ) → Segments offset mode rest ps stop
      → Whole text tokens offset run ps stop

-- before the first segment
pub at_start : (text : List ℕ) (lexer : Lexer) → HasRead lexer [] [] → GoesOn text text (Outside true) lexer 0
at_start text lexer reads =
    record {
      tokens = [];
      run = [];
      reads = reads;
      within = omega arith;
      goes = λ ps stop d. record { segments = ps; whole = d; tokens_are = refl };
    }

module _ (text rest : List ℕ) (mode : Mode) (lexer : Lexer) (offset : ℕ) (old : GoesOn text rest mode lexer offset)
  where
    -- the rest is within the text
    pub rest_within : byte_len rest ≤ byte_len text
    rest_within = omega (arith, old.within)

    -- so is an offset where no token begins
    pub fails_within : (further : ℕ) → segment_of mode rest ≡ Fails further → offset + further ≤ byte_len text
    fails_within further fails =
        let within : further ≤ byte_len rest = subst (λ f. Stands rest f) fails (segment_stands mode rest) in
        omega (arith, old.within, within)

    -- at the text's end the tokens are those of the whole
    pub ended : is_nil rest ≡ true → (all : List Token) → all ≡ old.tokens ++ run_token old.run → Tokens text all
    ended nil all is = from rest nil old.goes
      where
        from : (rest : List ℕ) → is_nil rest ≡ true →
            ((ps : List Segment) (stop : Option ℕ) → Segments offset mode rest ps stop
            → Whole text old.tokens offset old.run ps stop) → Tokens text all
        from [] nil goes =
            let w = goes [] None (Ended offset mode) in
            record { segments = w.segments; whole = w.whole; tokens_are = is ∙ w.tokens_are }
        from (c ∷ cs) nil goes = absurd (cc)

    -- where no token begins is the whole text's first fault
    pub stopped : (further : ℕ) → is_nil rest ≡ false → segment_of mode rest ≡ Fails further
        → FirstFault text (offset + further)
    stopped further some fails = from rest some fails old.goes
      where
        from : (rest : List ℕ) → is_nil rest ≡ false → segment_of mode rest ≡ Fails further →
            ((ps : List Segment) (stop : Option ℕ) → Segments offset mode rest ps stop
            → Whole text old.tokens offset old.run ps stop) → FirstFault text (offset + further)
        from [] some fails goes = absurd (cc)
        from (c ∷ cs) some fails goes =
            let w = goes [] (Some (offset + further)) (Stopped offset mode c cs further fails) in
            record { segments = w.segments; prefix = w.whole }

    module _ (p : Segment) (rest' : List ℕ) (begins : segment_of mode rest ≡ Begins p rest') where
      -- a segment and the rest after it take the bytes of the rest before
      pub parts : byte_len rest ≡ byte_len (source_text p) + byte_len rest'
      parts = ap byte_len (begins_stands mode rest p rest' begins).0 ∙ byte_len-append (source_text p) rest'

      -- so the offset after it is counted on
      pub offset_after : byte_len text ≡ (offset + byte_len (source_text p)) + byte_len rest'
      offset_after = omega (arith, old.within, parts)

      -- and the rest after it is shorter
      pub smaller : length rest' < length rest
      smaller = rest_shorter mode rest p rest' begins

      -- and the reading goes on
      pub next : (lexer' : Lexer) (mode' : Mode) → is_nil rest ≡ false → mode' ≡ mode_after mode p
          → TakesSegment lexer lexer' offset p → GoesOn text rest' mode' lexer' (offset + byte_len (source_text p))
      next lexer' mode' some stands takes =
          record {
            tokens = old.tokens ++ segment_tokens offset old.run p;
            run = run_after offset old.run p;
            reads = takes old.tokens old.run old.reads;
            within = offset_after;
            goes = λ ps stop d.
                from rest some begins old.goes ps stop
                (subst (λ s. Segments (offset + byte_len (source_text p)) s rest' ps stop) stands d);
          }
        where
          from : (rest : List ℕ) → is_nil rest ≡ false → segment_of mode rest ≡ Begins p rest' →
              ((ps : List Segment) (stop : Option ℕ) → Segments offset mode rest ps stop
              → Whole text old.tokens offset old.run ps stop) →
              (ps : List Segment) (stop : Option ℕ)
              → Segments (offset + byte_len (source_text p)) (mode_after mode p) rest' ps stop →
              Whole text (old.tokens ++ segment_tokens offset old.run p) (offset + byte_len (source_text p))
              (run_after offset old.run p) ps stop
          from [] some begins goes ps stop d = absurd (cc)
          from (c ∷ cs) some begins goes ps stop d =
              let w = goes (p ∷ ps) stop (Goes offset mode c cs p rest' ps stop begins d) in
              record {
                segments = w.segments;
                whole = w.whole;
                tokens_are =
                    append_assoc old.tokens (segment_tokens offset old.run p)
                    (tokens_of (offset + byte_len (source_text p)) (run_after offset old.run p) ps) ∙ w.tokens_are;
              }
