-- What is read of a whole text are its tokens.
use Rattle.std.proofs.Common.{◌≡◌, ℕ, ◌+◌, true, false, List, [], ◌∷◌, ◌++◌, refl, sym, ap, subst, ◌∙◌}
use Rattle.std.proofs.Common.{append_assoc}
use Rattle.std.proofs.lemmas.List.{map-append}
use Rattle.soy_base.specs.ByteLength.{byte_len}
use Rattle.soy_base.specs.WhiteSpace.{is_template_space}
use Rattle.soy_lexer.specs.Found.Found.{Begins}
use Rattle.soy_lexer.specs.Lines.{RunCharacter, characters}
use Rattle.soy_lexer.specs.Segment.{Segment}
use Rattle.soy_lexer.specs.Segment.Segment.{TextCharacter, Skipped, CommandToken}
use Rattle.soy_lexer.specs.Tokens.{run_token, tokens_of, token}
use Rattle.soy_lexer.specs.declared.token.Token.{Token}
use Rattle.soy_lexer.specs.declared.token.TokenKind.{TokenKind}
use Rattle.formatted_source.specs.Lexemes.{Lexeme, lexeme, lexemes}
use Rattle.formatted_source.specs.ReadsAs.{HasTokens}
use Rattle.formatted_source.proofs.ReadTexts.{Where, Outside, Opened, Inside, segment_at, after_token}
use Rattle.formatted_source.proofs.ReadTexts.{after_skipped, Reads}
use Rattle.formatted_source.proofs.ReadTexts.{SegmentsAt, ends_at, character_at, skipped_at, after_at, token_at}
use Rattle.formatted_source.proofs.Runs.{RunLexemes}

-- a text that is read there, after these characters of a run, has segments with these lexemes
record HasSegments (w : Where) (offset : ℕ) (r : List RunCharacter) (text : List ℕ) (ls : List Lexeme) : Type 0 where
  pub segments : List Segment
  pub whole : SegmentsAt w offset text segments
  pub are : lexemes (tokens_of offset r segments) ≡ ls

-- no segment begins with nothing
none_begins : (w : Where) (segment : Segment) (next : List ℕ) → segment_at w [] ≡ Begins segment next → ⊥
none_begins (Outside true) segment next e = cc
none_begins (Outside false) segment next e = cc
none_begins Opened segment next e = cc
none_begins Inside segment next e = cc

with_skipped : (w : Where) (offset : ℕ) (r : List RunCharacter) (text skipped next : List ℕ) (ls : List Lexeme)
    → segment_at w text ≡ Begins (Skipped skipped) next
    → HasSegments (after_skipped w) (offset + byte_len skipped) r next ls → HasSegments w offset r text ls
with_skipped w offset r [] skipped next ls e h = absurd (none_begins w (Skipped skipped) next e)
with_skipped w offset r (c ∷ cs) skipped next ls e h = record {
  segments = Skipped skipped ∷ h.segments;
  whole = skipped_at w offset c cs skipped next h.segments e h.whole;
  are = h.are;
}

with_token : (w : Where) (offset : ℕ) (r : List RunCharacter) (text source value next : List ℕ) (k : TokenKind)
    (before ls : List Lexeme) → segment_at w text ≡ Begins (CommandToken k source value) next
    → lexemes (run_token r) ≡ before
    → HasSegments (after_token k) (offset + byte_len source) [] next ls
    → HasSegments w offset r text (before ++ ((k, value) ∷ ls))
with_token w offset r [] source value next k before ls e run h =
    absurd (none_begins w (CommandToken k source value) next e)
with_token w offset r (c ∷ cs) source value next k before ls e run h =
    let one : Token = token k offset (offset + byte_len source) value in
    record {
      segments = CommandToken k source value ∷ h.segments;
      whole = token_at w offset c cs source value next k h.segments e
          (after_at k (offset + byte_len source) next h.segments h.whole);
      are = map-append lexeme (run_token r ++ (one ∷ [])) (tokens_of (offset + byte_len source) [] h.segments)
          ∙ (ap (λ l. l ++ lexemes (tokens_of (offset + byte_len source) [] h.segments))
          (map-append lexeme (run_token r) (one ∷ []))
          ∙ (append_assoc (lexemes (run_token r)) ((k, value) ∷ [])
          (lexemes (tokens_of (offset + byte_len source) [] h.segments))
          ∙ (ap (λ l. l ++ ((k, value) ∷ lexemes (tokens_of (offset + byte_len source) [] h.segments))) run
          ∙ ap (λ l. before ++ ((k, value) ∷ l)) h.are)));
    }

segments_of : (w v : Where) (run text rest last : List ℕ) (ls end : List Lexeme) → Reads w run text ls v last rest
    → rest ≡ [] → RunLexemes last end → (offset : ℕ) (r : List RunCharacter) → characters r ≡ run
    → HasSegments w offset r text (ls ++ end)
segments_of _ _ _ _ _ _ _ end (Reads.here_ w run rest) none ends offset r e = record {
  segments = [];
  whole = subst (λ l. SegmentsAt w offset l []) (sym none) (ends_at w offset);
  are = ends r e;
}
segments_of _ _ _ _ _ _ _ end (Reads.character_ w v run text c ls last rest e d) none ends offset r is =
    let one : RunCharacter = record { offset = offset; character = c } in
    let more = segments_of _ v _ text rest last ls end d none ends (offset + byte_len (c ∷ [])) (r ++ (one ∷ []))
    (map-append (λ c. c.character) r (one ∷ []) ∙ ap (λ l. l ++ (c ∷ [])) is) in
    record {
      segments = TextCharacter c ∷ more.segments;
      whole = character_at w offset c text more.segments (is_template_space c) refl e more.whole;
      are = more.are;
    }
segments_of _ _ _ _ _ _ _ end (Reads.skipped_ w v run text skipped next ls last rest e d) none ends offset r is =
    with_skipped w offset r text skipped next (ls ++ end) e
    (segments_of _ v _ next rest last ls end d none ends (offset + byte_len skipped) r is)
segments_of _ _ _ _ _ _ _ end (Reads.token_ w v run text source value next k before ls last rest e b d) none ends
    offset r is =
    subst (HasSegments w offset r text) (sym (append_assoc before ((k, value) ∷ ls) end))
    (with_token w offset r text source value next k before (ls ++ end) e (b r is)
    (segments_of _ v _ next rest last ls end d none ends (offset + byte_len source) [] refl))

-- **What is read of a whole text, and the run that is open at its end, are its tokens.**
pub reads_tokens : (v : Where) (text last : List ℕ) (ls end : List Lexeme) → Reads (Outside true) [] text ls v last []
    → RunLexemes last end → HasTokens text (ls ++ end)
reads_tokens v text last ls end d ends =
    let all = segments_of (Outside true) v [] text [] last ls end d refl ends 0 [] refl in
    record {
      tokens = tokens_of 0 [] all.segments;
      whole = record { segments = all.segments; whole = all.whole; tokens_are = refl };
      are = all.are;
    }
