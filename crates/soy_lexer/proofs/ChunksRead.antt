-- What is read at once of a text: its characters are segments one after the other, outside of commands those of a run
-- and inside of one white space that is skipped.
use Rattle.std.proofs.Common.{◌≡◌, ℕ, ◌+◌, ◌<◌, ◌≤◌, ◌==◌, List, [], ◌∷◌, ◌++◌, Bool, true, false, Option, IsTrue}
use Rattle.std.proofs.Common.{length, refl, sym, ap, subst, ◌∙◌, ◌&&◌, arith, append-nil, append_assoc, length-append}
use Rattle.std.specs.List.{list_all}
use Rattle.std.specs.Char.{len_utf8}
use Rattle.std.proofs.lemmas.Bool.Decides.{nat_tests}
use Rattle.soy_base.specs.Cuts.{is_nil, prefix_while, after_while}
use Rattle.soy_base.specs.WhiteSpace.{is_template_space}
use Rattle.soy_base.specs.ByteLength.{byte_len}
use Rattle.soy_lexer.specs.Lexed.{TakesSegment}
use Rattle.soy_lexer.specs.Lines.{RunCharacter}
use Rattle.soy_lexer.specs.Segment.{Segment, source_text}
use Rattle.soy_lexer.specs.ModeAfter.{mode_after}
use Rattle.soy_lexer.specs.declared.mode.Mode.{Mode}
use Rattle.soy_lexer.specs.Found.Found.{Begins}
use Rattle.soy_lexer.specs.Segment.Segment.{TextCharacter, Skipped}
use Rattle.soy_lexer.specs.declared.mode.Mode.TheVariants.{Outside, Opened, Inside}
use Rattle.soy_lexer.specs.Segments.{Segments}
use Rattle.soy_lexer.specs.Segments.Segments.{Goes}
use Rattle.soy_lexer.specs.TextSegment.{segment_of}
use Rattle.soy_lexer.specs.Chunks.{is_plain, at_once, after_at_once, mode_after_all, ends_white, run_characters}
use Rattle.soy_lexer.specs.Chunks.{characters_at_once, TakesAll}
use Rattle.soy_lexer.specs.declared.lexer.Lexer.{Lexer}
use Rattle.soy_lexer.specs.declared.token.Token.{Token}
use Rattle.soy_lexer.proofs.CommandSegments.{begins_white, while-whole}
use Rattle.soy_lexer.proofs.Reading.{GoesOn, Whole, next, offset_after, smaller}
use Rattle.soy_base.proofs.Texts.{byte_len-append}

-- a text that begins with a plain character begins with that as a segment
plain_begins : (white : Bool) (c : ℕ) (cs : List ℕ) → IsTrue (is_plain c)
    → segment_of (Outside white) (c ∷ cs) ≡ Begins (TextCharacter c) cs
plain_begins white c cs h = by_white white
  where
    no_slash : (47 == c) ≡ false
    no_slash = grind (arith, nat_tests, h)

    no_brace : (123 == c) ≡ false
    no_brace = grind (arith, nat_tests, h)

    no_opening : (c == 123) ≡ false
    no_opening = grind (arith, nat_tests, h)

    no_closing : (c == 125) ≡ false
    no_closing = grind (arith, nat_tests, h)

    no_null : (0 == c) ≡ false
    no_null = grind (arith, nat_tests, h)

    by_white : (white : Bool) → segment_of (Outside white) (c ∷ cs) ≡ Begins (TextCharacter c) cs
    by_white true = rw (no_slash, no_brace, no_opening, no_closing, no_null) refl
    by_white false = rw (no_slash, no_brace, no_opening, no_closing, no_null) refl

-- the longest prefix of characters that pass a test is one of them
passing : (test : ℕ → Bool) (text : List ℕ) → IsTrue (list_all test (prefix_while test text))
passing test [] = refl
passing test (c ∷ cs) = by_first (test c) refl (passing test cs)
  where
    by_first : (t : Bool) → test c ≡ t → IsTrue (list_all test (prefix_while test cs)) →
        IsTrue (list_all test (prefix_while test (c ∷ cs)))
    by_first true e h = rw (e, e) h
    by_first false e h = rw e refl

-- the first of characters that pass a test, and the others
first_passing : (a b : Bool) → IsTrue (a && b) → IsTrue a × IsTrue b
first_passing true b h = (refl, h)
first_passing false b h = absurd (cc)

-- what is read at once and what follows it are the text
pub at_once_whole : (mode : Mode) (text : List ℕ) → text ≡ at_once mode text ++ after_at_once mode text
at_once_whole (Outside white) text = while-whole is_plain text
at_once_whole Opened text = refl
at_once_whole Inside text = while-whole is_template_space text

-- what follows is no longer than the text
pub at_once_shorter : (mode : Mode) (text : List ℕ) → length (after_at_once mode text) ≤ length text
at_once_shorter mode text =
    omega (arith, ap length (at_once_whole mode text), length-append (at_once mode text) (after_at_once mode text))

pub at_once_byte_len : (mode : Mode) (text : List ℕ)
    → byte_len text ≡ byte_len (at_once mode text) + byte_len (after_at_once mode text)
at_once_byte_len mode text =
    ap byte_len (at_once_whole mode text) ∙ byte_len-append (at_once mode text) (after_at_once mode text)

module _ (text : List ℕ) (tokens : List Token) where
  -- what the segments to come make of the whole
  abbrev Makes : ℕ → List RunCharacter → Mode → List ℕ → Type 0
  Makes offset run mode rest =
      (ps : List Segment) (stop : Option ℕ) → Segments offset mode rest ps stop → Whole text tokens offset run ps stop

  -- no characters
  none_made : (mode : Mode) (rest : List ℕ) (offset : ℕ) (run : List RunCharacter) → Makes offset run mode rest
      → Makes (offset + 0) (run ++ []) mode rest
  none_made mode rest offset run makes ps stop d =
      let zero : offset + 0 ≡ offset = omega arith in
      rw (zero, append-nil run) (makes ps stop (rw zero at d))

  -- one character of a run
  one_made : (c : ℕ) (white : Bool) (rest : List ℕ) (offset : ℕ) (run : List RunCharacter)
      → IsTrue (is_plain c) → Makes offset run (Outside white) (c ∷ rest) →
      Makes (offset + len_utf8 c) (run ++ record { offset = offset; character = c } ∷ [])
      (Outside (is_template_space c)) rest
  one_made c white rest offset run is makes ps stop d =
      let one : offset + byte_len (c ∷ []) ≡ offset + len_utf8 c = omega arith in
      let before : Segments (offset + byte_len (c ∷ [])) (Outside (is_template_space c)) rest ps stop = rw one d in
      let w = makes (TextCharacter c ∷ ps) stop
      (Goes offset (Outside white) c rest (TextCharacter c) rest ps stop (plain_begins white c rest is) before) in
      rw (← one) (record { segments = w.segments; whole = w.whole; tokens_are = w.tokens_are })

  -- many
  plain_made : (w : List ℕ) → IsTrue (list_all is_plain w)
      → (white : Bool) (rest : List ℕ) (offset : ℕ) (run : List RunCharacter)
      → Makes offset run (Outside white) (w ++ rest) →
      Makes (offset + byte_len w) (run ++ run_characters offset w) (Outside (ends_white white w)) rest
  plain_made [] is white rest offset run makes ps stop d = none_made (Outside white) rest offset run makes ps stop d
  plain_made (c ∷ cs) is white rest offset run makes ps stop d =
      let both = first_passing (is_plain c) (list_all is_plain cs) is in
      let here : RunCharacter = record { offset = offset; character = c } in
      let same : (offset + len_utf8 c) + byte_len cs ≡ offset + byte_len (c ∷ cs) = omega arith in
      let more : Makes ((offset + len_utf8 c) + byte_len cs)
      ((run ++ here ∷ []) ++ run_characters (offset + len_utf8 c) cs) (Outside (ends_white white (c ∷ cs))) rest =
      plain_made cs both.1 (is_template_space c) rest (offset + len_utf8 c) (run ++ here ∷ [])
      (one_made c white (cs ++ rest) offset run both.0 makes) in
      subst (λ l. Whole text tokens (offset + byte_len (c ∷ cs)) l ps stop)
      (append_assoc run (here ∷ []) (run_characters (offset + len_utf8 c) cs))
      (subst (λ n. Whole text tokens n ((run ++ here ∷ []) ++ run_characters (offset + len_utf8 c) cs) ps stop) same
      (more ps stop (subst (λ n. Segments n (Outside (ends_white white (c ∷ cs))) rest ps stop) (sym same) d)))

  -- one character of white space in a command
  one_skipped : (c : ℕ) (rest : List ℕ) (offset : ℕ) (run : List RunCharacter) → IsTrue (is_template_space c)
      → Makes offset run Inside (c ∷ rest) → Makes (offset + len_utf8 c) run Inside rest
  one_skipped c rest offset run is makes ps stop d =
      let one : offset + byte_len (c ∷ []) ≡ offset + len_utf8 c = omega arith in
      let before : Segments (offset + byte_len (c ∷ [])) Inside rest ps stop = rw one d in
      let w = makes (Skipped (c ∷ []) ∷ ps) stop
      (Goes offset Inside c rest (Skipped (c ∷ [])) rest ps stop (begins_white c rest is) before) in
      rw (← one) (record { segments = w.segments; whole = w.whole; tokens_are = w.tokens_are })

  -- many
  white_skipped : (w : List ℕ) → IsTrue (list_all is_template_space w)
      → (rest : List ℕ) (offset : ℕ) (run : List RunCharacter) → Makes offset run Inside (w ++ rest) →
      Makes (offset + byte_len w) run Inside rest
  white_skipped [] is rest offset run makes ps stop d =
      let zero : offset + 0 ≡ offset = omega arith in
      rw zero (makes ps stop (rw zero at d))
  white_skipped (c ∷ cs) is rest offset run makes ps stop d =
      let both = first_passing (is_template_space c) (list_all is_template_space cs) is in
      let same : (offset + len_utf8 c) + byte_len cs ≡ offset + byte_len (c ∷ cs) = omega arith in
      let more : Makes ((offset + len_utf8 c) + byte_len cs) run Inside rest =
      white_skipped cs both.1 rest (offset + len_utf8 c) run (one_skipped c (cs ++ rest) offset run both.0 makes) in
      subst (λ n. Whole text tokens n run ps stop) same
      (more ps stop (subst (λ n. Segments n Inside rest ps stop) (sym same) d))

  -- what is read at once at the start of the rest
  all_made : (mode : Mode) (rest : List ℕ) (offset : ℕ) (run : List RunCharacter) → Makes offset run mode rest →
      Makes (offset + byte_len (at_once mode rest)) (run ++ characters_at_once mode offset (at_once mode rest))
      (mode_after_all mode (at_once mode rest)) (after_at_once mode rest)
  all_made (Outside white) rest offset run makes =
      plain_made (prefix_while is_plain rest) (passing is_plain rest) white (after_while is_plain rest) offset run
      (λ ps stop d. makes ps stop (subst (λ l. Segments offset (Outside white) l ps stop)
      (sym (while-whole is_plain rest)) d))
  all_made Opened rest offset run makes = none_made Opened rest offset run makes
  all_made Inside rest offset run makes =
      let skipped : Makes (offset + byte_len (prefix_while is_template_space rest)) run Inside
      (after_while is_template_space rest) =
      white_skipped (prefix_while is_template_space rest) (passing is_template_space rest)
      (after_while is_template_space rest) offset run
      (λ ps stop d. makes ps stop (subst (λ l. Segments offset Inside l ps stop)
      (sym (while-whole is_template_space rest)) d)) in
      λ ps stop d. rw (append-nil run) (skipped ps stop d)

-- the reading goes on after it
pub all_next : (text rest rest' : List ℕ) (mode mode' : Mode) (lexer lexer' : Lexer) (offset : ℕ)
    → GoesOn text rest mode lexer offset → TakesAll lexer lexer' offset mode rest rest' mode' →
    GoesOn text rest' mode' lexer' (offset + byte_len (at_once mode rest))
all_next text rest rest' mode mode' lexer lexer' offset old takes = rw (takes.rest_is, takes.mode_is) (record {
  tokens = old.tokens;
  run = old.run ++ characters_at_once mode offset (at_once mode rest);
  reads = takes.takes old.tokens old.run old.reads;
  within = omega (arith, old.within, at_once_byte_len mode rest);
  goes = all_made text old.tokens mode rest offset old.run old.goes;
})

-- a segment and then what is read at once
module _ (text rest : List ℕ) (mode : Mode) (lexer : Lexer) (offset : ℕ) (old : GoesOn text rest mode lexer offset)
    (p : Segment) (rest' : List ℕ) (begins : segment_of mode rest ≡ Begins p rest') (mode' : Mode) where
  -- end within the text
  pub all_within : byte_len text ≡ ((offset + byte_len (source_text p)) + byte_len (at_once mode' rest')) + byte_len
      (after_at_once mode' rest')
  all_within = omega (arith, offset_after text rest mode lexer offset old p rest' begins, at_once_byte_len mode' rest')

  -- what follows both is shorter
  pub all_smaller : length (after_at_once mode' rest') < length rest
  all_smaller = omega (arith, smaller text rest mode lexer offset old p rest' begins, at_once_shorter mode' rest')

  -- and the reading goes on after both
  pub both_next : (lexer' lexer'' : Lexer) (rest'' : List ℕ) (mode'' : Mode) → is_nil rest ≡ false
      → mode' ≡ mode_after mode p → TakesSegment lexer lexer' offset p →
      TakesAll lexer' lexer'' (offset + byte_len (source_text p)) mode' rest' rest'' mode'' →
      GoesOn text rest'' mode'' lexer''
      ((offset + byte_len (source_text p)) + byte_len (at_once mode' rest'))
  both_next lexer' lexer'' rest'' mode'' some stands takes takes_all =
      all_next text rest' rest'' mode' mode'' lexer' lexer'' (offset + byte_len (source_text p))
      (next text rest mode lexer offset old p rest' begins lexer' mode' some stands takes) takes_all
