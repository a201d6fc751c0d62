-- The texts of the tokens of a text have no U+0000, and its values in double quotes no double quote.
use Rattle.std.proofs.Common.{◌≡◌, ℕ, zero, suc, ◌+◌, ◌&&◌, if◌then◌else◌, Bool, true, false, List, [], ◌∷◌, ◌++◌, None}
use Rattle.std.proofs.Common.{reverse, refl, sym, subst, cond}
use Rattle.std.specs.List.{filter, onto_first, slice_split}
use Rattle.std.proofs.lemmas.List.{reverse-append}
use Rattle.soy_base.specs.Among.{lacks}
use Rattle.soy_base.specs.ByteLength.{byte_len}
use Rattle.soy_base.specs.WhiteSpace.{is_template_space, is_line_break}
use Rattle.soy_lexer.specs.Lines.{RunCharacter, Line, characters, has_characters, joined, line_joint, lines_of, trimmed}
use Rattle.soy_lexer.specs.Lines.{trimmed_after, without_end, without_start}
use Rattle.soy_lexer.specs.ModeAfter.{mode_after, mode_after_token, mode_after_skipped}
use Rattle.soy_lexer.specs.Segment.{Segment, source_text}
use Rattle.soy_lexer.specs.Segment.Segment.{TextCharacter, Skipped, Literal, CommandToken}
use Rattle.soy_lexer.specs.TextSegment.{segment_of}
use Rattle.soy_lexer.specs.Tokens.{Tokens, token_of_lines, run_token, segment_tokens, tokens_of}
use Rattle.soy_lexer.specs.declared.token.Token.{Token}
use Rattle.soy_lexer.specs.declared.token.TokenKind.TheVariants as kind
use Rattle.formatted_source.proofs.Sourced.SegmentTexts.{AllHolds, AreSourced, Holds, again, outside_holds}
use Rattle.formatted_source.proofs.Sourced.SegmentTexts.{segments_holds}
use Rattle.formatted_source.proofs.Sourced.SegmentTexts.{text_holds_segment}
use Rattle.formatted_source.proofs.Written.Values.{lacks-append}

-- the characters of a run, and of its lines

abbrev Clean : Line → Type 0
Clean [] = Unit {0}
Clean (c ∷ cs) = (lacks (0 ∷ []) (c.character ∷ []) ≡ true) × Clean cs

abbrev AllClean : List Line → Type 0
AllClean [] = Unit {0}
AllClean (line ∷ lines) = Clean line × AllClean lines

clean_append : (a b : Line) → Clean a → Clean b → Clean (a ++ b)
clean_append [] b h k = k
clean_append (c ∷ cs) b h k = (h.0, clean_append cs b h.1 k)

clean_reverse : (line : Line) → Clean line → Clean (reverse line)
clean_reverse [] h = tt
clean_reverse (c ∷ cs) h =
    subst Clean (sym (reverse-append (c ∷ []) cs)) (clean_append (reverse cs) (c ∷ []) (clean_reverse cs h.1) (h.0, tt))

clean_start : (line : Line) → Clean line → Clean (without_start line)
clean_start [] h = tt
clean_start (c ∷ cs) h = over (is_template_space c.character) (clean_start cs h.1)
  where
    over : (t : Bool) → Clean (without_start cs) → Clean (if t then without_start cs else c ∷ cs)
    over true k = k
    over false k = h

clean_end : (line : Line) → Clean line → Clean (without_end line)
clean_end line h = clean_reverse (without_start (reverse line)) (clean_start (reverse line) (clean_reverse line h))

onto_clean : (c : RunCharacter) (lines : List Line) → lacks (0 ∷ []) (c.character ∷ []) ≡ true → AllClean lines
    → AllClean (onto_first c lines)
onto_clean c [] h k = ((h, tt), tt)
onto_clean c (line ∷ lines) h k = ((h, k.0), k.1)

split_clean : (run : Line) → Clean run → AllClean (slice_split (λ c. is_line_break c.character) run)
split_clean [] h = (tt, tt)
split_clean (c ∷ cs) h = over (is_line_break c.character) (split_clean cs h.1)
  where
    over : (t : Bool) → AllClean (slice_split (λ c. is_line_break c.character) cs)
        → AllClean (cond t ([] ∷ slice_split (λ c. is_line_break c.character) cs)
        (onto_first c (slice_split (λ c. is_line_break c.character) cs)))
    over true k = (tt, k)
    over false k = onto_clean c (slice_split (λ c. is_line_break c.character) cs) h.0 k

trimmed_after_clean : (lines : List Line) → AllClean lines → AllClean (trimmed_after lines)
trimmed_after_clean [] h = tt
trimmed_after_clean (line ∷ []) h = (clean_start line h.0, tt)
trimmed_after_clean (line ∷ next ∷ lines) h =
    (clean_end (without_start line) (clean_start line h.0), trimmed_after_clean (next ∷ lines) h.1)

trimmed_clean : (lines : List Line) → AllClean lines → AllClean (trimmed lines)
trimmed_clean [] h = tt
trimmed_clean (line ∷ []) h = h
trimmed_clean (line ∷ next ∷ lines) h = (clean_end line h.0, trimmed_after_clean (next ∷ lines) h.1)

filter_clean : (lines : List Line) → AllClean lines → AllClean (filter has_characters lines)
filter_clean [] h = tt
filter_clean (line ∷ lines) h = over (has_characters line) (filter_clean lines h.1)
  where
    over : (t : Bool) → AllClean (filter has_characters lines)
        → AllClean (cond t (line ∷ filter has_characters lines) (filter has_characters lines))
    over true k = (h.0, k)
    over false k = k

lines_clean : (run : Line) → Clean run → AllClean (lines_of run)
lines_clean run h =
    filter_clean (trimmed (slice_split (λ c. is_line_break c.character) run))
    (trimmed_clean (slice_split (λ c. is_line_break c.character) run) (split_clean run h))

one_and : (a b : Bool) → (a && true) ≡ true → b ≡ true → (a && b) ≡ true
one_and true b h k = k
one_and false b h k = cc

characters_lack : (line : Line) → Clean line → lacks (0 ∷ []) (characters line) ≡ true
characters_lack [] h = refl
characters_lack (c ∷ cs) h = one_and _ (lacks (0 ∷ []) (characters cs)) h.0 (characters_lack cs h.1)

joint_lacks : (line next : Line) → lacks (0 ∷ []) (line_joint line next) ≡ true
joint_lacks line next = over _
  where
    over : (t : Bool) → lacks (0 ∷ []) (if t then [] else 32 ∷ []) ≡ true
    over true = refl
    over false = refl

joined_lacks : (lines : List Line) → AllClean lines → lacks (0 ∷ []) (joined lines) ≡ true
joined_lacks [] h = refl
joined_lacks (line ∷ []) h = characters_lack line h.0
joined_lacks (line ∷ next ∷ lines) h =
    lacks-append (0 ∷ []) (characters line) (line_joint line next ++ joined (next ∷ lines)) (characters_lack line h.0)
    (lacks-append (0 ∷ []) (line_joint line next) (joined (next ∷ lines)) (joint_lacks line next)
    (joined_lacks (next ∷ lines) h.1))

-- the tokens of segments

both_sourced : (ts us : List Token) → AreSourced ts → AreSourced us → AreSourced (ts ++ us)
both_sourced [] us h k = k
both_sourced (t ∷ ts) us h k = (h.0, both_sourced ts us h.1 k)

lines_sourced : (lines : List Line) → AllClean lines → AreSourced (token_of_lines lines)
lines_sourced [] h = tt
lines_sourced (line ∷ lines) h = (joined_lacks (line ∷ lines) h, tt)

run_sourced : (run : List RunCharacter) → Clean run → AreSourced (run_token run)
run_sourced run h = lines_sourced (lines_of run) (lines_clean run h)

tokens_sourced : (offset : ℕ) (run : List RunCharacter) (segments : List Segment) → Clean run → AllHolds segments
    → AreSourced (tokens_of offset run segments)
tokens_sourced offset run [] clean h = run_sourced run clean
tokens_sourced offset run (TextCharacter c ∷ segments) clean h =
    tokens_sourced (offset + byte_len (c ∷ [])) (run ++ (record { offset = offset; character = c } ∷ [])) segments
    (clean_append run (record { offset = offset; character = c } ∷ []) clean (h.0, tt)) h.1
tokens_sourced offset run (Skipped text ∷ segments) clean h =
    tokens_sourced (offset + byte_len text) run segments clean h.1
tokens_sourced offset run (Literal text ∷ segments) clean h =
    both_sourced (segment_tokens offset run (Literal text)) _ (both_sourced (run_token run) _ (run_sourced run clean)
    (h.0, tt)) (tokens_sourced (offset + byte_len (source_text (Literal text))) [] segments tt h.1)
tokens_sourced offset run (CommandToken k text value ∷ segments) clean h =
    both_sourced (segment_tokens offset run (CommandToken k text value)) _
    (both_sourced (run_token run) _ (run_sourced run clean) (h.0, tt))
    (tokens_sourced (offset + byte_len text) [] segments tt h.1)

-- **The texts of the tokens of a text have no U+0000, and its values no double quote.**
pub text_sourced : (text : List ℕ) (tokens : List Token) → Tokens text tokens → AreSourced tokens
text_sourced text tokens t =
    subst AreSourced (sym t.tokens_are)
    (tokens_sourced 0 [] t.segments tt (segments_holds 0 _ text t.segments None t.whole start))
  where
    -- a file starts as text goes on after a space
    start : (n : ℕ) (more : List ℕ) →
        Holds (segment_of (again mode_after_skipped n (mode_after (mode_after_token kind.End) (TextCharacter 32))) more)
    start zero more = text_holds_segment true more
    start (suc n) more = outside_holds n more
