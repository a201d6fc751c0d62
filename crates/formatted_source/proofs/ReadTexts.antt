-- What is read of a whole text: its lexemes, by where they are read, and the run that is open.
use Rattle.std.proofs.Common.{◌≡◌, ℕ, ◌+◌, Bool, true, false, List, [], ◌∷◌, ◌++◌, None, refl, sym, subst, ◌∙◌}
use Rattle.std.proofs.Common.{append_assoc}
use Rattle.soy_base.specs.ByteLength.{byte_len}
use Rattle.soy_base.specs.WhiteSpace.{is_template_space}
use Rattle.soy_lexer.specs.CommandSegment.{command_segment, opened_segment}
use Rattle.soy_lexer.specs.Found.{Found}
use Rattle.soy_lexer.specs.Found.Found.{Begins}
use Rattle.soy_lexer.specs.ModeAfter.{mode_after, mode_after_token}
use Rattle.soy_lexer.specs.Segment.{Segment}
use Rattle.soy_lexer.specs.Segment.Segment.{TextCharacter, Skipped, CommandToken}
use Rattle.soy_lexer.specs.Segments.{Segments}
use Rattle.soy_lexer.specs.Segments.Segments.{Ended, Goes}
use Rattle.soy_lexer.specs.TextSegment.{text_segment}
use Rattle.soy_lexer.specs.declared.token.TokenKind.{TokenKind}
use Rattle.soy_lexer.specs.declared.token.TokenKind.TheVariants as kind
use Rattle.formatted_source.specs.CommandLexemes.{CommandLexemes, goes_on}
use Rattle.formatted_source.specs.Lexemes.{Lexeme}
use Rattle.formatted_source.proofs.Runs.{RunLexemes, no_run}

-- where a text is read: outside of commands, where white space or the start of the text may stand before it; directly
-- after the `{` of a command; or further on in one
pub data Where : Type 0 where
  Outside : Bool → Where
  Opened : Where
  Inside : Where

abbrev pub segment_at : Where → List ℕ → Found
segment_at (Outside white) text = text_segment white text
segment_at Opened text = opened_segment text
segment_at Inside text = command_segment text

abbrev pub after_token : TokenKind → Where
after_token kind.Begin = Opened
after_token kind.End = Outside false
after_token kind.SlashEnd = Outside false
after_token _ = Inside

abbrev pub after_skipped : Where → Where
after_skipped (Outside white) = Outside false
after_skipped Opened = Inside
after_skipped Inside = Inside

pub data Reads : Where → List ℕ → List ℕ → List Lexeme → Where → List ℕ → List ℕ → Type 0 where
  here_ : (w : Where) (run rest : List ℕ) → Reads w run rest [] w run rest
  character_ : (w v : Where) (run text : List ℕ) (c : ℕ) (ls : List Lexeme) (last rest : List ℕ)
      → segment_at w (c ∷ text) ≡ Begins (TextCharacter c) text
      → Reads (Outside (is_template_space c)) (run ++ (c ∷ [])) text ls v last rest
      → Reads w run (c ∷ text) ls v last rest
  skipped_ : (w v : Where) (run text skipped next : List ℕ) (ls : List Lexeme) (last rest : List ℕ)
      → segment_at w text ≡ Begins (Skipped skipped) next → Reads (after_skipped w) run next ls v last rest
      → Reads w run text ls v last rest
  token_ : (w v : Where) (run text source value next : List ℕ) (k : TokenKind) (before ls : List Lexeme)
      (last rest : List ℕ)
      → segment_at w text ≡ Begins (CommandToken k source value) next → RunLexemes run before
      → Reads (after_token k) [] next ls v last rest
      → Reads w run text (before ++ ((k, value) ∷ ls)) v last rest

-- one part after the other
pub reads_append : (w v u : Where) (run text middle rest mid last : List ℕ) (ls ms : List Lexeme)
    → Reads w run text ls v mid middle → Reads v mid middle ms u last rest → Reads w run text (ls ++ ms) u last rest
reads_append _ _ u _ _ _ rest _ last _ ms (Reads.here_ w run text) next = next
reads_append _ _ u _ _ _ rest _ last _ ms (Reads.character_ w v run text c ls mid middle e d) next =
    Reads.character_ w u run text c (ls ++ ms) last rest e (reads_append _ v u _ text middle rest mid last ls ms d next)
reads_append _ _ u _ _ _ rest _ last _ ms (Reads.skipped_ w v run text skipped after ls mid middle e d) next =
    Reads.skipped_ w u run text skipped after (ls ++ ms) last rest e
    (reads_append _ v u _ after middle rest mid last ls ms d next)
reads_append _ _ u _ _ _ rest _ last _ ms (Reads.token_ w v run text source value after k before ls mid middle e r d)
    next =
    subst (λ l. Reads w run text l u last rest) (sym (append_assoc before ((k, value) ∷ ls) ms))
    (Reads.token_ w u run text source value after k before (ls ++ ms) last rest e r
    (reads_append _ v u _ after middle rest mid last ls ms d next))

inside_is : (k : TokenKind) → goes_on k ≡ true → after_token k ≡ Inside
inside_is kind.Begin h = cc
inside_is kind.End h = cc
inside_is kind.SlashEnd h = cc
inside_is kind.Text h = refl
inside_is kind.BeginClose h = refl
inside_is kind.Word h = refl
inside_is kind.Variable h = refl
inside_is kind.Int h = refl
inside_is kind.Str h = refl
inside_is kind.Attribute h = refl
inside_is kind.Symbol h = refl

-- the lexemes of a part of a command
pub inside_reads : (text rest : List ℕ) (ls : List Lexeme) → CommandLexemes text ls rest
    → Reads Inside [] text ls Inside [] rest
inside_reads _ _ _ (CommandLexemes.here_ rest) = Reads.here_ Inside [] rest
inside_reads _ _ _ (CommandLexemes.white_ text skipped next rest ls e d) =
    Reads.skipped_ Inside Inside [] text skipped next ls [] rest e (inside_reads next rest ls d)
inside_reads _ _ _ (CommandLexemes.token_ text source value next rest k ls e i d) =
    Reads.token_ Inside Inside [] text source value next k [] ls [] rest e no_run
    (subst (λ w. Reads w [] next ls Inside [] rest) (sym (inside_is k i)) (inside_reads next rest ls d))

-- and those of the first part of one, after its `{`
pub opened_reads : (text rest : List ℕ) (l : Lexeme) (ls ms : List Lexeme) → opened_segment text ≡ command_segment text
    → ms ≡ l ∷ ls → CommandLexemes text ms rest → Reads Opened [] text ms Inside [] rest
opened_reads _ _ l ls _ same is (CommandLexemes.here_ rest) = absurd (cc)
opened_reads _ _ l ls _ same is (CommandLexemes.white_ text skipped next rest ms e d) =
    Reads.skipped_ Opened Inside [] text skipped next ms [] rest (same ∙ e) (inside_reads next rest ms d)
opened_reads _ _ l ls _ same is (CommandLexemes.token_ text source value next rest k ms e i d) =
    Reads.token_ Opened Inside [] text source value next k [] ms [] rest (same ∙ e) no_run
    (subst (λ w. Reads w [] next ms Inside [] rest) (sym (inside_is k i)) (inside_reads next rest ms d))

-- the segments of a text that is read there: the modes of a lexer can't be named, so each is had by what leads to it
abbrev pub SegmentsAt : Where → ℕ → List ℕ → List Segment → Type 0
SegmentsAt (Outside true) offset text segments =
    Segments offset (mode_after (mode_after_token kind.End) (TextCharacter 32)) text segments None
SegmentsAt (Outside false) offset text segments = Segments offset (mode_after_token kind.End) text segments None
SegmentsAt Opened offset text segments = Segments offset (mode_after_token kind.Begin) text segments None
SegmentsAt Inside offset text segments = Segments offset (mode_after_token kind.Word) text segments None

pub ends_at : (w : Where) (offset : ℕ) → SegmentsAt w offset [] []
ends_at (Outside true) offset = Ended offset _
ends_at (Outside false) offset = Ended offset _
ends_at Opened offset = Ended offset _
ends_at Inside offset = Ended offset _

-- after a character of a run
pub character_at : (w : Where) (offset c : ℕ) (text : List ℕ) (segments : List Segment) (white : Bool)
    → is_template_space c ≡ white → segment_at w (c ∷ text) ≡ Begins (TextCharacter c) text
    → SegmentsAt (Outside white) (offset + byte_len (c ∷ [])) text segments
    → SegmentsAt w offset (c ∷ text) (TextCharacter c ∷ segments)
character_at (Outside true) offset c text segments true is e d =
    Goes offset _ c text (TextCharacter c) text segments None e (rw is d)
character_at (Outside true) offset c text segments false is e d =
    Goes offset _ c text (TextCharacter c) text segments None e (rw is d)
character_at (Outside false) offset c text segments true is e d =
    Goes offset _ c text (TextCharacter c) text segments None e (rw is d)
character_at (Outside false) offset c text segments false is e d =
    Goes offset _ c text (TextCharacter c) text segments None e (rw is d)
character_at Opened offset c text segments true is e d =
    Goes offset _ c text (TextCharacter c) text segments None e (rw is d)
character_at Opened offset c text segments false is e d =
    Goes offset _ c text (TextCharacter c) text segments None e (rw is d)
character_at Inside offset c text segments true is e d =
    Goes offset _ c text (TextCharacter c) text segments None e (rw is d)
character_at Inside offset c text segments false is e d =
    Goes offset _ c text (TextCharacter c) text segments None e (rw is d)

pub skipped_at : (w : Where) (offset c : ℕ) (cs skipped next : List ℕ) (segments : List Segment)
    → segment_at w (c ∷ cs) ≡ Begins (Skipped skipped) next
    → SegmentsAt (after_skipped w) (offset + byte_len skipped) next segments
    → SegmentsAt w offset (c ∷ cs) (Skipped skipped ∷ segments)
skipped_at (Outside true) offset c cs skipped next segments e d =
    Goes offset _ c cs (Skipped skipped) next segments None e d
skipped_at (Outside false) offset c cs skipped next segments e d =
    Goes offset _ c cs (Skipped skipped) next segments None e d
skipped_at Opened offset c cs skipped next segments e d = Goes offset _ c cs (Skipped skipped) next segments None e d
skipped_at Inside offset c cs skipped next segments e d = Goes offset _ c cs (Skipped skipped) next segments None e d

-- a token leads to the same mode wherever it stands
pub after_at : (k : TokenKind) (offset : ℕ) (text : List ℕ) (segments : List Segment)
    → SegmentsAt (after_token k) offset text segments → Segments offset (mode_after_token k) text segments None
after_at kind.Begin offset text segments d = d
after_at kind.End offset text segments d = d
after_at kind.SlashEnd offset text segments d = d
after_at kind.Text offset text segments d = d
after_at kind.BeginClose offset text segments d = d
after_at kind.Word offset text segments d = d
after_at kind.Variable offset text segments d = d
after_at kind.Int offset text segments d = d
after_at kind.Str offset text segments d = d
after_at kind.Attribute offset text segments d = d
after_at kind.Symbol offset text segments d = d

pub token_at : (w : Where) (offset c : ℕ) (cs source value next : List ℕ) (k : TokenKind) (segments : List Segment)
    → segment_at w (c ∷ cs) ≡ Begins (CommandToken k source value) next
    → Segments (offset + byte_len source) (mode_after_token k) next segments None
    → SegmentsAt w offset (c ∷ cs) (CommandToken k source value ∷ segments)
token_at (Outside true) offset c cs source value next k segments e d =
    Goes offset _ c cs (CommandToken k source value) next segments None e d
token_at (Outside false) offset c cs source value next k segments e d =
    Goes offset _ c cs (CommandToken k source value) next segments None e d
token_at Opened offset c cs source value next k segments e d =
    Goes offset _ c cs (CommandToken k source value) next segments None e d
token_at Inside offset c cs source value next k segments e d =
    Goes offset _ c cs (CommandToken k source value) next segments None e d
