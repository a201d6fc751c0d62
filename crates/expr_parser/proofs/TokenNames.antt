-- The words and variables among the tokens of a text are names.
use Rattle.std.proofs.Common.{◌≡◌, ℕ, zero, suc, ◌+◌, ◌==◌, nat_le, if◌then◌else◌, Bool, true, false, List, [], ◌∷◌}
use Rattle.std.proofs.Common.{◌++◌, Option, Some, None, IfSome, option_map, unwrap_or, refl, sym, subst, codes}
use Rattle.std.specs.Char.{is_ascii_digit}
use Rattle.std.specs.List.{list_all}
use Rattle.std.specs.Option.{option_or}
use Rattle.soy_base.specs.ByteLength.{byte_len}
use Rattle.soy_base.specs.WhiteSpace.{is_template_space}
use Rattle.soy_base.specs.Names.{begins_name, continues_name, is_name}
use Rattle.soy_base.specs.Cuts.{after_prefix, cut, prefix_while, after_while}
use Rattle.soy_lexer.specs.CommandSegment.{white_segment, fixed_segment, name_prefix, name_segment, variable_segment}
use Rattle.soy_lexer.specs.CommandSegment.{number_after, digits_segment, int_segment, quoted_segment, string_segment}
use Rattle.soy_lexer.specs.CommandSegment.{value_segment, attribute_segment, symbols_of_one, symbols_of_two, one_of}
use Rattle.soy_lexer.specs.CommandSegment.{command_segment, close_segment, opened_segment}
use Rattle.soy_base.specs.Limits.{largest}
use Rattle.soy_lexer.specs.Found.{Found, begins, unless_null}
use Rattle.soy_lexer.specs.Found.Found.{Begins, Fails}
use Rattle.soy_lexer.specs.ModeAfter.{mode_after, mode_after_token, mode_after_skipped}
use Rattle.soy_lexer.specs.Lines.{RunCharacter, Line, lines_of}
use Rattle.soy_lexer.specs.Segment.{Segment, source_text}
use Rattle.soy_lexer.specs.Segment.Segment.{TextCharacter, Skipped, Literal, CommandToken}
use Rattle.soy_lexer.specs.Segments.{Segments}
use Rattle.soy_lexer.specs.Strings.{Quoted, quoted}
use Rattle.soy_lexer.specs.TextSegment.{closed_comment, block_comment, line_comment, closed_literal, literal_segment}
use Rattle.soy_lexer.specs.TextSegment.{may_begin, plain_segment, text_segment, continues_line, segment_of}
use Rattle.soy_lexer.specs.Tokens.{Tokens, token_of_lines, run_token, segment_tokens, run_after, tokens_of}
use Rattle.soy_lexer.specs.declared.token.Token.{Token}
use Rattle.soy_lexer.specs.declared.token.TokenKind.{TokenKind}
use Rattle.soy_lexer.specs.declared.token.TokenKind.TheVariants as kind
use Rattle.expr_parser.specs.AreNamed.{IsNamed, AreNamed}

-- a segment that is a word or a variable is a name
abbrev SegmentNamed : Segment → Type 0
SegmentNamed (CommandToken k text value) = IsNamed k value
SegmentNamed (TextCharacter c) = Unit {0}
SegmentNamed (Skipped text) = Unit {0}
SegmentNamed (Literal text) = Unit {0}

abbrev Named : Found → Type 0
Named (Begins segment rest) = SegmentNamed segment
Named (Fails further) = Unit {0}

abbrev NamedIf : Option Found → Type 0
NamedIf None = Unit {0}
NamedIf (Some found) = Named found

or_named : (a b : Option Found) → NamedIf a → NamedIf b → NamedIf (option_or a b)
or_named None b h k = k
or_named (Some found) b h k = h

unwrap_named : (a : Option Found) (b : Found) → NamedIf a → Named b → Named (unwrap_or a b)
unwrap_named None b h k = k
unwrap_named (Some found) b h k = h

begins_named : (segment : Segment) (rest : List ℕ) → SegmentNamed segment → Named (begins segment rest)
begins_named segment rest h = over (cut (0 ∷ []) (source_text segment))
  where
    over : (o : Option (List ℕ × List ℕ)) → Named (unless_null o (Begins segment rest))
    over None = h
    over (Some parts) = tt

fixed_named : (k : TokenKind) (prefix text : List ℕ) → IsNamed k prefix → NamedIf (fixed_segment k prefix text)
fixed_named k prefix text h = over (after_prefix prefix text)
  where
    over : (o : Option (List ℕ)) → NamedIf (option_map (λ rest. begins (CommandToken k prefix prefix) rest) o)
    over None = tt
    over (Some rest) = begins_named (CommandToken k prefix prefix) rest h

-- the longest prefix that passes a test passes it
all_while : (predicate : ℕ → Bool) (text : List ℕ) → list_all predicate (prefix_while predicate text) ≡ true
all_while predicate [] = refl
all_while predicate (c ∷ cs) = all_by (predicate c) refl (all_while predicate cs)
  where
    all_by : (t : Bool) → predicate c ≡ t → list_all predicate (prefix_while predicate cs) ≡ true
        → list_all predicate (prefix_while predicate (c ∷ cs)) ≡ true
    all_by true e h = rw e (rw e h)
    all_by false e h = rw e refl

prefix_named : (text : List ℕ) → IfSome (name_prefix text) (λ name. is_name name.0 ≡ true)
prefix_named [] = tt
prefix_named (c ∷ cs) = named_by (begins_name c) refl
  where
    named_by : (t : Bool) → begins_name c ≡ t → IfSome (name_prefix (c ∷ cs)) (λ name. is_name name.0 ≡ true)
    named_by true e = rw e (rw e (all_while continues_name cs))
    named_by false e = rw e tt

name_named : (k : TokenKind) (start text : List ℕ) → ((name : List ℕ) → is_name name ≡ true → IsNamed k name) →
    NamedIf (name_segment k start text)
name_named k start text form = over (name_prefix text) (prefix_named text)
  where
    over : (o : Option (List ℕ × List ℕ)) → IfSome o (λ name. is_name name.0 ≡ true) →
        NamedIf (option_map (λ name. begins (CommandToken k (start ++ name.0) name.0) name.1) o)
    over None h = tt
    over (Some name) h = begins_named (CommandToken k (start ++ name.0) name.0) name.1 (form name.0 h)

white_named : (text : List ℕ) → NamedIf (white_segment text)
white_named [] = tt
white_named (c ∷ cs) = over (is_template_space c)
  where
    over : (t : Bool) → NamedIf (if t then Some (begins (Skipped (c ∷ [])) cs) else None)
    over true = begins_named (Skipped (c ∷ [])) cs tt
    over false = tt

variable_named : (text : List ℕ) → NamedIf (variable_segment text)
variable_named [] = tt
variable_named (c ∷ cs) = over (c == 36)
  where
    over : (t : Bool) → NamedIf (if t then name_segment kind.Variable (36 ∷ []) cs else None)
    over true = name_named kind.Variable (36 ∷ []) cs (λ name h. h)
    over false = tt

digits_named : (digits rest : List ℕ) → Named (digits_segment digits rest)
digits_named digits rest = over (nat_le (number_after 0 digits) largest)
  where
    over : (t : Bool) → Named (if t then begins (CommandToken kind.Int digits digits) rest else Fails 0)
    over true = begins_named (CommandToken kind.Int digits digits) rest tt
    over false = tt

int_named : (text : List ℕ) → NamedIf (int_segment text)
int_named [] = tt
int_named (c ∷ cs) = over (c == 48) (is_ascii_digit c)
  where
    over : (t u : Bool) → NamedIf (if t then Some (begins (CommandToken kind.Int (c ∷ []) (c ∷ [])) cs) else if u
        then Some (digits_segment (c ∷ prefix_while is_ascii_digit cs) (after_while is_ascii_digit cs)) else None)
    over true u = begins_named (CommandToken kind.Int (c ∷ []) (c ∷ [])) cs tt
    over false true = digits_named (c ∷ prefix_while is_ascii_digit cs) (after_while is_ascii_digit cs)
    over false false = tt

string_named : (text : List ℕ) → NamedIf (string_segment text)
string_named [] = tt
string_named (c ∷ cs) = over (c == 39)
  where
    quoted_named : (o : Option Quoted) → Named (quoted_segment o)
    quoted_named None = tt
    quoted_named (Some q) = begins_named (CommandToken kind.Str (39 ∷ q.source_text) q.value) q.rest tt

    over : (t : Bool) → NamedIf (if t then Some (quoted_segment (quoted cs)) else None)
    over true = quoted_named (quoted cs)
    over false = tt

attribute_named : (text : List ℕ) → NamedIf (attribute_segment text)
attribute_named [] = tt
attribute_named (c ∷ cs) = over (c == 34)
  where
    value_named : (o : Option (List ℕ × List ℕ)) → Named (value_segment o)
    value_named None = tt
    value_named (Some parts) = begins_named (CommandToken kind.Attribute (34 ∷ (parts.0 ++ 34 ∷ [])) parts.0) parts.1 tt

    over : (t : Bool) → NamedIf (if t then Some (value_segment (cut (34 ∷ []) cs)) else None)
    over true = value_named (cut (34 ∷ []) cs)
    over false = tt

symbols_named : (symbols : List (List ℕ)) (text : List ℕ) → NamedIf (one_of symbols text)
symbols_named [] text = tt
symbols_named (symbol ∷ symbols) text =
    or_named (fixed_segment kind.Symbol symbol text) (one_of symbols text) (fixed_named kind.Symbol symbol text tt)
    (symbols_named symbols text)

command_named : (text : List ℕ) → Named (command_segment text)
command_named text =
    unwrap_named _ (Fails 0) (
    or_named (white_segment text) _ (white_named text) (
    or_named (fixed_segment kind.End (125 ∷ []) text) _ (fixed_named kind.End (125 ∷ []) text tt) (
    or_named (fixed_segment kind.SlashEnd (47 ∷ 125 ∷ []) text) _ (fixed_named kind.SlashEnd (47 ∷ 125 ∷ []) text tt) (
    or_named (name_segment kind.Word [] text) _ (name_named kind.Word [] text (λ name h. h)) (
    or_named (variable_segment text) _ (variable_named text) (
    or_named (int_segment text) _ (int_named text) (
    or_named (string_segment text) _ (string_named text) (
    or_named (attribute_segment text) _ (attribute_named text) (
    or_named (one_of symbols_of_two text) (one_of symbols_of_one text) (symbols_named symbols_of_two text)
    (symbols_named symbols_of_one text)))))))))) tt

close_named : (text : List ℕ) → NamedIf (close_segment text)
close_named [] = tt
close_named (c ∷ cs) = over (c == 47)
  where
    over : (t : Bool) → NamedIf (if t then name_segment kind.BeginClose (c ∷ []) cs else None)
    over true = name_named kind.BeginClose (c ∷ []) cs (λ name h. tt)
    over false = tt

-- text outside of commands has none

comment_named : (text : List ℕ) → NamedIf (block_comment text)
comment_named text = over (after_prefix (codes "/*") text)
  where
    closed_named : (o : Option (List ℕ × List ℕ)) → Named (closed_comment o)
    closed_named None = tt
    closed_named (Some parts) = begins_named (Skipped (codes "/*" ++ (parts.0 ++ codes "*/"))) parts.1 tt

    over : (o : Option (List ℕ)) → NamedIf (option_map (λ inner. closed_comment (cut (codes "*/") inner)) o)
    over None = tt
    over (Some inner) = closed_named (cut (codes "*/") inner)

line_named : (white : Bool) (text : List ℕ) → NamedIf (line_comment white text)
line_named false text = tt
line_named true text = over (after_prefix (codes "//") text)
  where
    over : (o : Option (List ℕ)) → NamedIf (option_map (λ inner. begins
        (Skipped (codes "//" ++ prefix_while continues_line inner))
        (after_while continues_line inner)) o)
    over None = tt
    over (Some inner) =
        begins_named (Skipped (codes "//" ++ prefix_while continues_line inner)) (after_while continues_line inner) tt

literal_named : (text : List ℕ) → NamedIf (literal_segment text)
literal_named text = over (after_prefix (codes "{literal}") text)
  where
    closed_named : (o : Option (List ℕ × List ℕ)) → Named (closed_literal o)
    closed_named None = tt
    closed_named (Some parts) = begins_named (Literal parts.0) parts.1 tt

    over : (o : Option (List ℕ)) → NamedIf (option_map (λ inner. closed_literal (cut (codes "{/literal}") inner)) o)
    over None = tt
    over (Some inner) = closed_named (cut (codes "{/literal}") inner)

plain_named : (text : List ℕ) → Named (plain_segment text)
plain_named [] = tt
plain_named (c ∷ cs) = over (c == 123) (may_begin cs) (c == 125)
  where
    over : (t u v : Bool) → Named (if t then (if u then begins
        (CommandToken kind.Begin (c ∷ []) (c ∷ [])) cs else Fails 0)
        else if v then Fails 0 else begins (TextCharacter c) cs)
    over true true v = begins_named (CommandToken kind.Begin (c ∷ []) (c ∷ [])) cs tt
    over true false v = tt
    over false u true = tt
    over false u false = begins_named (TextCharacter c) cs tt

text_named_segment : (white : Bool) (text : List ℕ) → Named (text_segment white text)
text_named_segment white text =
    unwrap_named _ (plain_segment text)
    (or_named (block_comment text) _ (comment_named text)
    (or_named (line_comment white text) _ (line_named white text) (literal_named text))) (plain_named text)

opened_named : (text : List ℕ) → Named (opened_segment text)
opened_named text = unwrap_named (close_segment text) (command_segment text) (close_named text) (command_named text)

-- the segments in each mode: that type is soy_lexer's own, so its values are had by what leads to them, and a mode
-- after text that is skipped by going on

abbrev again : {A : Type 0} → (A → A) → ℕ → A → A
again f zero a = a
again f (suc n) a = again f n (f a)

inside_named : (n : ℕ) (text : List ℕ) →
    Named (segment_of (again mode_after_skipped n (mode_after_token kind.Word)) text)
inside_named zero text = command_named text
inside_named (suc n) text = inside_named n text

outside_named : (n : ℕ) (text : List ℕ) →
    Named (segment_of (again mode_after_skipped n (mode_after_token kind.End)) text)
outside_named zero text = text_named_segment false text
outside_named (suc n) text = outside_named n text

after_opened_named : (n : ℕ) (text : List ℕ) → Named (segment_of
    (again mode_after_skipped n (mode_after_token kind.Begin)) text)
after_opened_named zero text = opened_named text
after_opened_named (suc n) text = inside_named n text

after_token_named : (k : TokenKind) (n : ℕ) (text : List ℕ) →
    Named (segment_of (again mode_after_skipped n (mode_after_token k)) text)
after_token_named kind.Begin n text = after_opened_named n text
after_token_named kind.End n text = outside_named n text
after_token_named kind.SlashEnd n text = outside_named n text
after_token_named _ n text = inside_named n text

abbrev AllNamed : List Segment → Type 0
AllNamed [] = Unit {0}
AllNamed (segment ∷ segments) = SegmentNamed segment × AllNamed segments

segments_named : (offset : ℕ) (mode : _) (text : List ℕ) (segments : List Segment) (stop : Option ℕ) →
    Segments offset mode text segments stop →
    ((n : ℕ) (more : List ℕ) → Named (segment_of (again mode_after_skipped n mode) more)) → AllNamed segments
segments_named _ _ _ _ _ (Segments.Ended offset mode) good = tt
segments_named _ _ _ _ _ (Segments.Stopped offset mode c cs further e) good = tt
segments_named _ _ _ _ _ (Segments.Goes offset mode c cs segment rest segments stop e more) good =
    (subst Named e (good zero (c ∷ cs)), segments_named _ _ rest segments stop more (next segment))
  where
    next : (p : Segment) (n : ℕ) (text : List ℕ) →
        Named (segment_of (again mode_after_skipped n (mode_after mode p)) text)
    next (TextCharacter d) zero text = text_named_segment (is_template_space d) text
    next (TextCharacter d) (suc n) text = outside_named n text
    next (Skipped skipped) n text = good (suc n) text
    next (Literal literal) n text = outside_named n text
    next (CommandToken k t value) n text = after_token_named k n text

-- the tokens of segments

pub both_named : (ts us : List Token) → AreNamed ts → AreNamed us → AreNamed (ts ++ us)
both_named [] us h k = k
both_named (t ∷ ts) us h k = (h.0, both_named ts us h.1 k)

lines_named : (lines : List Line) → AreNamed (token_of_lines lines)
lines_named [] = tt
lines_named (line ∷ lines) = (tt, tt)

segment_tokens_named : (offset : ℕ) (run : List RunCharacter) (segment : Segment) → SegmentNamed segment →
    AreNamed (segment_tokens offset run segment)
segment_tokens_named offset run (TextCharacter c) h = tt
segment_tokens_named offset run (Skipped text) h = tt
segment_tokens_named offset run (Literal text) h = both_named (run_token run) _ (lines_named (lines_of run)) (tt, tt)
segment_tokens_named offset run (CommandToken k text value) h =
    both_named (run_token run) _ (lines_named (lines_of run)) (h, tt)

tokens_named : (offset : ℕ) (run : List RunCharacter) (segments : List Segment) → AllNamed segments →
    AreNamed (tokens_of offset run segments)
tokens_named offset run [] h = lines_named (lines_of run)
tokens_named offset run (segment ∷ segments) h =
    both_named (segment_tokens offset run segment) _ (segment_tokens_named offset run segment h.0)
    (tokens_named (offset + byte_len (source_text segment)) (run_after offset run segment) segments h.1)

-- **The words and variables among the tokens of a text are names.**
pub text_named : (text : List ℕ) (tokens : List Token) → Tokens text tokens → AreNamed tokens
text_named text tokens t =
    subst AreNamed (sym t.tokens_are)
    (tokens_named 0 [] t.segments (segments_named 0 _ text t.segments None t.whole start))
  where
    -- a file starts as text goes on after a space
    start : (n : ℕ) (more : List ℕ) →
        Named (segment_of (again mode_after_skipped n (mode_after (mode_after_token kind.End) (TextCharacter 32))) more)
    start zero more = text_named_segment true more
    start (suc n) more = outside_named n more

-- and so are those among a part of them
pub part_named : (ts us vs : List Token) → AreNamed (ts ++ (us ++ vs)) → AreNamed us
part_named [] [] vs h = tt
part_named [] (u ∷ us) vs h = (h.0, part_named [] us vs h.1)
part_named (t ∷ ts) us vs h = part_named ts us vs h.1
