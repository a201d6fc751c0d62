-- What the segments of a text give has no U+0000, and its values in double quotes no double quote.
use Rattle.std.proofs.Common.{◌≡◌, ℕ, zero, suc, ◌==◌, ◌&&◌, nat_le, if◌then◌else◌, Bool, true, false, List, [], ◌∷◌}
use Rattle.std.proofs.Common.{◌++◌, Option, Some, None, IfSome, option_map, unwrap_or, refl, subst, arith, codes}
use Rattle.std.specs.Char.{is_ascii_digit}
use Rattle.std.specs.Option.{option_or}
use Rattle.std.proofs.lemmas.Bool.Decides.{nat_tests}
use Rattle.soy_base.specs.Among.{lacks}
use Rattle.soy_base.specs.WhiteSpace.{is_template_space}
use Rattle.soy_base.specs.Cuts.{after_prefix, cut, prefix_while, after_while}
use Rattle.soy_lexer.specs.CommandSegment.{white_segment, fixed_segment, name_prefix, name_segment, variable_segment}
use Rattle.soy_lexer.specs.CommandSegment.{number_after, digits_segment, int_segment, quoted_segment, string_segment}
use Rattle.soy_lexer.specs.CommandSegment.{value_segment, attribute_segment, symbols_of_one, symbols_of_two, one_of}
use Rattle.soy_lexer.specs.CommandSegment.{command_segment, close_segment, opened_segment}
use Rattle.soy_base.specs.Limits.{largest}
use Rattle.soy_lexer.specs.Found.{Found, begins, unless_null}
use Rattle.soy_lexer.specs.Found.Found.{Begins, Fails}
use Rattle.soy_lexer.specs.ModeAfter.{mode_after, mode_after_token, mode_after_skipped}
use Rattle.soy_lexer.specs.Segment.{Segment, source_text}
use Rattle.soy_lexer.specs.Segment.Segment.{TextCharacter, Skipped, Literal, CommandToken}
use Rattle.soy_lexer.specs.Segments.{Segments}
use Rattle.soy_lexer.specs.Strings.{Quoted, quoted}
use Rattle.soy_lexer.specs.TextSegment.{closed_comment, block_comment, line_comment, closed_literal, literal_segment}
use Rattle.soy_lexer.specs.TextSegment.{may_begin, plain_segment, text_segment, continues_line, segment_of}
use Rattle.soy_lexer.specs.declared.token.Token.{Token}
use Rattle.soy_lexer.specs.declared.token.TokenKind.{TokenKind}
use Rattle.soy_lexer.specs.declared.token.TokenKind.TheVariants as kind
use Rattle.formatted_source.specs.SourcedTrees.{is_source_text, is_source_value}

-- what the text of a token lacks
abbrev pub IsSourced : TokenKind → List ℕ → Type 0
IsSourced kind.Text text = is_source_text text ≡ true
IsSourced kind.Attribute text = is_source_value text ≡ true
IsSourced _ text = Unit {0}

abbrev pub AreSourced : List Token → Type 0
AreSourced [] = Unit {0}
AreSourced (t ∷ ts) = IsSourced t.kind t.text × AreSourced ts

-- a text that isn't cut at a character lacks it, and so does what stands before where it is cut
no_cut : (d : ℕ) (text : List ℕ) → cut (d ∷ []) text ≡ None → lacks (d ∷ []) text ≡ true
no_cut d [] h = refl
no_cut d (c ∷ cs) h = over (d == c) (cut (d ∷ []) cs) refl h (no_cut d cs)
  where
    over : (t : Bool) (o : Option (List ℕ × List ℕ)) → (d == c) ≡ t
        → option_or (option_map {T = List ℕ} {U = List ℕ × List ℕ} (λ rest. ([], rest)) (if t then Some cs else None))
        (option_map {T = List ℕ × List ℕ} {U = List ℕ × List ℕ} (λ parts. (c ∷ parts.0, parts.1)) o) ≡ None →
        (o ≡ None → lacks (d ∷ []) cs ≡ true) → lacks (d ∷ []) (c ∷ cs) ≡ true
    over true o e h later = cc
    over false None e h later =
        let apart : (c == d) ≡ false = grind (arith, nat_tests, e) in
        rw (apart, later refl) refl
    over false (Some parts) e h later = cc

before_cut : (d : ℕ) (text : List ℕ) → IfSome (cut (d ∷ []) text) (λ parts. lacks (d ∷ []) parts.0 ≡ true)
before_cut d [] = tt
before_cut d (c ∷ cs) = over (d == c) refl (cut (d ∷ []) cs) (before_cut d cs)
  where
    over : (t : Bool) → (d == c) ≡ t → (o : Option (List ℕ × List ℕ)) → IfSome o (λ parts. lacks (d ∷ []) parts.0
        ≡ true)
        → IfSome (option_or (option_map {T = List ℕ} {U = List ℕ × List ℕ} (λ rest. ([], rest))
        (if t then Some cs else None))
        (option_map {T = List ℕ × List ℕ} {U = List ℕ × List ℕ} (λ parts. (c ∷ parts.0, parts.1)) o))
        (λ parts. lacks (d ∷ []) parts.0 ≡ true)
    over true e o h = refl
    over false e None h = tt
    over false e (Some parts) h =
        let apart : (c == d) ≡ false = grind (arith, nat_tests, e) in
        rw apart h

-- what a text lacks its first part lacks
lacks-first : (these a b : List ℕ) → lacks these (a ++ b) ≡ true → lacks these a ≡ true
lacks-first these [] b h = refl
lacks-first these (c ∷ cs) b h = over _ h (lacks-first these cs b)
  where
    over : (t : Bool) → (t && lacks these (cs ++ b)) ≡ true → (lacks these (cs ++ b) ≡ true → lacks these cs ≡ true)
        → (t && lacks these cs) ≡ true
    over true h next = next h
    over false h next = cc

-- what a segment gives lacks that
abbrev pub SegmentHolds : Segment → Type 0
SegmentHolds (CommandToken k text value) = IsSourced k value
SegmentHolds (TextCharacter c) = lacks (0 ∷ []) (c ∷ []) ≡ true
SegmentHolds (Skipped text) = Unit {0}
SegmentHolds (Literal text) = lacks (0 ∷ []) text ≡ true

abbrev pub Holds : Found → Type 0
Holds (Begins segment rest) = SegmentHolds segment
Holds (Fails further) = Unit {0}

abbrev pub HoldsIf : Option Found → Type 0
HoldsIf None = Unit {0}
HoldsIf (Some found) = Holds found

or_holds : (a b : Option Found) → HoldsIf a → HoldsIf b → HoldsIf (option_or a b)
or_holds None b h k = k
or_holds (Some found) b h k = h

unwrap_holds : (a : Option Found) (b : Found) → HoldsIf a → Holds b → Holds (unwrap_or a b)
unwrap_holds None b h k = k
unwrap_holds (Some found) b h k = h

begins_holds : (segment : Segment) (rest : List ℕ) → (lacks (0 ∷ []) (source_text segment) ≡ true
    → SegmentHolds segment)
    → Holds (begins segment rest)
begins_holds segment rest h = over (cut (0 ∷ []) (source_text segment)) refl
  where
    over : (o : Option (List ℕ × List ℕ)) → cut (0 ∷ []) (source_text segment) ≡ o
        → Holds (unless_null o (Begins segment rest))
    over None e = h (no_cut 0 (source_text segment) e)
    over (Some parts) e = tt

fixed_holds : (k : TokenKind) (prefix text : List ℕ) → IsSourced k prefix → HoldsIf (fixed_segment k prefix text)
fixed_holds k prefix text h = over (after_prefix prefix text)
  where
    over : (o : Option (List ℕ)) → HoldsIf (option_map (λ rest. begins (CommandToken k prefix prefix) rest) o)
    over None = tt
    over (Some rest) = begins_holds (CommandToken k prefix prefix) rest (λ n. h)

name_holds : (k : TokenKind) (start text : List ℕ) → ((name : List ℕ) → IsSourced k name)
    → HoldsIf (name_segment k start text)
name_holds k start text form = over (name_prefix text)
  where
    over : (o : Option (List ℕ × List ℕ))
        → HoldsIf (option_map (λ name. begins (CommandToken k (start ++ name.0) name.0) name.1) o)
    over None = tt
    over (Some name) = begins_holds (CommandToken k (start ++ name.0) name.0) name.1 (λ n. form name.0)

white_holds : (text : List ℕ) → HoldsIf (white_segment text)
white_holds [] = tt
white_holds (c ∷ cs) = over (is_template_space c)
  where
    over : (t : Bool) → HoldsIf (if t then Some (begins (Skipped (c ∷ [])) cs) else None)
    over true = begins_holds (Skipped (c ∷ [])) cs (λ n. tt)
    over false = tt

variable_holds : (text : List ℕ) → HoldsIf (variable_segment text)
variable_holds [] = tt
variable_holds (c ∷ cs) = over (c == 36)
  where
    over : (t : Bool) → HoldsIf (if t then name_segment kind.Variable (36 ∷ []) cs else None)
    over true = name_holds kind.Variable (36 ∷ []) cs (λ name. tt)
    over false = tt

digits_holds : (digits rest : List ℕ) → Holds (digits_segment digits rest)
digits_holds digits rest = over (nat_le (number_after 0 digits) largest)
  where
    over : (t : Bool) → Holds (if t then begins (CommandToken kind.Int digits digits) rest else Fails 0)
    over true = begins_holds (CommandToken kind.Int digits digits) rest (λ n. tt)
    over false = tt

int_holds : (text : List ℕ) → HoldsIf (int_segment text)
int_holds [] = tt
int_holds (c ∷ cs) = over (c == 48) (is_ascii_digit c)
  where
    over : (t u : Bool) → HoldsIf (if t then Some (begins (CommandToken kind.Int (c ∷ []) (c ∷ [])) cs) else if u
        then Some (digits_segment (c ∷ prefix_while is_ascii_digit cs) (after_while is_ascii_digit cs)) else None)
    over true u = begins_holds (CommandToken kind.Int (c ∷ []) (c ∷ [])) cs (λ n. tt)
    over false true = digits_holds (c ∷ prefix_while is_ascii_digit cs) (after_while is_ascii_digit cs)
    over false false = tt

string_holds : (text : List ℕ) → HoldsIf (string_segment text)
string_holds [] = tt
string_holds (c ∷ cs) = over (c == 39)
  where
    quoted_holds : (o : Option Quoted) → Holds (quoted_segment o)
    quoted_holds None = tt
    quoted_holds (Some q) = begins_holds (CommandToken kind.Str (39 ∷ q.source_text) q.value) q.rest (λ n. tt)

    over : (t : Bool) → HoldsIf (if t then Some (quoted_segment (quoted cs)) else None)
    over true = quoted_holds (quoted cs)
    over false = tt

value_is : (value : List ℕ) → lacks (34 ∷ []) value ≡ true → lacks (0 ∷ []) (34 ∷ (value ++ 34 ∷ [])) ≡ true
    → is_source_value value ≡ true
value_is value quote null = rw (quote, lacks-first (0 ∷ []) value (34 ∷ []) null) refl

attribute_holds : (text : List ℕ) → HoldsIf (attribute_segment text)
attribute_holds [] = tt
attribute_holds (c ∷ cs) = over (c == 34)
  where
    value_holds : (o : Option (List ℕ × List ℕ)) → IfSome o (λ parts. lacks (34 ∷ []) parts.0 ≡ true)
        → Holds (value_segment o)
    value_holds None h = tt
    value_holds (Some parts) h =
        begins_holds (CommandToken kind.Attribute (34 ∷ (parts.0 ++ 34 ∷ [])) parts.0) parts.1
        (λ n. value_is parts.0 h n)

    over : (t : Bool) → HoldsIf (if t then Some (value_segment (cut (34 ∷ []) cs)) else None)
    over true = value_holds (cut (34 ∷ []) cs) (before_cut 34 cs)
    over false = tt

symbols_holds : (symbols : List (List ℕ)) (text : List ℕ) → HoldsIf (one_of symbols text)
symbols_holds [] text = tt
symbols_holds (symbol ∷ symbols) text =
    or_holds (fixed_segment kind.Symbol symbol text) (one_of symbols text) (fixed_holds kind.Symbol symbol text tt)
    (symbols_holds symbols text)

command_holds : (text : List ℕ) → Holds (command_segment text)
command_holds text =
    unwrap_holds _ (Fails 0) (
    or_holds (white_segment text) _ (white_holds text) (
    or_holds (fixed_segment kind.End (125 ∷ []) text) _ (fixed_holds kind.End (125 ∷ []) text tt) (
    or_holds (fixed_segment kind.SlashEnd (47 ∷ 125 ∷ []) text) _ (fixed_holds kind.SlashEnd (47 ∷ 125 ∷ []) text tt) (
    or_holds (name_segment kind.Word [] text) _ (name_holds kind.Word [] text (λ name. tt)) (
    or_holds (variable_segment text) _ (variable_holds text) (
    or_holds (int_segment text) _ (int_holds text) (
    or_holds (string_segment text) _ (string_holds text) (
    or_holds (attribute_segment text) _ (attribute_holds text) (
    or_holds (one_of symbols_of_two text) (one_of symbols_of_one text) (symbols_holds symbols_of_two text)
    (symbols_holds symbols_of_one text)))))))))) tt

close_holds : (text : List ℕ) → HoldsIf (close_segment text)
close_holds [] = tt
close_holds (c ∷ cs) = over (c == 47)
  where
    over : (t : Bool) → HoldsIf (if t then name_segment kind.BeginClose (c ∷ []) cs else None)
    over true = name_holds kind.BeginClose (c ∷ []) cs (λ name. tt)
    over false = tt

-- text outside of commands has none

comment_holds : (text : List ℕ) → HoldsIf (block_comment text)
comment_holds text = over (after_prefix (codes "/*") text)
  where
    closed_holds : (o : Option (List ℕ × List ℕ)) → Holds (closed_comment o)
    closed_holds None = tt
    closed_holds (Some parts) = begins_holds (Skipped (codes "/*" ++ (parts.0 ++ codes "*/"))) parts.1 (λ n. tt)

    over : (o : Option (List ℕ)) → HoldsIf (option_map (λ inner. closed_comment (cut (codes "*/") inner)) o)
    over None = tt
    over (Some inner) = closed_holds (cut (codes "*/") inner)

line_holds : (white : Bool) (text : List ℕ) → HoldsIf (line_comment white text)
line_holds false text = tt
line_holds true text = over (after_prefix (codes "//") text)
  where
    over : (o : Option (List ℕ)) → HoldsIf (option_map (λ inner. begins
        (Skipped (codes "//" ++ prefix_while continues_line inner))
        (after_while continues_line inner)) o)
    over None = tt
    over (Some inner) =
        begins_holds (Skipped (codes "//" ++ prefix_while continues_line inner)) (after_while continues_line inner)
        (λ n. tt)

literal_holds : (text : List ℕ) → HoldsIf (literal_segment text)
literal_holds text = over (after_prefix (codes "{literal}") text)
  where
    closed_holds : (o : Option (List ℕ × List ℕ)) → Holds (closed_literal o)
    closed_holds None = tt
    closed_holds (Some parts) =
        begins_holds (Literal parts.0) parts.1 (λ n. lacks-first (0 ∷ []) parts.0 (codes "{/literal}") n)

    over : (o : Option (List ℕ)) → HoldsIf (option_map (λ inner. closed_literal (cut (codes "{/literal}") inner)) o)
    over None = tt
    over (Some inner) = closed_holds (cut (codes "{/literal}") inner)

plain_holds : (text : List ℕ) → Holds (plain_segment text)
plain_holds [] = tt
plain_holds (c ∷ cs) = over (c == 123) (may_begin cs) (c == 125)
  where
    over : (t u v : Bool) → Holds (if t then (if u then begins
        (CommandToken kind.Begin (c ∷ []) (c ∷ [])) cs else Fails 0)
        else if v then Fails 0 else begins (TextCharacter c) cs)
    over true true v = begins_holds (CommandToken kind.Begin (c ∷ []) (c ∷ [])) cs (λ n. tt)
    over true false v = tt
    over false u true = tt
    over false u false = begins_holds (TextCharacter c) cs (λ n. n)

pub text_holds_segment : (white : Bool) (text : List ℕ) → Holds (text_segment white text)
text_holds_segment white text =
    unwrap_holds _ (plain_segment text)
    (or_holds (block_comment text) _ (comment_holds text)
    (or_holds (line_comment white text) _ (line_holds white text) (literal_holds text))) (plain_holds text)

opened_holds : (text : List ℕ) → Holds (opened_segment text)
opened_holds text = unwrap_holds (close_segment text) (command_segment text) (close_holds text) (command_holds text)

-- the segments in each mode: that type is soy_lexer's own, so its values are had by what leads to them, and a mode
-- after text that is skipped by going on

abbrev pub again : {A : Type 0} → (A → A) → ℕ → A → A
again f zero a = a
again f (suc n) a = again f n (f a)

inside_holds : (n : ℕ) (text : List ℕ) →
    Holds (segment_of (again mode_after_skipped n (mode_after_token kind.Word)) text)
inside_holds zero text = command_holds text
inside_holds (suc n) text = inside_holds n text

pub outside_holds : (n : ℕ) (text : List ℕ) →
    Holds (segment_of (again mode_after_skipped n (mode_after_token kind.End)) text)
outside_holds zero text = text_holds_segment false text
outside_holds (suc n) text = outside_holds n text

after_opened_holds : (n : ℕ) (text : List ℕ) → Holds (segment_of
    (again mode_after_skipped n (mode_after_token kind.Begin)) text)
after_opened_holds zero text = opened_holds text
after_opened_holds (suc n) text = inside_holds n text

after_token_holds : (k : TokenKind) (n : ℕ) (text : List ℕ) →
    Holds (segment_of (again mode_after_skipped n (mode_after_token k)) text)
after_token_holds kind.Begin n text = after_opened_holds n text
after_token_holds kind.End n text = outside_holds n text
after_token_holds kind.SlashEnd n text = outside_holds n text
after_token_holds _ n text = inside_holds n text

abbrev pub AllHolds : List Segment → Type 0
AllHolds [] = Unit {0}
AllHolds (segment ∷ segments) = SegmentHolds segment × AllHolds segments

pub segments_holds : (offset : ℕ) (mode : _) (text : List ℕ) (segments : List Segment) (stop : Option ℕ) →
    Segments offset mode text segments stop →
    ((n : ℕ) (more : List ℕ) → Holds (segment_of (again mode_after_skipped n mode) more)) → AllHolds segments
segments_holds _ _ _ _ _ (Segments.Ended offset mode) good = tt
segments_holds _ _ _ _ _ (Segments.Stopped offset mode c cs further e) good = tt
segments_holds _ _ _ _ _ (Segments.Goes offset mode c cs segment rest segments stop e more) good =
    (subst Holds e (good zero (c ∷ cs)), segments_holds _ _ rest segments stop more (next segment))
  where
    next : (p : Segment) (n : ℕ) (text : List ℕ) →
        Holds (segment_of (again mode_after_skipped n (mode_after mode p)) text)
    next (TextCharacter d) zero text = text_holds_segment (is_template_space d) text
    next (TextCharacter d) (suc n) text = outside_holds n text
    next (Skipped skipped) n text = good (suc n) text
    next (Literal literal) n text = outside_holds n text
    next (CommandToken k t value) n text = after_token_holds k n text
