-- The tokens of a text stand in its order.
use Rattle.std.proofs.Common.{◌≡◌, ℕ, ◌+◌, ◌<◌, ◌≤◌, List, [], ◌∷◌, ◌++◌, Bool, true, false, cond, if◌then◌else◌}
use Rattle.std.proofs.Common.{Option, None, reverse, length, refl, sym, ap, subst, ◌∙◌, arith, append_assoc, append-nil}
use Rattle.std.proofs.Common.{add-zero, zero-add, codes}
use Rattle.std.specs.List.{filter, slice_split, onto_first}
use Rattle.std.specs.Char.{len_utf8}
use Rattle.std.proofs.lemmas.List.{reverse-append, reverse-reverse}
use Rattle.std.proofs.lemmas.Str.{len_utf8_bounds}
use Rattle.soy_base.specs.WhiteSpace.{is_template_space, is_line_break}
use Rattle.soy_base.specs.ByteLength.{byte_len}
use Rattle.soy_lexer.specs.IsRunOf.{AllFilled}
use Rattle.soy_lexer.specs.InOrder.{InOrder}
use Rattle.soy_lexer.specs.Lines.{RunCharacter, Line, without_start, without_end, trimmed, trimmed_after}
use Rattle.soy_lexer.specs.Lines.{has_characters, lines_of, end_offset, last_end_offset}
use Rattle.soy_lexer.specs.Segment.{Segment, source_text}
use Rattle.soy_lexer.specs.ModeAfter.{mode_after}
use Rattle.soy_lexer.specs.declared.mode.Mode.{Mode}
use Rattle.soy_lexer.specs.Segment.Segment.{TextCharacter, Skipped, Literal, CommandToken}
use Rattle.soy_lexer.specs.declared.mode.Mode.TheVariants.{Outside}
use Rattle.soy_lexer.specs.Segments.{Segments}
use Rattle.soy_lexer.specs.Segments.Segments.{Ended, Stopped, Goes}
use Rattle.soy_lexer.specs.Tokens.{Tokens, token, token_of_lines, run_token, literal_start, segment_tokens, run_after}
use Rattle.soy_lexer.specs.Tokens.{tokens_of}
use Rattle.soy_lexer.specs.declared.token.Token.{Token}
use Rattle.soy_lexer.specs.declared.token.TokenKind.TheVariants as kind
use Rattle.soy_lexer.proofs.Running.{end_offset-append}
use Rattle.soy_lexer.proofs.SomeSegments.{begins_stands}
use Rattle.soy_base.proofs.Texts.{byte_len-append}

-- characters in the order of their offsets
abbrev pub Ascends : ℕ → ℕ → List RunCharacter → Type 0
Ascends from to [] = from ≤ to
Ascends from to (c ∷ cs) = (from ≤ c.offset) × Ascends (c.offset + len_utf8 c.character) to cs

-- from an earlier offset too
from_earlier : (from later to : ℕ) (cs : List RunCharacter) → from ≤ later → Ascends later to cs → Ascends from to cs
from_earlier from later to [] h a = omega (arith, h, a)
from_earlier from later to (c ∷ cs) h a = (omega (arith, h, a.0), a.1)

-- up to a later offset too
to_later : (from to later : ℕ) (cs : List RunCharacter) → to ≤ later → Ascends from to cs → Ascends from later cs
to_later from to later [] h a = omega (arith, h, a)
to_later from to later (c ∷ cs) h a = (a.0, to_later (c.offset + len_utf8 c.character) to later cs h a.1)

-- with one more character at the end
one_more : (from to offset c : ℕ) (cs : List RunCharacter) → to ≤ offset → Ascends from to cs →
    Ascends from (offset + len_utf8 c) (cs ++ record { offset = offset; character = c } ∷ [])
one_more from to offset c [] h a = (omega (arith, h, a), omega arith)
one_more from to offset c (d ∷ ds) h a = (a.0, one_more (d.offset + len_utf8 d.character) to offset c ds h a.1)

-- the last of them ends in between
ends_between : (from to : ℕ) (cs : List RunCharacter) → Ascends from to cs → (from ≤ end_offset from cs)
    × (end_offset from cs ≤ to)
ends_between from to [] a = (omega arith, a)
ends_between from to (c ∷ cs) a =
    let later = ends_between (c.offset + len_utf8 c.character) to cs a.1 in
    (omega (arith, a.0, later.0), later.1)

-- a part of a list, in its order
data IsSublist : List RunCharacter → List RunCharacter → Type 0 where
  Nothing : IsSublist [] []
  Same : (c : RunCharacter) (xs ys : List RunCharacter) → IsSublist xs ys → IsSublist (c ∷ xs) (c ∷ ys)
  Left : (c : RunCharacter) (xs ys : List RunCharacter) → IsSublist xs ys → IsSublist xs (c ∷ ys)

-- what is left out changes no order
part_ascends : (xs ys : List RunCharacter) → IsSublist xs ys → (from to : ℕ) → Ascends from to ys → Ascends from to xs
part_ascends _ _ Nothing from to a = a
part_ascends _ _ (Same c xs ys p) from to a = (a.0, part_ascends xs ys p (c.offset + len_utf8 c.character) to a.1)
part_ascends _ _ (Left c xs ys p) from to a =
    from_earlier from (c.offset + len_utf8 c.character) to xs (omega (arith, a.0))
    (part_ascends xs ys p (c.offset + len_utf8 c.character) to a.1)

-- a list is a sublist of itself
all_of : (xs : List RunCharacter) → IsSublist xs xs
all_of [] = Nothing
all_of (x ∷ xs) = Same x xs xs (all_of xs)

-- sublists one after the other
both_parts : (xs ys us vs : List RunCharacter) → IsSublist xs ys → IsSublist us vs → IsSublist (xs ++ us) (ys ++ vs)
both_parts _ _ us vs Nothing q = q
both_parts _ _ us vs (Same c xs ys p) q = Same c (xs ++ us) (ys ++ vs) (both_parts xs ys us vs p q)
both_parts _ _ us vs (Left c xs ys p) q = Left c (xs ++ us) (ys ++ vs) (both_parts xs ys us vs p q)

-- the reverse of a list with one more at its start
reverse-cons : (x : RunCharacter) (xs : List RunCharacter) → reverse xs ++ x ∷ [] ≡ reverse (x ∷ xs)
reverse-cons x xs = sym (reverse-append (x ∷ []) xs)

-- sublists the other way around
reverse_part : (xs ys : List RunCharacter) → IsSublist xs ys → IsSublist (reverse xs) (reverse ys)
reverse_part _ _ Nothing = Nothing
reverse_part _ _ (Same c xs ys p) =
    subst (λ l. IsSublist l (reverse (c ∷ ys))) (reverse-cons c xs)
    (subst (λ l. IsSublist (reverse xs ++ c ∷ []) l) (reverse-cons c ys)
    (both_parts (reverse xs) (reverse ys) (c ∷ []) (c ∷ []) (reverse_part xs ys p) (all_of (c ∷ []))))
reverse_part _ _ (Left c xs ys p) =
    subst (λ l. IsSublist l (reverse (c ∷ ys))) (append-nil (reverse xs))
    (subst (λ l. IsSublist (reverse xs ++ []) l) (reverse-cons c ys)
    (both_parts (reverse xs) (reverse ys) [] (c ∷ []) (reverse_part xs ys p) (Left c [] [] Nothing)))

-- sublists of sublists
part_of_part : (xs ys zs : List RunCharacter) → IsSublist xs ys → IsSublist ys zs → IsSublist xs zs
part_of_part xs _ _ p Nothing = p
part_of_part _ _ _ (Same c xs ys p) (Same _ _ zs q) = Same c xs zs (part_of_part xs ys zs p q)
part_of_part xs _ _ (Left c _ ys p) (Same _ _ zs q) = Left c xs zs (part_of_part xs ys zs p q)
part_of_part xs ys _ p (Left c _ zs q) = Left c xs zs (part_of_part xs ys zs p q)

-- what is left of lines is a part of them

-- white space left out at the start of a line
start_part : (line : Line) → IsSublist (without_start line) line
start_part [] = Nothing
start_part (c ∷ cs) = by_white (is_template_space c.character) (start_part cs)
  where
    by_white : (white : Bool) → IsSublist (without_start cs) cs
        → IsSublist (if white then without_start cs else c ∷ cs) (c ∷ cs)
    by_white true p = Left c (without_start cs) cs p
    by_white false p = all_of (c ∷ cs)

-- and at its end
end_part : (line : Line) → IsSublist (without_end line) line
end_part line =
    subst (λ l. IsSublist (without_end line) l) (reverse-reverse line)
    (reverse_part (without_start (reverse line)) (reverse line) (start_part (reverse line)))

-- lines one after the other
abbrev pub flat : List Line → List RunCharacter
flat [] = []
flat (line ∷ lines) = line ++ flat lines

-- of lines after a line break
trimmed_after_part : (lines : List Line) → IsSublist (flat (trimmed_after lines)) (flat lines)
trimmed_after_part [] = Nothing
trimmed_after_part (line ∷ []) = both_parts (without_start line) line [] [] (start_part line) Nothing
trimmed_after_part (line ∷ next ∷ lines) =
    both_parts (without_end (without_start line)) line (flat (trimmed_after (next ∷ lines))) (flat (next ∷ lines))
    (part_of_part (without_end (without_start line)) (without_start line) line (end_part (without_start line))
    (start_part line))
    (trimmed_after_part (next ∷ lines))

-- of all lines of a run
trimmed_part : (lines : List Line) → IsSublist (flat (trimmed lines)) (flat lines)
trimmed_part [] = Nothing
trimmed_part (line ∷ []) = all_of (line ++ [])
trimmed_part (line ∷ next ∷ lines) =
    both_parts (without_end line) line (flat (trimmed_after (next ∷ lines))) (flat (next ∷ lines)) (end_part line)
    (trimmed_after_part (next ∷ lines))

-- lines without characters have none to leave out
filled_part : (lines : List Line) → flat (filter has_characters lines) ≡ flat lines
filled_part [] = refl
filled_part ([] ∷ lines) = filled_part lines
filled_part ((c ∷ cs) ∷ lines) = ap (λ l. (c ∷ cs) ++ l) (filled_part lines)

-- and those that are left have characters
all_filled : (lines : List Line) → AllFilled (filter has_characters lines)
all_filled [] = tt
all_filled ([] ∷ lines) = all_filled lines
all_filled ((c ∷ cs) ∷ lines) = all_filled lines

-- a character put before lines
onto_part : (c : RunCharacter) (lines : List Line) → flat (onto_first c lines) ≡ c ∷ flat lines
onto_part c [] = refl
onto_part c (line ∷ lines) = refl

-- the lines of a run
abbrev split : List RunCharacter → List Line
split run = slice_split (λ c. is_line_break c.character) run

-- line breaks left out
split_part : (run : List RunCharacter) → IsSublist (flat (split run)) run
split_part [] = Nothing
split_part (c ∷ cs) = by_end (is_line_break c.character) (split_part cs)
  where
    by_end : (ends : Bool) → IsSublist (flat (split cs)) cs
        → IsSublist (flat (cond ends ([] ∷ split cs) (onto_first c (split cs)))) (c ∷ cs)
    by_end true p = Left c (flat (split cs)) cs p
    by_end false p = subst (λ l. IsSublist l (c ∷ cs)) (sym (onto_part c (split cs))) (Same c (flat (split cs)) cs p)

-- what is left of a run is a part of it
lines_part : (run : List RunCharacter) → IsSublist (flat (lines_of run)) run
lines_part run =
    subst (λ l. IsSublist l run) (sym (filled_part (trimmed (split run))))
    (part_of_part (flat (trimmed (split run))) (flat (split run)) run (trimmed_part (split run)) (split_part run))

-- a run's token stands between the run's ends

-- where lines end, their characters end
last_end_offset-flat : (end : ℕ) (lines : List Line) → last_end_offset end lines ≡ end_offset end (flat lines)
last_end_offset-flat end [] = refl
last_end_offset-flat end (line ∷ lines) =
    last_end_offset-flat (end_offset end line) lines ∙ sym (end_offset-append end line (flat lines))

-- characters in order lie between their ends
within : (from to : ℕ) (cs : List RunCharacter) → Ascends from to cs → from ≤ to
within from to cs a = let e = ends_between from to cs a in omega (arith, e.0, e.1)

-- tokens in order from an earlier offset
in_order_later : (from to end : ℕ) (tokens : List Token) → from ≤ to → InOrder to end tokens → InOrder from end tokens
in_order_later from to end [] h o = omega (arith, h, o)
in_order_later from to end (t ∷ ts) h o = (omega (arith, h, o.0), o.1, o.2)

-- the token of lines, before others
lines_in_order : (from to end : ℕ) (lines : List Line) (others : List Token) → AllFilled lines
    → Ascends from to (flat lines) → InOrder to end others →
    InOrder from end (token_of_lines lines ++ others)
lines_in_order from to end [] others filled a o = in_order_later from to end others a o
lines_in_order from to end ([] ∷ lines) others filled a o = absurd filled
lines_in_order from to end ((c ∷ cs) ∷ lines) others filled a o =
    let last : end_offset (c.offset + len_utf8 c.character) (cs ++ flat lines) ≡ last_end_offset 0 ((c ∷ cs) ∷ lines) =
    sym (last_end_offset-flat 0 ((c ∷ cs) ∷ lines)) in
    let line_joint = ends_between (c.offset + len_utf8 c.character) to (cs ++ flat lines) a.1 in
    let size = len_utf8_bounds c.character in (
      a.0,
      omega (arith, last, line_joint.0, size.0),
      in_order_later (last_end_offset 0 ((c ∷ cs) ∷ lines)) to end others
          (omega (arith, last, line_joint.1)) o,
    )

-- the token of a run, before others
run_in_order : (from to end : ℕ) (run : List RunCharacter) (others : List Token) → Ascends from to run
    → InOrder to end others → InOrder from end (run_token run ++ others)
run_in_order from to end run others a o =
    lines_in_order from to end (lines_of run) others (all_filled (trimmed (split run)))
    (part_ascends (flat (lines_of run)) run (lines_part run) from to a) o

-- characters take bytes
byte_len_some : (cs : List ℕ) → 0 < length cs → 0 < byte_len cs
byte_len_some [] some = absurd (omega (arith, some))
byte_len_some (c ∷ cs) some = let size = len_utf8_bounds c in omega (arith, size.0)

-- a literal takes more bytes than its prefix
byte_len-literal : (text : List ℕ) → 9 < byte_len (source_text (Literal text))
byte_len-literal text = omega (arith, byte_len-append text (codes "{/literal}"))

-- it starts within its prefix
literal_between : (offset : ℕ) (text : List ℕ) → (offset ≤ literal_start offset text)
    × (literal_start offset text ≤ offset + 9)
literal_between offset [] = (omega arith, omega arith)
literal_between offset (c ∷ cs) = (omega arith, omega arith)

-- the tokens that a segment gives, before those that others give
segment_in_order : (from offset end : ℕ) (run : List RunCharacter) (p : Segment) (others : List Token)
    → 0 < byte_len (source_text p) → Ascends from offset run →
    ((from : ℕ) → Ascends from (offset + byte_len (source_text p)) (run_after offset run p) → InOrder from end others) →
    InOrder from end (segment_tokens offset run p ++ others)
segment_in_order from offset end run (TextCharacter c) others some a next =
    next from (subst (λ n. Ascends from n (run ++ record { offset = offset; character = c } ∷ []))
    (ap (λ n. offset + n) (sym (add-zero (len_utf8 c)))) (one_more from offset offset c run (omega arith) a))
segment_in_order from offset end run (Skipped text) others some a next =
    next from (to_later from offset (offset + byte_len text) run (omega arith) a)
segment_in_order from offset end run (Literal text) others some a next =
    let start = literal_between offset text in
    let size = byte_len-literal text in
    let t : Token = token kind.Text (literal_start offset text) (offset + byte_len (source_text (Literal text))) text in
    subst (λ l. InOrder from end l) (sym (append_assoc (run_token run) (t ∷ []) others))
    (run_in_order from offset end run (t ∷ others) a
    (start.0, omega (arith, start.1, size), next (offset + byte_len (source_text (Literal text))) (omega arith)))
segment_in_order from offset end run (CommandToken kind text value) others some a next =
    let t : Token = token kind offset (offset + byte_len text) value in
    subst (λ l. InOrder from end l) (sym (append_assoc (run_token run) (t ∷ []) others))
    (run_in_order from offset end run (t ∷ others) a
    (omega arith, omega (arith, some), next (offset + byte_len text) (omega arith)))

-- the tokens of segments, after those of a run
segments_in_order : (offset : ℕ) (mode : Mode) (text : List ℕ) (ps : List Segment) (stop : Option ℕ) (from : ℕ)
    (run : List RunCharacter) →
    Segments offset mode text ps stop → stop ≡ None → Ascends from offset run
    → InOrder from (offset + byte_len text) (tokens_of offset run ps)
segments_in_order _ _ _ _ _ from run (Ended offset mode) none a =
    subst (λ l. InOrder from (offset + 0) l) (append-nil (run_token run))
    (run_in_order from offset (offset + 0) run [] a (omega arith))
segments_in_order _ _ _ _ _ from run (Stopped offset mode c cs further fails) none a = absurd (cc)
segments_in_order _ _ _ _ _ from run (Goes offset mode c cs p rest ps stop begins d) none a =
    let stands = begins_stands mode (c ∷ cs) p rest begins in
    let both : (offset + byte_len (source_text p)) + byte_len rest
    ≡ offset + byte_len (c ∷ cs) = omega (arith, ap byte_len stands.0, byte_len-append (source_text p) rest) in
    segment_in_order from offset (offset + byte_len (c ∷ cs)) run p
    (tokens_of (offset + byte_len (source_text p)) (run_after offset run p) ps)
    (byte_len_some (source_text p) stands.1) a
    (λ later b. subst (λ n. InOrder later n (tokens_of (offset + byte_len (source_text p)) (run_after offset run p) ps))
    both
    (segments_in_order (offset + byte_len (source_text p)) (mode_after mode p) rest ps stop later
    (run_after offset run p)
    d none b))

-- the tokens of a text stand in its order
pub tokens_in_order : (text : List ℕ) (tokens : List Token) → Tokens text tokens → InOrder 0 (byte_len text) tokens
tokens_in_order text tokens are =
    subst (λ l. InOrder 0 (byte_len text) l) (sym are.tokens_are)
    (subst (λ n. InOrder 0 n (tokens_of 0 [] are.segments)) (zero-add (byte_len text))
    (segments_in_order 0 (Outside true) text are.segments None 0 [] are.whole refl (omega arith)))
