-- What a run holds, as its characters come one by one, and the token that is made of it.
use Rattle.std.proofs.Common.{◌≡◌, ℕ, ◌+◌, List, [], ◌∷◌, ◌++◌, Bool, true, false, not, ◌||◌, ◌&&◌, if◌then◌else◌, refl}
use Rattle.std.proofs.Common.{sym, ◌∙◌, ap, subst, append_assoc, append-nil, arith}
use Rattle.std.specs.Char.{len_utf8}
use Rattle.std.proofs.lemmas.Bool.Decides.{nat_tests}
use Rattle.std.proofs.lemmas.List.{reverse-append}
use Rattle.soy_base.specs.WhiteSpace.{is_line_break, is_template_space}
use Rattle.soy_base.specs.Cuts.{is_nil}
use Rattle.soy_base.specs.Characters.{space}
use Rattle.soy_lexer.specs.Lines.{RunCharacter, Line, without_end, lines_of, is_angle, begins_angle, ends_angle}
use Rattle.soy_lexer.specs.Lines.{characters, joined, last_end_offset}
use Rattle.soy_lexer.specs.IsRunOf.{unless_empty, lines_after, last_line, AllFilled, IsPresent, StartsAt, Represents}
use Rattle.soy_lexer.specs.IsRunOf.{needs_space, start_with}
use Rattle.soy_lexer.specs.Tokens.{token, token_of_lines, run_token}
use Rattle.soy_lexer.specs.declared.token.TokenKind.TheVariants as kind
use Rattle.soy_lexer.proofs.Running.{at_start, ended, ended_fresh, white_skipped, line_begun, line_longer, at_end}
use Rattle.soy_lexer.proofs.Running.{without_end-white, without_end-other, filled-append, last_line-append}
use Rattle.soy_lexer.proofs.Running.{starts_ended, last_end_offset-append, filled_line, characters-append, gap}
use Rattle.soy_lexer.proofs.Running.{joined-append, joined_present}

-- what comes between a text and the next character
abbrev pub space_before : List ℕ → Bool → Bool → Bool → List ℕ
space_before text fresh angle next = if needs_space text fresh angle next then space ∷ [] else []

-- nothing yet
pub nothing_represented : (text white : List ℕ) → text ≡ [] → white ≡ [] → Represents text white false false 0 0 0 []
nothing_represented text white no_text no_white =
    record {
      done = [];
      line = [];
      tail = [];
      lines_are = at_start;
      filled = tt;
      without = refl;
      begins = refl;
      text_is = no_text;
      white_is = no_white;
      angle_is = refl;
      starts = tt;
      text_ends = refl;
      ends = refl;
    }

-- the present line has no characters where it is fresh
fresh_line : (fresh : Bool) (done : List Line) (line tail : Line) → IsPresent fresh done line tail → fresh ≡ true
    → line ++ tail ≡ []
fresh_line true done line tail h e = rw (h.0, h.1) refl
fresh_line false done line tail h e = absurd (cc)

-- a line breaks
ends_line : (fresh : Bool) (done : List Line) (line tail : Line) (c : RunCharacter) (rest : List RunCharacter)
    → is_line_break c.character ≡ true →
    without_end (line ++ tail) ≡ line → IsPresent fresh done line tail →
    lines_after fresh (line ++ tail) (c ∷ rest) ≡ unless_empty line ++ lines_after true [] rest
ends_line true done line tail c rest e w h = rw (h.0, h.1) (ended_fresh c rest e)
ends_line false done line tail c rest e w h =
    ended (line ++ tail) c rest e ∙ ap (λ l. unless_empty l ++ lines_after true [] rest) w

-- so the run holds the line without its white space
pub line_end_represented : {text white : List ℕ} {fresh angle : Bool} {start text_end end : ℕ} {run : List RunCharacter}
    (white' : List ℕ) (c : RunCharacter) →
    Represents text white fresh angle start text_end end run → is_line_break c.character ≡ true → white' ≡ [] →
    Represents text white' true angle start text_end text_end (run ++ c ∷ [])
line_end_represented {text} {white} {fresh} {angle} {start} {text_end} {end} {run} white' c k e no_white =
    let done' = k.done ++ unless_empty k.line in
    let same : done' ++ [] ≡ done' = append-nil done' in
    record {
      done = done';
      line = [];
      tail = [];
      lines_are = λ rest.
          ap (λ l. lines_of l) (append_assoc run (c ∷ []) rest)
          ∙ (k.lines_are (c ∷ rest)
          ∙ (ap (λ l. k.done ++ l) (ends_line fresh k.done k.line k.tail c rest e k.without k.begins)
          ∙ sym (append_assoc k.done (unless_empty k.line) (lines_after true [] rest))));
      filled = filled-append k.done k.line k.filled;
      without = refl;
      begins = (refl, refl);
      text_is = k.text_is ∙ ap joined (sym same);
      white_is = no_white;
      angle_is = k.angle_is ∙ ap (λ l. ends_angle (last_line l)) (sym same);
      starts = subst (λ l. StartsAt l start) (sym same) (starts_ended k.done k.line k.tail start k.filled k.starts);
      text_ends = ap (λ l. last_end_offset 0 l) same ∙ k.text_ends;
      ends = ap (λ l. last_end_offset 0 l) same ∙ k.text_ends;
    }

-- white space at the start of a line
pub skipped_represented : {text white : List ℕ} {fresh angle : Bool} {start text_end end : ℕ} {run : List RunCharacter}
    (c : RunCharacter) →
    Represents text white fresh angle start text_end end run → fresh ≡ true → is_template_space c.character ≡ true
    → is_line_break c.character ≡ false →
    Represents text white fresh angle start text_end end (run ++ c ∷ [])
skipped_represented {text} {white} {fresh} {angle} {start} {text_end} {end} {run} c k is_fresh w e =
    record {
      done = k.done;
      line = k.line;
      tail = k.tail;
      lines_are = λ rest.
          ap (λ l. lines_of l) (append_assoc run (c ∷ []) rest)
          ∙ (k.lines_are (c ∷ rest)
          ∙ ap (λ l. k.done ++ l) (skips fresh (k.line ++ k.tail) rest is_fresh
          (fresh_line fresh k.done k.line k.tail k.begins is_fresh)));
      filled = k.filled;
      without = k.without;
      begins = k.begins;
      text_is = k.text_is;
      white_is = k.white_is;
      angle_is = k.angle_is;
      starts = k.starts;
      text_ends = k.text_ends;
      ends = k.ends;
    }
  where
    skips : (fresh : Bool) (line : Line) (rest : List RunCharacter) → fresh ≡ true → line ≡ []
        → lines_after fresh line (c ∷ rest) ≡ lines_after fresh line rest
    skips fresh line rest f l = rw (f, l) (white_skipped c rest w e)

-- where a run starts with one more character
starts_with : (done : List Line) (line tail : Line) (c : RunCharacter) (text white : List ℕ) (start start' : ℕ)
    → AllFilled done →
    text ≡ joined (done ++ unless_empty line) → white ≡ characters tail → start' ≡ start_with text white start c.offset
    →
    StartsAt (done ++ unless_empty (line ++ tail)) start →
    StartsAt (done ++ unless_empty ((line ++ tail) ++ c ∷ [])) start'
starts_with [] [] [] c text white start start' filled t w s h = sym (s ∙ rw (t, w) refl)
starts_with [] [] (p ∷ ps) c text white start start' filled t w s h = h ∙ sym (s ∙ rw (t, w) refl)
starts_with [] (d ∷ ds) tail c text white start start' filled t w s h = h ∙ sym (s ∙ rw t refl)
starts_with ([] ∷ done) line tail c text white start start' filled t w s h = absurd filled
starts_with ((d ∷ ds) ∷ []) [] tail c text white start start' filled t w s h = h ∙ sym (s ∙ rw t refl)
starts_with ((d ∷ ds) ∷ []) (l ∷ ls) tail c text white start start' filled t w s h = h ∙ sym (s ∙ rw t refl)
starts_with ((d ∷ ds) ∷ next ∷ done) line tail c text white start start' filled t w s h = h ∙ sym (s ∙ rw t refl)

-- white space makes no line of a present one
still_begins : (done : List Line) (line tail more : Line) → IsPresent false done line tail
    → IsPresent false done line more
still_begins done [] tail more h = h
still_begins done (c ∷ cs) tail more h = tt

-- white space further on
pub white_represented : {text white : List ℕ} {fresh angle : Bool} {start text_end end : ℕ} {run : List RunCharacter}
    (white' : List ℕ) (start' end' : ℕ) (c : RunCharacter) →
    Represents text white fresh angle start text_end end run → fresh ≡ false → is_template_space c.character ≡ true
    → is_line_break c.character ≡ false →
    white' ≡ white ++ c.character ∷ [] → start' ≡ start_with text white start c.offset
    → end' ≡ c.offset + len_utf8 c.character →
    Represents text white' fresh angle start' text_end end' (run ++ c ∷ [])
white_represented {text} {white} {fresh = true} {angle} {start} {text_end} {end} {run} white' start' end' c k no_fresh w
    e more s n = absurd (cc)
white_represented {text} {white} {fresh = false} {angle} {start} {text_end} {end} {run} white' start' end' c k no_fresh
    w e more s n =
    let longer : (k.line ++ k.tail) ++ c ∷ [] ≡ k.line ++ (k.tail ++ c ∷ []) = append_assoc k.line k.tail (c ∷ []) in
    record {
      done = k.done;
      line = k.line;
      tail = k.tail ++ c ∷ [];
      lines_are = λ rest.
          ap (λ l. lines_of l) (append_assoc run (c ∷ []) rest)
          ∙ (k.lines_are (c ∷ rest)
          ∙ (ap (λ l. k.done ++ l) (line_longer (k.line ++ k.tail) c rest e)
          ∙ ap (λ l. k.done ++ lines_after false l rest) longer));
      filled = k.filled;
      without = ap without_end (sym longer) ∙ (without_end-white (k.line ++ k.tail) c w ∙ k.without);
      begins = still_begins k.done k.line k.tail (k.tail ++ c ∷ []) k.begins;
      text_is = k.text_is;
      white_is = more ∙ (ap (λ l. l ++ c.character ∷ []) k.white_is ∙ sym (characters-append k.tail (c ∷ [])));
      angle_is = k.angle_is;
      starts = subst (λ l. StartsAt (k.done ++ unless_empty l) start') longer
          (starts_with k.done k.line k.tail c text white start start' k.filled k.text_is k.white_is s k.starts);
      text_ends = k.text_ends;
      ends =
          ap (λ l. last_end_offset 0 (k.done ++ unless_empty l)) (sym longer)
          ∙ (last_end_offset-append k.done (k.line ++ k.tail) c ∙ sym n);
    }

-- another character goes on with the present line

-- the lines to come are those of a longer present line
goes_on : (fresh : Bool) (done : List Line) (line tail : Line) (c : RunCharacter) (rest : List RunCharacter)
    → IsPresent fresh done line tail →
    is_template_space c.character ≡ false → is_line_break c.character ≡ false →
    lines_after fresh (line ++ tail) (c ∷ rest) ≡ lines_after false ((line ++ tail) ++ c ∷ []) rest
goes_on true done line tail c rest h w e = rw (h.0, h.1) (line_begun c rest w e)
goes_on false done line tail c rest h w e = line_longer (line ++ tail) c rest e

-- a line with a character is a present line
begins_filled : (done : List Line) (line : Line) (c : RunCharacter) → IsPresent false done (line ++ c ∷ []) []
begins_filled done [] c = tt
begins_filled done (l ∷ ls) c = tt

-- a line breaks as its last character says
ends_angle-append : (line : Line) (c : RunCharacter) → ends_angle (line ++ c ∷ []) ≡ is_angle c.character
ends_angle-append line c = ap begins_angle (reverse-append line (c ∷ []))

-- a space where it is wanted, or none where it is not
flipped : (b : Bool) → (if not b then space ∷ [] else []) ≡ (if b then [] else space ∷ [])
flipped true = refl
flipped false = refl

-- what comes before a new line
space_gap : (done : List Line) (text : List ℕ) (angle : Bool) (c : RunCharacter) → AllFilled done → text ≡ joined done
    → angle ≡ ends_angle (last_line done) →
    space_before text true angle (is_angle c.character) ≡ gap done (c ∷ [])
space_gap [] text angle c filled t a = rw t refl
space_gap ([] ∷ done) text angle c filled t a = absurd filled
space_gap ((d ∷ ds) ∷ []) text angle c filled t a = rw (t, a) (flipped (ends_angle (d ∷ ds) || is_angle c.character))
space_gap ((d ∷ ds) ∷ next ∷ done) text angle c filled t a =
    rw (t, a) (flipped (ends_angle (last_line (next ∷ done)) || is_angle c.character))

-- the text with the first character of a new line
new_line : (done : List Line) (text : List ℕ) (angle : Bool) (c : RunCharacter) → AllFilled done → text ≡ joined done
    → angle ≡ ends_angle (last_line done) →
    ((text ++ space_before text true angle (is_angle c.character)) ++ []) ++ c.character
    ∷ [] ≡ joined (done ++ (c ∷ []) ∷ [])
new_line done text angle c filled t a =
    rw (append-nil (text ++ space_before text true angle (is_angle c.character)))
    (append_assoc text (space_before text true angle (is_angle c.character)) (c.character ∷ [])
    ∙ (ap (λ l. text ++ (l ++ c.character ∷ [])) (space_gap done text angle c filled t a)
    ∙ (ap (λ l. l ++ (gap done (c ∷ []) ++ c.character ∷ [])) t
    ∙ sym (joined-append done (c ∷ [])))))

-- the text with one more character
text_longer : (fresh : Bool) (done : List Line) (line tail : Line) (c : RunCharacter) (text white : List ℕ)
    (angle : Bool) → AllFilled done → IsPresent fresh done line tail →
    text ≡ joined (done ++ unless_empty line) → white ≡ characters tail
    → angle ≡ ends_angle (last_line (done ++ unless_empty line)) →
    ((text ++ space_before text fresh angle (is_angle c.character)) ++ white) ++ c.character
    ∷ [] ≡ joined (done ++ unless_empty ((line ++ tail) ++ c ∷ []))
text_longer true done line tail c text white angle filled h t w a =
    let no_line : done ++ unless_empty line ≡ done = ap (λ l. done ++ unless_empty l) h.0 ∙ append-nil done in
    let no_white : white ≡ [] = w ∙ ap characters h.1 in
    rw (no_white, h.0, h.1)
    (new_line done text angle c filled (t ∙ ap joined no_line) (a ∙ ap (λ l. ends_angle (last_line l)) no_line))
text_longer false done line tail c text white angle filled h t w a =
    rw (append-nil text, append_assoc line tail (c ∷ []))
    (append_assoc text white (c.character ∷ [])
    ∙ (ap (λ l. l ++ (white ++ c.character ∷ [])) t
    ∙ (ap (λ l. joined (done ++ unless_empty line) ++ (l ++ c.character ∷ [])) w
    ∙ (ap (λ l. joined (done ++ unless_empty line) ++ l) (sym (characters-append tail (c ∷ [])))
    ∙ sym (joined_present false done line tail (tail ++ c ∷ []) h refl)))))

-- so the run holds the longer line
pub other_represented : {text white : List ℕ} {fresh angle : Bool} {start text_end end : ℕ} {run : List RunCharacter}
    (text' white' : List ℕ) (angle' : Bool) (start' end' : ℕ) (c : RunCharacter) →
    Represents text white fresh angle start text_end end run → is_template_space c.character ≡ false
    → is_line_break c.character ≡ false →
    text' ≡ ((text ++ space_before text fresh angle angle') ++ white) ++ c.character ∷ [] → white' ≡ []
    → angle' ≡ is_angle c.character →
    start' ≡ start_with text white start c.offset → end' ≡ c.offset + len_utf8 c.character →
    Represents text' white' false angle' start' end' end' (run ++ c ∷ [])
other_represented {text} {white} {fresh} {angle} {start} {text_end} {end} {run} text' white' angle' start' end' c k w e
    t no_white a s n =
    let now : Line = (k.line ++ k.tail) ++ c ∷ [] in
    let same : now ++ [] ≡ now = append-nil now in
    let one : unless_empty now ≡ now ∷ [] = filled_line (k.line ++ k.tail) c in
    record {
      done = k.done;
      line = now;
      tail = [];
      lines_are = λ rest.
          ap (λ l. lines_of l) (append_assoc run (c ∷ []) rest)
          ∙ (k.lines_are (c ∷ rest)
          ∙ (ap (λ l. k.done ++ l) (goes_on fresh k.done k.line k.tail c rest k.begins w e)
          ∙ ap (λ l. k.done ++ lines_after false l rest) (sym same)));
      filled = k.filled;
      without = ap without_end same ∙ without_end-other (k.line ++ k.tail) c w;
      begins = begins_filled k.done (k.line ++ k.tail) c;
      text_is = t ∙ (ap (λ x. ((text ++ space_before text fresh angle x) ++ white) ++ c.character ∷ []) a
          ∙ text_longer fresh k.done k.line k.tail c text white angle k.filled k.begins k.text_is k.white_is
          k.angle_is);
      white_is = no_white;
      angle_is = a ∙ (sym (ends_angle-append (k.line ++ k.tail) c)
          ∙ (ap ends_angle (sym (last_line-append k.done now))
          ∙ ap (λ l. ends_angle (last_line (k.done ++ l))) (sym one)));
      starts = subst (λ l. StartsAt (k.done ++ unless_empty l) start') (sym same)
          (starts_with k.done k.line k.tail c text white start start' k.filled k.text_is k.white_is s k.starts);
      text_ends = last_end_offset-append k.done (k.line ++ k.tail) c ∙ sym n;
      ends =
          ap (λ l. last_end_offset 0 (k.done ++ unless_empty l)) same
          ∙ (last_end_offset-append k.done (k.line ++ k.tail) c ∙ sym n);
    }

-- the lines of the whole run, and their text
left_lines : (fresh : Bool) (done : List Line) (line tail : Line) → IsPresent fresh done line tail
    → lines_after fresh (line ++ tail) [] ≡ unless_empty (line ++ tail)
left_lines true done line tail h = rw (h.0, h.1) refl
left_lines false done line tail h = at_end (line ++ tail)

-- and their text is that of the run with its white space
left_text : (fresh : Bool) (done : List Line) (line tail : Line) → IsPresent fresh done line tail →
    joined (done ++ unless_empty (line ++ tail)) ≡ joined (done ++ unless_empty line) ++ characters tail
left_text true done line tail h = rw (h.0, h.1) (sym (append-nil (joined (done ++ []))))
left_text false done line tail h = joined_present false done line tail tail h refl

-- the lines of the whole run
all_lines : {text white : List ℕ} {fresh angle : Bool} {start text_end end : ℕ} {run : List RunCharacter} →
    (k : Represents text white fresh angle start text_end end run)
    → lines_of run ≡ k.done ++ unless_empty (k.line ++ k.tail)
all_lines {text} {white} {fresh} {angle} {start} {text_end} {end} {run} k =
    ap lines_of (sym (append-nil run))
    ∙ (k.lines_are [] ∙ ap (λ l. k.done ++ l) (left_lines fresh k.done k.line k.tail k.begins))

-- and their text
all_text : {text white : List ℕ} {fresh angle : Bool} {start text_end end : ℕ} {run : List RunCharacter} →
    (k : Represents text white fresh angle start text_end end run)
    → joined (k.done ++ unless_empty (k.line ++ k.tail)) ≡ text ++ white
all_text {text} {white} {fresh} {angle} {start} {text_end} {end} {run} k =
    left_text fresh k.done k.line k.tail k.begins
    ∙ (ap (λ l. l ++ characters k.tail) (sym k.text_is) ∙ ap (λ l. text ++ l) (sym k.white_is))

-- lines with characters have a text
no_lines : (lines : List Line) (text : List ℕ) → AllFilled lines → joined lines ≡ text → is_nil text ≡ true
    → token_of_lines lines ≡ []
no_lines [] text filled e n = refl
no_lines ([] ∷ lines) text filled e n = absurd filled
no_lines ((c ∷ cs) ∷ []) text filled e n = absurd (not_nil (ap is_nil e ∙ n))
  where
    not_nil : false ≡ true → ⊥
    not_nil h = cc
no_lines ((c ∷ cs) ∷ next ∷ lines) text filled e n = absurd (not_nil (ap is_nil e ∙ n))
  where
    not_nil : false ≡ true → ⊥
    not_nil h = cc

-- lines with a text give one token
one_token : (lines : List Line) (text : List ℕ) (start end : ℕ) → joined lines ≡ text → is_nil text ≡ false
    → StartsAt lines start → last_end_offset 0 lines ≡ end →
    token kind.Text start end text ∷ [] ≡ token_of_lines lines
one_token [] text start end e n s l = absurd (is_none (ap is_nil e ∙ n))
  where
    is_none : true ≡ false → ⊥
    is_none h = cc
one_token (line ∷ lines) text start end e n s l = rw (← e, ← s, ← l) refl

-- of a run without a text no token is made
pub no_token_represented : {text white : List ℕ} {fresh angle : Bool} {start text_end end : ℕ} {run : List RunCharacter}
    (all : List ℕ) →
    Represents text white fresh angle start text_end end run → all ≡ text ++ white → is_nil all ≡ true
    → [] ≡ run_token run
no_token_represented all k e n =
    sym (ap token_of_lines (all_lines k)
    ∙ no_lines (k.done ++ unless_empty (k.line ++ k.tail)) all (filled-append k.done (k.line ++ k.tail) k.filled)
    (all_text k ∙ sym e) n)

-- nothing is left of a run without text and white space, and the next one begins
nil_append : (first second : List ℕ) → first ≡ [] → second ≡ [] → [] ≡ first ++ second
nil_append first second p q = rw (p, q) refl

both_nil : (first second : List ℕ) → (is_nil first && is_nil second) ≡ true → (first ≡ []) × (second ≡ [])
both_nil [] [] e = (refl, refl)
both_nil [] (c ∷ cs) e = absurd (is_not e)
  where
    is_not : false ≡ true → ⊥
    is_not h = cc
both_nil (c ∷ cs) second e = absurd (is_not e)
  where
    is_not : false ≡ true → ⊥
    is_not h = cc

pub restarted : {text white : List ℕ} {fresh angle : Bool} {start text_end end : ℕ} {run : List RunCharacter} →
    Represents text white fresh angle start text_end end run → (is_nil text && is_nil white) ≡ true →
    ([] ≡ run_token run) × Represents text white false false 0 0 0 []
restarted {text = text} {white = white} k e =
    let nils = both_nil text white e in
    (no_token_represented [] k (nil_append text white nils.0 nils.1) refl, nothing_represented text white nils.0 nils.1)

-- and else one
pub token_represented : {text white : List ℕ} {fresh angle : Bool} {start text_end end : ℕ} {run : List RunCharacter}
    (all : List ℕ) →
    Represents text white fresh angle start text_end end run → all ≡ text ++ white → is_nil all ≡ false →
    token kind.Text start end all ∷ [] ≡ run_token run
token_represented {start = start} {end = end} all k e n =
    one_token (k.done ++ unless_empty (k.line ++ k.tail)) all start end (all_text k ∙ sym e) n k.starts k.ends
    ∙ ap token_of_lines (sym (all_lines k))

-- a character that is not white ends no line
pub not_white : (c : ℕ) → is_template_space c ≡ false → is_line_break c ≡ false
not_white c w = grind (arith, nat_tests)
