-- What is left of a run's lines as its characters come one by one.
use Rattle.std.proofs.Common.{◌≡◌, ℕ, ◌+◌, List, [], ◌∷◌, ◌++◌, Bool, true, false, cond, reverse, refl, sym, ◌∙◌, ap}
use Rattle.std.proofs.Common.{append_assoc, append-nil}
use Rattle.std.specs.List.{filter, slice_split, onto_first}
use Rattle.std.specs.Char.{len_utf8}
use Rattle.std.proofs.lemmas.List.{reverse-append, reverse-reverse}
use Rattle.soy_base.specs.WhiteSpace.{is_template_space, is_line_break}
use Rattle.soy_lexer.specs.Lines.{RunCharacter, Line, without_start, without_end, trimmed, trimmed_after}
use Rattle.soy_lexer.specs.Lines.{has_characters, lines_of, line_joint, characters, joined, end_offset, last_end_offset}
use Rattle.soy_lexer.specs.IsRunOf.{unless_empty, lines_after, last_line, AllFilled, IsPresent, StartsAt}

-- the lines of a run, with their white space
abbrev split : List RunCharacter → List Line
split run = slice_split (λ c. is_line_break c.character) run

-- a run has a line at least

pub record SomeLines (lines : List Line) : Type 0 where
  pub first : Line
  pub others : List Line
  pub are : lines ≡ first ∷ others

-- one more character before lines
split_step : (ends : Bool) (c : RunCharacter) (lines : List Line) → SomeLines lines
    → SomeLines (cond ends ([] ∷ lines) (onto_first c lines))
split_step true c lines some = record { first = []; others = lines; are = refl }
split_step false c lines some =
    record { first = c ∷ some.first; others = some.others; are = ap (λ ls. onto_first c ls) some.are }

-- a run has a line
some_lines : (run : List RunCharacter) → SomeLines (split run)
some_lines [] = record { first = []; others = []; are = refl }
some_lines (c ∷ cs) = split_step (is_line_break c.character) c (split cs) (some_lines cs)

-- a line is left if it has characters
filter-cons : (line : Line) (lines : List Line)
    → filter has_characters (line ∷ lines) ≡ unless_empty line ++ filter has_characters lines
filter-cons [] lines = refl
filter-cons (c ∷ cs) lines = refl

-- before the first character no line has ended
pub at_start : (rest : List RunCharacter) → lines_of rest ≡ lines_after false [] rest
at_start rest =
    let some = some_lines rest in
    rw some.are refl

-- a line breaks

-- a line break closes the present line
pub ended : (line : Line) (c : RunCharacter) (rest : List RunCharacter) → is_line_break c.character ≡ true →
    lines_after false line (c ∷ rest) ≡ unless_empty (without_end line) ++ lines_after true [] rest
ended line c rest e =
    let some = some_lines rest in
    rw (e, some.are, append-nil line) (filter-cons (without_end line) (trimmed_after (some.first ∷ some.others)))

-- and does nothing to a line that has no characters yet
pub ended_fresh : (c : RunCharacter) (rest : List RunCharacter) → is_line_break c.character ≡ true
    → lines_after true [] (c ∷ rest) ≡ lines_after true [] rest
ended_fresh c rest e =
    let some = some_lines rest in
    rw (e, some.are) refl

-- white space at the start of a line goes
pub white_skipped : (c : RunCharacter) (rest : List RunCharacter) → is_template_space c.character ≡ true
    → is_line_break c.character ≡ false →
    lines_after true [] (c ∷ rest) ≡ lines_after true [] rest
white_skipped c rest white e =
    let some = some_lines rest in
    rw (e, some.are) (skipped c some.first some.others white)
  where
    skipped : (c : RunCharacter) (f : Line) (m : List Line) → is_template_space c.character ≡ true →
        filter has_characters (trimmed_after ((c ∷ f) ∷ m)) ≡ filter has_characters (trimmed_after (f ∷ m))
    skipped c f [] white = rw white refl
    skipped c f (n ∷ ns) white = rw white refl

-- another character begins the line
pub line_begun : (c : RunCharacter) (rest : List RunCharacter) → is_template_space c.character ≡ false
    → is_line_break c.character ≡ false →
    lines_after true [] (c ∷ rest) ≡ lines_after false (c ∷ []) rest
line_begun c rest other e =
    let some = some_lines rest in
    rw (e, some.are) (begins c some.first some.others other)
  where
    begins : (c : RunCharacter) (f : Line) (m : List Line) → is_template_space c.character ≡ false →
        filter has_characters (trimmed_after ((c ∷ f) ∷ m)) ≡ filter has_characters (trimmed ((c ∷ f) ∷ m))
    begins c f [] other = rw other refl
    begins c f (n ∷ ns) other = rw other refl

-- and one more goes on with it
pub line_longer : (line : Line) (c : RunCharacter) (rest : List RunCharacter) → is_line_break c.character ≡ false →
    lines_after false line (c ∷ rest) ≡ lines_after false (line ++ c ∷ []) rest
line_longer line c rest e =
    let some = some_lines rest in
    rw (e, some.are) (ap (λ l. filter has_characters (trimmed (l ∷ some.others)))
    (sym (append_assoc line (c ∷ []) some.first)))

-- at the run's end the present line is left
pub at_end : (line : Line) → lines_after false line [] ≡ unless_empty line
at_end line = rw (append-nil line) (filter-cons line [] ∙ append-nil (unless_empty line))

-- white space at a line's end

-- white space at the end of a line goes
pub without_end-white : (line : Line) (c : RunCharacter) → is_template_space c.character ≡ true
    → without_end (line ++ c ∷ []) ≡ without_end line
without_end-white line c white =
    ap (λ l. reverse (without_start l)) (reverse-append line (c ∷ [])) ∙ skipped (reverse line)
  where
    skipped : (l : Line) → reverse (without_start (c ∷ l)) ≡ reverse (without_start l)
    skipped l = rw white refl

-- and another character keeps all before it
pub without_end-other : (line : Line) (c : RunCharacter) → is_template_space c.character ≡ false
    → without_end (line ++ c ∷ []) ≡ line ++ c ∷ []
without_end-other line c other =
    ap (λ l. reverse (without_start l)) (reverse-append line (c ∷ []))
    ∙ (stays (reverse line) ∙ (ap reverse (sym (reverse-append line (c ∷ []))) ∙ reverse-reverse (line ++ c ∷ [])))
  where
    stays : (l : Line) → reverse (without_start (c ∷ l)) ≡ reverse (c ∷ l)
    stays l = rw other refl

-- lines that have characters

-- with one more line, if it has characters
pub filled-append : (done : List Line) (line : Line) → AllFilled done → AllFilled (done ++ unless_empty line)
filled-append [] [] h = tt
filled-append [] (c ∷ cs) h = tt
filled-append ([] ∷ done) line h = absurd h
filled-append ((c ∷ cs) ∷ done) line h = filled-append done line h

-- the last line is the one that was added
pub last_line-append : (done : List Line) (line : Line) → last_line (done ++ line ∷ []) ≡ line
last_line-append [] line = refl
last_line-append (d ∷ []) line = refl
last_line-append (d ∷ next ∷ done) line = last_line-append (next ∷ done) line

-- offsets

-- where lines start that lose their white space at the end
pub starts_ended : (done : List Line) (line more : Line) (start : ℕ) → AllFilled done →
    StartsAt (done ++ unless_empty (line ++ more)) start → StartsAt (done ++ unless_empty line) start
starts_ended [] [] more start filled h = tt
starts_ended [] (c ∷ cs) more start filled h = h
starts_ended ([] ∷ done) line more start filled h = absurd filled
starts_ended ((d ∷ ds) ∷ done) line more start filled h = h

-- where a line breaks to which characters are added
pub end_offset-append : (end : ℕ) (line more : Line)
    → end_offset end (line ++ more) ≡ end_offset (end_offset end line) more
end_offset-append end [] more = refl
end_offset-append end (c ∷ cs) more = end_offset-append (c.offset + len_utf8 c.character) cs more

-- where lines end to which one is added
last_end_offset-line : (end : ℕ) (done : List Line) (line : Line)
    → last_end_offset end (done ++ line ∷ []) ≡ end_offset (last_end_offset end done) line
last_end_offset-line end [] line = refl
last_end_offset-line end (d ∷ done) line = last_end_offset-line (end_offset end d) done line

-- a line with one more character has characters
pub filled_line : (line : Line) (c : RunCharacter) → unless_empty (line ++ c ∷ []) ≡ (line ++ c ∷ []) ∷ []
filled_line [] c = refl
filled_line (d ∷ ds) c = refl

-- the end of lines of which the last one has one more character
pub last_end_offset-append : (done : List Line) (line : Line) (c : RunCharacter)
    → last_end_offset 0 (done ++ unless_empty (line ++ c ∷ [])) ≡ c.offset + len_utf8 c.character
last_end_offset-append done line c =
    rw (filled_line line c, last_end_offset-line 0 done (line ++ c ∷ []))
    (end_offset-append (last_end_offset 0 done) line (c ∷ []))

-- characters

-- the characters of a line and of what is added to it
pub characters-append : (line more : Line) → characters (line ++ more) ≡ characters line ++ characters more
characters-append [] more = refl
characters-append (c ∷ cs) more = ap (λ l. c.character ∷ l) (characters-append cs more)

-- what is put between lines and one more
abbrev pub gap : List Line → Line → List ℕ
gap [] next = []
gap (line ∷ lines) next = line_joint (last_line (line ∷ lines)) next

-- one more line
pub joined-append : (done : List Line) (line : Line)
    → joined (done ++ line ∷ []) ≡ joined done ++ (gap done line ++ characters line)
joined-append [] line = refl
joined-append (d ∷ []) line = refl
joined-append (d ∷ next ∷ done) line =
    ap (λ l. characters d ++ (line_joint d next ++ l)) (joined-append (next ∷ done) line)
    ∙ (ap (λ l. characters d ++ l)
    (sym (append_assoc (line_joint d next) (joined (next ∷ done)) (gap (next ∷ done) line ++ characters line)))
    ∙ sym (append_assoc (characters d) (line_joint d next ++ joined (next ∷ done))
    (gap (next ∷ done) line ++ characters line)))

-- it depends on the first character of that line alone
same_gap : (done : List Line) (c : RunCharacter) (cs more : Line) → gap done ((c ∷ cs) ++ more) ≡ gap done (c ∷ cs)
same_gap [] c cs more = refl
same_gap (d ∷ done) c cs more = refl

-- more characters of the last line
pub joined_longer : (done : List Line) (c : RunCharacter) (cs more : Line)
    → joined (done ++ ((c ∷ cs) ++ more) ∷ []) ≡ joined (done ++ (c ∷ cs) ∷ []) ++ characters more
joined_longer done c cs more =
    joined-append done ((c ∷ cs) ++ more)
    ∙ (ap (λ l. joined done ++ (l ++ characters ((c ∷ cs) ++ more))) (same_gap done c cs more)
    ∙ (ap (λ l. joined done ++ (gap done (c ∷ cs) ++ l)) (characters-append (c ∷ cs) more)
    ∙ (ap (λ l. joined done ++ l) (sym (append_assoc (gap done (c ∷ cs)) (characters (c ∷ cs)) (characters more)))
    ∙ (sym (append_assoc (joined done) (gap done (c ∷ cs) ++ characters (c ∷ cs)) (characters more))
    ∙ ap (λ l. l ++ characters more) (sym (joined-append done (c ∷ cs)))))))

-- the same of a present line, which is the first where it has no characters yet
pub joined_present : (fresh : Bool) (done : List Line) (line tail more : Line) → IsPresent fresh done line tail
    → fresh ≡ false →
    joined (done ++ unless_empty (line ++ more)) ≡ joined (done ++ unless_empty line) ++ characters more
joined_present true done line tail more h e = absurd (cc)
joined_present false done [] tail [] h e = sym (append-nil (joined (done ++ [])))
joined_present false done [] tail (m ∷ ms) h e = rw h refl
joined_present false done (c ∷ cs) tail more h e = joined_longer done c cs more
