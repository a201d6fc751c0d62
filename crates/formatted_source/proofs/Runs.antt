-- Text runs of canonical source: a line without breaks, perhaps with a line feed before and behind it. Their text is
-- that line.
use Rattle.std.proofs.Common.{◌≡◌, ℕ, Bool, true, false, not, List, [], ◌∷◌, ◌++◌}
use Rattle.std.proofs.Common.{reverse}
use Rattle.std.proofs.Common.{refl, sym, ap, ◌∙◌, append-nil}
use Rattle.std.specs.List.{filter, list_all, slice_split}
use Rattle.std.proofs.lemmas.List.{reverse-append, reverse-reverse}
use Rattle.soy_base.specs.WhiteSpace.{is_template_space, is_line_break}
use Rattle.soy_lexer.specs.Lines.{RunCharacter, Line, characters, has_characters, lines_of, trimmed}
use Rattle.soy_lexer.specs.Lines.{without_end, without_start}
use Rattle.soy_lexer.specs.Tokens.{run_token, token_of_lines}
use Rattle.formatted_source.specs.Lexemes.{Lexeme, lexemes}
use Rattle.formatted_source.specs.Pieces.{text_lexemes}
use Rattle.formatted_source.proofs.Written.Names.{both}
use Rattle.formatted_source.proofs.Conditions.{not_true}

-- a run of these characters has these lexemes
abbrev pub RunLexemes : List ℕ → List Lexeme → Type 0
RunLexemes run ls = (r : List RunCharacter) → characters r ≡ run → lexemes (run_token r) ≡ ls

-- a line has no line breaks, and begins and ends with no white space
abbrev pub is_unbroken : List ℕ → Bool
is_unbroken line = list_all (λ c. not (is_line_break c)) line

abbrev pub begins_black : List ℕ → Bool
begins_black [] = true
begins_black (c ∷ cs) = not (is_template_space c)

abbrev pub ends_black : List ℕ → Bool
ends_black [] = true
ends_black (c ∷ []) = not (is_template_space c)
ends_black (c ∷ d ∷ cs) = ends_black (d ∷ cs)

-- a line feed, where there is one
abbrev pub feed : Bool → List ℕ
feed true = 10 ∷ []
feed false = []

-- a line with what stands around it is a run of its text
abbrev pub may_follow : Bool → List ℕ → Bool
may_follow true line = begins_black line
may_follow false line = true

abbrev pub may_precede : Bool → List ℕ → Bool
may_precede true line = ends_black line
may_precede false line = true

abbrev breaks : RunCharacter → Bool
breaks c = is_line_break c.character

-- a line up to a line break, or to the end, is one part
unbroken_split : (line : Line) → is_unbroken (characters line) ≡ true → slice_split breaks line ≡ line ∷ []
unbroken_split [] h = refl
unbroken_split (c ∷ cs) h =
    let parts = both (not (is_line_break c.character)) (is_unbroken (characters cs)) h in
    rw (not_true (is_line_break c.character) parts.0, unbroken_split cs parts.1) refl

split_at : (line : Line) (c : RunCharacter) (more : Line) → is_unbroken (characters line) ≡ true
    → c.character ≡ 10 → slice_split breaks (line ++ (c ∷ more)) ≡ line ∷ slice_split breaks more
split_at [] c more h e = let b : is_line_break c.character ≡ true = ap is_line_break e in rw b refl
split_at (d ∷ ds) c more h e =
    let parts = both (not (is_line_break d.character)) (is_unbroken (characters ds)) h in
    rw (not_true (is_line_break d.character) parts.0, split_at ds c more parts.1 e) refl

start_stays : (line : Line) → begins_black (characters line) ≡ true → without_start line ≡ line
start_stays [] h = refl
start_stays (c ∷ cs) h = rw (not_true (is_template_space c.character) h) refl

-- a line that has characters, up to its last one
record Ended (line : Line) : Type 0 where
  pub front : Line
  pub last : RunCharacter
  pub are : line ≡ front ++ (last ∷ [])
  pub black : is_template_space last.character ≡ false

ended : (c : RunCharacter) (cs : Line) → ends_black (characters (c ∷ cs)) ≡ true → Ended (c ∷ cs)
ended c [] h = record { front = []; last = c; are = refl; black = not_true (is_template_space c.character) h }
ended c (d ∷ ds) h =
    let more = ended d ds h in
    record { front = c ∷ more.front; last = more.last; are = ap (λ l. c ∷ l) more.are; black = more.black }

end_stays : (line : Line) → ends_black (characters line) ≡ true → without_end line ≡ line
end_stays [] h = refl
end_stays (c ∷ cs) h =
    let e = ended c cs h in
    let turned : reverse (c ∷ cs) ≡ e.last ∷ reverse e.front =
    ap reverse e.are ∙ reverse-append e.front (e.last ∷ []) in
    let kept : without_start (reverse (c ∷ cs)) ≡ reverse (c ∷ cs) =
    ap without_start turned ∙ (start_kept e.last (reverse e.front) e.black ∙ sym turned) in
    ap reverse kept ∙ reverse-reverse (c ∷ cs)
  where
    start_kept : (c : RunCharacter) (cs : Line) → is_template_space c.character ≡ false
        → without_start (c ∷ cs) ≡ c ∷ cs
    start_kept c cs e = rw e refl

line_lexemes : (line : Line) → lexemes (token_of_lines (filter has_characters (line ∷ [])))
    ≡ text_lexemes (characters line)
line_lexemes [] = refl
line_lexemes (c ∷ cs) = refl

filter_after : (line : Line) → filter has_characters ([] ∷ (line ∷ [])) ≡ filter has_characters (line ∷ [])
filter_after line = refl

filter_before : (line : Line) → filter has_characters (line ∷ ([] ∷ [])) ≡ filter has_characters (line ∷ [])
filter_before [] = refl
filter_before (c ∷ cs) = refl

-- the characters of a run in two parts
record Parts (r : Line) (a b : List ℕ) : Type 0 where
  pub first : Line
  pub second : Line
  pub are : r ≡ first ++ second
  pub firsts : characters first ≡ a
  pub seconds : characters second ≡ b

parts_of : (r : Line) (a b : List ℕ) → characters r ≡ a ++ b → Parts r a b
parts_of r [] b e = record { first = []; second = r; are = refl; firsts = refl; seconds = e }
parts_of [] (x ∷ a) b e = absurd (cc)
parts_of (c ∷ r) (x ∷ a) b e =
    let head : c.character ≡ x = cc in
    let tail : characters r ≡ a ++ b = cc in
    let more = parts_of r a b tail in
    record {
      first = c ∷ more.first;
      second = more.second;
      are = ap (λ l. c ∷ l) more.are;
      firsts = cc (head, more.firsts);
      seconds = more.seconds;
    }

record One (r : Line) : Type 0 where
  pub character : RunCharacter
  pub are : r ≡ character ∷ []
  pub is : character.character ≡ 10

one_of : (r : Line) → characters r ≡ 10 ∷ [] → One r
one_of [] e = absurd (cc)
one_of (c ∷ []) e = record { character = c; are = refl; is = cc }
one_of (c ∷ d ∷ r) e = absurd (cc)

none_of : (r : Line) → characters r ≡ [] → r ≡ []
none_of [] e = refl
none_of (c ∷ r) e = absurd (cc)

-- a line that a line feed follows, or none
after_line : (trail : Bool) (line end : Line) → characters end ≡ feed trail → is_unbroken (characters line) ≡ true
    → may_precede trail (characters line) ≡ true
    → lines_of (line ++ end) ≡ filter has_characters (line ∷ [])
after_line false line end e h k =
    ap (λ l. lines_of (line ++ l)) (none_of end e) ∙ (ap lines_of (append-nil line)
    ∙ ap (λ l. filter has_characters (trimmed l)) (unbroken_split line h))
after_line true line end e h k =
    let one = one_of end e in
    ap (λ l. lines_of (line ++ l)) one.are
    ∙ (ap (λ l. filter has_characters (trimmed l)) (split_at line one.character [] h one.is)
    ∙ (ap (λ l. filter has_characters (l ∷ ([] ∷ []))) (end_stays line k) ∙ filter_before line))

-- the same after a line feed
after_feed : (trail : Bool) (c : RunCharacter) (line end : Line) → c.character ≡ 10 → characters end ≡ feed trail
    → is_unbroken (characters line) ≡ true → begins_black (characters line) ≡ true
    → may_precede trail (characters line) ≡ true
    → lines_of ([] ++ (c ∷ (line ++ end))) ≡ filter has_characters (line ∷ [])
after_feed false c line end is e h b k =
    ap (λ l. lines_of (c ∷ (line ++ l))) (none_of end e) ∙ (ap (λ l. lines_of (c ∷ l)) (append-nil line)
    ∙ (ap (λ l. filter has_characters (trimmed l)) (split_at [] c line refl is)
    ∙ (ap (λ l. filter has_characters (trimmed ([] ∷ l))) (unbroken_split line h)
    ∙ ap (λ l. filter has_characters ([] ∷ (l ∷ []))) (start_stays line b))))
after_feed true c line end is e h b k =
    let one = one_of end e in
    ap (λ l. lines_of (c ∷ (line ++ l))) one.are
    ∙ (ap (λ l. filter has_characters (trimmed l)) (split_at [] c (line ++ (one.character ∷ [])) refl is)
    ∙ (ap (λ l. filter has_characters (trimmed ([] ∷ l))) (split_at line one.character [] h one.is)
    ∙ (ap (λ l. filter has_characters ([] ∷ (without_end l ∷ ([] ∷ [])))) (start_stays line b)
    ∙ (ap (λ l. filter has_characters ([] ∷ (l ∷ ([] ∷ [])))) (end_stays line k) ∙ filter_before line))))

lines_are : (lead trail : Bool) (r line end : Line) (start : Line) → characters start ≡ feed lead
    → characters end ≡ feed trail → is_unbroken (characters line) ≡ true → may_follow lead (characters line) ≡ true
    → may_precede trail (characters line) ≡ true → r ≡ start ++ (line ++ end)
    → lines_of r ≡ filter has_characters (line ∷ [])
lines_are false trail r line end start s e h b k are =
    ap lines_of (are ∙ ap (λ l. l ++ (line ++ end)) (none_of start s)) ∙ after_line trail line end e h k
lines_are true trail r line end start s e h b k are =
    let one = one_of start s in
    ap lines_of (are ∙ ap (λ l. l ++ (line ++ end)) one.are)
    ∙ after_feed trail one.character line end one.is e h b k

-- **The text of a run is its line, which line feeds may stand around.**
pub run_lexemes : (lead trail : Bool) (line : List ℕ) → is_unbroken line ≡ true → may_follow lead line ≡ true
    → may_precede trail line ≡ true → RunLexemes (feed lead ++ (line ++ feed trail)) (text_lexemes line)
run_lexemes lead trail line h b k r e =
    let first = parts_of r (feed lead) (line ++ feed trail) e in
    let second = parts_of first.second line (feed trail) first.seconds in
    let same : characters second.first ≡ line = second.firsts in
    let are : r ≡ first.first ++ (second.first ++ second.second) = first.are ∙ ap (λ l. first.first ++ l) second.are in
    let lines : lines_of r ≡ filter has_characters (second.first ∷ []) = lines_are lead trail r second.first
    second.second first.first first.firsts second.seconds (ap is_unbroken same ∙ h) (ap (may_follow lead) same ∙ b)
    (ap (may_precede trail) same ∙ k) are in
    ap (λ l. lexemes (token_of_lines l)) lines ∙ (line_lexemes second.first ∙ ap text_lexemes same)

-- no run
pub no_run : RunLexemes [] []
no_run r e = run_lexemes false false [] refl refl refl r e
