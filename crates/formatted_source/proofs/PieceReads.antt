-- Pieces of a line, as they are read outside of commands.
use Rattle.std.proofs.Common.{◌≡◌, ℕ, ◌==◌, ◌||◌, ◌&&◌, not, Bool, true, false, List, [], ◌∷◌, ◌++◌, refl, sym}
use Rattle.std.proofs.Common.{subst}
use Rattle.std.proofs.Common.{◌∙◌, arith, append_assoc, append-nil}
use Rattle.std.proofs.lemmas.Bool.Decides.{nat_tests}
use Rattle.std.proofs.lemmas.List.Folds.{list_all-append}
use Rattle.soy_base.specs.WhiteSpace.{is_template_space, is_line_break}
use Rattle.soy_lexer.specs.Found.Found.{Begins}
use Rattle.soy_lexer.specs.Segment.Segment.{TextCharacter}
use Rattle.soy_lexer.specs.TextSegment.{text_segment}
use Rattle.formatted_source.specs.Lexemes.{Lexeme}
use Rattle.formatted_source.specs.Pieces.{Piece, Plain, Written, closed_lexemes, open_line, pieces_text}
use Rattle.formatted_source.specs.Pieces.{text_lexemes}
use Rattle.formatted_source.proofs.Commands.CommandReads.{IsRead}
use Rattle.formatted_source.proofs.ReadTexts.{Outside, Reads, reads_append}
use Rattle.formatted_source.proofs.Runs.{RunLexemes, feed, is_unbroken, may_follow, run_lexemes}

-- a character that stands for itself is no brace, no white space but a space, and no U+0000
abbrev pub is_plain : ℕ → Bool
is_plain c = not (c == 123 || c == 125 || c == 0 || c == 10 || c == 13 || c == 9)

-- whether a text begins with no character that begins a comment after a `/`
abbrev pub no_comment : List ℕ → Bool
no_comment [] = true
no_comment (c ∷ cs) = not (c == 47 || c == 42)

-- a command as it is written stands in braces
pub record IsCommand (text : List ℕ) (ls : List Lexeme) : Type 0 where
  pub inner : List ℕ
  pub is : text ≡ 123 ∷ (inner ++ (125 ∷ []))
  pub reads : IsRead text ls

-- pieces of a line, the first of which stands after a `/` or doesn't
abbrev pub ArePieces : Bool → List Piece → Type 0
ArePieces slash [] = Unit {0}
ArePieces slash (Plain c ∷ ps) = (is_plain c ≡ true) × ((slash && (c == 47 || c == 42))
    ≡ false) × ArePieces (c == 47) ps
ArePieces slash (Written text ls ∷ ps) = IsCommand text ls × ArePieces false ps

-- what a test of a character that stands for itself says
record PlainTests (c : ℕ) : Type 0 where
  pub opening : (123 == c) ≡ false
  pub opening_too : (c == 123) ≡ false
  pub closing : (c == 125) ≡ false
  pub null : (0 == c) ≡ false
  pub breaks : is_line_break c ≡ false

plain_tests : (c : ℕ) → is_plain c ≡ true → PlainTests c
plain_tests c h = record {
  opening = grind (arith, nat_tests, h);
  opening_too = grind (arith, nat_tests, h);
  closing = grind (arith, nat_tests, h);
  null = grind (arith, nat_tests, h);
  breaks = grind (arith, nat_tests, h);
}

-- a `/` that begins no comment
slash_found : (white : Bool) (text : List ℕ) → no_comment text ≡ true
    → text_segment white (47 ∷ text) ≡ Begins (TextCharacter 47) text
slash_found true [] h = refl
slash_found false [] h = refl
slash_found true (c ∷ cs) h =
    let star : (42 == c) ≡ false = grind (arith, nat_tests, h) in
    let slash : (47 == c) ≡ false = grind (arith, nat_tests, h) in
    rw (star, slash) refl
slash_found false (c ∷ cs) h =
    let star : (42 == c) ≡ false = grind (arith, nat_tests, h) in
    rw star refl

other_found : (white : Bool) (c : ℕ) (text : List ℕ) → PlainTests c → (47 == c) ≡ false
    → text_segment white (c ∷ text) ≡ Begins (TextCharacter c) text
other_found true c text t slash = rw (slash, t.opening, t.opening_too, t.closing, t.null) refl
other_found false c text t slash = rw (slash, t.opening, t.opening_too, t.closing, t.null) refl

plain_found : (white : Bool) (c : ℕ) (text : List ℕ) → is_plain c ≡ true → (c ≡ 47 → no_comment text ≡ true)
    → text_segment white (c ∷ text) ≡ Begins (TextCharacter c) text
plain_found white c text plain next = over (c == 47) refl
  where
    over : (t : Bool) → (c == 47) ≡ t → text_segment white (c ∷ text) ≡ Begins (TextCharacter c) text
    over true e =
        let is : 47 ≡ c = grind (arith, nat_tests, e) in
        subst (λ d. text_segment white (d ∷ text) ≡ Begins (TextCharacter d) text) is
        (slash_found white text (next (sym is)))
    over false e =
        let no : (47 == c) ≡ false = grind (arith, nat_tests, e) in
        other_found white c text (plain_tests c plain) no

-- after a `/` there begins no comment
next_clear : (ps : List Piece) (rest : List ℕ) → ArePieces true ps → no_comment rest ≡ true
    → no_comment (pieces_text ps ++ rest) ≡ true
next_clear [] rest a h = h
next_clear (Plain c ∷ ps) rest a h = grind (arith, nat_tests, a.1)
next_clear (Written text ls ∷ ps) rest a h =
    subst (λ t. no_comment ((t ++ pieces_text ps) ++ rest) ≡ true) (sym (a.0).is) refl

-- the text up to the first command
abbrev pub first_line : List ℕ → List Piece → List ℕ
first_line line [] = line
first_line line (Plain c ∷ ps) = first_line (line ++ (c ∷ [])) ps
first_line line (Written text ls ∷ ps) = line

unbroken_more : (line : List ℕ) (c : ℕ) → is_unbroken line ≡ true → is_line_break c ≡ false
    → is_unbroken (line ++ (c ∷ [])) ≡ true
unbroken_more line c h e = list_all-append (λ c. not (is_line_break c)) line (c ∷ []) ∙ rw (h, e) refl

-- what is read of pieces after a text
pub record PiecesRead (white lead : Bool) (line : List ℕ) (ps : List Piece) (rest : List ℕ) : Type 0 where
  pub white_after : Bool
  pub lead_after : Bool
  pub reads : Reads (Outside white) (feed lead ++ line) (pieces_text ps ++ rest) (closed_lexemes line ps)
      (Outside white_after) (feed lead_after ++ open_line line ps) rest
  pub unbroken : is_unbroken (open_line line ps) ≡ true
  pub follows : may_follow lead_after (open_line line ps) ≡ true

open_run : (lead : Bool) (line : List ℕ) → is_unbroken line ≡ true → may_follow lead line ≡ true
    → RunLexemes (feed lead ++ line) (text_lexemes line)
open_run lead line h k =
    subst (λ l. RunLexemes (feed lead ++ l) (text_lexemes line)) (append-nil line)
    (run_lexemes lead false line h k refl)

-- **Pieces have the lexemes of their commands and of the texts between them.**
pub pieces_read : (white lead slash : Bool) (line : List ℕ) (ps : List Piece) (rest : List ℕ) → ArePieces slash ps
    → is_unbroken line ≡ true → may_follow lead (first_line line ps) ≡ true → no_comment rest ≡ true
    → PiecesRead white lead line ps rest
pieces_read white lead slash line [] rest a h k clear = record {
  white_after = white;
  lead_after = lead;
  reads = Reads.here_ (Outside white) (feed lead ++ line) rest;
  unbroken = h;
  follows = k;
}
pieces_read white lead slash line (Plain c ∷ ps) rest a h k clear =
    let t = plain_tests c a.0 in
    let more = pieces_read (is_template_space c) lead (c == 47) (line ++ (c ∷ [])) ps rest a.2
    (unbroken_more line c h t.breaks) k clear in
    let next : c ≡ 47 → no_comment (pieces_text ps ++ rest) ≡ true =
    λ e. next_clear ps rest (subst (λ b. ArePieces b ps) (let is : (c == 47) ≡ true = grind (arith, nat_tests, e) in is)
    a.2) clear in
    record {
      white_after = more.white_after;
      lead_after = more.lead_after;
      reads = Reads.character_ (Outside white) (Outside more.white_after) (feed lead ++ line) (pieces_text ps ++ rest) c
          (closed_lexemes (line ++ (c ∷ [])) ps) (feed more.lead_after ++ open_line (line ++ (c ∷ [])) ps) rest
          (plain_found white c (pieces_text ps ++ rest) a.0 next)
          (subst (λ run. Reads (Outside (is_template_space c)) run (pieces_text ps ++ rest)
          (closed_lexemes (line ++ (c ∷ [])) ps) (Outside more.white_after)
          (feed more.lead_after ++ open_line (line ++ (c ∷ [])) ps) rest)
          (sym (append_assoc (feed lead) line (c ∷ []))) more.reads);
      unbroken = more.unbroken;
      follows = more.follows;
    }
pieces_read white lead slash line (Written text ls ∷ ps) rest a h k clear =
    let more = pieces_read false false false [] ps rest a.1 refl refl clear in
    let one = (a.0).reads white (feed lead ++ line) (pieces_text ps ++ rest) (text_lexemes line)
    (open_run lead line h k) in
    record {
      white_after = more.white_after;
      lead_after = more.lead_after;
      reads = subst (λ l. Reads (Outside white) (feed lead ++ line) l (text_lexemes line ++
          (ls ++ closed_lexemes [] ps))
          (Outside more.white_after) (feed more.lead_after ++ open_line [] ps) rest)
          (sym (append_assoc text (pieces_text ps) rest))
          (subst (λ l. Reads (Outside white) (feed lead ++ line) (text ++ (pieces_text ps ++ rest)) l
          (Outside more.white_after) (feed more.lead_after ++ open_line [] ps) rest)
          (append_assoc (text_lexemes line) ls (closed_lexemes [] ps))
          (reads_append (Outside white) (Outside false) (Outside more.white_after) (feed lead ++ line)
          (text ++ (pieces_text ps ++ rest)) (pieces_text ps ++ rest) rest []
          (feed more.lead_after ++ open_line [] ps) (text_lexemes line ++ ls) (closed_lexemes [] ps) one more.reads));
      unbroken = more.unbroken;
      follows = more.follows;
    }
