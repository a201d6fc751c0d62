-- The line of a body: its pieces, of which the first and the last are no space.
use Rattle.std.proofs.Common.{◌≡◌, ℕ, ◌==◌, Bool, true, false, if◌then◌else◌, List, [], ◌∷◌, ◌++◌}
use Rattle.std.proofs.Common.{refl, sym}
use Rattle.std.proofs.Common.{ap, subst, ◌∙◌, arith, append_assoc, append-nil}
use Rattle.std.specs.Prelude.{codes}
use Rattle.std.proofs.lemmas.Bool.Decides.{nat_tests}
use Rattle.soy_base.specs.WhiteSpace.{is_template_space}
use Rattle.soy_format.specs.FormattedText.{after_first, body_line, edge_character}
use Rattle.soy_lexer.specs.declared.token.TokenKind.TheVariants as kind
use Rattle.formatted_source.specs.CommandPieces.{braced}
use Rattle.formatted_source.specs.EdgedPieces.{after_first_piece, edge_piece, edged_pieces, space_piece}
use Rattle.formatted_source.specs.Lexemes.{Lexeme}
use Rattle.formatted_source.specs.Pieces.{Piece, Plain, Written, open_line, piece_text, pieces_text}
use Rattle.formatted_source.proofs.PieceReads.{ArePieces, IsCommand, first_line, is_plain}
use Rattle.formatted_source.proofs.Runs.{begins_black, ends_black}

-- a piece as it is written at the edge of a line
edge_text : (c : ℕ) → piece_text (edge_piece (Plain c)) ≡ edge_character c
edge_text c = over (c == 32)
  where
    over : (t : Bool) → piece_text (if t then space_piece else Plain c) ≡ (if t then codes "{sp}" else c ∷ [])
    over true = refl
    over false = refl

-- each piece has a character
record Begun (p : Piece) : Type 0 where
  pub first : ℕ
  pub rest : List ℕ
  pub is : piece_text p ≡ first ∷ rest

begun : (slash : Bool) (p : Piece) (ps : List Piece) → ArePieces slash (p ∷ ps) → Begun p
begun slash (Plain c) ps a = record { first = c; rest = []; is = refl }
begun slash (Written text ls) ps a = record { first = 123; rest = (a.0).inner ++ (125 ∷ []); is = (a.0).is }

after_more : (c d : ℕ) (text more : List ℕ) → text ≡ d ∷ more → after_first (c ∷ text) ≡ c ∷ after_first text
after_more c d text more e = ap (λ l. after_first (c ∷ l)) e ∙ ap (λ l. c ∷ after_first l) (sym e)

-- within a command nothing changes
after_inner : (inner more rest : List ℕ) → after_first (125 ∷ more) ≡ 125 ∷ rest
    → after_first (inner ++ (125 ∷ more)) ≡ inner ++ (125 ∷ rest)
after_inner [] more rest h = h
after_inner (c ∷ []) more rest h = ap (λ l. c ∷ l) h
after_inner (c ∷ d ∷ inner) more rest h = ap (λ l. c ∷ l) (after_inner (d ∷ inner) more rest h)

-- what stands after the last character of a command
after_brace : (ps : List Piece) (slash : Bool) → ArePieces slash ps
    → after_first (pieces_text ps) ≡ pieces_text (after_first_piece ps)
    → after_first (125 ∷ pieces_text ps) ≡ 125 ∷ pieces_text (after_first_piece ps)
after_brace [] slash a h = refl
after_brace (p ∷ ps) slash a h =
    let b = begun slash p ps a in
    after_more 125 b.first (pieces_text (p ∷ ps)) (b.rest ++ pieces_text ps) (ap (λ l. l ++ pieces_text ps) b.is)
    ∙ ap (λ l. 125 ∷ l) h

-- a command before what stands after it
after_command : (text : List ℕ) (ls : List Lexeme) (more rest : List ℕ) → IsCommand text ls
    → after_first (125 ∷ more) ≡ 125 ∷ rest → after_first (text ++ more) ≡ text ++ rest
after_command text ls more rest c h =
    ap (λ l. after_first (l ++ more)) c.is
    ∙ (ap (λ l. after_first (123 ∷ l)) (append_assoc c.inner (125 ∷ []) more)
    ∙ (after_inner (123 ∷ c.inner) more rest h
    ∙ (ap (λ l. 123 ∷ l) (sym (append_assoc c.inner (125 ∷ []) rest)) ∙ ap (λ l. l ++ rest) (sym c.is))))

edge_written : (text : List ℕ) (ls : List Lexeme) → piece_text (edge_piece (Written text ls)) ≡ text
edge_written text ls = refl

-- the characters after the first of a line are those of the pieces after it
after_pieces : (slash : Bool) (ps : List Piece) → ArePieces slash ps
    → after_first (pieces_text ps) ≡ pieces_text (after_first_piece ps)
after_pieces slash [] a = refl
after_pieces slash (Plain c ∷ []) a =
    sym (ap (λ l. l ++ []) (edge_text c) ∙ append-nil (edge_character c))
after_pieces slash (Written text ls ∷ []) a = after_command text ls [] [] a.0 refl
after_pieces slash (Plain c ∷ p ∷ ps) a =
    let b = begun (c == 47) p ps a.2 in
    after_more c b.first (pieces_text (p ∷ ps)) (b.rest ++ pieces_text ps) (ap (λ l. l ++ pieces_text ps) b.is)
    ∙ ap (λ l. c ∷ l) (after_pieces (c == 47) (p ∷ ps) a.2)
after_pieces slash (Written text ls ∷ p ∷ ps) a =
    after_command text ls (pieces_text (p ∷ ps)) (pieces_text (after_first_piece (p ∷ ps))) a.0
    (after_brace (p ∷ ps) false a.1 (after_pieces false (p ∷ ps) a.1))

-- **The line of pieces is that of the edged ones, with a line feed.**
pub edged_text : (slash : Bool) (p : Piece) (ps : List Piece) → ArePieces slash (p ∷ ps)
    → body_line (pieces_text (p ∷ ps)) ≡ pieces_text (edged_pieces (p ∷ ps)) ++ (10 ∷ [])
edged_text slash (Plain c) ps a =
    ap (λ l. edge_character c ++ (l ++ (10 ∷ []))) (after_pieces (c == 47) ps a.2)
    ∙ (sym (append_assoc (edge_character c) (pieces_text (after_first_piece ps)) (10 ∷ []))
    ∙ ap (λ l. (l ++ pieces_text (after_first_piece ps)) ++ (10 ∷ [])) (sym (edge_text c)))
edged_text slash (Written text ls) ps a =
    let c = a.0 in
    let rest = after_inner c.inner (pieces_text ps) (pieces_text (after_first_piece ps))
    (after_brace ps false a.1 (after_pieces false ps a.1)) in
    ap (λ l. body_line (l ++ pieces_text ps)) c.is
    ∙ (ap (λ l. 123 ∷ (after_first l ++ (10 ∷ []))) (append_assoc c.inner (125 ∷ []) (pieces_text ps))
    ∙ (ap (λ l. 123 ∷ (l ++ (10 ∷ []))) rest
    ∙ (ap (λ l. 123 ∷ (l ++ (10 ∷ []))) (sym (append_assoc c.inner (125 ∷ []) (pieces_text (after_first_piece ps))))
    ∙ ap (λ l. (l ++ pieces_text (after_first_piece ps)) ++ (10 ∷ [])) (sym c.is))))

-- a line of no pieces has no characters
pub no_line : body_line (pieces_text []) ≡ []
no_line = refl

-- a space that is written as a command is one
module _ (space : IsCommand (codes "{sp}") (braced ((kind.Word, codes "sp") ∷ []))) where
  edge_pieces : (slash : Bool) (p : Piece) (ps : List Piece) → ArePieces slash (p ∷ ps)
      → ((b : Bool) → ArePieces b ps → ArePieces b (after_first_piece ps))
      → ArePieces slash (edge_piece p ∷ after_first_piece ps)
  edge_pieces slash (Plain c) ps a next = over (c == 32) refl
    where
      over : (t : Bool) → (c == 32) ≡ t
          → ArePieces slash ((if t then space_piece else Plain c) ∷ after_first_piece ps)
      over true e =
          let no : (c == 47) ≡ false = grind (arith, nat_tests, e) in
          (space, next false (subst (λ b. ArePieces b ps) no a.2))
      over false e = (a.0, a.1, next (c == 47) a.2)
  edge_pieces slash (Written text ls) ps a next = (a.0, next false a.1)

  after_first_pieces : (slash : Bool) (ps : List Piece) → ArePieces slash ps → ArePieces slash (after_first_piece ps)
  after_first_pieces slash [] a = tt
  after_first_pieces slash (p ∷ []) a = edge_pieces slash p [] a (λ b h. tt)
  after_first_pieces slash (Plain c ∷ q ∷ ps) a = (a.0, a.1, after_first_pieces (c == 47) (q ∷ ps) a.2)
  after_first_pieces slash (Written text ls ∷ q ∷ ps) a = (a.0, after_first_pieces false (q ∷ ps) a.1)

  -- the edged pieces are pieces
  pub are_edged : (slash : Bool) (ps : List Piece) → ArePieces slash ps → ArePieces slash (edged_pieces ps)
  are_edged slash [] a = tt
  are_edged slash (p ∷ ps) a = edge_pieces slash p ps a (λ b h. after_first_pieces b ps h)

black : (c : ℕ) → is_plain c ≡ true → (c == 32) ≡ false → is_template_space c ≡ false
black c h e = grind (arith, nat_tests, h, e)

begins_more : (c : ℕ) (cs : List ℕ) (ps : List Piece) → begins_black (first_line (c ∷ cs) ps) ≡ begins_black (c ∷ cs)
begins_more c cs [] = refl
begins_more c cs (Plain d ∷ ps) = begins_more c (cs ++ (d ∷ [])) ps
begins_more c cs (Written text ls ∷ ps) = refl

-- no line begins with white space
pub first_black : (slash : Bool) (ps : List Piece) → ArePieces slash ps
    → begins_black (first_line [] (edged_pieces ps)) ≡ true
first_black slash [] a = refl
first_black slash (Plain c ∷ ps) a = over (c == 32) refl
  where
    over : (t : Bool) → (c == 32) ≡ t
        → begins_black (first_line [] ((if t then space_piece else Plain c) ∷ after_first_piece ps)) ≡ true
    over true e = refl
    over false e = begins_more c [] (after_first_piece ps) ∙ rw (black c a.0 e) refl
first_black slash (Written text ls ∷ ps) a = refl

ends_more : (line : List ℕ) (c : ℕ) → is_template_space c ≡ false → ends_black (line ++ (c ∷ [])) ≡ true
ends_more [] c e = rw e refl
ends_more (d ∷ []) c e = ends_more [] c e
ends_more (d ∷ f ∷ line) c e = ends_more (f ∷ line) c e

last_edge : (line : List ℕ) (c : ℕ) → is_plain c ≡ true
    → ends_black (open_line line (edge_piece (Plain c) ∷ [])) ≡ true
last_edge line c h = over (c == 32) refl
  where
    over : (t : Bool) → (c == 32) ≡ t
        → ends_black (open_line line ((if t then space_piece else Plain c) ∷ [])) ≡ true
    over true e = refl
    over false e = ends_more line c (black c h e)

after_black : (slash : Bool) (line : List ℕ) (ps : List Piece) → ArePieces slash ps
    → (ps ≡ [] → ends_black line ≡ true) → ends_black (open_line line (after_first_piece ps)) ≡ true
after_black slash line [] a h = h refl
after_black slash line (Plain c ∷ []) a h = last_edge line c a.0
after_black slash line (Written text ls ∷ []) a h = refl
after_black slash line (Plain c ∷ q ∷ ps) a h = after_black (c == 47) (line ++ (c ∷ [])) (q ∷ ps) a.2 (λ e. absurd (cc))
after_black slash line (Written text ls ∷ q ∷ ps) a h = after_black false [] (q ∷ ps) a.1 (λ e. absurd (cc))

-- and none ends with it
pub last_black : (slash : Bool) (ps : List Piece) → ArePieces slash ps
    → ends_black (open_line [] (edged_pieces ps)) ≡ true
last_black slash [] a = refl
last_black slash (Plain c ∷ ps) a = over (c == 32) refl
  where
    over : (t : Bool) → (c == 32) ≡ t
        → ends_black (open_line [] ((if t then space_piece else Plain c) ∷ after_first_piece ps)) ≡ true
    over true e = after_black (c == 47) [] ps a.2 (λ e. refl)
    over false e = after_black (c == 47) (c ∷ []) ps a.2 (λ n. rw (black c a.0 e) refl)
last_black slash (Written text ls ∷ ps) a = after_black false [] ps a.1 (λ e. refl)
