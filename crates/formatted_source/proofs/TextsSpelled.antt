-- The pieces of a text spell that text: each character and each command among them is a part of it.
use Rattle.std.proofs.Common.{◌≡◌, ℕ, ◌+◌, ◌≤◌, ◌==◌, ◌||◌, ◌&&◌, Bool, true, false, if◌then◌else◌, List, [], ◌∷◌, ◌++◌}
use Rattle.std.proofs.Common.{Some, refl, sym, ap, subst, ◌∙◌, arith, append_assoc, append-nil}
use Rattle.std.proofs.lemmas.Bool.Decides.{nat_tests}
use Rattle.soy_base.specs.declared.fault.Span.{Span}
use Rattle.soy_lexer.specs.declared.token.Token.{Token}
use Rattle.soy_lexer.specs.declared.token.TokenKind.TheVariants as kind
use Rattle.soy_parser.specs.declared.command.Command.{Command}
use Rattle.soy_parser.specs.declared.command.CommandForm.{CommandForm}
use Rattle.soy_parser.specs.declared.command.CommandForm.TheVariants as says
use Rattle.soy_parser.specs.Depth.{inside_blocks}
use Rattle.soy_parser.specs.SpellsTree.{SpellsText, text_of}
use Rattle.formatted_source.specs.CommandPieces.{braced}
use Rattle.formatted_source.specs.Lexemes.{Lexeme, lexemes}
use Rattle.formatted_source.specs.NodePieces.{character_piece, characters_pieces, nil_piece, text_pieces}
use Rattle.formatted_source.specs.Pieces.{Piece, Plain, Written, closed_lexemes, open_line, text_lexemes}
use Rattle.formatted_source.proofs.Commands.BareCommands.{Says, bare_command, feed_says, lb_says, nil_says, rb_says}
use Rattle.formatted_source.proofs.Commands.BareCommands.{return_says}
use Rattle.formatted_source.proofs.Commands.BareCommands.{tab_says, text_command}
use Rattle.formatted_source.proofs.Commands.CommandTerms.{CommandSpelled}
use Rattle.formatted_source.proofs.LexemeLists.{split}
use Rattle.formatted_source.proofs.Sourced.SpokenCommands.{Spoken, none_spoken, one_spoken, spoken_append}

-- these pieces are the characters of this text
pub data TextPieces : List ℕ → List Piece → Type 0 where
  none_ : TextPieces [] []
  plain_ : (c : ℕ) (text : List ℕ) (ps : List Piece) → TextPieces text ps → TextPieces (c ∷ text) (Plain c ∷ ps)
  command_ : (written : List ℕ) (l : Lexeme) (value text : List ℕ) (ps : List Piece) → Says l (says.Character value)
      → TextPieces text ps → TextPieces (value ++ text) (Written written (braced (l ∷ [])) ∷ ps)

-- a character, as it is written
same_character : (c d : ℕ) (ps : List Piece) (text : List ℕ) → (c == d) ≡ true → TextPieces (d ∷ text) ps
    → TextPieces (c ∷ text) ps
same_character c d ps text e p =
    let is : d ≡ c = grind (arith, nat_tests, e) in subst (λ x. TextPieces (x ∷ text) ps) is p

chosen : (c : ℕ) (text : List ℕ) (t : Bool) (p q : Piece) (ps : List Piece)
    → (t ≡ true → TextPieces (c ∷ text) (p ∷ ps)) → (t ≡ false → TextPieces (c ∷ text) (q ∷ ps))
    → TextPieces (c ∷ text) ((if t then p else q) ∷ ps)
chosen c text true p q ps one two = one refl
chosen c text false p q ps one two = two refl

character_is : (c : ℕ) (text : List ℕ) (ps : List Piece) → TextPieces text ps
    → TextPieces (c ∷ text) (character_piece c ∷ ps)
character_is c text ps d =
    chosen c text (c == 123) _ _ ps (λ e. same_character c 123 _ text e (TextPieces.command_ _ _
    (123 ∷ []) text ps lb_says d)) (λ opening.
    chosen c text (c == 125) _ _ ps (λ e. same_character c 125 _ text e (TextPieces.command_ _ _
    (125 ∷ []) text ps rb_says d)) (λ closing.
    chosen c text (c == 10) _ _ ps (λ e. same_character c 10 _ text e (TextPieces.command_ _ _
    (10 ∷ []) text ps feed_says d)) (λ feed.
    chosen c text (c == 13) _ _ ps (λ e. same_character c 13 _ text e (TextPieces.command_ _ _
    (13 ∷ []) text ps return_says d)) (λ return.
    chosen c text (c == 9) _ _ ps (λ e. same_character c 9 _ text e (TextPieces.command_ _ _
    (9 ∷ []) text ps tab_says d)) (λ tab.
    TextPieces.plain_ c text ps d)))))

break_is : (t : Bool) (text : List ℕ) (ps : List Piece) → TextPieces text ps
    → TextPieces text ((if t then nil_piece ∷ [] else []) ++ ps)
break_is true text ps d = TextPieces.command_ _ _ [] text ps nil_says d
break_is false text ps d = d

characters_are : (b : Bool) (cs : List ℕ) → TextPieces cs (characters_pieces b cs)
characters_are b [] = TextPieces.none_
characters_are b (c ∷ cs) =
    break_is (b && (c == 47 || c == 42)) (c ∷ cs) (character_piece c ∷ characters_pieces (c == 47) cs)
    (character_is c cs (characters_pieces (c == 47) cs) (characters_are (c == 47) cs))

-- **The pieces of a text are its characters.**
pub text_are : (text : List ℕ) → TextPieces text (text_pieces text)
text_are [] = TextPieces.command_ _ _ [] [] [] nil_says TextPieces.none_
text_are (c ∷ cs) = characters_are false (c ∷ cs)

-- neighbouring texts so far: none, or some
pub data TextSoFar : List Command → List ℕ → List ℕ → Type 0 where
  nothing_ : TextSoFar [] [] []
  some_ : (cs : List Command) (ls : List ℕ) (text : List ℕ) (span : Span) → SpellsText cs ls text span
      → TextSoFar cs ls text

one_more : (cs : List Command) (ls : List ℕ) (text : List ℕ) (c : Command) (more : List ℕ) → TextSoFar cs ls text
    → text_of c.form ≡ Some more → TextSoFar (cs ++ (c ∷ [])) (ls ++ (0 ∷ [])) (text ++ more)
one_more _ _ _ c more TextSoFar.nothing_ e = TextSoFar.some_ (c ∷ []) (0 ∷ []) more c.span (SpellsText.first_ c more e)
one_more _ _ _ c more (TextSoFar.some_ cs ls text span s) e =
    TextSoFar.some_ (cs ++ (c ∷ [])) (ls ++ (0 ∷ [])) (text ++ more) _ (SpellsText.next_ cs ls c text more span s e)

-- tokens that spell neighbouring texts after some
pub record TextsSpelled (blocks : ℕ) (ts : List Token) (cs : List Command) (ls : List ℕ) (text : List ℕ) : Type 0 where
  pub commands : List Command
  pub levels : List ℕ
  pub spoken : Spoken ts commands (inside_blocks blocks levels)
  pub texts : TextSoFar (cs ++ commands) (ls ++ levels) text

-- one command that is a text, and what follows it
text_then : (blocks : ℕ) (ts us : List Token) (cs : List Command) (ls : List ℕ) (text more whole : List ℕ)
    (P : CommandForm → Type 0) → TextSoFar cs ls text → (c : CommandSpelled blocks ts P)
    → text_of c.command.form ≡ Some more
    → (TextSoFar (cs ++ (c.command ∷ [])) (ls ++ (0 ∷ [])) (text ++ more)
    → TextsSpelled blocks us (cs ++ (c.command ∷ [])) (ls ++ (0 ∷ [])) whole)
    → TextsSpelled blocks (ts ++ us) cs ls whole
text_then blocks ts us cs ls text more whole P so c e next =
    let n = next (one_more cs ls text c.command more so e) in
    let level : blocks + 0 ≡ blocks = omega arith in
    record {
      commands = c.command ∷ n.commands;
      levels = 0 ∷ n.levels;
      spoken = spoken_append ts us (c.command ∷ []) n.commands ((blocks + 0) ∷ []) (inside_blocks blocks n.levels)
          (subst (λ l. Spoken ts (c.command ∷ []) (l ∷ [])) (sym level) (one_spoken blocks ts P c)) n.spoken;
      texts = subst (λ l. TextSoFar l (ls ++ (0 ∷ n.levels)) whole) (append_assoc cs (c.command ∷ []) n.commands)
          (subst (λ l. TextSoFar ((cs ++ (c.command ∷ [])) ++ n.commands) l whole)
          (append_assoc ls (0 ∷ []) n.levels) n.texts);
    }

text_is : (f : CommandForm) (text : List ℕ) → f ≡ says.Text text → text_of f ≡ Some text
text_is f text e = ap text_of e

character_says : (f : CommandForm) (text : List ℕ) → f ≡ says.Character text → text_of f ≡ Some text
character_says f text e = ap text_of e

-- the text of a line, if it has characters
line_then : (blocks : ℕ) (ts : List Token) (cs : List Command) (ls : List ℕ) (text line whole : List ℕ)
    (more : List Lexeme) → blocks ≤ 64 → TextSoFar cs ls text → lexemes ts ≡ text_lexemes line ++ more
    → ((us : List Token) (ds : List Command) (ms : List ℕ) → TextSoFar ds ms (text ++ line) → lexemes us ≡ more
    → TextsSpelled blocks us ds ms whole)
    → TextsSpelled blocks ts cs ls whole
line_then blocks ts cs ls text [] whole more le so e next =
    next ts cs ls (subst (TextSoFar cs ls) (sym (append-nil text)) so) e
line_then blocks ts cs ls text (c ∷ line) whole more le so e next =
    let parts = split ts ((kind.Text, c ∷ line) ∷ []) more e in
    let t = text_command blocks parts.first (c ∷ line) le parts.firsts in
    subst (λ l. TextsSpelled blocks l cs ls whole) (sym parts.are)
    (text_then blocks parts.first parts.second cs ls text (c ∷ line) whole (λ f. f ≡ says.Text (c ∷ line)) so t
    (text_is t.command.form (c ∷ line) t.said)
    (λ s. next parts.second (cs ++ (t.command ∷ [])) (ls ++ (0 ∷ [])) s parts.seconds))

-- **Tokens of the pieces of a text spell the text, after what stands before them.**
pub pieces_spelled : (blocks : ℕ) (ts : List Token) (cs : List Command) (ls : List ℕ) (text line own : List ℕ)
    (ps : List Piece) → blocks ≤ 64 → TextSoFar cs ls text → TextPieces own ps
    → lexemes ts ≡ closed_lexemes line ps ++ text_lexemes (open_line line ps)
    → TextsSpelled blocks ts cs ls (text ++ (line ++ own))
pieces_spelled blocks ts cs ls text line _ _ le so TextPieces.none_ e =
    line_then blocks ts cs ls text line (text ++ (line ++ [])) [] le so (e ∙ sym (append-nil (text_lexemes line)))
    (λ us ds ms s none. record {
      commands = [];
      levels = [];
      spoken = subst (λ l. Spoken l [] []) (sym (no_tokens us none)) none_spoken;
      texts = subst (λ l. TextSoFar l (ms ++ []) (text ++ (line ++ []))) (sym (append-nil ds))
          (subst (λ l. TextSoFar ds l (text ++ (line ++ []))) (sym (append-nil ms))
          (subst (λ l. TextSoFar ds ms (text ++ l)) (sym (append-nil line)) s));
    })
  where
    no_tokens : (us : List Token) → lexemes us ≡ [] → us ≡ []
    no_tokens [] e = refl
    no_tokens (u ∷ us) e = absurd (cc)
pieces_spelled blocks ts cs ls text line _ _ le so (TextPieces.plain_ c own ps d) e =
    subst (TextsSpelled blocks ts cs ls) (ap (λ l. text ++ l) (append_assoc line (c ∷ []) own))
    (pieces_spelled blocks ts cs ls text (line ++ (c ∷ [])) own ps le so d e)
pieces_spelled blocks ts cs ls text line _ _ le so (TextPieces.command_ written l value own ps says_it d) e =
    line_then blocks ts cs ls text line (text ++ (line ++ (value ++ own)))
    (braced (l ∷ []) ++ (closed_lexemes [] ps ++ text_lexemes (open_line [] ps))) le so
    (e ∙ (append_assoc (text_lexemes line) (braced (l ∷ []) ++ closed_lexemes [] ps) (text_lexemes (open_line [] ps))
    ∙ ap (λ x. text_lexemes line ++ x) (append_assoc (braced (l ∷ [])) (closed_lexemes [] ps)
    (text_lexemes (open_line [] ps)))))
    (λ us ds ms s rest.
    let parts = split us (braced (l ∷ [])) (closed_lexemes [] ps ++ text_lexemes (open_line [] ps)) rest in
    let c = bare_command blocks parts.first l (says.Character value) le says_it parts.firsts in
    subst (λ x. TextsSpelled blocks x ds ms (text ++ (line ++ (value ++ own)))) (sym parts.are)
    (text_then blocks parts.first parts.second ds ms (text ++ line) value (text ++ (line ++ (value ++ own)))
    (λ f. f ≡ says.Character value) s c (character_says c.command.form value c.said)
    (λ t. subst (TextsSpelled blocks parts.second (ds ++ (c.command ∷ [])) (ms ++ (0 ∷ [])))
    (append_assoc (text ++ line) value own ∙ append_assoc text line (value ++ own))
    (pieces_spelled blocks parts.second (ds ++ (c.command ∷ [])) (ms ++ (0 ∷ [])) ((text ++ line) ++ value) [] own ps le
    t d parts.seconds))))
