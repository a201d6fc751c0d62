-- Texts, as they are written: pieces of a line.
use Rattle.std.proofs.Common.{◌≡◌, ℕ, ◌==◌, ◌||◌, ◌&&◌, not, Bool, true, false, if◌then◌else◌, List, [], ◌∷◌, ◌++◌}
use Rattle.std.proofs.Common.{refl}
use Rattle.std.proofs.Common.{subst, arith}
use Rattle.std.proofs.lemmas.Bool.Decides.{nat_tests}
use Rattle.soy_base.specs.Among.{lacks}
use Rattle.formatted_source.specs.NodePieces.{character_piece, characters_pieces, nil_piece, text_pieces}
use Rattle.formatted_source.specs.Pieces.{Piece}
use Rattle.formatted_source.proofs.Written.CharactersWritten.{feed_is, lb_is, nil_is, rb_is, return_is, tab_is}
use Rattle.formatted_source.proofs.Written.Names.{both}
use Rattle.formatted_source.proofs.PieceReads.{ArePieces}

-- a choice between two pieces
chosen : (A : Piece → Type 0) (t : Bool) (p q : Piece) → (t ≡ true → A p) → (t ≡ false → A q)
    → A (if t then p else q)
chosen A true p q one two = one refl
chosen A false p q one two = two refl

-- after a command the next piece stands after no `/`
after_command : (c d : ℕ) (more : List Piece) → (d == 47) ≡ false → (c == d) ≡ true → ArePieces (c == 47) more
    → ArePieces false more
after_command c d more other e a =
    let no : (c == 47) ≡ false = grind (arith, nat_tests, other, e) in
    subst (λ b. ArePieces b more) no a

-- a character before more pieces
character_is : (b : Bool) (c : ℕ) (more : List Piece) → (b && (c == 47 || c == 42)) ≡ false → (c == 0) ≡ false
    → ArePieces (c == 47) more → ArePieces b (character_piece c ∷ more)
character_is b c more slash null a =
    chosen (λ p. ArePieces b (p ∷ more)) (c == 123) _ _ (λ e. (lb_is, after_command c 123 more refl e a)) (λ opening.
    chosen (λ p. ArePieces b (p ∷ more)) (c == 125) _ _ (λ e. (rb_is, after_command c 125 more refl e a)) (λ closing.
    chosen (λ p. ArePieces b (p ∷ more)) (c == 10) _ _ (λ e. (feed_is, after_command c 10 more refl e a)) (λ feed.
    chosen (λ p. ArePieces b (p ∷ more)) (c == 13) _ _ (λ e. (return_is, after_command c 13 more refl e a)) (λ return.
    chosen (λ p. ArePieces b (p ∷ more)) (c == 9) _ _ (λ e. (tab_is, after_command c 9 more refl e a)) (λ tab.
    (rw (opening, closing, null, feed, return, tab) refl, slash, a))))))

-- with `{nil}` before it, where a comment would begin
break_is : (t b : Bool) (p : Piece) (more : List Piece) → ((b : Bool) → b ≡ false → ArePieces b (p ∷ more))
    → (t ≡ false → ArePieces b (p ∷ more)) → ArePieces b ((if t then nil_piece ∷ [] else []) ++ (p ∷ more))
break_is true b p more one two = (nil_is, one false refl)
break_is false b p more one two = two refl

characters_are : (b : Bool) (cs : List ℕ) → lacks (0 ∷ []) cs ≡ true → ArePieces b (characters_pieces b cs)
characters_are b [] h = tt
characters_are b (c ∷ cs) h =
    let parts = both (not ((c == 0) || false)) (lacks (0 ∷ []) cs) h in
    let null : (c == 0) ≡ false = grind (arith, nat_tests, parts.0) in
    let more = characters_are (c == 47) cs parts.1 in
    break_is (b && (c == 47 || c == 42)) b (character_piece c) (characters_pieces (c == 47) cs)
    (λ d is. character_is d c (characters_pieces (c == 47) cs) (rw is refl) null more)
    (λ e. character_is b c (characters_pieces (c == 47) cs) e null more)

-- **The pieces of a text are pieces of a line.**
pub text_are : (text : List ℕ) → lacks (0 ∷ []) text ≡ true → ArePieces false (text_pieces text)
text_are [] h = (nil_is, tt)
text_are (c ∷ cs) h = characters_are false (c ∷ cs) h
