-- What comes to a run at once: pieces one after the other, up to what may begin something else.
use Rattle.std.proofs.Common.{◌≡◌, ℕ, ◌+◌, ◌-◌, List, [], ◌∷◌, ◌++◌, Bool, true, false, ◌&&◌, IsTrue, length}
use Rattle.std.proofs.Common.{refl, sym, ap, subst, ◌∙◌, arith, append-nil, append_assoc, length-append}
use Rattle.std.specs.List.{list_all}
use Rattle.std.specs.Char.{len_utf8}
use Rattle.std.proofs.lemmas.Bool.Decides.{nat_tests}
use Rattle.std.proofs.lemmas.List.Folds.{list_all-append}
use Rattle.soy_base.specs.ByteLength.{byte_len}
use Rattle.soy_base.specs.Cuts.{prefix_while, after_while}
use Rattle.soy_base.specs.WhiteSpace.{is_template_space}
use Rattle.soy_base.proofs.Texts.{byte_len-append}
use Rattle.soy_lexer.specs.Chunks.{AddsAll, AddsCharacters, AddsPiece, AddsPrefix, begins_plain, ends_white}
use Rattle.soy_lexer.specs.Chunks.{is_chunk_character, is_plain, run_characters}
use Rattle.soy_lexer.specs.IsRunOf.{AddsCharacter, IsRunOf}
use Rattle.soy_lexer.specs.Lines.{RunCharacter}
use Rattle.soy_lexer.specs.declared.run.Run.{Run}
use Rattle.soy_lexer.proofs.ChunksAdded.{chunk_white, first_of_chunk}
use Rattle.soy_lexer.proofs.CommandSegments.{while-whole}

-- the characters of two texts, one after the other
run_characters-append : (offset : ℕ) (a b : List ℕ)
    → run_characters offset (a ++ b) ≡ run_characters offset a ++ run_characters (offset + byte_len a) b
run_characters-append offset [] b =
    let zero : offset ≡ offset + 0 = omega arith in
    ap (λ n. run_characters n b) zero
run_characters-append offset (c ∷ cs) b =
    let here : RunCharacter = record { offset = offset; character = c } in
    let same : (offset + len_utf8 c) + byte_len cs ≡ offset + byte_len (c ∷ cs) = omega arith in
    ap (λ l. here ∷ l) (run_characters-append (offset + len_utf8 c) cs b
    ∙ ap (λ n. run_characters (offset + len_utf8 c) cs ++ run_characters n b) same)

ends_white-append : (white : Bool) (a b : List ℕ) → ends_white white (a ++ b) ≡ ends_white (ends_white white a) b
ends_white-append white [] b = refl
ends_white-append white (c ∷ cs) b = ends_white-append (is_template_space c) cs b

-- two tests that hold
both : (a b : Bool) → IsTrue a → IsTrue b → (a && b) ≡ true
both true b h k = k
both false b h k = absurd (cc)

-- the first of characters that pass a test, and the others
first_plain : (a b : Bool) → IsTrue (a && b) → IsTrue a × IsTrue b
first_plain true b h = (refl, h)
first_plain false b h = absurd (cc)

-- what was added so far of a text
pub record AddsSoFar (old now : Run) (offset : ℕ) (before : Bool) (text rest : List ℕ) (white : Bool) : Type 0 where
  pub part : AddsPrefix old now offset text rest
  pub white_is : white ≡ ends_white before part.prefix

-- nothing
pub none_so_far : (run : Run) (offset : ℕ) (before : Bool) (text : List ℕ)
    → AddsSoFar run run offset before text text before
none_so_far run offset before text = record {
  part = record {
    prefix = [];
    whole = refl;
    plain = refl;
    adds = λ characters h. subst (λ l. IsRunOf run l) (sym (append-nil characters)) h;
  };
  white_is = refl;
}

module _ (old now : Run) (offset : ℕ) (before : Bool) (text rest : List ℕ) (white : Bool)
    (so_far : AddsSoFar old now offset before text rest white) where
  -- the offset of the rest
  pub rest_offset : (offset + byte_len text) - byte_len rest ≡ offset + byte_len so_far.part.prefix
  rest_offset = omega (arith, ap byte_len so_far.part.whole, byte_len-append so_far.part.prefix rest)

  pub rest_within : (offset + byte_len so_far.part.prefix) + byte_len rest ≡ offset + byte_len text
  rest_within = omega (arith, ap byte_len so_far.part.whole, byte_len-append so_far.part.prefix rest)

  -- a piece more
  pub piece_more : (now' : Run) (at : ℕ) (rest' : List ℕ) (white' : Bool)
      → at ≡ offset + byte_len so_far.part.prefix → AddsPiece now now' at rest rest' white'
      → AddsSoFar old now' offset before text rest' white'
  piece_more now' at rest' white' stands piece =
      let p = so_far.part.prefix in
      let q = piece.piece.prefix in
      record {
        part = record {
          prefix = p ++ q;
          whole = so_far.part.whole ∙ ap (λ l. p ++ l) piece.piece.whole ∙ sym (append_assoc p q rest');
          plain = list_all-append is_plain p q
              ∙ both (list_all is_plain p) (list_all is_plain q) so_far.part.plain piece.piece.plain;
          adds = λ characters h. subst (λ l. IsRunOf now' l)
              (append_assoc characters (run_characters offset p) (run_characters at q)
              ∙ ap (λ n. characters ++ (run_characters offset p ++ run_characters n q)) stands
              ∙ ap (λ l. characters ++ l) (sym (run_characters-append offset p q)))
              (piece.piece.adds (characters ++ run_characters offset p) (so_far.part.adds characters h));
        };
        white_is = piece.white_is (ends_white before p) ∙ sym (ends_white-append before p q);
      }

  -- a text that begins with none has none at its start, and one behind plain characters has these
  plain_prefix : (p rest : List ℕ) → IsTrue (list_all is_plain p) → begins_plain rest ≡ false
      → (prefix_while is_plain (p ++ rest) ≡ p) × (after_while is_plain (p ++ rest) ≡ rest)
  plain_prefix [] [] h none = (refl, refl)
  plain_prefix [] (c ∷ cs) h none = rw none (refl, refl)
  plain_prefix (c ∷ cs) rest h none =
      let two = first_plain (is_plain c) (list_all is_plain cs) h in
      let more = plain_prefix cs rest two.1 none in
      let first : is_plain c ≡ true = two.0 in
      rw first (ap (λ l. c ∷ l) more.0, more.1)

  -- all of them
  pub all_added : begins_plain rest ≡ false → AddsAll old now offset before text rest white
  all_added none =
      let are = plain_prefix so_far.part.prefix rest so_far.part.plain none in
      let prefix : prefix_while is_plain text ≡ so_far.part.prefix =
      ap (prefix_while is_plain) so_far.part.whole ∙ are.0 in
      record {
        rest_is = sym (ap (after_while is_plain) so_far.part.whole ∙ are.1);
        white_is = so_far.white_is ∙ ap (ends_white before) (sym prefix);
        adds = λ characters h. subst (λ l. IsRunOf now (characters ++ run_characters offset l)) (sym prefix)
            (so_far.part.adds characters h);
      }

-- a piece of one character
pub character_piece : (old new : Run) (offset c : ℕ) (text rest : List ℕ) (white : Bool) → text ≡ c ∷ rest
    → is_plain c ≡ true → white ≡ is_template_space c
    → AddsCharacter old new (record { offset = offset; character = c })
    → AddsPiece old new offset text rest white
character_piece old new offset c text rest white e plain is adds = record {
  piece = record {
    prefix = c ∷ [];
    whole = e;
    plain = rw plain refl;
    adds = adds;
  };
  white_is = λ before. is;
  shorter = omega (arith, ap length e);
}

-- a character of a chunk is plain
chunk_plain : (c : ℕ) → IsTrue (is_chunk_character c) → is_plain c ≡ true
chunk_plain c h = grind (arith, nat_tests, h)

pub all_plain : (cs : List ℕ) → IsTrue (list_all is_chunk_character cs) → IsTrue (list_all is_plain cs)
all_plain [] h = refl
all_plain (c ∷ cs) h =
    let two = first_of_chunk c cs h in
    rw (chunk_plain c two.0) (all_plain cs two.1)

-- and no white space
chunk_ends : (before : Bool) (cs : List ℕ) → IsTrue (list_all is_chunk_character cs) → before ≡ false
    → false ≡ ends_white before cs
chunk_ends before [] h is = sym is
chunk_ends before (c ∷ cs) h is =
    let two = first_of_chunk c cs h in
    chunk_ends (is_template_space c) cs two.1 (chunk_white c two.0)

-- the chunk at the start of a text is one
pub chunk_all : (text : List ℕ) → IsTrue (list_all is_chunk_character (prefix_while is_chunk_character text))
chunk_all [] = refl
chunk_all (c ∷ cs) = by_first (is_chunk_character c) refl (chunk_all cs)
  where
    by_first : (t : Bool) → is_chunk_character c ≡ t
        → IsTrue (list_all is_chunk_character (prefix_while is_chunk_character cs)) →
        IsTrue (list_all is_chunk_character (prefix_while is_chunk_character (c ∷ cs)))
    by_first true e h = rw (e, e) h
    by_first false e h = rw e refl

-- a piece that is a chunk
pub chunk_piece : (old new : Run) (offset c : ℕ) (text others : List ℕ) → text ≡ c ∷ others
    → is_chunk_character c ≡ true
    → AddsCharacters old new (run_characters offset (prefix_while is_chunk_character text))
    → AddsPiece old new offset text (after_while is_chunk_character text) false
chunk_piece old new offset c text others e chunk adds =
    let first : prefix_while is_chunk_character text ≡ c ∷ prefix_while is_chunk_character others =
    ap (prefix_while is_chunk_character) e ∙ rw chunk refl in
    let is = chunk_all text in
    let whole = while-whole is_chunk_character text in
    let tail : IsTrue (list_all is_chunk_character (prefix_while is_chunk_character others)) = chunk_all others in
    record {
      piece = record {
        prefix = prefix_while is_chunk_character text;
        whole = whole;
        plain = all_plain (prefix_while is_chunk_character text) is;
        adds = adds;
      };
      white_is = λ before. chunk_ends (is_template_space c) (prefix_while is_chunk_character others) tail
          (chunk_white c chunk) ∙ ap (ends_white before) (sym first);
      shorter = omega (
        arith,
        ap length whole,
        length-append (prefix_while is_chunk_character text) (after_while is_chunk_character text),
        ap length first,
      );
    }

-- the bytes of a chunk and of what follows it
pub chunk_byte_len : (text : List ℕ) → byte_len text ≡ byte_len (prefix_while is_chunk_character text)
    + byte_len (after_while is_chunk_character text)
chunk_byte_len text =
    ap byte_len (while-whole is_chunk_character text)
    ∙ byte_len-append (prefix_while is_chunk_character text) (after_while is_chunk_character text)
