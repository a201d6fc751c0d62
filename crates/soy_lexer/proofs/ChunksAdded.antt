-- Chunks that come to a run, and whose characters are segments one after the other.
use Rattle.std.proofs.Common.{◌≡◌, ℕ, ◌+◌, List, [], ◌∷◌, ◌++◌, Bool, true, false, ◌&&◌, IsTrue, refl, sym, subst, ◌∙◌}
use Rattle.std.proofs.Common.{arith, append-nil, append_assoc}
use Rattle.std.specs.List.{list_all}
use Rattle.std.specs.Char.{len_utf8}
use Rattle.std.proofs.lemmas.Bool.Decides.{nat_tests}
use Rattle.soy_base.specs.Cuts.{is_nil}
use Rattle.soy_base.specs.WhiteSpace.{is_template_space, is_line_break}
use Rattle.soy_base.specs.ByteLength.{byte_len}
use Rattle.soy_lexer.specs.IsRunOf.{Represents, start_with}
use Rattle.soy_lexer.specs.Lines.{RunCharacter, is_angle}
use Rattle.soy_lexer.specs.Chunks.{is_chunk_character, run_characters}
use Rattle.soy_lexer.proofs.Represented.{other_represented, space_before}

-- a text with a last character isn't empty
pub not_nil : (text : List ℕ) (c : ℕ) → is_nil (text ++ c ∷ []) ≡ false
not_nil [] c = refl
not_nil (d ∷ ds) c = refl

-- what a character of a chunk is not
pub chunk_white : (c : ℕ) → IsTrue (is_chunk_character c) → is_template_space c ≡ false
chunk_white c h = grind (arith, nat_tests, h)

chunk_line : (c : ℕ) → IsTrue (is_chunk_character c) → is_line_break c ≡ false
chunk_line c h = grind (arith, nat_tests, h)

chunk_angle : (c : ℕ) → IsTrue (is_chunk_character c) → false ≡ is_angle c
chunk_angle c h = grind (arith, nat_tests, h)

-- the first character of a chunk and the others
pub first_of_chunk : (c : ℕ) (cs : List ℕ) → IsTrue (list_all is_chunk_character (c ∷ cs))
    → IsTrue (is_chunk_character c) × IsTrue (list_all is_chunk_character cs)
first_of_chunk c cs h = by_first (is_chunk_character c) (list_all is_chunk_character cs) h
  where
    by_first : (a b : Bool) → IsTrue (a && b) → IsTrue a × IsTrue b
    by_first true b h = (refl, h)
    by_first false b h = absurd (cc)

-- a text that isn't empty starts where it started
start_stays : (text : List ℕ) (start offset : ℕ) → is_nil text ≡ false → start ≡ start_with text [] start offset
start_stays [] start offset some = absurd (cc)
start_stays (d ∷ ds) start offset some = refl

-- a run that ends within a chunk, with one more character of it
character_represented : (c offset : ℕ) → IsTrue (is_chunk_character c) →
    {text white : List ℕ} {fresh angle : Bool} {start text_end end : ℕ} {run : List RunCharacter} →
    Represents text white fresh angle start text_end end run → fresh ≡ false → white ≡ [] → is_nil text ≡ false →
    Represents (text ++ c ∷ []) [] false false start (offset + len_utf8 c) (offset + len_utf8 c)
    (run ++ record { offset = offset; character = c } ∷ [])
character_represented c offset chunk {text} {white} {fresh} {angle} {start} {text_end} {end} {run} k begun none some =
    let longer : text ++ c ∷ [] ≡ ((text ++ space_before text fresh angle false) ++ white) ++ c ∷ [] =
    rw (begun, none, append-nil (text ++ []), append-nil text) refl in
    let starts : start ≡ start_with text white start offset = rw none (start_stays text start offset some) in
    other_represented (text ++ c ∷ []) [] false start (offset + len_utf8 c) (record { offset = offset; character = c })
    k
    (chunk_white c chunk) (chunk_line c chunk) longer refl (chunk_angle c chunk) starts refl

-- and with more of them
pub chunk_represented : (c : ℕ) (cs : List ℕ) (offset : ℕ) → IsTrue (list_all is_chunk_character (c ∷ cs)) →
    {text white : List ℕ} {fresh angle : Bool} {start text_end end : ℕ} {run : List RunCharacter} →
    Represents text white fresh angle start text_end end run → fresh ≡ false → white ≡ [] → is_nil text ≡ false →
    (text' : List ℕ) (end' : ℕ) → text' ≡ text ++ c ∷ cs → end' ≡ offset + byte_len (c ∷ cs) →
    Represents text' [] false false start end' end' (run ++ run_characters offset (c ∷ cs))
chunk_represented c [] offset chunk {text} {white} {fresh} {angle} {start} {text_end} {end} {run} k begun none some
    text' end' t n =
    let ends : end' ≡ offset + len_utf8 c = omega (arith, n) in
    rw (t, ends) (character_represented c offset (first_of_chunk c [] chunk).0 k begun none some)
chunk_represented c (d ∷ ds) offset chunk {text} {white} {fresh} {angle} {start} {text_end} {end} {run} k begun none
    some text' end' t n =
    let both = first_of_chunk c (d ∷ ds) chunk in
    let here : RunCharacter = record { offset = offset; character = c } in
    subst (λ l. Represents text' [] false false start end' end' l)
    (append_assoc run (here ∷ []) (run_characters (offset + len_utf8 c) (d ∷ ds)))
    (chunk_represented d ds (offset + len_utf8 c) both.1 (character_represented c offset both.0 k begun none some) refl
    refl (not_nil text c) text' end'
    (t ∙ sym (append_assoc text (c ∷ []) (d ∷ ds))) (omega (arith, n)))

-- the same of any run
pub chunk_added : (cs : List ℕ) (offset : ℕ) → IsTrue (list_all is_chunk_character cs) → is_nil cs ≡ false →
    {text white : List ℕ} {fresh angle : Bool} {start text_end end : ℕ} {run : List RunCharacter} →
    Represents text white fresh angle start text_end end run → (text' white' : List ℕ) (start' end' : ℕ) →
    text' ≡ ((text ++ space_before text fresh angle false) ++ white) ++ cs → white' ≡ [] →
    start' ≡ start_with text white start offset → end' ≡ offset + byte_len cs →
    Represents text' white' false false start' end' end' (run ++ run_characters offset cs)
chunk_added [] offset chunk filled k text' white' start' end' t w s n = absurd (cc)
chunk_added (c ∷ []) offset chunk filled k text' white' start' end' t w s n =
    let is = (first_of_chunk c [] chunk).0 in
    other_represented text' white' false start' end' (record { offset = offset; character = c }) k
    (chunk_white c is) (chunk_line c is) t w (chunk_angle c is) s (omega (arith, n))
chunk_added (c ∷ d ∷ ds) offset chunk filled {text} {white} {fresh} {angle} {start} {text_end} {end} {run} k text'
    white' start' end' t w s n =
    let both = first_of_chunk c (d ∷ ds) chunk in
    let here : RunCharacter = record { offset = offset; character = c } in
    let before = (text ++ space_before text fresh angle false) ++ white in
    rw w (subst (λ l. Represents text' [] false false start' end' end' l)
    (append_assoc run (here ∷ []) (run_characters (offset + len_utf8 c) (d ∷ ds)))
    (chunk_represented d ds (offset + len_utf8 c) both.1
    (other_represented (before ++ c ∷ []) [] false start' (offset + len_utf8 c) here k (chunk_white c both.0)
    (chunk_line c both.0) refl refl (chunk_angle c both.0) s refl)
    refl refl (not_nil before c) text' end'
    (t ∙ sym (append_assoc before (c ∷ []) (d ∷ ds))) (omega (arith, n))))

-- and of no more characters
pub none_added : (P : List RunCharacter → Type 0) (cs : List ℕ) (offset : ℕ) → is_nil cs ≡ true
    → (run : List RunCharacter) → P run → P (run ++ run_characters offset cs)
none_added P [] offset nil run h = subst P (sym (append-nil run)) h
none_added P (c ∷ cs) offset nil run h = absurd (cc)
