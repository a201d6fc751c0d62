-- What is passed of a text so far: a prefix in which no character has a row.
use Rattle.std.proofs.Common.{◌≡◌, ℕ, ◌-◌, ◌<◌, Bool, true, List, [], ◌∷◌, ◌++◌, ◌∙◌, refl, sym, ap, length, take, drop}
use Rattle.std.proofs.Common.{encode_utf8, append-nil, append_assoc, length-append, arith}
use Rattle.std.specs.Prelude.{take_while}
use Rattle.std.specs.List.{list_all}
use Rattle.std.specs.Str.{all_scalars, chars, IsUtf8, IsCharBoundary}
use Rattle.std.proofs.Math.Seq.{drop-append_seam, take-append_seam}
use Rattle.std.proofs.lemmas.Bool.{and_from, and_parts, cond-true}
use Rattle.std.proofs.lemmas.List.Sums.{take_while-cons}
use Rattle.std.proofs.lemmas.Str.{IsCharBoundary-at_seam, IsUtf8-append, IsUtf8-encode, chars-append, chars-nil}
use Rattle.std.proofs.lemmas.Str.{chars_past_char, length-encode, len_utf8_bounds, scalars-chars}
use Rattle.esc_table.specs.PlainPrefix.{has_no_row, plain_prefix}

-- elements that pass a test come before those that the test takes of the rest
pub take_while_past : (test : ℕ → Bool) (cs rest : List ℕ) → list_all test cs ≡ true
    → take_while test (cs ++ rest) ≡ cs ++ take_while test rest
take_while_past test [] rest all = refl
take_while_past test (c ∷ cs) rest all =
    let parts = and_parts _ _ all in
    take_while-cons test c (cs ++ rest) ∙ cond-true (test c) (c ∷ take_while test (cs ++ rest)) [] parts.0
    ∙ ap (λ l. c ∷ l) (take_while_past test cs rest parts.1)

pub record PassedSoFar (rows : List (ℕ × List ℕ)) (text rest : List ℕ) : Type 0 where
  pub prefix : List ℕ
  pub split : text ≡ prefix ++ rest
  pub utf8 : IsUtf8 prefix
  pub utf8_rest : IsUtf8 rest
  pub plain : plain_prefix rows (chars text) ≡ chars prefix ++ plain_prefix rows (chars rest)

-- the first character of a text
first_character : (text rest : List ℕ) (c : ℕ) → IsUtf8 text → text ≡ encode_utf8 c ++ rest
    → IsUtf8 (encode_utf8 c) × (chars (encode_utf8 c) ≡ c ∷ [])
first_character text rest c utf8 split =
    let are : all_scalars (c ∷ chars rest) ≡ true =
    ap all_scalars (sym (chars_past_char text rest c utf8 split)) ∙ scalars-chars text utf8 in
    let is = IsUtf8-encode c (and_parts _ _ are).0 in
    (is, chars_past_char (encode_utf8 c) [] c is (sym (append-nil (encode_utf8 c))) ∙ ap (λ l. c ∷ l) chars-nil)

-- a text is longer than what follows its first character
pub past_character_shorter : (rest run others after : List ℕ) (c : ℕ) → rest ≡ run ++ others
    → others ≡ encode_utf8 c ++ after → length after < length rest
past_character_shorter rest run others after c split next =
    omega (
      arith,
      ap length split,
      ap length next,
      length-append run others,
      length-append (encode_utf8 c) after,
      length-encode c,
      (len_utf8_bounds c).0,
    )

-- at the start nothing is passed
pub none_passed : (rows : List (ℕ × List ℕ)) (text : List ℕ) → IsUtf8 text → IsUtf8 [] → PassedSoFar rows text text
none_passed rows text utf8 empty = record {
  prefix = [];
  split = refl;
  utf8 = empty;
  utf8_rest = utf8;
  plain = ap (λ l. l ++ plain_prefix rows (chars text)) (sym chars-nil);
}

module _ (rows : List (ℕ × List ℕ)) (text rest : List ℕ) (so_far : PassedSoFar rows text rest) where
  -- a run without rows is passed too
  pub run_passed : (run others : List ℕ) → IsUtf8 run → IsUtf8 others → rest ≡ run ++ others
      → list_all (has_no_row rows) (chars run) ≡ true → PassedSoFar rows text others
  run_passed run others utf8_run utf8_others split plain = record {
    prefix = so_far.prefix ++ run;
    split = so_far.split ∙ ap (λ l. so_far.prefix ++ l) split ∙ sym (append_assoc so_far.prefix run others);
    utf8 = IsUtf8-append so_far.prefix run so_far.utf8 utf8_run;
    utf8_rest = utf8_others;
    plain = so_far.plain
        ∙ ap (λ l. chars so_far.prefix ++ plain_prefix rows l) (ap chars split ∙ chars-append run others utf8_run)
        ∙ ap (λ l. chars so_far.prefix ++ l) (take_while_past (has_no_row rows) (chars run) (chars others) plain)
        ∙ sym (append_assoc (chars so_far.prefix) (chars run) (plain_prefix rows (chars others)))
        ∙ ap (λ l. l ++ plain_prefix rows (chars others)) (sym (chars-append so_far.prefix run so_far.utf8));
  }

  -- so is one character without a row
  pub character_passed : (c : ℕ) (after : List ℕ) → IsUtf8 after → rest ≡ encode_utf8 c ++ after
      → has_no_row rows c ≡ true → PassedSoFar rows text after
  character_passed c after utf8 split plain =
      let first = first_character rest after c so_far.utf8_rest split in
      run_passed (encode_utf8 c) after first.0 utf8 split (ap (list_all (has_no_row rows)) first.1
      ∙ and_from _ _ plain refl)

  -- where nothing of the rest stands for itself, the text is cut there
  pub cut_at : IsCharBoundary text (length text - length rest)
  cut_at =
      let at : length text - length rest ≡ length so_far.prefix =
      omega (arith, ap length so_far.split, length-append so_far.prefix rest) in
      rw at (IsCharBoundary-at_seam text so_far.prefix rest so_far.split so_far.utf8_rest)

  pub prefix_cut : take (length text - length rest) text ≡ so_far.prefix
  prefix_cut =
      let at : length text - length rest ≡ length so_far.prefix =
      omega (arith, ap length so_far.split, length-append so_far.prefix rest) in
      rw (at, so_far.split) (take-append_seam so_far.prefix rest)

  pub rest_cut : drop (length text - length rest) text ≡ rest
  rest_cut =
      let at : length text - length rest ≡ length so_far.prefix =
      omega (arith, ap length so_far.split, length-append so_far.prefix rest) in
      rw (at, so_far.split) (drop-append_seam so_far.prefix rest)

  pub whole_prefix : plain_prefix rows (chars rest) ≡ [] → chars so_far.prefix ≡ plain_prefix rows (chars text)
  whole_prefix none = sym (so_far.plain ∙ ap (λ l. chars so_far.prefix ++ l) none ∙ append-nil (chars so_far.prefix))
