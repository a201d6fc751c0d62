-- Runs of characters that stand for themselves, escaped alone or cleaned too.
use Rattle.std.proofs.Common.{◌≡◌, ℕ, ◌-◌, ◌≤◌, Bool, true, ◌&&◌, List, [], ◌∷◌, ◌++◌, length, take, drop}
use Rattle.std.proofs.Common.{encode_utf8_all, Some, refl, sym, ap, subst, ◌∙◌, append_assoc, length-append, inl, inr}
use Rattle.std.proofs.Common.{arith}
use Rattle.std.specs.List.{list_all}
use Rattle.std.specs.Option.{option_map_or}
use Rattle.std.specs.Str.{chars, IsUtf8, IsCharBoundary}
use Rattle.std.proofs.lemmas.Bool.{and_from, and_left, and_parts, cases_Bool, cond-false, cond-true, not-true}
use Rattle.std.proofs.lemmas.List.{take_at, drop_at}
use Rattle.std.proofs.lemmas.Slice.Eq.{bytes_eq-Decides}
use Rattle.std.proofs.lemmas.Str.{chars_from_encodes, encodes-append, encodes-chars, IsCharBoundary-at_seam}
use Rattle.std.proofs.lemmas.Str.{IsUtf8-append, IsUtf8-take}
use Rattle.bidi_text.specs.Clean.{is_isolate_control}
use Rattle.soy_base.specs.Cuts.{after_while, prefix_while}
use Rattle.escapers.specs.declared.escaper.Escaper.{Escaper}
use Rattle.escapers.specs.Esc.{escaped_character}
use Rattle.escapers.specs.PlainPrefix.{plain_prefix, stands_for_itself}
use Rattle.value_cursor.specs.BytesLeft.{forms}
use Rattle.value_cursor.specs.Cleaned.{cleaned, cleaned_or_none, is_clean, is_left_out}
use Rattle.value_cursor.specs.declared.cleaning.Cleaning.{Cleaning}
use Rattle.value_cursor.specs.declared.cleaning.Cleaning.TheVariants as cleaning
use Rattle.value_cursor.specs.declared.plan.Plan.{Plan}
use Rattle.value_cursor.proofs.Forms.{forms_themselves}

abbrev is_plain : Escaper → ℕ → Bool
is_plain how c = stands_for_itself how c && is_clean c

-- a character that stands for itself is its own form
pub own_form : (how : Escaper) (c : ℕ) → stands_for_itself how c ≡ true → escaped_character how c ≡ c ∷ []
own_form how c is = (bytes_eq-Decides (escaped_character how c) (c ∷ [])).0 is

pub clean_itself : (leaves_out : Bool) (c : ℕ) → is_clean c ≡ true → cleaned_or_none leaves_out c ≡ Some c
clean_itself leaves_out c is =
    let parts = and_parts _ _ is in
    cond-false _ _ _ (and_left (is_isolate_control c) leaves_out (not-true _ parts.0))
    ∙ ap Some (cond-false _ _ _ (not-true _ parts.1))

cleaned_itself : (what : Cleaning) (offset c : ℕ) → is_clean c ≡ true → cleaned what offset c ≡ Some c
cleaned_itself cleaning.Nothing offset c is = refl
cleaned_itself cleaning.Unpaired offset c is = clean_itself true c is
cleaned_itself (cleaning.Marked marks) offset c is = clean_itself (is_left_out (cleaning.Marked marks) offset) c is

-- all characters of a prefix pass its test
prefix_all : (test : ℕ → Bool) (cs : List ℕ) → list_all test (prefix_while test cs) ≡ true
prefix_all test [] = refl
prefix_all test (c ∷ cs) =
    elim (cases_Bool (test c)) [
      | inl passes ↦ ap (list_all test) (cond-true (test c) (c ∷ prefix_while test cs) [] passes)
          ∙ and_from _ _ passes (prefix_all test cs)
      | inr stops ↦ ap (list_all test) (cond-false (test c) (c ∷ prefix_while test cs) [] stops)
    ]

-- and another test that all pass
prefix_both : (first test : ℕ → Bool) (cs : List ℕ) → list_all first cs ≡ true
    → list_all (λ c. first c && test c) (prefix_while test cs) ≡ true
prefix_both first test [] all = refl
prefix_both first test (c ∷ cs) all =
    let parts = and_parts _ _ all in
    elim (cases_Bool (test c)) [
      | inl passes ↦ ap (list_all (λ c. first c && test c)) (cond-true (test c) (c ∷ prefix_while test cs) [] passes)
          ∙ and_from _ _ (and_from _ _ parts.0 passes) (prefix_both first test cs parts.1)
      | inr stops ↦ ap (list_all (λ c. first c && test c)) (cond-false (test c) (c ∷ prefix_while test cs) [] stops)
    ]

-- a prefix and what follows it
prefix_and_after : (test : ℕ → Bool) (cs : List ℕ) → cs ≡ prefix_while test cs ++ after_while test cs
prefix_and_after test [] = refl
prefix_and_after test (c ∷ cs) =
    elim (cases_Bool (test c)) [
      | inl passes ↦ ap (λ l. c ∷ l) (prefix_and_after test cs)
          ∙ sym (ap (λ l. l ++ after_while test (c ∷ cs)) (cond-true (test c) (c ∷ prefix_while test cs) [] passes)
          ∙ ap (λ l. c ∷ (prefix_while test cs ++ l)) (cond-true (test c) (after_while test cs) (c ∷ cs) passes))
      | inr stops ↦ sym (ap (λ l. l ++ after_while test (c ∷ cs))
          (cond-false (test c) (c ∷ prefix_while test cs) [] stops)
          ∙ cond-false (test c) (after_while test cs) (c ∷ cs) stops)
    ]

-- what is only escaped
pub prefix_plain : (how : Escaper) (run cs : List ℕ) → run ≡ plain_prefix how cs
    → list_all (stands_for_itself how) run ≡ true
prefix_plain how run cs is =
    subst (λ l. list_all (stands_for_itself how) l ≡ true) (sym is) (prefix_all (stands_for_itself how) cs)

pub escaped_run : (plan : Plan) (run : List ℕ) → plan.cleaning ≡ cleaning.Nothing
    → list_all (stands_for_itself plan.how) run ≡ true → (offset : ℕ) → forms plan offset run ≡ run
escaped_run plan run nothing plain =
    forms_themselves plan (stands_for_itself plan.how)
    (λ offset c own. ap (λ what. option_map_or (escaped_character plan.how) (cleaned what offset c) []) nothing
    ∙ own_form plan.how c own)
    run plain

-- what is cleaned and escaped
module _ (plan : Plan) (text window plain others behind more cs : List ℕ) (utf8 : IsUtf8 text)
    (utf8_plain : IsUtf8 plain) (utf8_others : IsUtf8 others) (utf8_behind : IsUtf8 behind) (utf8_more : IsUtf8 more)
    (is_window : text ≡ window ++ more) (whole : window ≡ plain ++ behind)
    (is_plain_prefix : chars plain ≡ plain_prefix plan.how cs)
    (is_others : chars others ≡ after_while is_clean (chars plain)) where
  abbrev run_characters : List ℕ
  run_characters = prefix_while is_clean (chars plain)

  split_plain : plain ≡ encode_utf8_all run_characters ++ others
  split_plain =
      sym (encodes-chars plain utf8_plain) ∙ ap encode_utf8_all (prefix_and_after is_clean (chars plain))
      ∙ encodes-append run_characters (after_while is_clean (chars plain))
      ∙ ap (λ l. encode_utf8_all run_characters ++ l) (ap encode_utf8_all (sym is_others)
      ∙ encodes-chars others utf8_others)

  split_text : text ≡ encode_utf8_all run_characters ++ (others ++ (behind ++ more))
  split_text =
      is_window ∙ ap (λ l. l ++ more) (whole ∙ ap (λ l. l ++ behind) split_plain)
      ∙ append_assoc (encode_utf8_all run_characters ++ others) behind more
      ∙ append_assoc (encode_utf8_all run_characters) others (behind ++ more)

  utf8_rest : IsUtf8 (others ++ (behind ++ more))
  utf8_rest = IsUtf8-append others (behind ++ more) utf8_others (IsUtf8-append behind more utf8_behind utf8_more)

  pub others_within : length others ≤ length plain
  others_within = omega (arith, ap length split_plain, length-append (encode_utf8_all run_characters) others)

  size_run : length (encode_utf8_all run_characters) ≡ length plain - length others
  size_run = omega (arith, ap length split_plain, length-append (encode_utf8_all run_characters) others)

  pub run_boundary : IsCharBoundary text (length plain - length others)
  run_boundary =
      let P : ℕ → Type 0 = IsCharBoundary text in
      subst P size_run (IsCharBoundary-at_seam text (encode_utf8_all run_characters) (others ++ (behind ++ more))
      split_text utf8_rest)

  module _ (run rest : List ℕ) (is_run : run ≡ take (length plain - length others) text)
      (is_rest : rest ≡ drop (length plain - length others) text) where
    bytes_run : run ≡ encode_utf8_all run_characters
    bytes_run =
        is_run ∙ ap (take (length plain - length others)) split_text ∙ take_at (encode_utf8_all run_characters)
        (others ++ (behind ++ more)) (length plain - length others) size_run

    bytes_rest : rest ≡ others ++ (behind ++ more)
    bytes_rest =
        is_rest ∙ ap (drop (length plain - length others)) split_text ∙ drop_at (encode_utf8_all run_characters)
        (others ++ (behind ++ more)) (length plain - length others) size_run

    pub run_whole : text ≡ run ++ rest
    run_whole =
        split_text ∙ ap (λ l. l ++ (others ++ (behind ++ more))) (sym bytes_run) ∙ ap (λ l. run ++ l) (sym bytes_rest)

    pub run_utf8 : IsUtf8 run
    run_utf8 = subst IsUtf8 (sym is_run) (IsUtf8-take text (length plain - length others) utf8 run_boundary)

    pub rest_utf8 : IsUtf8 rest
    rest_utf8 = subst IsUtf8 (sym bytes_rest) utf8_rest

    are_run : chars run ≡ run_characters
    are_run = sym (chars_from_encodes run_characters run run_utf8 (sym bytes_run))

    pub run_plain : (offset : ℕ) → forms plan offset (chars run) ≡ chars run
    run_plain =
        forms_themselves plan (is_plain plan.how)
        (λ offset c own.
        let parts = and_parts (stands_for_itself plan.how c) (is_clean c) own in
        ap (λ o. option_map_or (escaped_character plan.how) o []) (cleaned_itself plan.cleaning offset c parts.1)
        ∙ own_form plan.how c parts.0)
        (chars run)
        (subst (λ l. list_all (is_plain plan.how) l ≡ true) (sym are_run)
        (prefix_both (stands_for_itself plan.how) is_clean (chars plain)
        (subst (λ l. list_all (stands_for_itself plan.how) l ≡ true) (sym is_plain_prefix)
        (prefix_all (stands_for_itself plan.how) cs))))
