-- The forms of the characters from an offset on, in characters and in bytes.
use Rattle.std.proofs.Common.{◌≡◌, ℕ, ◌+◌, ◌-◌, ◌≤◌, Bool, true, List, [], ◌∷◌, ◌++◌, length, drop, encode_utf8}
use Rattle.std.proofs.Common.{encode_utf8_all, refl, sym, ap, subst, ◌∙◌, append_assoc, length-append, length-drop}
use Rattle.std.proofs.Common.{arith}
use Rattle.std.specs.Char.{len_utf8}
use Rattle.std.specs.List.{flat_map, list_all}
use Rattle.std.specs.Option.{option_map_or}
use Rattle.std.specs.Str.{chars, IsUtf8, IsCharBoundary}
use Rattle.std.proofs.lemmas.Bool.{and_parts}
use Rattle.std.proofs.lemmas.List.{drop-drop, drop_all, drop_at}
use Rattle.std.proofs.lemmas.Str.{chars-append, chars-nil, chars_past_char, drop_past_char, encodes-append}
use Rattle.std.proofs.lemmas.Str.{encodes-chars, length-encode, len_utf8_bounds, IsCharBoundary-from_drop, IsUtf8-drop}
use Rattle.std.proofs.lemmas.Str.{IsUtf8-past_char}
use Rattle.soy_base.specs.ByteLength.{byte_len}
use Rattle.soy_base.proofs.Texts.{byte_len-chars}
use Rattle.escapers.specs.declared.escaper.Escaper.{Escaper}
use Rattle.escapers.specs.declared.escaper.Escaper.TheVariants as escaper
use Rattle.escapers.specs.Esc.{escaped_character}
use Rattle.value_cursor.specs.BytesLeft.{bytes_from, form, forms}
use Rattle.value_cursor.specs.Cleaned.{cleaned}
use Rattle.value_cursor.specs.declared.cleaning.Cleaning.TheVariants as cleaning
use Rattle.value_cursor.specs.declared.plan.Plan.{Plan}

-- characters take as many bytes as their encoding
pub byte_len-encodes : (cs : List ℕ) → byte_len cs ≡ length (encode_utf8_all cs)
byte_len-encodes [] = refl
byte_len-encodes (c ∷ cs) =
    omega (arith, byte_len-encodes cs, length-encode c, length-append (encode_utf8 c) (encode_utf8_all cs))

-- the forms of characters, and of those after them
pub forms-append : (plan : Plan) (offset : ℕ) (cs ds : List ℕ)
    → forms plan offset (cs ++ ds) ≡ forms plan offset cs ++ forms plan (offset + byte_len cs) ds
forms-append plan offset [] ds = ap (λ n. forms plan n ds) (omega arith)
forms-append plan offset (c ∷ cs) ds =
    let further : offset + len_utf8 c + byte_len cs ≡ offset + byte_len (c ∷ cs) = omega arith in
    ap (λ l. form plan offset c ++ l) (forms-append plan (offset + len_utf8 c) cs ds
    ∙ ap (λ n. forms plan (offset + len_utf8 c) cs ++ forms plan n ds) further)
    ∙ sym (append_assoc (form plan offset c) (forms plan (offset + len_utf8 c) cs)
    (forms plan (offset + byte_len (c ∷ cs)) ds))

-- characters whose forms are themselves
pub forms_themselves : (plan : Plan) (test : ℕ → Bool) → ((offset c : ℕ) → test c ≡ true → form plan offset c ≡ c ∷ [])
    → (cs : List ℕ) → list_all test cs ≡ true → (offset : ℕ) → forms plan offset cs ≡ cs
forms_themselves plan test own [] all offset = refl
forms_themselves plan test own (c ∷ cs) all offset =
    let parts = and_parts _ _ all in
    ap (λ l. l ++ forms plan (offset + len_utf8 c) cs) (own offset c parts.0)
    ∙ ap (λ l. c ∷ l) (forms_themselves plan test own cs parts.1 (offset + len_utf8 c))

module _ (plan : Plan) (source rest : List ℕ) (offset : ℕ) (utf8 : IsUtf8 source)
    (boundary : IsCharBoundary source offset) (is_rest : rest ≡ drop offset source) where
  pub utf8_rest : IsUtf8 rest
  utf8_rest = subst IsUtf8 (sym is_rest) (IsUtf8-drop source offset utf8 boundary)

  size_rest : length rest ≡ length source - offset
  size_rest = omega (arith, ap length is_rest, length-drop offset source)

  -- a run of characters whose forms are themselves
  module _ (run others : List ℕ) (whole : rest ≡ run ++ others) (utf8_run : IsUtf8 run) (utf8_others : IsUtf8 others)
    where
      pub past : drop (offset + length run) source ≡ others
      past =
          sym (drop-drop (length run) offset source) ∙ ap (drop (length run)) (sym is_rest ∙ whole)
          ∙ drop_at run others (length run) refl

      pub run_boundary : IsCharBoundary source (offset + length run)
      run_boundary =
          IsCharBoundary-from_drop source (offset + length run)
          (omega (arith, size_rest, ap length whole, length-append run others, boundary.0))
          (subst IsUtf8 (sym past) utf8_others)

      pub run_bytes : ((n : ℕ) → forms plan n (chars run) ≡ chars run) → bytes_from plan source offset
          ≡ run ++ bytes_from plan source (offset + length run)
      run_bytes own =
          ap (λ l. encode_utf8_all (forms plan offset (chars l))) (sym is_rest ∙ whole)
          ∙ ap (λ l. encode_utf8_all (forms plan offset l)) (chars-append run others utf8_run)
          ∙ ap encode_utf8_all (forms-append plan offset (chars run) (chars others)
          ∙ ap (λ l. l ++ forms plan (offset + byte_len (chars run)) (chars others)) (own offset))
          ∙ encodes-append (chars run) (forms plan (offset + byte_len (chars run)) (chars others))
          ∙ ap (λ l. l ++ encode_utf8_all (forms plan (offset + byte_len (chars run)) (chars others)))
          (encodes-chars run utf8_run)
          ∙ ap (λ n. run ++ encode_utf8_all (forms plan (offset + n) (chars others))) (byte_len-chars run utf8_run)
          ∙ ap (λ l. run ++ encode_utf8_all (forms plan (offset + length run) (chars l))) (sym past)

  -- a character
  module _ (c : ℕ) (others : List ℕ) (whole : chars rest ≡ c ∷ chars others) where
    split : rest ≡ encode_utf8 c ++ encode_utf8_all (chars others)
    split = sym (encodes-chars rest utf8_rest) ∙ ap encode_utf8_all whole

    past_c : drop (offset + len_utf8 c) source ≡ encode_utf8_all (chars others)
    past_c = drop_past_char source (encode_utf8_all (chars others)) offset c (sym is_rest ∙ split)

    pub char_boundary : IsCharBoundary source (offset + len_utf8 c)
    char_boundary =
        IsCharBoundary-from_drop source (offset + len_utf8 c)
        (omega (
          arith,
          size_rest,
          ap length split,
          length-append (encode_utf8 c) (encode_utf8_all (chars others)),
          length-encode c,
          boundary.0,
        ))
        (subst IsUtf8 (sym past_c) (IsUtf8-past_char rest (encode_utf8_all (chars others)) c utf8_rest split))

    same_others : c ∷ chars (encode_utf8_all (chars others)) ≡ c ∷ chars others
    same_others = sym (chars_past_char rest (encode_utf8_all (chars others)) c utf8_rest split) ∙ whole

    pub char_bytes : bytes_from plan source offset ≡ encode_utf8_all (form plan offset c) ++ bytes_from plan source
        (offset + len_utf8 c)
    char_bytes =
        ap (λ l. encode_utf8_all (forms plan offset (chars l))) (sym is_rest)
        ∙ ap (λ l. encode_utf8_all (forms plan offset l)) (whole ∙ sym same_others)
        ∙ encodes-append (form plan offset c)
        (forms plan (offset + len_utf8 c) (chars (encode_utf8_all (chars others))))
        ∙ ap (λ l. encode_utf8_all (form plan offset c) ++ encode_utf8_all
        (forms plan (offset + len_utf8 c) (chars l))) (sym past_c)

  -- no character
  pub no_character : chars rest ≡ [] → length source ≤ offset
  no_character none = omega (arith, ap length (sym (encodes-chars rest utf8_rest) ∙ ap encode_utf8_all none), size_rest)

-- nothing stands behind the source
pub bytes_end : (plan : Plan) (source : List ℕ) (offset : ℕ) → length source ≤ offset
    → bytes_from plan source offset ≡ []
bytes_end plan source offset end =
    ap (λ l. encode_utf8_all (forms plan offset (chars l))) (drop_all offset source end)
    ∙ ap (λ l. encode_utf8_all (forms plan offset l)) chars-nil

-- a character takes bytes
pub some_bytes : (c : ℕ) → 1 ≤ len_utf8 c
some_bytes c = (len_utf8_bounds c).0

-- by an escaper by characters alone
pub escaped_forms : (plan : Plan) (how : Escaper) → plan.how ≡ how → plan.cleaning ≡ cleaning.Nothing
    → (offset : ℕ) (cs : List ℕ) → forms plan offset cs ≡ flat_map (escaped_character how) cs
escaped_forms plan how is nothing offset [] = refl
escaped_forms plan how is nothing offset (c ∷ cs) =
    ap (λ what. option_map_or (escaped_character plan.how) (cleaned what offset c) [] ++ forms plan
    (offset + len_utf8 c) cs) nothing
    ∙ ap (λ h. escaped_character h c ++ forms plan (offset + len_utf8 c) cs) is
    ∙ ap (λ l. escaped_character how c ++ l) (escaped_forms plan how is nothing (offset + len_utf8 c) cs)

pub escaped_bytes : (plan : Plan) (how : Escaper) → plan.how ≡ how → plan.cleaning ≡ cleaning.Nothing
    → (source : List ℕ) → bytes_from plan source 0 ≡ encode_utf8_all (flat_map (escaped_character how) (chars source))
escaped_bytes plan how is nothing source = ap encode_utf8_all (escaped_forms plan how is nothing 0 (chars source))

-- by Plain the text itself
pub plain_text : (cs : List ℕ) → flat_map (escaped_character escaper.Plain) cs ≡ cs
plain_text [] = refl
plain_text (c ∷ cs) = ap (λ l. c ∷ l) (plain_text cs)

-- a text of three parts in bytes
pub encodes_three : (opening body closing : List ℕ)
    → encode_utf8_all (opening ++ (body ++ closing)) ≡
    (encode_utf8_all opening ++ encode_utf8_all body) ++ encode_utf8_all closing
encodes_three opening body closing =
    encodes-append opening (body ++ closing) ∙ ap (λ l. encode_utf8_all opening ++ l) (encodes-append body closing)
    ∙ sym (append_assoc (encode_utf8_all opening) (encode_utf8_all body) (encode_utf8_all closing))
