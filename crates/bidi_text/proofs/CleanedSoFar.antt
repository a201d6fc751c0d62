-- What was cleaned of a text so far, and what is left to clean.
use Rattle.std.proofs.Common.{◌≡◌, ℕ, ◌+◌, ◌≤◌, Bool, true, false, List, [], ◌∷◌, ◌++◌, length, refl, sym, ap, subst}
use Rattle.std.proofs.Common.{◌∙◌, if◌then◌else◌, append-nil, append_assoc, length-append, encode_utf8, encode_utf8_all}
use Rattle.std.proofs.Common.{inl, inr, arith}
use Rattle.std.specs.List.{flat_map, enumerate_from}
use Rattle.std.specs.Str.{IsUtf8, chars}
use Rattle.std.proofs.lemmas.Bool.{cases_Bool}
use Rattle.std.proofs.lemmas.List.{nil_from_length}
use Rattle.std.proofs.lemmas.Str.{IsUtf8-past_char, chars_past_char, chars-nil, length-encode, len_utf8_bounds}
use Rattle.bidi_text.specs.Clean.{cleaned_character, cleaned_text, dropped_byte, dropped_bytes, is_dropped, spaced}
use Rattle.bidi_text.proofs.LoneBytes.{dropped_byte_is, prefix_byte-snoc}
use Rattle.bidi_text.proofs.Marking.{ReadsOne}

-- what is left out, and what becomes of the rest, from the character after a prefix on
abbrev pub left_out : List ℕ → List ℕ → List ℕ
left_out prefix cs = flat_map (dropped_byte (prefix ++ cs)) (enumerate_from (length prefix) cs)

abbrev pub left_clean : List ℕ → List ℕ → List ℕ
left_clean prefix cs = flat_map (cleaned_character (prefix ++ cs)) (enumerate_from (length prefix) cs)

-- the first number of the list, if there is one, is no less
abbrev pub HeadFrom : ℕ → List ℕ → Type 0
HeadFrom low [] = Unit {0}
HeadFrom low (n ∷ ns) = low ≤ n

-- the same by one more character
pub left_out-cons : (prefix : List ℕ) (c : ℕ) (cs : List ℕ) (flag : Bool)
    → is_dropped (prefix ++ (c ∷ cs)) (length prefix, c) ≡ flag
    → left_out prefix (c ∷ cs) ≡ (if flag then length (encode_utf8_all prefix) ∷ [] else []) ++ left_out
    (prefix ++ c ∷ []) cs
left_out-cons prefix c cs flag is =
    ap (λ l. l ++ flat_map (dropped_byte (prefix ++ (c ∷ cs))) (enumerate_from (length prefix + 1) cs))
    (dropped_byte_is prefix c cs flag is)
    ∙ ap (λ n. (if flag then length (encode_utf8_all prefix) ∷ [] else []) ++ flat_map
    (dropped_byte (prefix ++ (c ∷ cs))) (enumerate_from n cs)) (sym (length-append prefix (c ∷ [])))
    ∙ ap (λ t. (if flag then length (encode_utf8_all prefix) ∷ [] else []) ++ flat_map (dropped_byte t)
    (enumerate_from (length (prefix ++ c ∷ [])) cs)) (sym (append_assoc prefix (c ∷ []) cs))

pub left_clean-cons : (prefix : List ℕ) (c : ℕ) (cs : List ℕ) (flag : Bool)
    → is_dropped (prefix ++ (c ∷ cs)) (length prefix, c) ≡ flag
    → left_clean prefix (c ∷ cs) ≡ (if flag then [] else spaced c ∷ []) ++ left_clean (prefix ++ c ∷ []) cs
left_clean-cons prefix c cs flag is =
    ap (λ t. (if t then [] else spaced c ∷ []) ++ flat_map (cleaned_character (prefix ++ (c ∷ cs)))
    (enumerate_from (length prefix + 1) cs)) is
    ∙ ap (λ n. (if flag then [] else spaced c ∷ []) ++ flat_map (cleaned_character (prefix ++ (c ∷ cs)))
    (enumerate_from n cs)) (sym (length-append prefix (c ∷ [])))
    ∙ ap (λ t. (if flag then [] else spaced c ∷ []) ++ flat_map (cleaned_character t)
    (enumerate_from (length (prefix ++ c ∷ [])) cs)) (sym (append_assoc prefix (c ∷ []) cs))

-- nothing is left out before the character that comes next
pub left_out_from : (prefix cs : List ℕ) → HeadFrom (length (encode_utf8_all prefix)) (left_out prefix cs)
left_out_from prefix [] = tt
left_out_from prefix (c ∷ cs) =
    elim (cases_Bool (is_dropped (prefix ++ (c ∷ cs)) (length prefix, c))) [
      | inl out ↦ subst (HeadFrom (length (encode_utf8_all prefix))) (sym (left_out-cons prefix c cs true out))
          (omega arith)
      | inr kept ↦ subst (HeadFrom (length (encode_utf8_all prefix))) (sym (left_out-cons prefix c cs false kept))
          (weaker (length (encode_utf8_all prefix)) (length (encode_utf8_all (prefix ++ c ∷ [])))
          (left_out (prefix ++ c ∷ []) cs)
          (omega (arith, prefix_byte-snoc prefix c)) (left_out_from (prefix ++ c ∷ []) cs))
    ]
  where
    weaker : (low high : ℕ) (ns : List ℕ) → low ≤ high → HeadFrom high ns → HeadFrom low ns
    weaker low high [] h from = tt
    weaker low high (n ∷ ns) h from = omega arith

-- the loop's invariant
pub record CleanedSoFar (offsets : List ℕ) (cleaned : List ℕ) (at : ℕ) (rest text : List ℕ) : Type 0 where
  pub prefix : List ℕ
  pub whole : chars text ≡ prefix ++ chars rest
  pub begins : at ≡ length (encode_utf8_all prefix)
  pub leaves_out : offsets ≡ left_out prefix (chars rest)
  pub cleans : cleaned ++ left_clean prefix (chars rest) ≡ cleaned_text (chars text)
  pub utf8 : IsUtf8 rest
  pub bounded : at + length rest ≡ length text

-- what follows the same prefix is the same
same_after : (flag : Bool) (n : ℕ) (xs ys : List ℕ)
    → (if flag then n ∷ [] else []) ++ xs ≡ (if flag then n ∷ [] else []) ++ ys → xs ≡ ys
same_after true n xs ys e = cc
same_after false n xs ys e = e

-- nothing is cleaned before the text
pub cleaned_start : (text : List ℕ) → IsUtf8 text → CleanedSoFar (dropped_bytes (chars text)) [] 0 text text
cleaned_start text utf8 = record {
  prefix = [];
  whole = refl;
  begins = refl;
  leaves_out = refl;
  cleans = refl;
  utf8 = utf8;
  bounded = omega arith;
}

module _ {offsets cleaned : List ℕ} {at next c : ℕ} {bytes rest text : List ℕ}
    (so_far : CleanedSoFar offsets cleaned at bytes text) (reads : ReadsOne c at next bytes rest) where
  read : chars bytes ≡ c ∷ chars rest
  read = chars_past_char bytes rest c so_far.utf8 reads.split

  -- the character is left out, or kept, and the invariant goes on
  goes_on : (flag : Bool) (later cleaned' : List ℕ) → is_dropped (so_far.prefix ++ (c ∷ chars rest))
      (length so_far.prefix, c) ≡ flag
      → offsets ≡ (if flag then at ∷ [] else []) ++ later → cleaned' ≡ cleaned ++ (if flag then [] else spaced c ∷ [])
      → CleanedSoFar later cleaned' next rest text
  goes_on flag later cleaned' is left grows =
      let prefix : List ℕ = so_far.prefix ++ c ∷ [] in
      let byte : at ≡ length (encode_utf8_all so_far.prefix) = so_far.begins in
      let shown : List ℕ = if flag then [] else spaced c ∷ [] in
      let out : offsets ≡ (if flag then at ∷ [] else []) ++ left_out prefix (chars rest) =
      so_far.leaves_out ∙ ap (left_out so_far.prefix) read ∙ left_out-cons so_far.prefix c (chars rest) flag is
      ∙ ap (λ n. (if flag then n ∷ [] else []) ++ left_out prefix (chars rest)) (sym byte) in
      record {
        prefix = prefix;
        whole = so_far.whole ∙ ap (λ cs. so_far.prefix ++ cs) read
            ∙ sym (append_assoc so_far.prefix (c ∷ []) (chars rest));
        begins = omega (arith, reads.past, so_far.begins, prefix_byte-snoc so_far.prefix c);
        leaves_out = same_after flag at later (left_out prefix (chars rest)) (sym left ∙ out);
        cleans = ap (λ l. l ++ left_clean prefix (chars rest)) grows
            ∙ append_assoc cleaned shown (left_clean prefix (chars rest))
            ∙ ap (λ l. cleaned ++ l) (sym (left_clean-cons so_far.prefix c (chars rest) flag is))
            ∙ ap (λ cs. cleaned ++ left_clean so_far.prefix cs) (sym read) ∙ so_far.cleans;
        utf8 = IsUtf8-past_char bytes rest c so_far.utf8 reads.split;
        bounded = omega (arith, reads.past, so_far.bounded, ap length reads.split, length-append (encode_utf8 c) rest);
      }

  -- the next offset that is left out is that of this character
  pub cleaned_dropped : (later : List ℕ) → offsets ≡ at ∷ later → CleanedSoFar later cleaned next rest text
  cleaned_dropped later left =
      elim (cases_Bool (is_dropped (so_far.prefix ++ (c ∷ chars rest)) (length so_far.prefix, c))) [
        | inl out ↦ goes_on true later cleaned out left (sym (append-nil cleaned))
        | inr kept ↦
            let prefix : List ℕ = so_far.prefix ++ c ∷ [] in
            let same : left_out prefix (chars rest) ≡ at ∷ later =
            sym (so_far.leaves_out ∙ ap (left_out so_far.prefix) read ∙ left_out-cons so_far.prefix c (chars rest)
            false kept) ∙ left in
            let late : length (encode_utf8_all prefix) ≤ at = subst (HeadFrom (length (encode_utf8_all prefix))) same
            (left_out_from prefix (chars rest)) in
            absurd (omega (
              arith,
              late,
              so_far.begins,
              prefix_byte-snoc so_far.prefix c,
              length-encode c,
              (len_utf8_bounds c).0,
            ))
      ]

  -- it is not
  pub cleaned_kept : (cleaned' : List ℕ) → ((later : List ℕ) → offsets ≡ at ∷ later → ⊥)
      → cleaned' ≡ cleaned ++ spaced c ∷ [] → CleanedSoFar offsets cleaned' next rest text
  cleaned_kept cleaned' other grows =
      elim (cases_Bool (is_dropped (so_far.prefix ++ (c ∷ chars rest)) (length so_far.prefix, c))) [
        | inl out ↦
            let prefix : List ℕ = so_far.prefix ++ c ∷ [] in
            absurd (other (left_out prefix (chars rest))
            (so_far.leaves_out ∙ ap (left_out so_far.prefix) read ∙ left_out-cons so_far.prefix c (chars rest) true out
            ∙ ap (λ n. n ∷ left_out prefix (chars rest)) (sym so_far.begins)))
        | inr kept ↦ goes_on false offsets cleaned' kept refl grows
      ]

-- all is cleaned where nothing is left
pub cleaned_end : {offsets cleaned : List ℕ} {at : ℕ} {rest text : List ℕ} → CleanedSoFar offsets cleaned at rest text
    → length rest ≡ 0 → cleaned ≡ cleaned_text (chars text)
cleaned_end {offsets} {cleaned} {at} {rest} {text} so_far none =
    let no_chars : chars rest ≡ [] = ap chars (nil_from_length rest none) ∙ chars-nil in
    sym (append-nil cleaned) ∙ ap (λ cs. cleaned ++ left_clean so_far.prefix cs) (sym no_chars) ∙ so_far.cleans
