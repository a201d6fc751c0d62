-- Up to its first byte with another share than 1 a text has whole characters, which stand for themselves.
use Rattle.std.proofs.Common.{◌≡◌, ℕ, zero, suc, ◌+◌, ◌-◌, ◌<◌, ◌≤◌, Bool, true, false, not, List, [], ◌∷◌, ◌++◌}
use Rattle.std.proofs.Common.{length, take, get_or, refl, sym, ap, subst, ◌∙◌, ⊎_elim, encode_utf8, encode_utf8_all}
use Rattle.std.proofs.Common.{All, length-append, arith}
use Rattle.std.specs.List.{list_all, slice_index_or}
use Rattle.std.specs.Str.{all_scalars, chars, IsCharBoundary, IsUtf8}
use Rattle.std.proofs.lemmas.Bool.{and_from, and_parts, both_ways, cases_lt, not-true}
use Rattle.std.proofs.lemmas.List.{get_or_append_left, get_or-append-add, get_or-append_right, get_or-take, take_at}
use Rattle.std.proofs.lemmas.List.{length-take-le}
use Rattle.std.proofs.lemmas.Slice.Eq.{bytes_eq-Decides}
use Rattle.std.proofs.lemmas.Str.{chars_from_encodes, encodes-append, encodes-chars, length-encode, len_utf8_bounds}
use Rattle.std.proofs.lemmas.Str.{IsCharBoundary-at_seam, IsUtf8-take, scalars-chars}
use lib.Utf8.{scalar}
use Rattle.esc_table.specs.LeadBytes.{lead_byte}
use Rattle.escapers.specs.declared.escaper.Escaper.{Escaper}
use Rattle.escapers.specs.Esc.{escaped_character}
use Rattle.escapers.specs.PlainPrefix.{stands_for_itself}
use Rattle.value_cursor.specs.Shares.{AreShares, is_other}

list_all_get : (test : ℕ → Bool) (xs : List ℕ) (i : ℕ) → list_all test xs ≡ true → i < length xs
    → test (get_or xs i 0) ≡ true
list_all_get test [] i all within = absurd (omega (arith, within))
list_all_get test (x ∷ xs) zero all within = (and_parts _ _ all).0
list_all_get test (x ∷ xs) (suc i) all within = list_all_get test xs i (and_parts _ _ all).1 (omega (arith, within))

begins : (c : ℕ) → 0 < length (encode_utf8 c)
begins c = omega (arith, length-encode c, (len_utf8_bounds c).0)

scalars_rest : (run others : List ℕ) → all_scalars (run ++ others) ≡ true → all_scalars others ≡ true
scalars_rest [] others are = are
scalars_rest (c ∷ run) others are = scalars_rest run others (and_parts _ _ are).1

-- the characters in so many bytes, which stand for themselves, and the others
pub record RunOf (how : Escaper) (cs : List ℕ) (at : ℕ) : Type 0 where
  pub run : List ℕ
  pub others : List ℕ
  pub split : cs ≡ run ++ others
  pub size : length (encode_utf8_all run) ≡ at
  pub plain : list_all (stands_for_itself how) run ≡ true

module _ (how : Escaper) (shares : List ℕ) (are : AreShares how shares) where
  -- where the search stops, seen from behind a prefix
  stops : (bytes rest : List ℕ) (at : ℕ) → length bytes ≤ at → at < length (bytes ++ rest)
      → (at < length (bytes ++ rest) → is_other shares (get_or (bytes ++ rest) at 0) ≡ true)
      → is_other shares (get_or rest (at - length bytes) 0) ≡ true
  stops bytes rest at past under stop =
      ap (is_other shares) (sym (get_or-append_right bytes rest (length bytes) at 0 refl past)) ∙ stop under

  run_of : (cs : List ℕ) (at : ℕ) → all_scalars cs ≡ true → at ≤ length (encode_utf8_all cs)
      → ((i : ℕ) → i < at → is_other shares (get_or (encode_utf8_all cs) i 0) ≡ false)
      → (at < length (encode_utf8_all cs) → is_other shares (get_or (encode_utf8_all cs) at 0) ≡ true)
      → RunOf how cs at
  run_of [] at scalars within before stop =
      record { run = []; others = []; split = refl; size = omega (arith, within); plain = refl }
  run_of (c ∷ cs) zero scalars within before stop =
      record { run = []; others = c ∷ cs; split = refl; size = refl; plain = refl }
  run_of (c ∷ cs) (suc n) scalars within before stop =
      let bytes : List ℕ = encode_utf8 c in
      let rest : List ℕ = encode_utf8_all cs in
      let parts = and_parts (scalar c) (all_scalars cs) scalars in
      let size : length (bytes ++ rest) ≡ length bytes + length rest = length-append bytes rest in
      let first : is_other shares (lead_byte c) ≡ false =
      ap (is_other shares) (sym (get_or_append_left bytes rest 0 0 (begins c))) ∙ before 0 (omega arith) in
      let itself = are.itself c parts.0 first in
      let past : length bytes ≤ suc n =
      ⊎_elim
      (λ (short : suc n < length bytes). absurd (both_ways (is_other shares (get_or bytes (suc n) 0))
      (not-true _ (list_all_get (λ byte. not (is_other shares byte)) bytes (suc n) itself.0 short))
      (ap (is_other shares) (sym (get_or_append_left bytes rest 0 (suc n) short)) ∙ stop (omega (arith, short, size)))))
      (λ long. long)
      (cases_lt (suc n) (length bytes)) in
      let more = run_of cs (suc n - length bytes) parts.1 (omega (arith, within, size, past))
      (λ i under. ap (is_other shares) (sym (get_or-append-add bytes rest i 0))
      ∙ before (length bytes + i) (omega (arith, under, past)))
      (λ under. stops bytes rest (suc n) past (omega (arith, under, size, past)) stop) in
      record {
        run = c ∷ more.run;
        others = more.others;
        split = ap (λ l. c ∷ l) more.split;
        size = omega (arith, length-append bytes (encode_utf8_all more.run), more.size, past);
        plain = and_from _ _ ((bytes_eq-Decides (escaped_character how c) (c ∷ [])).1 itself.1) more.plain;
      }

  module _ (text : List ℕ) (at : ℕ) (utf8 : IsUtf8 text) (within : at ≤ length text)
      (before : (i : ℕ) → i < at → is_other shares (get_or text i 0) ≡ false)
      (stop : at < length text → is_other shares (get_or text at 0) ≡ true) where
    found : RunOf how (chars text) at
    found =
        run_of (chars text) at (scalars-chars text utf8) (rw (encodes-chars text utf8) within)
        (rw (encodes-chars text utf8) before) (rw (encodes-chars text utf8) stop)

    split_bytes : text ≡ encode_utf8_all found.run ++ encode_utf8_all found.others
    split_bytes =
        sym (encodes-chars text utf8) ∙ ap encode_utf8_all found.split ∙ encodes-append found.run found.others

    pub run_boundary : IsCharBoundary text at
    run_boundary =
        let rest_scalars = scalars_rest found.run found.others
        (ap all_scalars (sym found.split) ∙ scalars-chars text utf8) in
        let utf8_rest : IsUtf8 (encode_utf8_all found.others) = (found.others, (rest_scalars, refl)) in
        let P : ℕ → Type 0 = IsCharBoundary text in
        subst P found.size
        (IsCharBoundary-at_seam text (encode_utf8_all found.run) (encode_utf8_all found.others) split_bytes utf8_rest)

    pub run_plain : list_all (stands_for_itself how) (chars (take at text)) ≡ true
    run_plain =
        let bytes : take at text ≡ encode_utf8_all found.run = ap (take at) split_bytes
        ∙ take_at (encode_utf8_all found.run) (encode_utf8_all found.others) at found.size in
        let same : found.run ≡ chars (take at text) =
        chars_from_encodes found.run (take at text) (IsUtf8-take text at utf8 run_boundary) (sym bytes) in
        ap (list_all (stands_for_itself how)) (sym same) ∙ found.plain

  -- the same by what a search says
  module _ (text : List ℕ) (at : ℕ) (utf8 : IsUtf8 text) (within : at < length text)
      (own : All (λ byte. is_other shares byte ≡ false) (take at text))
      (stop : is_other shares (slice_index_or text at 0) ≡ true) where
    before : (i : ℕ) → i < at → is_other shares (get_or text i 0) ≡ false
    before i under =
        ap (is_other shares) (sym (get_or-take at text i 0 under))
        ∙ own i 0 (omega (arith, under, length-take-le at text (omega (arith, within))))

    pub found_boundary : IsCharBoundary text at
    found_boundary = run_boundary text at utf8 (omega (arith, within)) before (λ inside. stop)

    pub found_plain : list_all (stands_for_itself how) (chars (take at text)) ≡ true
    found_plain = run_plain text at utf8 (omega (arith, within)) before (λ inside. stop)

  pub whole_plain : (text : List ℕ) → IsUtf8 text → All (λ byte. is_other shares byte ≡ false) text
      → list_all (stands_for_itself how) (chars text) ≡ true
  whole_plain text utf8 own =
      let run = run_plain text (length text) utf8 (omega arith) (λ i under. own i 0 under)
      (λ inside. absurd (omega (arith, inside))) in
      ap (λ l. list_all (stands_for_itself how) (chars l)) (sym (take_whole text)) ∙ run
    where
      take_whole : (xs : List ℕ) → take (length xs) xs ≡ xs
      take_whole [] = refl
      take_whole (x ∷ xs) = ap (λ l. x ∷ l) (take_whole xs)
