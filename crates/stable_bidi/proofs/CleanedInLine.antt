-- What a value holds stands in its line as a cleaned text: what becomes of its characters on the way touches no isolate
-- control and makes no separator.
use Rattle.std.proofs.Common.{◌≡◌, ℕ, ◌+◌, suc, true, false, ◌==◌, inl, inr, List, [], ◌∷◌, ◌++◌, length, map, refl}
use Rattle.std.proofs.Common.{sym, ap, subst, ◌∙◌, if◌then◌else◌, arith, eqb-true, ◌||◌, ◌≤◌, eq-or-lt_of_le}
use Rattle.std.proofs.lemmas.Bool.{cond-true, cond-false, cases_Bool, both_ways, ne_eqb, or_cases, and_parts}
use Rattle.std.proofs.lemmas.Bool.{leb-true}
use Rattle.std.proofs.lemmas.List.{nil_from_length}
use Rattle.std.specs.Char.{is_ascii_whitespace}
use Rattle.std.specs.Int.{is_in_range}
use Rattle.bidi_class.specs.Class.{bidi_class}
use Rattle.bidi_class.specs.Pairs.{is_initiator, is_closing}
use Rattle.bidi_text.specs.Clean.{cleaned_text, dropped_bytes, is_dropped, spaced}
use Rattle.bidi_text.proofs.CleanedSoFar.{left_clean, left_clean-cons, left_out, left_out-cons}
use Rattle.bidi_text.proofs.CleanedTwice.{spaced-spaced}
use Rattle.bidi_text.proofs.Isolates.{lone_closings, lone_initiators, role}
use Rattle.bidi_text.proofs.Isolates.Role.{Begins, Ends, Stays}
use Rattle.bidi_text.proofs.LoneBytes.{dropped_bytes-lone_bytes, length-lone_closing_bytes}
use Rattle.bidi_text.proofs.LoneBytes.{length-lone_initiator_bytes, lone_closing_bytes, lone_closings-begins}
use Rattle.bidi_text.proofs.LoneBytes.{lone_closings-ends, lone_initiator_bytes}
use Rattle.ucd_category.specs.GeneralCategory.{general_category}
use Rattle.ucd_category.specs.GeneralCategoryRows.{general_category_rows}
use Rattle.ucd_table.specs.Rows.{value_in}
use Rattle.bidi_order.proofs.CleanedMatched.{Matched-cleaned}
use Rattle.bidi_order.proofs.RestoredStatus.{Matched}
use Rattle.bidi_order.proofs.RestoredStatus.Matched.{matched_end, matched_opens, matched_ends, matched_plain}
use Rattle.stable_bidi.specs.TokenParts.{in_line, unescaped}

-- a character on its way into a line
abbrev pub shown : ℕ → ℕ
shown c = if is_ascii_whitespace (unescaped c) then 32 else unescaped c

-- it has the part that the character had
record Keeps (c d : ℕ) : Type 0 where
  begins : is_initiator d ≡ is_initiator c
  ends : is_closing d ≡ is_closing c
  spaces : spaced c ≡ c → spaced d ≡ d

-- what a space is for cleaning
space_is : (is_initiator 32 ≡ false) × (is_closing 32 ≡ false) × (spaced 32 ≡ 32)
unfolding bidi_class
space_is = (refl, refl, refl)

-- U+FFFD
replacement_is : (is_initiator 0xFFFD ≡ false) × (is_closing 0xFFFD ≡ false) × (spaced 0xFFFD ≡ 0xFFFD)
unfolding bidi_class general_category value_in general_category_rows
replacement_is = (refl, refl, refl)

-- U+0000
null_is : (is_initiator 0 ≡ false) × (is_closing 0 ≡ false)
unfolding bidi_class
null_is = (refl, refl)

-- it is no isolate control
abbrev IsNone : ℕ → Type 0
IsNone c = (is_initiator c ≡ false) × (is_closing c ≡ false)

-- a tab
tab_is : (is_initiator 9 ≡ false) × (is_closing 9 ≡ false)
unfolding bidi_class
tab_is = (refl, refl)

-- LF
line_is : (is_initiator 10 ≡ false) × (is_closing 10 ≡ false)
unfolding bidi_class
line_is = (refl, refl)

-- U+000C
feed_is : (is_initiator 12 ≡ false) × (is_closing 12 ≡ false)
unfolding bidi_class
feed_is = (refl, refl)

-- CR
return_is : (is_initiator 13 ≡ false) × (is_closing 13 ≡ false)
unfolding bidi_class
return_is = (refl, refl)

-- white space of HTML is no isolate control
white_is : (c : ℕ) → is_ascii_whitespace c ≡ true → (is_initiator c ≡ false) × (is_closing c ≡ false)
white_is c white =
    elim (or_cases (is_in_range 9 10 c || is_in_range 12 13 c) (is_in_range 32 32 c) white) [
      | inl early ↦ elim (or_cases (is_in_range 9 10 c) (is_in_range 12 13 c) early) [
        | inl tab ↦ by_two 9 (bounds 9 10 c tab).0 (bounds 9 10 c tab).1 tab_is line_is
        | inr feed ↦ by_two 12 (bounds 12 13 c feed).0 (bounds 12 13 c feed).1 feed_is return_is
      ]
      | inr blank ↦
          let is : 32 ≡ c = omega (arith, (bounds 32 32 c blank).0, (bounds 32 32 c blank).1) in
          subst IsNone is (space_is.0, space_is.1)
    ]
  where
    bounds : (low high c : ℕ) → is_in_range low high c ≡ true → (low ≤ c) × (c ≤ high)
    bounds low high c within =
        let parts = and_parts _ _ within in (leb-true low c parts.0, leb-true c high parts.1)

    by_two : (n : ℕ) → n ≤ c → c ≤ n + 1 → IsNone n → IsNone (n + 1) → IsNone c
    by_two n above below one two =
        elim (eq-or-lt_of_le above) [
          | inl is ↦ subst IsNone is one
          | inr over ↦ let is : n + 1 ≡ c = omega (arith, over, below) in subst IsNone is two
        ]

-- a character keeps its own part
same_keeps : (c d : ℕ) → d ≡ c → Keeps c d
same_keeps c d is = subst (Keeps c) (sym is) (record { begins = refl; ends = refl; spaces = λ h. h })

-- by an equal character
kept_as : (c d e : ℕ) → d ≡ e → Keeps c e → Keeps c d
kept_as c d e is keeps = subst (Keeps c) (sym is) keeps

-- each character keeps its part on the way into a line
keeps : (c : ℕ) → Keeps c (shown c)
keeps c =
    elim (cases_Bool (c == 0)) [
      | inl null ↦
          let zero_is : c ≡ 0 = eqb-true c 0 null in
          subst (λ x. Keeps x (shown x)) (sym zero_is) (record {
            begins = replacement_is.0 ∙ sym null_is.0;
            ends = replacement_is.1 ∙ sym null_is.1;
            spaces = λ h. replacement_is.2;
          })
      | inr some ↦
          let own : unescaped c ≡ c = rw some refl in
          elim (cases_Bool (is_ascii_whitespace c)) [
            | inl white ↦
                let none = white_is c white in
                kept_as c (shown c) 32 (rw (some, white) refl) (record {
                  begins = space_is.0 ∙ sym none.0;
                  ends = space_is.1 ∙ sym none.1;
                  spaces = λ h. space_is.2;
                })
            | inr black ↦ same_keeps c (shown c) (rw (some, black) refl)
          ]
    ]

-- so what matches does so in the line
shown_matched : (d : ℕ) (cs : List ℕ) → Matched d cs → Matched d (map shown cs)
shown_matched d [] matched_end = matched_end
shown_matched d (c ∷ cs) (matched_opens b more) = matched_opens ((keeps c).begins ∙ b) (shown_matched (suc d) cs more)
shown_matched (suc d) (c ∷ cs) (matched_ends e more) = matched_ends ((keeps c).ends ∙ e) (shown_matched d cs more)
shown_matched d (c ∷ cs) (matched_plain b e more) =
    matched_plain ((keeps c).begins ∙ b) ((keeps c).ends ∙ e) (shown_matched d cs more)

-- what matches has no lone isolate control
record Lone (d : ℕ) (cs : List ℕ) : Type 0 where
  closings_are : lone_closings cs ≡ d
  initiators_are : lone_initiators cs ≡ 0

-- a text whose isolate controls match
matched_lone : (d : ℕ) (cs : List ℕ) → Matched d cs → Lone d cs
matched_lone d [] matched_end = record { closings_are = refl; initiators_are = refl }
matched_lone d (c ∷ cs) (matched_opens b more) =
    let rest : Lone (suc d) cs = matched_lone (suc d) cs more in
    record {
      closings_are = omega (arith, lone_closings-begins c cs b, rest.closings_are);
      initiators_are = cond-true _ _ _ b
          ∙ cond-false _ _ _ (ne_eqb (lone_closings cs) 0 (λ none. absurd (omega (arith, rest.closings_are))))
          ∙ rest.initiators_are;
    }
matched_lone (suc d) (c ∷ cs) (matched_ends e more) =
    let rest : Lone d cs = matched_lone d cs more in
    elim (role c) [
      | Begins b n ↦ absurd (both_ways (is_closing c) n e)
      | Ends n k ↦ record {
        closings_are = omega (arith, lone_closings-ends c cs n k, rest.closings_are);
        initiators_are = cond-false _ _ _ n ∙ rest.initiators_are;
      }
      | Stays n k ↦ absurd (both_ways (is_closing c) k e)
    ]
matched_lone d (c ∷ cs) (matched_plain b e more) =
    let rest : Lone d cs = matched_lone d cs more in
    record {
      closings_are = cond-false _ _ _ b ∙ cond-false _ _ _ e ∙ rest.closings_are;
      initiators_are = cond-false _ _ _ b ∙ rest.initiators_are;
    }

-- nothing is left out of what matches
none_dropped : (cs : List ℕ) → Matched 0 cs → dropped_bytes cs ≡ []
none_dropped cs matched =
    let lone : Lone 0 cs = matched_lone 0 cs matched in
    let no_closings : lone_closing_bytes 0 cs ≡ [] =
    nil_from_length _ (length-lone_closing_bytes 0 cs ∙ lone.closings_are) in
    let no_initiators : lone_initiator_bytes 0 cs ≡ [] =
    nil_from_length _ (length-lone_initiator_bytes 0 cs ∙ lone.initiators_are) in
    dropped_bytes-lone_bytes cs ∙ ap (λ l. l ++ lone_initiator_bytes 0 cs) no_closings ∙ no_initiators

-- where nothing is left out, the first character isn't
kept_from : (prefix : List ℕ) (c : ℕ) (cs : List ℕ) → left_out prefix (c ∷ cs) ≡ []
    → (is_dropped (prefix ++ (c ∷ cs)) (length prefix, c) ≡ false) × (left_out (prefix ++ c ∷ []) cs ≡ [])
kept_from prefix c cs none =
    elim (cases_Bool (is_dropped (prefix ++ (c ∷ cs)) (length prefix, c))) [
      | inl out ↦ absurd (not_empty _ _ (sym (left_out-cons prefix c cs true out) ∙ none))
      | inr kept ↦ (kept, sym (left_out-cons prefix c cs false kept) ∙ none)
    ]
  where
    not_empty : (n : ℕ) (ns : List ℕ) → n ∷ ns ≡ [] → ⊥
    not_empty n ns e = cc

-- where nothing is left out, cleaning makes separators spaces
left_clean-kept : (prefix cs : List ℕ) → left_out prefix cs ≡ [] → left_clean prefix cs ≡ map spaced cs
left_clean-kept prefix [] none = refl
left_clean-kept prefix (c ∷ cs) none =
    let kept = kept_from prefix c cs none in
    left_clean-cons prefix c cs false kept.0 ∙ ap (λ l. spaced c ∷ l) (left_clean-kept (prefix ++ c ∷ []) cs kept.1)

-- what was cleaned has no separators
abbrev AllSpaced : List ℕ → Type 0
AllSpaced [] = Unit {0}
AllSpaced (c ∷ cs) = (spaced c ≡ c) × AllSpaced cs

-- a text that was cleaned has none
cleaned-spaced : (prefix cs : List ℕ) → AllSpaced (left_clean prefix cs)
cleaned-spaced prefix [] = tt
cleaned-spaced prefix (c ∷ cs) =
    elim (cases_Bool (is_dropped (prefix ++ (c ∷ cs)) (length prefix, c))) [
      | inl out ↦ subst AllSpaced (sym (left_clean-cons prefix c cs true out)) (cleaned-spaced (prefix ++ c ∷ []) cs)
      | inr kept ↦ subst AllSpaced (sym (left_clean-cons prefix c cs false kept))
          (spaced-spaced c, cleaned-spaced (prefix ++ c ∷ []) cs)
    ]

-- nor has it in the line
shown-spaced : (cs : List ℕ) → AllSpaced cs → map spaced (map shown cs) ≡ map shown cs
shown-spaced [] are = refl
shown-spaced (c ∷ cs) are =
    ap (λ x. x ∷ map spaced (map shown cs)) ((keeps c).spaces are.0) ∙ ap (λ l. shown c ∷ l) (shown-spaced cs are.1)

-- what is decoded and then stands in a line, at once
map-map : (cs : List ℕ) → in_line (map unescaped cs) ≡ map shown cs
map-map [] = refl
map-map (c ∷ cs) = ap (λ l. shown c ∷ l) (map-map cs)

-- what a value holds stands in its line as a text that cleaning leaves unchanged
pub cleaned-in_line : (text : List ℕ) → cleaned_text (in_line (map unescaped (cleaned_text text)))
    ≡ in_line (map unescaped (cleaned_text text))
cleaned-in_line text =
    let cs : List ℕ = map shown (cleaned_text text) in
    let matched : Matched 0 cs = shown_matched 0 (cleaned_text text) (Matched-cleaned text) in
    let clean : cleaned_text cs ≡ cs =
    left_clean-kept [] cs (none_dropped cs matched) ∙ shown-spaced (cleaned_text text) (cleaned-spaced [] text) in
    ap cleaned_text (map-map (cleaned_text text)) ∙ clean ∙ sym (map-map (cleaned_text text))
