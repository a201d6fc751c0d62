-- A cleaned text has no lone isolate control, so cleaning it changes nothing.
use Rattle.std.proofs.Common.{◌≡◌, ℕ, ◌+◌, ◌-◌, ◌<◌, min, true, false, ◌&&◌, not, nat_lt, zero, suc, inl, inr, List, []}
use Rattle.std.proofs.Common.{◌∷◌, ◌++◌, length, map, slice_index, refl, sym, ap, subst, ◌∙◌, append_assoc}
use Rattle.std.proofs.Common.{length-append, arith}
use Rattle.std.proofs.lemmas.Bool.{cond-true, cond-false, cases_Bool, cases_lt, both_ways, lt-ltb, le-ltb, ne_eqb}
use Rattle.std.proofs.lemmas.Bool.{not-false}
use Rattle.std.proofs.lemmas.List.{nil_from_length}
use Rattle.bidi_class.specs.declared.class.Class.{Class}
use Rattle.bidi_class.specs.declared.class.Class.TheVariants.{B, S}
use Rattle.bidi_class.specs.Class.{bidi_class, begins_isolate}
use Rattle.bidi_class.specs.Pairs.{ends_isolate, is_initiator, is_closing, is_in_pair}
use Rattle.bidi_text.specs.Clean.{cleaned_text, dropped_bytes, is_dropped, is_isolate_control, is_separator, spaced}
use Rattle.bidi_text.proofs.CleanedSoFar.{left_clean, left_clean-cons, left_out, left_out-cons}
use Rattle.bidi_text.proofs.Isolates.{first, lone_closings, lone_initiators}
use Rattle.bidi_text.proofs.Isolates.First.{BeginsLone, BeginsMatched, EndsOne, StaysOut}
use Rattle.bidi_text.proofs.LoneBytes.{dropped_begins, dropped_bytes-lone_bytes, dropped_ends, dropped_stays}
use Rattle.bidi_text.proofs.LoneBytes.{length-lone_closing_bytes, length-lone_initiator_bytes, lone_closing_bytes}
use Rattle.bidi_text.proofs.LoneBytes.{lone_closings-begins, lone_closings-ends, lone_closings-stays}
use Rattle.bidi_text.proofs.LoneBytes.{lone_initiator_bytes, lone_initiators-begins, lone_initiators-ends}
use Rattle.bidi_text.proofs.LoneBytes.{lone_initiators-stays}

-- a class that begins or ends an isolate is no separator
begins_apart : (k : Class) → begins_isolate k ≡ true → is_separator k ≡ false
begins_apart B h = absurd (both_ways _ refl h)
begins_apart S h = absurd (both_ways _ refl h)
begins_apart _ h = refl

ends_apart : (k : Class) → ends_isolate k ≡ true → is_separator k ≡ false
ends_apart B h = absurd (both_ways _ refl h)
ends_apart S h = absurd (both_ways _ refl h)
ends_apart _ h = refl

-- so it is not made a space
spaced-begins : (c : ℕ) → is_initiator c ≡ true → spaced c ≡ c
spaced-begins c b = cond-false _ _ _ (begins_apart (bidi_class c) b)

spaced-ends : (c : ℕ) → is_closing c ≡ true → spaced c ≡ c
spaced-ends c e = cond-false _ _ _ (ends_apart (bidi_class c) e)

-- a space is no isolate control, and no separator
space_begins : is_initiator 32 ≡ false
unfolding bidi_class
space_begins = refl

space_ends : is_closing 32 ≡ false
unfolding bidi_class
space_ends = refl

space_separates : is_separator (bidi_class 32) ≡ false
unfolding bidi_class
space_separates = refl

-- a character with its separators made spaces does what it did to isolates
spaced-stays : (c : ℕ) → is_initiator c ≡ false → is_closing c ≡ false
    → (is_initiator (spaced c) ≡ false) × (is_closing (spaced c) ≡ false)
spaced-stays c b e =
    elim (cases_Bool (is_separator (bidi_class c))) [
      | inl separates ↦ let space : spaced c ≡ 32 = cond-true _ _ _ separates in
          (ap is_initiator space ∙ space_begins, ap is_closing space ∙ space_ends)
      | inr other ↦ let same : spaced c ≡ c = cond-false _ _ _ other in
          (ap is_initiator same ∙ b, ap is_closing same ∙ e)
    ]

-- spaces stay spaces
pub spaced-spaced : (c : ℕ) → spaced (spaced c) ≡ spaced c
spaced-spaced c =
    elim (cases_Bool (is_separator (bidi_class c))) [
      | inl separates ↦ let space : spaced c ≡ 32 = cond-true _ _ _ separates in ap spaced space
          ∙ cond-false _ _ _ space_separates ∙ sym space
      | inr other ↦ let same : spaced c ≡ c = cond-false _ _ _ other in ap spaced same
    ]

-- what is cleaned from a character on: its lone PDIs are those that close initiators before it, and no initiator is
-- lone
pub record Paired (begun : ℕ) (cs cleaned : List ℕ) : Type 0 where
  pub closings_are : lone_closings cleaned ≡ min begun (lone_closings cs)
  pub initiators_are : lone_initiators cleaned ≡ 0

left_clean-Paired : (prefix cs : List ℕ) → Paired (lone_initiators prefix) cs (left_clean prefix cs)
left_clean-Paired prefix [] = record { closings_are = omega arith; initiators_are = refl }
left_clean-Paired prefix (c ∷ cs) =
    let begun : ℕ = lone_initiators prefix in
    let later : List ℕ = left_clean (prefix ++ c ∷ []) cs in
    let rest : Paired (lone_initiators (prefix ++ c ∷ [])) cs later = left_clean-Paired (prefix ++ c ∷ []) cs in
    elim (first c cs) [
      | BeginsLone b e none counts ↦
          let out : is_dropped (prefix ++ (c ∷ cs)) (length prefix, c) ≡ true = dropped_begins prefix c cs b
          ∙ ap not (le-ltb 0 (lone_closings cs) (omega arith)) in
          let same : left_clean prefix (c ∷ cs) ≡ later = left_clean-cons prefix c cs true out in
          subst (Paired begun (c ∷ cs)) (sym same)
          (record { closings_are = omega (arith, rest.closings_are); initiators_are = rest.initiators_are })
      | BeginsMatched b e some counts ↦
          let kept : is_dropped (prefix ++ (c ∷ cs)) (length prefix, c) ≡ false = dropped_begins prefix c cs b
          ∙ ap not (lt-ltb 0 (lone_closings cs) some) in
          let same : left_clean prefix (c ∷ cs) ≡ c ∷ later = left_clean-cons prefix c cs false kept
          ∙ ap (λ k. k ∷ later) (spaced-begins c b) in
          let more : lone_closings later ≡ min (begun + 1) (lone_closings cs) = rest.closings_are
          ∙ ap (λ n. min n (lone_closings cs)) (lone_initiators-begins prefix c b e) in
          subst (Paired begun (c ∷ cs)) (sym same) (record {
            closings_are = omega (arith, lone_closings-begins c later b, more);
            initiators_are = cond-true _ _ _ b
                ∙ cond-false _ _ _ (ne_eqb (lone_closings later) 0 (λ none. absurd (omega (arith, more))))
                ∙ rest.initiators_are;
          })
      | EndsOne b e counts ↦
          let is : is_dropped (prefix ++ (c ∷ cs)) (length prefix, c) ≡ not (nat_lt 0 begun) =
          dropped_ends prefix c cs b e in
          let more : lone_closings later ≡ min (begun - 1) (lone_closings cs) = rest.closings_are
          ∙ ap (λ n. min n (lone_closings cs)) (lone_initiators-ends prefix c b e) in
          elim (cases_lt 0 begun) [
            | inl some ↦
                let kept : is_dropped (prefix ++ (c ∷ cs)) (length prefix, c) ≡ false =
                is ∙ ap not (lt-ltb 0 begun some) in
                let same : left_clean prefix (c ∷ cs) ≡ c ∷ later = left_clean-cons prefix c cs false kept
                ∙ ap (λ k. k ∷ later) (spaced-ends c e) in
                subst (Paired begun (c ∷ cs)) (sym same) (record {
                  closings_are = omega (arith, lone_closings-ends c later b e, more);
                  initiators_are = cond-false _ _ _ b ∙ rest.initiators_are;
                })
            | inr none ↦
                let out : is_dropped (prefix ++ (c ∷ cs)) (length prefix, c) ≡ true =
                is ∙ ap not (le-ltb 0 begun none) in
                let same : left_clean prefix (c ∷ cs) ≡ later = left_clean-cons prefix c cs true out in
                subst (Paired begun (c ∷ cs)) (sym same)
                (record { closings_are = omega (arith, more); initiators_are = rest.initiators_are })
          ]
      | StaysOut b e counts ↦
          let kept : is_dropped (prefix ++ (c ∷ cs)) (length prefix, c) ≡ false = dropped_stays prefix c cs b e in
          let same : left_clean prefix (c ∷ cs) ≡ spaced c ∷ later = left_clean-cons prefix c cs false kept in
          let roles = spaced-stays c b e in
          let more : lone_closings later ≡ min begun (lone_closings cs) = rest.closings_are
          ∙ ap (λ n. min n (lone_closings cs)) (lone_initiators-stays prefix c b e) in
          subst (Paired begun (c ∷ cs)) (sym same) (record {
            closings_are = lone_closings-stays (spaced c) later roles.0 roles.1 ∙ more
                ∙ ap (min begun) (sym (lone_closings-stays c cs b e));
            initiators_are = cond-false _ _ _ roles.0 ∙ rest.initiators_are;
          })
    ]

-- nothing is left out of a cleaned text
dropped_bytes-cleaned : (text : List ℕ) → dropped_bytes (cleaned_text text) ≡ []
dropped_bytes-cleaned text =
    let paired : Paired 0 text (cleaned_text text) = left_clean-Paired [] text in
    let no_closings : lone_closing_bytes 0 (cleaned_text text) ≡ [] =
    nil_from_length _ (length-lone_closing_bytes 0 (cleaned_text text) ∙ omega (arith, paired.closings_are)) in
    let no_initiators : lone_initiator_bytes 0 (cleaned_text text) ≡ [] =
    nil_from_length _ (length-lone_initiator_bytes 0 (cleaned_text text) ∙ paired.initiators_are) in
    dropped_bytes-lone_bytes (cleaned_text text) ∙ ap (λ l. l ++ lone_initiator_bytes 0 (cleaned_text text))
    no_closings ∙ no_initiators

-- where nothing is left out from a character on, that character is kept
kept_from : (prefix : List ℕ) (c : ℕ) (cs : List ℕ) → left_out prefix (c ∷ cs) ≡ []
    → (is_dropped (prefix ++ (c ∷ cs)) (length prefix, c) ≡ false) × (left_out (prefix ++ c ∷ []) cs ≡ [])
kept_from prefix c cs none =
    elim (cases_Bool (is_dropped (prefix ++ (c ∷ cs)) (length prefix, c))) [
      | inl out ↦ absurd (not_empty _ _ (sym (left_out-cons prefix c cs true out) ∙ none))
      | inr kept ↦ (kept, sym (left_out-cons prefix c cs false kept) ∙ none)
    ]
  where
    not_empty : (n : ℕ) (ns : List ℕ) → n ∷ ns ≡ [] → ⊥
    not_empty n ns e = cc

-- so all characters from there on are kept
left_clean-kept : (prefix cs : List ℕ) → left_out prefix cs ≡ [] → left_clean prefix cs ≡ map spaced cs
left_clean-kept prefix [] none = refl
left_clean-kept prefix (c ∷ cs) none =
    let kept = kept_from prefix c cs none in
    left_clean-cons prefix c cs false kept.0 ∙ ap (λ l. spaced c ∷ l) (left_clean-kept (prefix ++ c ∷ []) cs kept.1)

-- what was cleaned has no separators
map-spaced : (prefix cs : List ℕ) → map spaced (left_clean prefix cs) ≡ left_clean prefix cs
map-spaced prefix [] = refl
map-spaced prefix (c ∷ cs) =
    elim (cases_Bool (is_dropped (prefix ++ (c ∷ cs)) (length prefix, c))) [
      | inl out ↦ let same = left_clean-cons prefix c cs true out in ap (map spaced) same
          ∙ map-spaced (prefix ++ c ∷ []) cs ∙ sym same
      | inr kept ↦
          let same = left_clean-cons prefix c cs false kept in
          ap (map spaced) same ∙ ap (λ k. k ∷ map spaced (left_clean (prefix ++ c ∷ []) cs)) (spaced-spaced c)
          ∙ ap (λ l. spaced c ∷ l) (map-spaced (prefix ++ c ∷ []) cs) ∙ sym same
    ]

-- cleaning a cleaned text changes nothing
pub cleaned_text-cleaned_text : (text : List ℕ) → cleaned_text (cleaned_text text) ≡ cleaned_text text
cleaned_text-cleaned_text text = left_clean-kept [] (cleaned_text text) (dropped_bytes-cleaned text)
    ∙ map-spaced [] text

-- where nothing is left out, each isolate control is in a pair
controls_paired : (prefix cs : List ℕ) (n : ℕ) → left_out prefix cs ≡ [] → n < length cs
    → is_isolate_control (slice_index cs n) ≡ true → is_in_pair (prefix ++ cs) (length prefix + n) ≡ true
controls_paired prefix [] n none within control = absurd (omega arith)
controls_paired prefix (c ∷ cs) zero none within control =
    let text : List ℕ = prefix ++ (c ∷ cs) in
    let kept : not (is_in_pair text (length prefix)) ≡ false =
    sym (ap (λ t. t && not (is_in_pair text (length prefix))) control) ∙ (kept_from prefix c cs none).0 in
    let at : length prefix ≡ length prefix + 0 = omega arith in
    subst (λ n. is_in_pair text n ≡ true) at (not-false (is_in_pair text (length prefix)) kept)
controls_paired prefix (c ∷ cs) (suc n) none within control =
    let later = controls_paired (prefix ++ c ∷ []) cs n (kept_from prefix c cs none).1 (omega arith) control in
    let at : length (prefix ++ c ∷ []) + n ≡ length prefix + suc n = omega (arith, length-append prefix (c ∷ [])) in
    subst (λ k. is_in_pair (prefix ++ (c ∷ cs)) k ≡ true) at
    (subst (λ t. is_in_pair t (length (prefix ++ c ∷ []) + n) ≡ true) (append_assoc prefix (c ∷ []) cs) later)

-- each isolate control of a cleaned text is in a pair
pub cleaned_text-paired : (text : List ℕ) (index : ℕ) → index < length (cleaned_text text)
    → is_isolate_control (slice_index (cleaned_text text) index) ≡ true → is_in_pair (cleaned_text text) index ≡ true
cleaned_text-paired text index within control =
    let at : 0 + index ≡ index = omega arith in
    subst (λ n. is_in_pair (cleaned_text text) n ≡ true) at
    (controls_paired [] (cleaned_text text) index (dropped_bytes-cleaned text) within control)
