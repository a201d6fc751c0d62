-- A index of a text is in a pair exactly where an initiator has a lone PDI after it, or a PDI a lone initiator before
-- it.
use Rattle.std.proofs.Common.{◌≡◌, ℕ, ◌+◌, ◌-◌, ◌<◌, ◌≤◌, true, ◌||◌, nat_lt, inl, inr, suc, List, length, take, drop}
use Rattle.std.proofs.Common.{slice_index, slice_range, refl, sym, ap, subst, ◌∙◌, arith}
use Rattle.std.proofs.lemmas.Bool.{or_cases, or_left, or_right, lt-ltb, ltb-true, eqb-true, eq-eqb, both_ways}
use Rattle.std.proofs.lemmas.List.{get_or-drop, get_or-take, length-drop, length-take-le, take-take}
use Rattle.bidi_class.specs.Pairs.{is_initiator, is_closing, initiators, closings, is_even, is_led, is_pair, is_in_pair}
use Rattle.bidi_class.proofs.PairParts.{IsPair, between_from, between_until, from_led, is_pair-from, is_pair-parts}
use Rattle.bidi_class.proofs.PairParts.{led_from, list_any-range, range-list_any}
use Rattle.bidi_text.proofs.Isolates.{lone_closings, lone_initiators, closes_at, ClosesAt, lone_closings-gt, opens_at}
use Rattle.bidi_text.proofs.Isolates.{OpensAt, lone_initiators-gt, closing_only}
use Rattle.bidi_text.proofs.Flags.{same_test}

-- an initiator with a lone PDI after it is in a pair
closed_in_pair : (text : List ℕ) (index : ℕ) → is_initiator (slice_index text index) ≡ true
    → 0 < lone_closings (drop (suc index) text) → is_in_pair text index ≡ true
closed_in_pair text index opening some =
    let rest : List ℕ = drop (suc index) text in
    let there = closes_at rest 0 some in
    let n : ℕ = there.0 in
    let closes : ClosesAt rest 0 n = there.1 in
    let second : ℕ = suc index + n in
    let within : second < length text = omega (arith, closes.within, length-drop (suc index) text) in
    let inside : slice_range text (index + 1) second ≡ take n rest = between_from text index second n refl in
    let inside_length : length (take n rest) ≡ n = length-take-le n rest (omega (arith, closes.within)) in
    let pair : IsPair text index second = record {
      ordered = omega arith;
      opening = opening;
      closing = subst (λ c. is_closing c ≡ true) (get_or-drop (suc index) text n 0) closes.closing;
      even = subst (λ cs. is_even cs ≡ true) (sym inside)
          (eq-eqb (initiators (take n rest)) (closings (take n rest)) (omega (arith, closes.balanced)));
      led = subst (λ cs. is_led cs ≡ true) (sym inside) (led_from (take n rest) (λ k h.
          let short : k ≤ n = omega arith in
          subst (λ cs. closings cs ≤ initiators cs) (sym (take-take k n rest short))
          (omega (arith, closes.led k short))));
    } in
    list_any-range (λ other. is_pair text index other || is_pair text other index) 0 (length text) second
    (omega arith) (omega arith)
    (or_left _ _ (is_pair-from text index second pair))

-- and one in a pair has such a PDI
in_pair_closed : (text : List ℕ) (index : ℕ) → is_initiator (slice_index text index) ≡ true
    → is_in_pair text index ≡ true → 0 < lone_closings (drop (suc index) text)
in_pair_closed text index opening h =
    let found = range-list_any (λ other. is_pair text index other || is_pair text other index) 0 (length text) h in
    let second : ℕ = found.0 in
    elim (or_cases (is_pair text index second) (is_pair text second index) found.2) [
      | inl after ↦ closed_by second found.1 (is_pair-parts text index second after)
      | inr before ↦ absurd
          (both_ways _ (closing_only (slice_index text index) (is_pair-parts text second index before).closing) opening)
    ]
  where
    closed_by : (second : ℕ) → second < 0 + length text → IsPair text index second
        → 0 < lone_closings (drop (suc index) text)
    closed_by second within pair =
        let rest : List ℕ = drop (suc index) text in
        let n : ℕ = second - suc index in
        let at : second ≡ suc index + n = omega (arith, pair.ordered) in
        let inside : slice_range text (index + 1) second ≡ take n rest = between_from text index second n at in
        let even : is_even (take n rest) ≡ true = subst (λ cs. is_even cs ≡ true) inside pair.even in
        let led : is_led (take n rest) ≡ true = subst (λ cs. is_led cs ≡ true) inside pair.led in
        let long : n < length rest = omega (arith, length-drop (suc index) text) in
        let inside_length : length (take n rest) ≡ n = length-take-le n rest (omega arith) in
        lone_closings-gt rest 0 n (record {
          within = long;
          closing = subst (λ c. is_closing c ≡ true) (ap (λ k. slice_index text k) at
              ∙ sym (get_or-drop (suc index) text n 0)) pair.closing;
          balanced = omega (arith, eqb-true (initiators (take n rest)) (closings (take n rest)) even);
          led = λ k h.
              let prefix : closings (take k (take n rest)) ≤ initiators (take k (take n rest)) =
              from_led (take n rest) k led (omega arith) in
              let same : closings (take k rest) ≤ initiators (take k rest) = subst (λ cs. closings cs ≤ initiators cs)
              (take-take k n rest h) prefix in
              omega arith;
        })

-- a PDI with a lone initiator before it is in a pair
opened_in_pair : (text : List ℕ) (index : ℕ) → index < length text → is_closing (slice_index text index) ≡ true
    → 0 < lone_initiators (take index text) → is_in_pair text index ≡ true
opened_in_pair text index within closing some =
    let prefix : List ℕ = take index text in
    let there = opens_at prefix some in
    let first : ℕ = there.0 in
    let opens : OpensAt prefix first = there.1 in
    let prefix_length : length prefix ≡ index = length-take-le index text (omega arith) in
    let before : first < index = omega (arith, opens.within) in
    let inside : slice_range text (first + 1) index ≡ drop (suc first) prefix = between_until text first index before in
    let pair : IsPair text first index = record {
      ordered = before;
      opening = subst (λ c. is_initiator c ≡ true) (get_or-take index text first 0 before) opens.opening;
      closing = closing;
      even = subst (λ cs. is_even cs ≡ true) (sym inside)
          (eq-eqb (initiators (drop (suc first) prefix)) (closings (drop (suc first) prefix)) opens.even);
      led = subst (λ cs. is_led cs ≡ true) (sym inside) (led_from (drop (suc first) prefix) opens.led);
    } in
    list_any-range (λ other. is_pair text index other || is_pair text other index) 0 (length text) first (omega arith)
    (omega arith)
    (or_right _ _ (is_pair-from text first index pair))

-- and one in a pair has such an initiator
in_pair_opened : (text : List ℕ) (index : ℕ) → index < length text → is_closing (slice_index text index) ≡ true
    → is_in_pair text index ≡ true → 0 < lone_initiators (take index text)
in_pair_opened text index within closing h =
    let found = range-list_any (λ other. is_pair text index other || is_pair text other index) 0 (length text) h in
    let first : ℕ = found.0 in
    elim (or_cases (is_pair text index first) (is_pair text first index) found.2) [
      | inl after ↦ absurd (both_ways _ (closing_only (slice_index text index) closing)
          (is_pair-parts text index first after).opening)
      | inr before ↦ opened_by first (is_pair-parts text first index before)
    ]
  where
    opened_by : (first : ℕ) → IsPair text first index → 0 < lone_initiators (take index text)
    opened_by first pair =
        let prefix : List ℕ = take index text in
        let prefix_length : length prefix ≡ index = length-take-le index text (omega arith) in
        let inside : slice_range text (first + 1) index ≡ drop (suc first) prefix =
        between_until text first index pair.ordered in
        let even : is_even (drop (suc first) prefix) ≡ true = subst (λ cs. is_even cs ≡ true) inside pair.even in
        let led : is_led (drop (suc first) prefix) ≡ true = subst (λ cs. is_led cs ≡ true) inside pair.led in
        lone_initiators-gt prefix first (record {
          within = omega (arith, pair.ordered);
          opening = subst (λ c. is_initiator c ≡ true) (sym (get_or-take index text first 0 pair.ordered)) pair.opening;
          even = eqb-true (initiators (drop (suc first) prefix)) (closings (drop (suc first) prefix)) even;
          led = λ k h. from_led (drop (suc first) prefix) k led h;
        })

-- an initiator is in a pair exactly where a lone PDI follows it
pub is_in_pair-initiator : (text : List ℕ) (index : ℕ) → is_initiator (slice_index text index) ≡ true
    → is_in_pair text index ≡ nat_lt 0 (lone_closings (drop (suc index) text))
is_in_pair-initiator text index opening =
    same_test _ _ (λ h. lt-ltb 0 (lone_closings (drop (suc index) text)) (in_pair_closed text index opening h))
    (λ h. closed_in_pair text index opening (ltb-true 0 (lone_closings (drop (suc index) text)) h))

-- a PDI is in a pair exactly where a lone initiator comes before it
pub is_in_pair-closing : (text : List ℕ) (index : ℕ) → index < length text → is_closing (slice_index text index) ≡ true
    → is_in_pair text index ≡ nat_lt 0 (lone_initiators (take index text))
is_in_pair-closing text index within closing =
    same_test _ _ (λ h. lt-ltb 0 (lone_initiators (take index text)) (in_pair_opened text index within closing h))
    (λ h. opened_in_pair text index within closing (ltb-true 0 (lone_initiators (take index text)) h))
