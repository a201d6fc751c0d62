-- The isolate controls of a cleaned text match: each of them is in a pair, so none is lone.
use Rattle.std.proofs.Common.{◌≡◌, ℕ, suc, ◌+◌, ◌-◌, ◌≤◌, true, false, ◌==◌, nat_lt, inl, inr, List, [], ◌∷◌}
use Rattle.std.proofs.Common.{take, drop, length, slice_index, refl, sym, subst, ◌∙◌, arith}
use Rattle.std.proofs.lemmas.Bool.{cond-true, cond-false, cases_Bool, cases_lt, both_ways, eq-eqb, ltb-true, or_left}
use Rattle.std.proofs.lemmas.Bool.{or_right}
use Rattle.std.proofs.lemmas.List.{length-take-le, take-take}
use Rattle.bidi_class.specs.Pairs.{is_initiator, is_closing, initiators, closings}
use Rattle.bidi_text.specs.Clean.{cleaned_text, is_isolate_control}
use Rattle.bidi_text.proofs.CleanedTwice.{cleaned_text-paired}
use Rattle.bidi_text.proofs.Isolates.{role, lone_closings, lone_initiators, lone_closings-le, initiators-closings}
use Rattle.bidi_text.proofs.Isolates.{ClosesAt, closes_at, OpensAt, opens_at}
use Rattle.bidi_text.proofs.Isolates.Role.{Begins, Ends, Stays}
use Rattle.bidi_text.proofs.Matched.{is_in_pair-initiator, is_in_pair-closing}
use Rattle.bidi_order.proofs.RestoredStatus.{Matched}
use Rattle.bidi_order.proofs.RestoredStatus.Matched.{matched_end, matched_opens, matched_ends, matched_plain}

-- a text without lone initiators, and with so many lone PDIs
lone-Matched : (d : ℕ) (cs : List ℕ) → lone_closings cs ≡ d → lone_initiators cs ≡ 0 → Matched d cs
lone-Matched d [] e f = subst (λ d. Matched d []) e matched_end
lone-Matched d (c ∷ cs) e f =
    elim (role c) [
      | Begins b n ↦
          let now : (lone_closings cs - 1) ≡ d = sym (cond-true _ _ _ b) ∙ e in
          elim (cases_Bool (lone_closings cs == 0)) [
            | inl none ↦ absurd (omega (
              arith,
              sym (cond-true (lone_closings cs == 0) (lone_initiators cs + 1) (lone_initiators cs) none)
                  ∙ sym (cond-true (is_initiator c) _ _ b) ∙ f,
            ))
            | inr some ↦ matched_opens b
                (lone-Matched (suc d) cs (more some now) (sym (cond-false _ _ _ some) ∙ sym (cond-true _ _ _ b) ∙ f))
          ]
      | Ends n k ↦
          let now : lone_closings cs + 1 ≡ d = sym (cond-true _ _ _ k) ∙ sym (cond-false _ _ _ n) ∙ e in
          let down : suc (lone_closings cs) ≡ d = omega arith in
          subst (λ d. Matched d (c ∷ cs)) down
          (matched_ends k (lone-Matched (lone_closings cs) cs refl (sym (cond-false _ _ _ n) ∙ f)))
      | Stays n k ↦ matched_plain n k (lone-Matched d cs (sym (cond-false _ _ _ k) ∙ sym (cond-false _ _ _ n) ∙ e)
          (sym (cond-false _ _ _ n) ∙ f))
    ]
  where
    grow : (n : ℕ) → (n ≡ 0 → ⊥) → n - 1 ≡ d → n ≡ suc d
    grow n some now = omega arith

    more : (lone_closings cs == 0) ≡ false → lone_closings cs - 1 ≡ d → lone_closings cs ≡ suc d
    more some now = grow (lone_closings cs) (λ z. both_ways _ some (eq-eqb (lone_closings cs) 0 z)) now

-- no initiator of a cleaned text is lone: it would be in no pair
cleaned-initiators : (text : List ℕ) → lone_initiators (cleaned_text text) ≡ 0
cleaned-initiators text =
    let cs : List ℕ = cleaned_text text in
    elim (cases_lt 0 (lone_initiators cs)) [
      | inl some ↦
          let there = opens_at cs some in
          let n : ℕ = there.0 in
          let opens : OpensAt cs n = there.1 in
          let rest : List ℕ = drop (suc n) cs in
          let none : lone_closings rest ≤ 0 = lone_closings-le rest 0 (λ m h. omega (arith, opens.led m h)) in
          let control : is_isolate_control (slice_index cs n) ≡ true =
          or_left (is_initiator (slice_index cs n)) (is_closing (slice_index cs n)) opens.opening in
          let paired : nat_lt 0 (lone_closings rest) ≡ true =
          sym (is_in_pair-initiator cs n opens.opening) ∙ cleaned_text-paired text n opens.within control in
          absurd (omega (arith, ltb-true 0 (lone_closings rest) paired))
      | inr none ↦ omega arith
    ]

-- nor is a PDI
cleaned-closings : (text : List ℕ) → lone_closings (cleaned_text text) ≡ 0
cleaned-closings text =
    let cs : List ℕ = cleaned_text text in
    elim (cases_lt 0 (lone_closings cs)) [
      | inl some ↦
          let there = closes_at cs 0 some in
          let n : ℕ = there.0 in
          let closes : ClosesAt cs 0 n = there.1 in
          let before : List ℕ = take n cs in
          let long : length before ≡ n = length-take-le n cs (omega (arith, closes.within)) in
          let led : (m : ℕ) → m ≤ length before → closings (take m before) ≤ initiators (take m before) + 0 = λ m h.
          let short : m ≤ n = omega arith in
          subst (λ ds. closings ds ≤ initiators ds + 0) (sym (take-take m n cs short)) (closes.led m short) in
          let none : lone_closings before ≤ 0 = lone_closings-le before 0 led in
          let control : is_isolate_control (slice_index cs n) ≡ true =
          or_right (is_initiator (slice_index cs n)) (is_closing (slice_index cs n)) closes.closing in
          let paired : nat_lt 0 (lone_initiators before) ≡ true =
          sym (is_in_pair-closing cs n closes.within closes.closing)
          ∙ cleaned_text-paired text n closes.within control in
          absurd (omega (
            arith,
            initiators-closings before,
            closes.balanced,
            ltb-true 0 (lone_initiators before) paired,
          ))
      | inr none ↦ omega arith
    ]

pub Matched-cleaned : (text : List ℕ) → Matched 0 (cleaned_text text)
Matched-cleaned text =
    lone-Matched 0 (cleaned_text text) (cleaned-closings text) (cleaned-initiators text)
