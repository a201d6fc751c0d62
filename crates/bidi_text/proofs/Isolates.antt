-- Counts of isolate controls that match nothing in a text, and where a match is.
use Rattle.std.proofs.Common.{◌≡◌, ℕ, ◌+◌, ◌-◌, ◌<◌, ◌≤◌, true, false, ◌==◌, ◌⊎◌, inl, inr, zero, suc, List, [], ◌∷◌}
use Rattle.std.proofs.Common.{length, take, drop, slice_index, refl, ap, ◌∙◌, if◌then◌else◌, cond, arith}
use Rattle.std.proofs.lemmas.Bool.{cond-true, cond-false, cases_lt, ne_eqb, eq-eqb, both_ways}
use Rattle.std.proofs.lemmas.List.Sums.{sum_by-cons, count_by_more_yes, count_by_more_no}
use Rattle.bidi_class.specs.declared.class.Class.{Class}
use Rattle.bidi_class.specs.declared.class.Class.TheVariants.{LRI, RLI, FSI, PDI}
use Rattle.bidi_class.specs.Class.{bidi_class, begins_isolate}
use Rattle.bidi_class.specs.Pairs.{ends_isolate, is_initiator, is_closing, initiators, closings}

-- what a character does to an isolate
pub data Role (c : ℕ) : Type 0 where
  Begins : is_initiator c ≡ true → is_closing c ≡ false → Role c
  Ends : is_initiator c ≡ false → is_closing c ≡ true → Role c
  Stays : is_initiator c ≡ false → is_closing c ≡ false → Role c

class_role : (k : Class)
    → ((begins_isolate k ≡ true) × (ends_isolate k ≡ false)) ⊎
    (((begins_isolate k ≡ false) × (ends_isolate k ≡ true)) ⊎ ((begins_isolate k ≡ false) × (ends_isolate k ≡ false)))
class_role LRI = inl (refl, refl)
class_role RLI = inl (refl, refl)
class_role FSI = inl (refl, refl)
class_role PDI = inr (inl (refl, refl))
class_role _ = inr (inr (refl, refl))

-- no character both begins and ends one
pub role : (c : ℕ) → Role c
role c = elim (class_role (bidi_class c)) [
  | inl h ↦ Begins h.0 h.1
  | inr rest ↦
      elim rest [ inl h ↦ Ends h.0 h.1 | inr h ↦ Stays h.0 h.1 ]
]

-- how many PDIs match nothing in the text
abbrev pub lone_closings : List ℕ → ℕ
lone_closings [] = 0
lone_closings (c ∷ cs) = if is_initiator c then lone_closings cs - 1 else if is_closing c then lone_closings cs + 1
    else lone_closings cs

-- how many initiators match nothing in the text
abbrev pub lone_initiators : List ℕ → ℕ
lone_initiators [] = 0
lone_initiators (c ∷ cs) = if is_initiator c then (if lone_closings cs == 0 then lone_initiators cs + 1
    else lone_initiators cs) else lone_initiators cs

-- the first character's part in a count
initiators-cons : (c : ℕ) (cs : List ℕ) → initiators (c ∷ cs) ≡ (if is_initiator c then 1 else 0) + initiators cs
initiators-cons c cs = sum_by-cons (λ (x : ℕ). cond (is_initiator x) 1 0) c cs

closings-cons : (c : ℕ) (cs : List ℕ) → closings (c ∷ cs) ≡ (if is_closing c then 1 else 0) + closings cs
closings-cons c cs = sum_by-cons (λ (x : ℕ). cond (is_closing x) 1 0) c cs

-- what the first character adds to the counts of a text
pub record Counts (c : ℕ) (cs : List ℕ) (begun ended lone_ends lone_begins : ℕ) : Type 0 where
  pub initiators_are : (ds : List ℕ) → initiators (c ∷ ds) ≡ begun + initiators ds
  pub closings_are : (ds : List ℕ) → closings (c ∷ ds) ≡ ended + closings ds
  pub lone_closings_are : lone_closings (c ∷ cs) ≡ lone_ends
  pub lone_initiators_are : lone_initiators (c ∷ cs) ≡ lone_begins

-- the first character of a text: an initiator that matches a PDI of the rest or none, a PDI, or another
pub data First (c : ℕ) (cs : List ℕ) : Type 0 where
  BeginsLone : is_initiator c ≡ true → is_closing c ≡ false → lone_closings cs ≡ 0
      → Counts c cs 1 0 0 (lone_initiators cs + 1) → First c cs
  BeginsMatched : is_initiator c ≡ true → is_closing c ≡ false → 0 < lone_closings cs
      → Counts c cs 1 0 (lone_closings cs - 1) (lone_initiators cs) → First c cs
  EndsOne : is_initiator c ≡ false → is_closing c ≡ true → Counts c cs 0 1 (lone_closings cs + 1) (lone_initiators cs)
      → First c cs
  StaysOut : is_initiator c ≡ false → is_closing c ≡ false → Counts c cs 0 0 (lone_closings cs) (lone_initiators cs)
      → First c cs

pub first : (c : ℕ) (cs : List ℕ) → First c cs
first c cs =
    elim (role c) [
      | Begins b e ↦ elim (cases_lt 0 (lone_closings cs)) [
        | inl some ↦ BeginsMatched b e some (record {
          initiators_are = λ ds. initiators-cons c ds ∙ ap (λ n. n + initiators ds) (cond-true _ 1 0 b);
          closings_are = λ ds. closings-cons c ds ∙ ap (λ n. n + closings ds) (cond-false _ 1 0 e);
          lone_closings_are = cond-true _ _ _ b;
          lone_initiators_are = cond-true _ _ _ b
              ∙ cond-false _ _ _ (ne_eqb (lone_closings cs) 0 (λ none. absurd (omega arith)));
        })
        | inr none ↦ BeginsLone b e (omega arith) (record {
          initiators_are = λ ds. initiators-cons c ds ∙ ap (λ n. n + initiators ds) (cond-true _ 1 0 b);
          closings_are = λ ds. closings-cons c ds ∙ ap (λ n. n + closings ds) (cond-false _ 1 0 e);
          lone_closings_are = cond-true _ _ _ b ∙ omega arith;
          lone_initiators_are = cond-true _ _ _ b ∙ cond-true _ _ _ (eq-eqb (lone_closings cs) 0 (omega arith));
        })
      ]
      | Ends b e ↦ EndsOne b e (record {
        initiators_are = λ ds. initiators-cons c ds ∙ ap (λ n. n + initiators ds) (cond-false _ 1 0 b);
        closings_are = λ ds. closings-cons c ds ∙ ap (λ n. n + closings ds) (cond-true _ 1 0 e);
        lone_closings_are = cond-false _ _ _ b ∙ cond-true _ _ _ e;
        lone_initiators_are = cond-false _ _ _ b;
      })
      | Stays b e ↦ StaysOut b e (record {
        initiators_are = λ ds. initiators-cons c ds ∙ ap (λ n. n + initiators ds) (cond-false _ 1 0 b);
        closings_are = λ ds. closings-cons c ds ∙ ap (λ n. n + closings ds) (cond-false _ 1 0 e);
        lone_closings_are = cond-false _ _ _ b ∙ cond-false _ _ _ e;
        lone_initiators_are = cond-false _ _ _ b;
      })
    ]

-- initiators and PDIs differ by those that match nothing
pub initiators-closings : (cs : List ℕ) → initiators cs + lone_closings cs ≡ closings cs + lone_initiators cs
initiators-closings [] = refl
initiators-closings (c ∷ cs) =
    let rest = initiators-closings cs in
    elim (first c cs) [
      | BeginsLone b e none counts ↦ omega (arith, counts.initiators_are cs, counts.closings_are cs)
      | BeginsMatched b e some counts ↦ omega (arith, counts.initiators_are cs, counts.closings_are cs)
      | EndsOne b e counts ↦ omega (arith, counts.initiators_are cs, counts.closings_are cs)
      | StaysOut b e counts ↦ omega (arith, counts.initiators_are cs, counts.closings_are cs)
    ]

-- no prefix holds more PDIs than initiators by more than the lone ones
pub closings-take-le : (cs : List ℕ) (n : ℕ) → closings (take n cs) ≤ initiators (take n cs) + lone_closings cs
closings-take-le [] zero = omega arith
closings-take-le [] (suc n) = omega arith
closings-take-le (c ∷ cs) zero = omega arith
closings-take-le (c ∷ cs) (suc n) =
    let rest = closings-take-le cs n in
    elim (first c cs) [
      | BeginsLone b e none counts ↦ omega (arith, counts.initiators_are (take n cs), counts.closings_are (take n cs))
      | BeginsMatched b e some counts ↦
          omega (arith, counts.initiators_are (take n cs), counts.closings_are (take n cs))
      | EndsOne b e counts ↦ omega (arith, counts.initiators_are (take n cs), counts.closings_are (take n cs))
      | StaysOut b e counts ↦ omega (arith, counts.initiators_are (take n cs), counts.closings_are (take n cs))
    ]

-- where no prefix holds more by more than some number, no more are lone
pub lone_closings-le : (cs : List ℕ) (d : ℕ)
    → ((n : ℕ) → n ≤ length cs → closings (take n cs) ≤ initiators (take n cs) + d) → lone_closings cs ≤ d
lone_closings-le [] d led = omega arith
lone_closings-le (c ∷ cs) d led =
    elim (first c cs) [
      | BeginsLone b e none counts ↦ omega arith
      | BeginsMatched b e some counts ↦
          let rest : lone_closings cs ≤ d + 1 = lone_closings-le cs (d + 1) (λ n h.
          omega (
            arith,
            led (suc n) (omega arith),
            counts.initiators_are (take n cs),
            counts.closings_are
                (take n cs),
          )) in
          omega arith
      | EndsOne b e counts ↦
          let some : 1 ≤ d = omega (arith, led 1 (omega arith), counts.initiators_are [], counts.closings_are []) in
          let rest : lone_closings cs ≤ d - 1 = lone_closings-le cs (d - 1) (λ n h.
          omega (
            arith,
            led (suc n) (omega arith),
            counts.initiators_are (take n cs),
            counts.closings_are
                (take n cs),
          )) in
          omega arith
      | StaysOut b e counts ↦
          let rest : lone_closings cs ≤ d = lone_closings-le cs d (λ n h.
          omega (
            arith,
            led (suc n) (omega arith),
            counts.initiators_are (take n cs),
            counts.closings_are
                (take n cs),
          )) in
          omega arith
    ]

-- the PDI at a index is the first that finds more than some number of open initiators before it closed
pub record ClosesAt (cs : List ℕ) (d index : ℕ) : Type 0 where
  pub within : index < length cs
  pub closing : is_closing (slice_index cs index) ≡ true
  pub balanced : closings (take index cs) ≡ initiators (take index cs) + d
  pub led : (n : ℕ) → n ≤ index → closings (take n cs) ≤ initiators (take n cs) + d

-- the same with one more character before the text
closes_later : (c : ℕ) (cs : List ℕ) (d d' index begun ended lone_ends lone_begins : ℕ)
    → Counts c cs begun ended lone_ends lone_begins → d' + ended ≡ d + begun
    → ClosesAt cs d' index → ClosesAt (c ∷ cs) d (suc index)
closes_later c cs d d' index begun ended lone_ends lone_begins counts same at = record {
  within = omega (arith, at.within);
  closing = at.closing;
  balanced = omega (arith, at.balanced, counts.closings_are (take index cs), counts.initiators_are (take index cs));
  led = led_later;
}
  where
    led_later : (n : ℕ) → n ≤ suc index → closings (take n (c ∷ cs)) ≤ initiators (take n (c ∷ cs)) + d
    led_later zero h = omega arith
    led_later (suc n) h =
        omega (arith, at.led n (omega arith), counts.closings_are (take n cs), counts.initiators_are (take n cs))

-- where more PDIs than that are lone there is such a index
pub closes_at : (cs : List ℕ) (d : ℕ) → d < lone_closings cs → (index : ℕ) × ClosesAt cs d index
closes_at [] d more = absurd (omega arith)
closes_at (c ∷ cs) d more =
    elim (first c cs) [
      | BeginsLone b e none counts ↦ absurd (omega arith)
      | BeginsMatched b e some counts ↦
          let there = closes_at cs (d + 1) (omega arith) in
          (suc there.0, closes_later c cs d (d + 1) there.0 _ _ _ _ counts (omega arith) there.1)
      | EndsOne b e counts ↦ elim (cases_lt 0 d) [
        | inl some ↦ let there = closes_at cs (d - 1) (omega arith) in
            (suc there.0, closes_later c cs d (d - 1) there.0 _ _ _ _ counts (omega arith) there.1)
        | inr none ↦ (
          0,
          record {
            within = omega arith;
            closing = e;
            balanced = omega arith;
            led = λ n h. rw (zero_from_le n h) (omega arith);
          },
        )
      ]
      | StaysOut b e counts ↦ let there = closes_at cs d (omega arith) in
          (suc there.0, closes_later c cs d d there.0 _ _ _ _ counts (omega arith) there.1)
    ]
  where
    zero_from_le : (n : ℕ) → n ≤ 0 → n ≡ 0
    zero_from_le n h = omega arith

-- a PDI is no initiator
pub closing_only : (c : ℕ) → is_closing c ≡ true → is_initiator c ≡ false
closing_only c h = elim (role c) [ Begins b e ↦ absurd (both_ways _ e h) | Ends b e ↦ b | Stays b e ↦ b ]

-- such a index shows that more are lone
pub lone_closings-gt : (cs : List ℕ) (d index : ℕ) → ClosesAt cs d index → d < lone_closings cs
lone_closings-gt cs d index at =
    omega (
      arith,
      closings-take-le cs (index + 1),
      at.balanced,
      count_by_more_yes is_closing cs index 0 at.within at.closing,
      count_by_more_no is_initiator cs index 0 at.within (closing_only (slice_index cs index) at.closing),
    )

-- the initiator at a index is open at the end of the text, with all after it in pairs
pub record OpensAt (cs : List ℕ) (index : ℕ) : Type 0 where
  pub within : index < length cs
  pub opening : is_initiator (slice_index cs index) ≡ true
  pub even : initiators (drop (suc index) cs) ≡ closings (drop (suc index) cs)
  pub led : (n : ℕ) → n ≤ length (drop (suc index) cs) → closings (take n (drop (suc index) cs)) ≤ initiators
      (take n (drop (suc index) cs))

-- where an initiator is lone there is such a index
pub opens_at : (cs : List ℕ) → 0 < lone_initiators cs → (index : ℕ) × OpensAt cs index
opens_at [] some = absurd (omega arith)
opens_at (c ∷ cs) some =
    elim (cases_lt 0 (lone_initiators cs)) [
      | inl later ↦ let there = opens_at cs later in (
        suc there.0,
        record {
          within = omega (arith, there.1.within);
          opening = there.1.opening;
          even = there.1.even;
          led = there.1.led;
        },
      )
      | inr none ↦ elim (first c cs) [
        | BeginsLone b e matched counts ↦ (
          0,
          record {
            within = omega arith;
            opening = b;
            even = omega (arith, initiators-closings cs);
            led = λ n h. omega (arith, closings-take-le cs n);
          },
        )
        | BeginsMatched b e matched counts ↦ absurd (omega arith)
        | EndsOne b e counts ↦ absurd (omega arith)
        | StaysOut b e counts ↦ absurd (omega arith)
      ]
    ]

-- such a index shows that one is lone
pub lone_initiators-gt : (cs : List ℕ) (index : ℕ) → OpensAt cs index → 0 < lone_initiators cs
lone_initiators-gt [] index at = absurd (omega (arith, at.within))
lone_initiators-gt (c ∷ cs) zero at =
    let none : lone_closings cs ≤ 0 = lone_closings-le cs 0 (λ n h. omega (arith, at.led n h)) in
    elim (first c cs) [
      | BeginsLone b e matched counts ↦ omega arith
      | BeginsMatched b e matched counts ↦ absurd (omega arith)
      | EndsOne b e counts ↦ absurd (both_ways _ b at.opening)
      | StaysOut b e counts ↦ absurd (both_ways _ b at.opening)
    ]
lone_initiators-gt (c ∷ cs) (suc index) at =
    let rest : 0 < lone_initiators cs =
    lone_initiators-gt cs index (record {
      within = omega (arith, at.within);
      opening = at.opening;
      even = at.even;
      led = at.led;
    }) in
    elim (first c cs) [
      | BeginsLone b e matched counts ↦ omega arith
      | BeginsMatched b e matched counts ↦ omega arith
      | EndsOne b e counts ↦ omega arith
      | StaysOut b e counts ↦ omega arith
    ]
