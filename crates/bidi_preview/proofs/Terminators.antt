-- W5 in two steps: terminators before numbers, and then terminators after numbers.
use Rattle.std.proofs.Common.{◌≡◌, Bool, true, false, List, [], ◌∷◌, refl, sym, ap, ◌∙◌, inl, inr}
use Rattle.std.proofs.lemmas.Bool.{both_ways, cases_Bool, cond-true, cond-false}
use Rattle.bidi_class.specs.declared.class.Class.{Class}
use Rattle.bidi_class.specs.declared.class.Class.TheVariants.{EN, ET, ON}
use Rattle.bidi_order.specs.Resolve.{leads_to_number, terminator_class, w5}
use Rattle.bidi_preview.specs.WeakSteps.{first_or, following_class, following_terminators, leading_class}
use Rattle.bidi_preview.specs.WeakSteps.{leading_terminators}

abbrev is_number : Class → Bool
is_number EN = true
is_number _ = false

number_is : (c : Class) → is_number c ≡ true → c ≡ EN
number_is EN e = refl
number_is _ e = absurd (both_ways false refl e)

leading-other : (c : Class) → is_number c ≡ false → leading_class ET c ≡ ET
leading-other EN e = absurd (both_ways true e refl)
leading-other _ e = refl

number-leading : (c : Class) → is_number (leading_class ET c) ≡ is_number c
number-leading EN = refl
number-leading _ = refl

leads : (cs : List Class) → is_number (first_or ON (leading_terminators cs)) ≡ leads_to_number cs
leads [] = refl
leads (ET ∷ cs) = number-leading (first_or ON (leading_terminators cs)) ∙ leads cs
leads (EN ∷ cs) = refl
leads (_ ∷ cs) = refl

terminator-leads : (before : Class) (cs : List Class) → leads_to_number cs ≡ true → terminator_class before cs ≡ EN
terminator-leads EN cs e = refl
terminator-leads _ cs e = cond-true _ _ _ e

terminator-ends : (before : Class) (cs : List Class) → leads_to_number cs ≡ false
    → terminator_class before cs ≡ following_class ET before
terminator-ends EN cs e = refl
terminator-ends _ cs e = cond-false _ _ _ e

terminator : (before : Class) (cs : List Class) → terminator_class before cs
    ≡ following_class (leading_class ET (first_or ON (leading_terminators cs))) before
terminator before cs =
    let h : Class = first_or ON (leading_terminators cs) in
    elim (cases_Bool (leads_to_number cs)) [
      | inl e ↦ terminator-leads before cs e
          ∙ sym (ap (λ c. following_class (leading_class ET c) before) (number_is h (leads cs ∙ e)))
      | inr e ↦ terminator-ends before cs e
          ∙ sym (ap (λ c. following_class c before) (leading-other h (leads cs ∙ e)))
    ]

pub w5_by : (before : Class) (cs : List Class) → w5 before cs
    ≡ following_terminators before (leading_terminators cs)
w5_by before [] = refl
w5_by before (ET ∷ cs) =
    ap (λ c. c ∷ w5 c cs) (terminator before cs)
    ∙ ap (λ l. following_class (leading_class ET (first_or ON (leading_terminators cs))) before ∷ l)
    (w5_by (following_class (leading_class ET (first_or ON (leading_terminators cs))) before) cs)
w5_by before (c ∷ cs) = ap (λ l. c ∷ l) (w5_by c cs)
