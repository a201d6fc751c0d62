-- W1 to W7 in four passes.
use Rattle.std.proofs.Common.{◌≡◌, List, [], ◌∷◌, map, refl, sym, ap, ◌∙◌}
use Rattle.bidi_class.specs.declared.class.Class.{Class}
use Rattle.bidi_class.specs.declared.class.Class.TheVariants.{L, R, AL, EN, NSM, ON}
use Rattle.bidi_order.specs.Resolve.{w1, w2, w3, w4, w5, w6, w7, weak_types}
use Rattle.bidi_preview.specs.WeakSteps.{following_class, following_terminators, leading_terminators}
use Rattle.bidi_preview.specs.WeakSteps.{letters_resolved, rest_resolved, side_after, strong_after}
use Rattle.bidi_preview.specs.WeakSteps.{w1_class, w2_class, w7_class}
use Rattle.bidi_preview.proofs.Terminators.{w5_by}

-- ---- one character at a time

w1-step : (before c : Class) (cs : List Class) → w1 before (c ∷ cs) ≡ w1_class before c ∷ w1 (w1_class before c) cs
w1-step before NSM cs = refl
w1-step before c cs = refl

w2-step : (strong c : Class) (cs : List Class) → w2 strong (c ∷ cs)
    ≡ w2_class c strong ∷ w2 (strong_after strong c) cs
w2-step strong L cs = refl
w2-step strong R cs = refl
w2-step strong AL cs = refl
w2-step AL EN cs = refl
w2-step strong EN cs = refl
w2-step strong c cs = refl

w7-step : (strong c : Class) (cs : List Class) → w7 strong (c ∷ cs)
    ≡ w7_class c strong ∷ w7 (side_after strong c) cs
w7-step strong L cs = refl
w7-step strong R cs = refl
w7-step L EN cs = refl
w7-step strong EN cs = refl
w7-step strong c cs = refl

-- ---- several rules in one pass

letters_by : (before strong : Class) (cs : List Class)
    → map w3 (w2 strong (w1 before cs)) ≡ letters_resolved before strong cs
letters_by before strong [] = refl
letters_by before strong (c ∷ cs) =
    ap (λ l. map w3 (w2 strong l)) (w1-step before c cs)
    ∙ ap (map w3) (w2-step strong (w1_class before c) (w1 (w1_class before c) cs))
    ∙ ap (λ l. w3 (w2_class (w1_class before c) strong) ∷ l)
    (letters_by (w1_class before c) (strong_after strong (w1_class before c)) cs)

rest_by : (before strong : Class) (cs : List Class)
    → w7 strong (map w6 (following_terminators before cs)) ≡ rest_resolved before strong cs
rest_by before strong [] = refl
rest_by before strong (c ∷ cs) =
    w7-step strong (w6 (following_class c before)) (map w6 (following_terminators (following_class c before) cs))
    ∙ ap (λ l. w7_class (w6 (following_class c before)) strong ∷ l)
    (rest_by (following_class c before) (side_after strong (w6 (following_class c before))) cs)

pub weak_by : (sos : Class) (cs : List Class)
    → rest_resolved ON sos (leading_terminators (w4 ON (letters_resolved sos sos cs))) ≡ weak_types sos cs
weak_by sos cs = sym (
    ap (λ l. w7 sos (map w6 (w5 ON (w4 ON l)))) (letters_by sos sos cs)
    ∙ ap (λ l. w7 sos (map w6 l)) (w5_by ON (w4 ON (letters_resolved sos sos cs)))
    ∙ rest_by ON sos (leading_terminators (w4 ON (letters_resolved sos sos cs))))
