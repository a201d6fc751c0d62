-- W1 to W7 on a plain sequence leave no number.
use Rattle.std.proofs.Common.{◌≡◌, Bool, true, false, not, if◌then◌else◌, List, [], ◌∷◌, map, refl}
use Rattle.std.proofs.lemmas.Bool.{both_ways}
use Rattle.bidi_class.specs.declared.class.Class.{Class}
use Rattle.bidi_class.specs.declared.class.Class.TheVariants.{L, R, AL, EN, ES, ET, AN, CS, NSM, ON, LRI, PDI}
use Rattle.bidi_order.specs.DirectionalStatus.{strong_class}
use Rattle.bidi_order.specs.Resolve.{nonspacing_class, w1, w2, w3, separator_class, w4, leads_to_number}
use Rattle.bidi_order.specs.Resolve.{terminator_class, w5, w6, w7, weak_types}
use Rattle.bidi_preview.specs.PlainSteps.{is_plain}

-- each element passes a test
pub data AllPass {A : Type 0} (test : A → Bool) : List A → Type 0 where
  pass_end : AllPass test []
  pass_more : {x : A} {xs : List A} → test x ≡ true → AllPass test xs → AllPass test (x ∷ xs)

-- a plain class that no rule after W7 makes a number
abbrev pub is_settled : Bool → Class → Bool
is_settled d EN = false
is_settled d c = is_plain d c

plain-nonspacing : (d : Bool) (c : Class) → is_plain d c ≡ true → is_plain d (nonspacing_class c) ≡ true
plain-nonspacing d LRI h = refl
plain-nonspacing d PDI h = refl
plain-nonspacing d _ h = h

Plain-w1 : (d : Bool) (before : Class) (cs : List Class) → is_plain d before ≡ true → AllPass (is_plain d) cs
    → AllPass (is_plain d) (w1 before cs)
Plain-w1 d before [] b h = pass_end
Plain-w1 d before (NSM ∷ cs) b (pass_more p h) = pass_more (plain-nonspacing d before b)
    (Plain-w1 d (nonspacing_class before) cs (plain-nonspacing d before b) h)
Plain-w1 d before (c ∷ cs) b (pass_more p h) = pass_more p (Plain-w1 d c cs p h)

not_both : (d : Bool) → d ≡ true → not d ≡ true → ⊥
not_both true s p = both_ways _ refl p
not_both false s p = both_ways _ refl s

Plain-w2 : (d : Bool) (strong : Class) (cs : List Class) → is_plain d strong ≡ true → AllPass (is_plain d) cs
    → AllPass (is_plain d) (w2 strong cs)
Plain-w2 d strong [] s h = pass_end
Plain-w2 d strong (L ∷ cs) s (pass_more p h) = pass_more p (Plain-w2 d L cs p h)
Plain-w2 d strong (R ∷ cs) s (pass_more p h) = pass_more p (Plain-w2 d R cs p h)
Plain-w2 d strong (AL ∷ cs) s (pass_more p h) = pass_more p (Plain-w2 d AL cs p h)
Plain-w2 d AL (EN ∷ cs) s (pass_more p h) = absurd (not_both d s p)
Plain-w2 d strong (c ∷ cs) s (pass_more p h) = pass_more p (Plain-w2 d strong cs s h)

Plain-map : (d : Bool) (f : Class → Class) → ((c : Class) → is_plain d c ≡ true → is_plain d (f c) ≡ true)
    → (cs : List Class) → AllPass (is_plain d) cs → AllPass (is_plain d) (map f cs)
Plain-map d f keeps [] h = pass_end
Plain-map d f keeps (c ∷ cs) (pass_more p h) = pass_more (keeps c p) (Plain-map d f keeps cs h)

plain-w3 : (d : Bool) (c : Class) → is_plain d c ≡ true → is_plain d (w3 c) ≡ true
plain-w3 d AL h = h
plain-w3 d _ h = h

plain-w6 : (d : Bool) (c : Class) → is_plain d c ≡ true → is_plain d (w6 c) ≡ true
plain-w6 d ES h = refl
plain-w6 d ET h = refl
plain-w6 d CS h = refl
plain-w6 d _ h = h

plain-separator : (d : Bool) (before c : Class) (cs : List Class) → is_plain d before ≡ true → is_plain d c ≡ true
    → is_plain d (separator_class before c cs) ≡ true
plain-separator d EN ES (EN ∷ cs) b h = b
plain-separator d EN ES cs b h = h
plain-separator d EN CS (EN ∷ cs) b h = b
plain-separator d EN CS cs b h = h
plain-separator d EN _ cs b h = h
plain-separator d AN CS (AN ∷ cs) b h = b
plain-separator d AN CS cs b h = h
plain-separator d AN _ cs b h = h
plain-separator d _ c cs b h = h

Plain-w4 : (d : Bool) (before : Class) (cs : List Class) → is_plain d before ≡ true → AllPass (is_plain d) cs
    → AllPass (is_plain d) (w4 before cs)
Plain-w4 d before [] b h = pass_end
Plain-w4 d before (c ∷ cs) b (pass_more p h) = pass_more (plain-separator d before c cs b p)
    (Plain-w4 d (separator_class before c cs) cs (plain-separator d before c cs b p) h)

-- where terminators lead to a number, numbers are plain
number_leads : (d : Bool) (cs : List Class) → AllPass (is_plain d) cs → leads_to_number cs ≡ true
    → is_plain d EN ≡ true
number_leads d [] h l = absurd (both_ways _ refl l)
number_leads d (ET ∷ cs) (pass_more p h) l = number_leads d cs h l
number_leads d (EN ∷ cs) (pass_more p h) l = p
number_leads d (c ∷ cs) h l = absurd (both_ways _ refl l)

number_if : (d leads : Bool) → (leads ≡ true → is_plain d EN ≡ true) → is_plain d (if leads then EN else ET) ≡ true
number_if d true f = f refl
number_if d false f = refl

plain-terminator : (d : Bool) (before : Class) (cs : List Class) → is_plain d before ≡ true → AllPass (is_plain d) cs
    → is_plain d (terminator_class before cs) ≡ true
plain-terminator d EN cs b h = b
plain-terminator d _ cs b h = number_if d (leads_to_number cs) (number_leads d cs h)

Plain-w5 : (d : Bool) (before : Class) (cs : List Class) → is_plain d before ≡ true → AllPass (is_plain d) cs
    → AllPass (is_plain d) (w5 before cs)
Plain-w5 d before [] b h = pass_end
Plain-w5 d before (ET ∷ cs) b (pass_more p h) = pass_more (plain-terminator d before cs b h)
    (Plain-w5 d (terminator_class before cs) cs (plain-terminator d before cs b h) h)
Plain-w5 d before (c ∷ cs) b (pass_more p h) = pass_more p (Plain-w5 d c cs p h)

settled-left : (cs : List Class) → AllPass (is_plain false) cs → AllPass (is_settled false) (w7 L cs)
settled-left [] h = pass_end
settled-left (L ∷ cs) (pass_more p h) = pass_more refl (settled-left cs h)
settled-left (R ∷ cs) (pass_more p h) = absurd (both_ways _ refl p)
settled-left (EN ∷ cs) (pass_more p h) = pass_more refl (settled-left cs h)
settled-left (c ∷ cs) (pass_more p h) = pass_more p (settled-left cs h)

settled-right : (cs : List Class) → AllPass (is_plain true) cs → AllPass (is_settled true) (w7 R cs)
settled-right [] h = pass_end
settled-right (L ∷ cs) (pass_more p h) = absurd (both_ways _ refl p)
settled-right (R ∷ cs) (pass_more p h) = pass_more refl (settled-right cs h)
settled-right (EN ∷ cs) (pass_more p h) = absurd (both_ways _ refl p)
settled-right (c ∷ cs) (pass_more p h) = pass_more p (settled-right cs h)

settled-w7 : (d : Bool) (cs : List Class) → AllPass (is_plain d) cs → AllPass (is_settled d) (w7 (strong_class d) cs)
settled-w7 false = settled-left
settled-w7 true = settled-right

plain-strong : (d : Bool) → is_plain d (strong_class d) ≡ true
plain-strong false = refl
plain-strong true = refl

pub settled_weak : (d : Bool) (cs : List Class) → AllPass (is_plain d) cs
    → AllPass (is_settled d) (weak_types (strong_class d) cs)
settled_weak d cs h = settled-w7 d (map w6 (w5 ON (w4 ON (map w3 (w2 (strong_class d) (w1 (strong_class d) cs))))))
    (Plain-map d w6 (plain-w6 d) (w5 ON (w4 ON (map w3 (w2 (strong_class d) (w1 (strong_class d) cs)))))
    (Plain-w5 d ON (w4 ON (map w3 (w2 (strong_class d) (w1 (strong_class d) cs)))) refl
    (Plain-w4 d ON (map w3 (w2 (strong_class d) (w1 (strong_class d) cs))) refl
    (Plain-map d w3 (plain-w3 d) (w2 (strong_class d) (w1 (strong_class d) cs))
    (Plain-w2 d (strong_class d) (w1 (strong_class d) cs) (plain-strong d)
    (Plain-w1 d (strong_class d) cs (plain-strong d) h))))))
