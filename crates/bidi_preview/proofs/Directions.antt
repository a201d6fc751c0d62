-- The directions behind the ends of open isolates, known from the end of a line on (UAX #9, X5c).
use Rattle.std.proofs.Common.{◌≡◌, ℕ, zero, suc, ◌+◌, ◌<◌, Bool, false, List, [], ◌∷◌, drop, get_or, refl, sym}
use Rattle.std.proofs.Common.{ap, ◌∙◌}
use Rattle.std.specs.List.{list_any}
use Rattle.std.proofs.Common.{arith, take, length, subst}
use Rattle.std.proofs.Math.ListN.{drop_of_length-le, set}
use Rattle.std.proofs.lemmas.List.{drop-set, drop_more, get_or-take, length-set, take-set}
use Rattle.bidi_class.specs.declared.class.Class.{Class}
use Rattle.bidi_class.specs.declared.class.Class.TheVariants.{L, R, AL, LRI, RLI, FSI, PDI}
use Rattle.bidi_preview.specs.ExplicitSteps.{DirectedFrom, KnowsSides, directed_by, directed_classes, is_first_strong}
use Rattle.bidi_preview.specs.ExplicitSteps.{sides_before}

second : (sides : List Bool) (n : ℕ) → get_or (drop 1 sides) n false ≡ get_or sides (suc n) false
second [] n = refl
second (s ∷ sides) n = refl

pub sides_read : (c : Class) (cs : List Class) (sides : List Bool) → KnowsSides sides cs
    → KnowsSides (sides_before c sides) (c ∷ cs)
sides_read LRI cs sides h n = second sides n ∙ h (suc n)
sides_read RLI cs sides h n = second sides n ∙ h (suc n)
sides_read FSI cs sides h n = second sides n ∙ h (suc n)
sides_read PDI cs sides h zero = refl
sides_read PDI cs sides h (suc n) = h n
sides_read L cs sides h zero = refl
sides_read L cs sides h (suc n) = second sides n ∙ h (suc n)
sides_read R cs sides h zero = refl
sides_read R cs sides h (suc n) = second sides n ∙ h (suc n)
sides_read AL cs sides h zero = refl
sides_read AL cs sides h (suc n) = second sides n ∙ h (suc n)
sides_read c cs sides h n = h n

pub sides_none : KnowsSides [] []
sides_none n = refl

up : (i : ℕ) → i + 1 ≡ suc i
up i = omega arith

front-get : (i : ℕ) (xs ys : List Class) (d : Class) → take (i + 1) xs ≡ take (i + 1) ys → get_or xs i d ≡ get_or ys i d
front-get i xs ys d e = sym (get_or-take (i + 1) xs i d (omega arith)) ∙ ap (λ l. get_or l i d) e
    ∙ get_or-take (i + 1) ys i d (omega arith)

shorter : (i : ℕ) (l : List Class) → take i (take (suc i) l) ≡ take i l
shorter zero l = refl
shorter (suc i) [] = refl
shorter (suc i) (x ∷ l) = ap (λ t. x ∷ t) (shorter i l)

front-less : (i : ℕ) (xs ys : List Class) → take (i + 1) xs ≡ take (i + 1) ys → take i xs ≡ take i ys
front-less i xs ys e = sym (ap (λ n. take i (take n xs)) (up i) ∙ shorter i xs) ∙ ap (take i) e
    ∙ ap (λ n. take i (take n ys)) (up i) ∙ shorter i ys

pub directed_more : (initial : List Class) (i : ℕ) (sides : List Bool) (xs : List Class) (d : Class) → i < length xs
    → DirectedFrom initial (i + 1) sides xs
    → DirectedFrom initial i (sides_before (get_or xs i d) sides)
    (set xs i (directed_by (get_or xs i d) (get_or sides 0 false)))
directed_more initial i sides xs d h p =
    let x : Class = get_or xs i d in
    let v : Class = directed_by x (get_or sides 0 false) in
    let within : i < length initial = omega (arith, p.long) in
    let same : x ≡ get_or initial i d = front-get i xs initial d p.left in
    let parts : drop i initial ≡ x ∷ drop (i + 1) initial =
    drop_more initial i d within ∙ ap (λ y. y ∷ drop (i + 1) initial) (sym same) in
    record {
      long = length-set xs i v ∙ p.long;
      left = take-set xs i v ∙ front-less i xs initial p.left;
      done = drop-set xs i v h ∙ ap (λ l. v ∷ l) p.done
          ∙ ap (λ b. directed_by x b ∷ directed_classes (drop (i + 1) initial)) (p.knows 0)
          ∙ sym (ap directed_classes parts);
      knows = subst (KnowsSides (sides_before x sides)) (sym parts) (sides_read x (drop (i + 1) initial) sides p.knows);
    }

pub directed_start : (initial : List Class) (i : ℕ) → i ≡ length initial → DirectedFrom initial i [] initial
directed_start initial i e =
    let past : drop i initial ≡ [] = drop_of_length-le initial (omega arith) in
    record {
      long = refl;
      left = refl;
      done = past ∙ sym (ap directed_classes past);
      knows = subst (KnowsSides []) (sym past) sides_none;
    }

pub directed_end : (initial : List Class) (i : ℕ) (sides : List Bool) (xs : List Class) → i ≡ 0
    → DirectedFrom initial i sides xs → xs ≡ directed_classes initial
directed_end initial i sides xs e p = sym (ap (λ n. drop n xs) e) ∙ p.done
    ∙ ap (λ n. directed_classes (drop n initial)) e

-- where there is no FSI, nothing is directed
none-first : (cs : List Class) → list_any is_first_strong cs ≡ false → cs ≡ directed_classes cs
none-first [] h = refl
none-first (FSI ∷ cs) h = absurd (cc)
none-first (c ∷ cs) h = ap (λ l. c ∷ l) (none-first cs h)

pub nothing_directed : (cs : List Class) (some : Bool) → some ≡ list_any is_first_strong cs → some ≡ false
    → cs ≡ directed_classes cs
nothing_directed cs some is none = none-first cs (sym is ∙ none)
