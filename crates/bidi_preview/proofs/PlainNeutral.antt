-- N0 to N2, I1 and I2 on a plain sequence: no level is above that of the base.
use Rattle.std.proofs.Common.{◌≡◌, ℕ, zero, suc, ◌≤◌, Bool, true, false, not, ◌||◌, if◌then◌else◌, List, [], ◌∷◌, map}
use Rattle.std.proofs.Common.{take, drop, get_or, refl, ap, subst, sym, ◌∙◌, arith, Option, Some, None}
use Rattle.std.specs.List.{list_any}
use Rattle.std.proofs.lemmas.Bool.{both_ways}
use Rattle.bidi_class.specs.declared.class.Class.{Class}
use Rattle.bidi_class.specs.declared.class.Class.TheVariants.{L, R, EN, AN}
use Rattle.bidi_order.specs.DirectionalStatus.{strong_class}
use Rattle.bidi_order.specs.Explicit.{SequenceCharacter}
use Rattle.bidi_order.specs.Lines.{side_level}
use Rattle.bidi_order.specs.Resolve.{is_direction, pair_direction, last_direction, set_nonspacing}
use Rattle.bidi_order.specs.Resolve.{set_bracket, n0, between, next_direction, n1, implicit, is_nonspacing, resolve}
use Rattle.bidi_order.specs.Resolve.{weak_types, pairs_in_order, bracket_pairs_from, brackets_of}
use Rattle.bidi_preview.specs.PlainSteps.{is_plain}
use Rattle.bidi_preview.proofs.PlainWeak.{AllPass, is_settled, settled_weak}
use Rattle.bidi_preview.proofs.PlainWeak.AllPass.{pass_end, pass_more}

Pass-take : (test : Class → Bool) (n : ℕ) (cs : List Class) → AllPass test cs → AllPass test (take n cs)
Pass-take test zero cs h = pass_end
Pass-take test (suc n) [] h = pass_end
Pass-take test (suc n) (c ∷ cs) (pass_more p h) = pass_more p (Pass-take test n cs h)

Pass-drop : (test : Class → Bool) (n : ℕ) (cs : List Class) → AllPass test cs → AllPass test (drop n cs)
Pass-drop test zero cs h = h
Pass-drop test (suc n) [] h = pass_end
Pass-drop test (suc n) (c ∷ cs) (pass_more p h) = Pass-drop test n cs h

Pass-set_nonspacing : (test : Class → Bool) (to : Class) → test to ≡ true → (were_nonspacing : List Bool)
    (cs : List Class) → AllPass test cs → AllPass test (set_nonspacing to were_nonspacing cs)
Pass-set_nonspacing test to t [] cs h = h
Pass-set_nonspacing test to t (false ∷ were_nonspacing) cs h = h
Pass-set_nonspacing test to t (true ∷ were_nonspacing) [] h = pass_end
Pass-set_nonspacing test to t (true ∷ were_nonspacing) (c ∷ cs) (pass_more p h) =
    pass_more t (Pass-set_nonspacing test to t were_nonspacing cs h)

Pass-set_bracket : (test : Class → Bool) (index : ℕ) (to : Class) → test to ≡ true → (were_nonspacing : List Bool)
    (cs : List Class) → AllPass test cs → AllPass test (set_bracket index to were_nonspacing cs)
Pass-set_bracket test index to t were_nonspacing [] h = pass_end
Pass-set_bracket test zero to t were_nonspacing (c ∷ cs) (pass_more p h) =
    pass_more t (Pass-set_nonspacing test to t (drop 1 were_nonspacing) cs h)
Pass-set_bracket test (suc index) to t were_nonspacing (c ∷ cs) (pass_more p h) =
    pass_more p (Pass-set_bracket test index to t (drop 1 were_nonspacing) cs h)

settled-strong : (d : Bool) → is_settled d (strong_class d) ≡ true
settled-strong false = refl
settled-strong true = refl

-- no class counts as the other direction
other_none : (d : Bool) (c : Class) → is_settled d c ≡ true → is_direction (not d) c ≡ false
other_none false L h = refl
other_none true L h = absurd (both_ways _ refl h)
other_none true R h = refl
other_none false R h = absurd (both_ways _ refl h)
other_none d EN h = absurd (both_ways _ refl h)
other_none d AN h = absurd (both_ways _ refl h)
other_none d _ h = refl

any-none : (d : Bool) (cs : List Class) → AllPass (is_settled d) cs → list_any (is_direction (not d)) cs ≡ false
any-none d [] h = refl
any-none d (c ∷ cs) (pass_more p h) =
    ap (λ b. b || list_any (is_direction (not d)) cs) (other_none d c p) ∙ any-none d cs h

-- N0: the direction of a pair is the level's own, if it has one
data IsOwn (d : Bool) : Option Bool → Type 0 where
  own_none : IsOwn d None
  own_some : IsOwn d (Some d)

pair-chosen : (d own other last : Bool) → other ≡ false
    → IsOwn d (if own then Some d else if other then Some last else None)
pair-chosen d true other last h = own_some
pair-chosen d false true last h = absurd (both_ways _ h refl)
pair-chosen d false false last h = own_none

pair-own : (d : Bool) (inside before : List Class) → AllPass (is_settled d) inside
    → IsOwn d (pair_direction d d inside before)
pair-own d inside before h = pair-chosen d (list_any (is_direction d) inside) (list_any (is_direction (not d)) inside)
    (last_direction d before) (any-none d inside h)

Settled-n0 : (d : Bool) (were_nonspacing : List Bool) (pairs : List (ℕ × ℕ)) (cs : List Class)
    → AllPass (is_settled d) cs → AllPass (is_settled d) (n0 d d were_nonspacing pairs cs)
Settled-n0 d were_nonspacing [] cs h = h
Settled-n0 d were_nonspacing ((first, last) ∷ pairs) cs h =
    go (λ cs h. Settled-n0 d were_nonspacing pairs cs h)
    (pair_direction d d (drop (suc first) (take last cs)) (take first cs))
    (pair-own d (drop (suc first) (take last cs)) (take first cs)
    (Pass-drop (is_settled d) (suc first) (take last cs) (Pass-take (is_settled d) last cs h)))
  where
    go : ((cs : List Class) → AllPass (is_settled d) cs → AllPass (is_settled d) (n0 d d were_nonspacing pairs cs))
        → (o : Option Bool) → IsOwn d o
        → AllPass (is_settled d) (elim o as (λ _. List Class) [
          | None ↦ n0 d d were_nonspacing pairs cs
          | Some d' ↦
              n0 d d were_nonspacing pairs
              (set_bracket last (strong_class d') were_nonspacing
              (set_bracket first (strong_class d') were_nonspacing cs))
        ])
    go rest o own_none = rest cs h
    go rest o own_some = rest
        (set_bracket last (strong_class d) were_nonspacing (set_bracket first (strong_class d) were_nonspacing cs))
        (Pass-set_bracket (is_settled d) last (strong_class d) (settled-strong d) were_nonspacing
        (set_bracket first (strong_class d) were_nonspacing cs)
        (Pass-set_bracket (is_settled d) first (strong_class d) (settled-strong d) were_nonspacing cs h))

-- N1, N2: each class becomes that of the level's own direction
next-own : (d : Bool) (cs : List Class) → AllPass (is_settled d) cs → next_direction d cs ≡ d
next-own d [] h = refl
next-own false (L ∷ cs) h = refl
next-own true (L ∷ cs) (pass_more p h) = absurd (both_ways _ refl p)
next-own true (R ∷ cs) h = refl
next-own false (R ∷ cs) (pass_more p h) = absurd (both_ways _ refl p)
next-own d (EN ∷ cs) (pass_more p h) = absurd (both_ways _ refl p)
next-own d (AN ∷ cs) (pass_more p h) = absurd (both_ways _ refl p)
next-own d (c ∷ cs) (pass_more p h) = next-own d cs h

between-own : (d : Bool) → between d d d ≡ strong_class d
between-own false = refl
between-own true = refl

n1-own : (d : Bool) (cs : List Class) → AllPass (is_settled d) cs → n1 d d d cs ≡ map (λ (_ : Class). strong_class d) cs
n1-own d [] h = refl
n1-own false (L ∷ cs) (pass_more p h) = ap (λ l. L ∷ l) (n1-own false cs h)
n1-own true (L ∷ cs) (pass_more p h) = absurd (both_ways _ refl p)
n1-own true (R ∷ cs) (pass_more p h) = ap (λ l. R ∷ l) (n1-own true cs h)
n1-own false (R ∷ cs) (pass_more p h) = absurd (both_ways _ refl p)
n1-own d (EN ∷ cs) (pass_more p h) = absurd (both_ways _ refl p)
n1-own d (AN ∷ cs) (pass_more p h) = absurd (both_ways _ refl p)
n1-own d (c ∷ cs) (pass_more p h) = (λ i. between d d (next-own d cs h i) ∷ n1-own d cs h i)
    ∙ ap (λ s. s ∷ map (λ (_ : Class). strong_class d) cs) (between-own d)

-- I1, I2: the level of each is that of the base
own_le : (d : Bool) (cs : List Class) (i : ℕ)
    → get_or (map (implicit (side_level d)) (map (λ (_ : Class). strong_class d) cs)) i 0 ≤ side_level d
own_le d [] i = omega arith
own_le false (c ∷ cs) zero = omega arith
own_le true (c ∷ cs) zero = omega arith
own_le d (c ∷ cs) (suc i) = own_le d cs i

levels-le : (d : Bool) (cs : List Class) (i : ℕ) → AllPass (is_settled d) cs
    → get_or (map (implicit (side_level d)) (n1 d d d cs)) i 0 ≤ side_level d
levels-le d cs i h = subst (λ l. get_or (map (implicit (side_level d)) l) i 0 ≤ side_level d) (sym (n1-own d cs h))
    (own_le d cs i)

-- the level of each character of a plain sequence
pub resolved_le : (d : Bool) (characters : List SequenceCharacter) (i : ℕ)
    → AllPass (is_plain d) (map (λ (s : SequenceCharacter). s.class) characters)
    → get_or (resolve (side_level d) (strong_class d) (strong_class d) characters) i 0 ≤ side_level d
unfolding resolve
resolved_le false characters i h =
    let given : List Class = map (λ (s : SequenceCharacter). s.class) characters in
    let weakened : List Class = weak_types L given in
    let pairs : List (ℕ × ℕ) = pairs_in_order (bracket_pairs_from 0 [] (brackets_of weakened characters)) in
    levels-le false (n0 false false (map is_nonspacing given) pairs weakened) i
    (Settled-n0 false (map is_nonspacing given) pairs weakened (settled_weak false given h))
resolved_le true characters i h =
    let given : List Class = map (λ (s : SequenceCharacter). s.class) characters in
    let weakened : List Class = weak_types R given in
    let pairs : List (ℕ × ℕ) = pairs_in_order (bracket_pairs_from 0 [] (brackets_of weakened characters)) in
    levels-le true (n0 true true (map is_nonspacing given) pairs weakened) i
    (Settled-n0 true (map is_nonspacing given) pairs weakened (settled_weak true given h))
