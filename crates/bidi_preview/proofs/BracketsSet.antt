-- A bracket that gets a class, and with it what was NSM directly after it, one index at a time.
use Rattle.std.proofs.Common.{◌≡◌, ℕ, zero, suc, ◌+◌, ◌<◌, ◌≤◌, Bool, true, false, List, [], ◌∷◌, ◌++◌, take, drop}
use Rattle.std.proofs.Common.{map}
use Rattle.std.proofs.Common.{length, get_or, min, ◌-◌, inl, inr, refl, sym, ap, ◌∙◌, arith}
use Rattle.std.proofs.Math.ListN.{drop_of_length-le, set}
use Rattle.std.proofs.lemmas.Bool.{cases_lt}
use Rattle.std.proofs.lemmas.List.{length-take}
use Rattle.bidi_class.specs.declared.class.Class.{Class}
use Rattle.bidi_order.specs.Resolve.{is_nonspacing, pair_direction, set_bracket, set_nonspacing}

pub set_bracket_past : (index : ℕ) (to : Class) (were : List Bool) (cs : List Class) → length cs ≤ index
    → set_bracket index to were cs ≡ cs
set_bracket_past index to were [] h = refl
set_bracket_past zero to were (c ∷ cs) h = absurd (omega (arith, h))
set_bracket_past (suc index) to were (c ∷ cs) h =
    ap (λ l. c ∷ l) (set_bracket_past index to (drop 1 were) cs (omega (arith, h)))

dropped_later : (n : ℕ) (were : List Bool) → drop (suc n) were ≡ drop n (drop 1 were)
dropped_later zero [] = refl
dropped_later (suc n) [] = refl
dropped_later n (w ∷ were) = refl

set-at : (index : ℕ) (to : Class) (were : List Bool) (cs : List Class) → index < length cs
    → take (suc index) (set cs index to)
    ++ set_nonspacing to (drop (suc index) were) (drop (suc index) (set cs index to))
    ≡ set_bracket index to were cs
set-at index to were [] h = absurd (omega (arith, h))
set-at zero to were (c ∷ cs) h = refl
set-at (suc index) to were (c ∷ cs) h =
    ap (λ w. c ∷ (take (suc index) (set cs index to) ++ set_nonspacing to w (drop (suc index) (set cs index to))))
    (dropped_later (suc index) were)
    ∙ ap (λ l. c ∷ l) (set-at index to (drop 1 were) cs (omega (arith, h)))

one_more : (n : ℕ) → n + 1 ≡ suc n
one_more n = omega arith

pub set_bracket_at : (index : ℕ) (to : Class) (were : List Bool) (cs : List Class) → index < length cs
    → take (index + 1) (set cs index to)
    ++ set_nonspacing to (drop (index + 1) were) (drop (index + 1) (set cs index to))
    ≡ set_bracket index to were cs
set_bracket_at index to were cs h =
    ap (λ n. take n (set cs index to) ++ set_nonspacing to (drop n were) (drop n (set cs index to))) (one_more index)
    ∙ set-at index to were cs h

nonspacing-at : (n : ℕ) (to : Class) (given cs : List Class) (d : Class) → n < length cs → length given ≡ length cs
    → is_nonspacing (get_or given n d) ≡ true → take (suc n) (set cs n to)
    ++ set_nonspacing to (drop (suc n) (map is_nonspacing given)) (drop (suc n) (set cs n to))
    ≡ take n cs ++ set_nonspacing to (drop n (map is_nonspacing given)) (drop n cs)
nonspacing-at n to given [] d h long is = absurd (omega (arith, h))
nonspacing-at n to [] (c ∷ cs) d h long is = absurd (omega (arith, long))
nonspacing-at zero to (g ∷ given) (c ∷ cs) d h long is =
    ap (λ b. set_nonspacing to (b ∷ map is_nonspacing given) (c ∷ cs)) (sym is)
nonspacing-at (suc n) to (g ∷ given) (c ∷ cs) d h long is =
    ap (λ l. c ∷ l) (nonspacing-at n to given cs d (omega (arith, h)) (omega (arith, long)) is)

pub nonspacing_set : (n : ℕ) (to : Class) (given cs : List Class) (d : Class) → n < length cs
    → length given ≡ length cs → is_nonspacing (get_or given n d) ≡ true → take (n + 1) (set cs n to)
    ++ set_nonspacing to (drop (n + 1) (map is_nonspacing given)) (drop (n + 1) (set cs n to))
    ≡ take n cs ++ set_nonspacing to (drop n (map is_nonspacing given)) (drop n cs)
nonspacing_set n to given cs d h long is =
    ap (λ m. take m (set cs n to) ++ set_nonspacing to (drop m (map is_nonspacing given)) (drop m (set cs n to)))
    (one_more n) ∙ nonspacing-at n to given cs d h long is

pub nonspacing_ends : (n : ℕ) (to : Class) (given cs : List Class) (d : Class) → n < length cs
    → length given ≡ length cs → is_nonspacing (get_or given n d) ≡ false
    → take n cs ++ set_nonspacing to (drop n (map is_nonspacing given)) (drop n cs) ≡ cs
nonspacing_ends n to given [] d h long is = absurd (omega (arith, h))
nonspacing_ends n to [] (c ∷ cs) d h long is = absurd (omega (arith, long))
nonspacing_ends zero to (g ∷ given) (c ∷ cs) d h long is =
    ap (λ b. set_nonspacing to (b ∷ map is_nonspacing given) (c ∷ cs)) is
nonspacing_ends (suc n) to (g ∷ given) (c ∷ cs) d h long is =
    ap (λ l. c ∷ l) (nonspacing_ends n to given cs d (omega (arith, h)) (omega (arith, long)) is)

-- ---- what stands inside a pair of brackets

minus : (b a : ℕ) → suc b - suc a ≡ b - a
minus b a = omega arith

taken-nil : (n : ℕ) → take {A = Class} n [] ≡ []
taken-nil zero = refl
taken-nil (suc n) = refl

taken-dropped : (a b : ℕ) (xs : List Class) → take (b - a) (drop a xs) ≡ drop a (take b xs)
taken-dropped zero b xs = let e : b - 0 ≡ b = omega arith in ap (λ n. take n xs) e
taken-dropped (suc a) zero xs = let e : 0 - suc a ≡ 0 = omega arith in ap (λ n. take n (drop (suc a) xs)) e
taken-dropped (suc a) (suc b) [] = taken-nil (suc b - suc a)
taken-dropped (suc a) (suc b) (x ∷ xs) = ap (λ n. take n (drop a xs)) (minus b a) ∙ taken-dropped a b xs

taken-all : (n : ℕ) (xs : List Class) → length xs ≤ n → take n xs ≡ xs
taken-all zero [] h = refl
taken-all (suc n) [] h = refl
taken-all zero (x ∷ xs) h = absurd (omega (arith, h))
taken-all (suc n) (x ∷ xs) h = ap (λ l. x ∷ l) (taken-all n xs (omega (arith, h)))

taken-min : (n : ℕ) (xs : List Class) (e : ℕ) → e ≡ min n (length xs) → take e xs ≡ take n xs
taken-min n xs e is =
    elim (cases_lt (length xs) n) [
      | inl less ↦ let whole : e ≡ length xs = omega arith in
          taken-all e xs (omega arith) ∙ sym (taken-all n xs (omega arith))
      | inr more ↦ let same : e ≡ n = omega arith in ap (λ m. take m xs) same
    ]

dropped-min : (n : ℕ) (xs : List Class) (s : ℕ) → s ≡ min n (length xs) → drop s xs ≡ drop n xs
dropped-min n xs s is =
    elim (cases_lt (length xs) n) [
      | inl less ↦ drop_of_length-le xs (omega arith) ∙ sym (drop_of_length-le xs (omega arith))
      | inr more ↦ let same : s ≡ n = omega arith in ap (λ m. drop m xs) same
    ]

pub inside_is : (own sos : Bool) (cs : List Class) (first last s e : ℕ) → first < length cs → e ≡ min last (length cs)
    → s ≡ min (first + 1) e → pair_direction own sos (take (e - s) (drop s cs)) (take (first - 0) cs)
    ≡ pair_direction own sos (drop (suc first) (take last cs)) (take first cs)
inside_is own sos cs first last s e h end start =
    let zero_less : first - 0 ≡ first = omega arith in
    let long : length (take last cs) ≡ e = length-take last cs ∙ sym end in
    ap (λ l. pair_direction own sos l (take (first - 0) cs))
    (taken-dropped s e cs ∙ ap (drop s) (taken-min last cs e end)
    ∙ dropped-min (suc first) (take last cs) s (omega (arith, start, long)))
    ∙ ap (λ n. pair_direction own sos (drop (suc first) (take last cs)) (take n cs)) zero_less

pub inside_as : (own sos : Bool) (cs : List Class) (first last s e : ℕ) → first < length cs → e ≡ min last (length cs)
    → s ≡ min (first + 1) e → pair_direction own sos (take (e - s) (drop s cs)) (take first cs)
    ≡ pair_direction own sos (drop (suc first) (take last cs)) (take first cs)
inside_as own sos cs first last s e h end start =
    let zero_less : first ≡ first - 0 = omega arith in
    ap (λ n. pair_direction own sos (take (e - s) (drop s cs)) (take n cs)) zero_less
    ∙ inside_is own sos cs first last s e h end start
