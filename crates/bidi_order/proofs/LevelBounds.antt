-- A sequence's levels are no lower than the sequence's level, and an isolate control's is higher by one at most.
use Rattle.std.proofs.Common.{◌≡◌, ℕ, zero, suc, ◌+◌, ◌<◌, ◌≤◌, Bool, true, false, inl, inr, List, [], ◌∷◌, map, take}
use Rattle.std.proofs.Common.{drop, get_or, length, refl, sym, ap, subst, ◌∙◌, arith, Option, Some, None}
use Rattle.std.proofs.lemmas.Bool.{cond-true, cond-false, cases_Bool, both_ways}
use Rattle.std.proofs.lemmas.List.{length-map, get_or-map}
use Rattle.bidi_class.specs.declared.class.Class.{Class}
use Rattle.bidi_class.specs.declared.class.Class.TheVariants.{L, R, AL, EN, ES, ET, AN, CS, NSM, ON, LRI, PDI}
use Rattle.bidi_text.specs.Estimate.{is_right_to_left}
use Rattle.bidi_order.specs.DirectionalStatus.{is_odd, strong_class}
use Rattle.bidi_order.specs.Explicit.{SequenceCharacter}
use Rattle.bidi_order.specs.Resolve.{nonspacing_class, w1, w2, w3, separator_class, w4, terminator_class, w5, w6, w7}
use Rattle.bidi_order.specs.Resolve.{weak_types, class_direction, pair_direction, set_nonspacing, set_bracket, n0}
use Rattle.bidi_order.specs.Resolve.{between, next_direction, n1, implicit, is_nonspacing}
use Rattle.bidi_order.specs.Resolve.{pairs_in_order, bracket_pairs_from, brackets_of, resolve}

-- a class that no rule makes a number: L, R or an isolate control
abbrev pub is_steady : Class → Bool
is_steady L = true
is_steady R = true
is_steady LRI = true
is_steady PDI = true
is_steady _ = false

-- a list has a class at an index that no rule makes a number
pub data Steady : ℕ → List Class → Type 0 where
  steady_here : {c : Class} {cs : List Class} → is_steady c ≡ true → Steady zero (c ∷ cs)
  steady_later : {i : ℕ} {c : Class} {cs : List Class} → Steady i cs → Steady (suc i) (c ∷ cs)

length-w1 : (before : Class) (cs : List Class) → length (w1 before cs) ≡ length cs
length-w1 before [] = refl
length-w1 before (NSM ∷ cs) = ap suc (length-w1 (nonspacing_class before) cs)
length-w1 before (c ∷ cs) = ap suc (length-w1 c cs)

length-w2 : (strong : Class) (cs : List Class) → length (w2 strong cs) ≡ length cs
length-w2 strong [] = refl
length-w2 strong (L ∷ cs) = ap suc (length-w2 L cs)
length-w2 strong (R ∷ cs) = ap suc (length-w2 R cs)
length-w2 strong (AL ∷ cs) = ap suc (length-w2 AL cs)
length-w2 AL (EN ∷ cs) = ap suc (length-w2 AL cs)
length-w2 strong (c ∷ cs) = ap suc (length-w2 strong cs)

length-w4 : (before : Class) (cs : List Class) → length (w4 before cs) ≡ length cs
length-w4 before [] = refl
length-w4 before (c ∷ cs) = ap suc (length-w4 (separator_class before c cs) cs)

length-w5 : (before : Class) (cs : List Class) → length (w5 before cs) ≡ length cs
length-w5 before [] = refl
length-w5 before (ET ∷ cs) = ap suc (length-w5 (terminator_class before cs) cs)
length-w5 before (c ∷ cs) = ap suc (length-w5 c cs)

length-w7 : (strong : Class) (cs : List Class) → length (w7 strong cs) ≡ length cs
length-w7 strong [] = refl
length-w7 strong (L ∷ cs) = ap suc (length-w7 L cs)
length-w7 strong (R ∷ cs) = ap suc (length-w7 R cs)
length-w7 L (EN ∷ cs) = ap suc (length-w7 L cs)
length-w7 strong (c ∷ cs) = ap suc (length-w7 strong cs)

length-set_nonspacing : (to : Class) (were_nonspacing : List Bool) (cs : List Class)
    → length (set_nonspacing to were_nonspacing cs) ≡ length cs
length-set_nonspacing to [] cs = refl
length-set_nonspacing to (false ∷ were_nonspacing) cs = refl
length-set_nonspacing to (true ∷ were_nonspacing) [] = refl
length-set_nonspacing to (true ∷ were_nonspacing) (c ∷ cs) = ap suc (length-set_nonspacing to were_nonspacing cs)

length-set_bracket : (index : ℕ) (to : Class) (were_nonspacing : List Bool) (cs : List Class)
    → length (set_bracket index to were_nonspacing cs) ≡ length cs
length-set_bracket index to were_nonspacing [] = refl
length-set_bracket zero to were_nonspacing (c ∷ cs) = ap suc (length-set_nonspacing to (drop 1 were_nonspacing) cs)
length-set_bracket (suc index) to were_nonspacing (c ∷ cs) =
    ap suc (length-set_bracket index to (drop 1 were_nonspacing) cs)

length-n0 : (own sos : Bool) (were_nonspacing : List Bool) (pairs : List (ℕ × ℕ)) (cs : List Class)
    → length (n0 own sos were_nonspacing pairs cs) ≡ length cs
length-n0 own sos were_nonspacing [] cs = refl
length-n0 own sos were_nonspacing ((first, last) ∷ pairs) cs = go (λ cs. length-n0 own sos were_nonspacing pairs cs)
    (pair_direction own sos (drop (suc first) (take last cs)) (take first cs))
  where
    go : ((cs : List Class) → length (n0 own sos were_nonspacing pairs cs) ≡ length cs) → (d : Option Bool)
        → length (elim d as (λ _. List Class) [
          | None ↦ n0 own sos were_nonspacing pairs cs
          | Some d ↦
              n0 own sos were_nonspacing pairs
              (set_bracket last (strong_class d) were_nonspacing
              (set_bracket first (strong_class d) were_nonspacing cs))
        ])
        ≡ length cs
    go rest None = rest cs
    go rest (Some d) = rest
        (set_bracket last (strong_class d) were_nonspacing (set_bracket first (strong_class d) were_nonspacing cs))
        ∙ length-set_bracket last (strong_class d) were_nonspacing
        (set_bracket first (strong_class d) were_nonspacing cs) ∙ length-set_bracket first (strong_class d)
        were_nonspacing cs

length-n1 : (own before eos : Bool) (cs : List Class) → length (n1 own before eos cs) ≡ length cs
length-n1 own before eos [] = refl
length-n1 own before eos (c ∷ cs) = go (λ b. length-n1 own b eos cs) (class_direction c)
  where
    go : ((b : Bool) → length (n1 own b eos cs) ≡ length cs) → (d : Option Bool)
        → length (elim d as (λ _. List Class) [
          | None ↦ between own before (next_direction eos cs) ∷ n1 own before eos
              cs
          | Some d ↦ c ∷ n1 own d eos cs
        ]) ≡ suc (length cs)
    go rest None = ap suc (rest before)
    go rest (Some d) = ap suc (rest d)

-- what the rules leave of an index
Steady-w1 : (before : Class) (cs : List Class) (i : ℕ) → Steady i cs → Steady i (w1 before cs)
Steady-w1 before [] i h = elim h [ ]
Steady-w1 before (NSM ∷ cs) zero (steady_here h) = absurd (both_ways _ refl h)
Steady-w1 before (NSM ∷ cs) (suc i) (steady_later h) = steady_later (Steady-w1 (nonspacing_class before) cs i h)
Steady-w1 before (c ∷ cs) zero (steady_here h) = steady_here h
Steady-w1 before (c ∷ cs) (suc i) (steady_later h) = steady_later (Steady-w1 c cs i h)

Steady-w2 : (strong : Class) (cs : List Class) (i : ℕ) → Steady i cs → Steady i (w2 strong cs)
Steady-w2 strong [] i h = elim h [ ]
Steady-w2 strong (EN ∷ cs) zero (steady_here h) = absurd (both_ways _ refl h)
Steady-w2 AL (EN ∷ cs) (suc i) (steady_later h) = steady_later (Steady-w2 AL cs i h)
Steady-w2 strong (EN ∷ cs) (suc i) (steady_later h) = steady_later (Steady-w2 strong cs i h)
Steady-w2 strong (L ∷ cs) (suc i) (steady_later h) = steady_later (Steady-w2 L cs i h)
Steady-w2 strong (R ∷ cs) (suc i) (steady_later h) = steady_later (Steady-w2 R cs i h)
Steady-w2 strong (AL ∷ cs) (suc i) (steady_later h) = steady_later (Steady-w2 AL cs i h)
Steady-w2 strong (c ∷ cs) zero (steady_here h) = steady_here h
Steady-w2 strong (c ∷ cs) (suc i) (steady_later h) = steady_later (Steady-w2 strong cs i h)

Steady-map : (f : Class → Class) → ((c : Class) → is_steady c ≡ true → is_steady (f c) ≡ true)
    → (cs : List Class) (i : ℕ) → Steady i cs → Steady i (map f cs)
Steady-map f keeps [] i h = elim h [ ]
Steady-map f keeps (c ∷ cs) zero (steady_here h) = steady_here (keeps c h)
Steady-map f keeps (c ∷ cs) (suc i) (steady_later h) = steady_later (Steady-map f keeps cs i h)

steady-w3 : (c : Class) → is_steady c ≡ true → is_steady (w3 c) ≡ true
steady-w3 AL h = refl
steady-w3 _ h = h

steady-w6 : (c : Class) → is_steady c ≡ true → is_steady (w6 c) ≡ true
steady-w6 ES h = absurd (both_ways _ refl h)
steady-w6 ET h = absurd (both_ways _ refl h)
steady-w6 CS h = absurd (both_ways _ refl h)
steady-w6 _ h = h

steady-separator_class : (before c : Class) (cs : List Class) → is_steady c ≡ true
    → is_steady (separator_class before c cs) ≡ true
steady-separator_class EN ES cs h = absurd (both_ways _ refl h)
steady-separator_class EN CS cs h = absurd (both_ways _ refl h)
steady-separator_class AN CS cs h = absurd (both_ways _ refl h)
steady-separator_class EN _ cs h = h
steady-separator_class AN _ cs h = h
steady-separator_class _ c cs h = h

Steady-w4 : (before : Class) (cs : List Class) (i : ℕ) → Steady i cs → Steady i (w4 before cs)
Steady-w4 before [] i h = elim h [ ]
Steady-w4 before (c ∷ cs) zero (steady_here h) = steady_here (steady-separator_class before c cs h)
Steady-w4 before (c ∷ cs) (suc i) (steady_later h) = steady_later (Steady-w4 (separator_class before c cs) cs i h)

Steady-w5 : (before : Class) (cs : List Class) (i : ℕ) → Steady i cs → Steady i (w5 before cs)
Steady-w5 before [] i h = elim h [ ]
Steady-w5 before (ET ∷ cs) zero (steady_here h) = absurd (both_ways _ refl h)
Steady-w5 before (ET ∷ cs) (suc i) (steady_later h) = steady_later (Steady-w5 (terminator_class before cs) cs i h)
Steady-w5 before (c ∷ cs) zero (steady_here h) = steady_here h
Steady-w5 before (c ∷ cs) (suc i) (steady_later h) = steady_later (Steady-w5 c cs i h)

Steady-w7 : (strong : Class) (cs : List Class) (i : ℕ) → Steady i cs → Steady i (w7 strong cs)
Steady-w7 strong [] i h = elim h [ ]
Steady-w7 strong (EN ∷ cs) zero (steady_here h) = absurd (both_ways _ refl h)
Steady-w7 L (EN ∷ cs) (suc i) (steady_later h) = steady_later (Steady-w7 L cs i h)
Steady-w7 strong (EN ∷ cs) (suc i) (steady_later h) = steady_later (Steady-w7 strong cs i h)
Steady-w7 strong (L ∷ cs) (suc i) (steady_later h) = steady_later (Steady-w7 L cs i h)
Steady-w7 strong (R ∷ cs) (suc i) (steady_later h) = steady_later (Steady-w7 R cs i h)
Steady-w7 strong (c ∷ cs) zero (steady_here h) = steady_here h
Steady-w7 strong (c ∷ cs) (suc i) (steady_later h) = steady_later (Steady-w7 strong cs i h)

Steady-set_nonspacing : (to : Class) → is_steady to ≡ true → (were_nonspacing : List Bool) (cs : List Class) (i : ℕ)
    → Steady i cs → Steady i (set_nonspacing to were_nonspacing cs)
Steady-set_nonspacing to t [] cs i h = h
Steady-set_nonspacing to t (false ∷ were_nonspacing) cs i h = h
Steady-set_nonspacing to t (true ∷ were_nonspacing) [] i h = h
Steady-set_nonspacing to t (true ∷ were_nonspacing) (c ∷ cs) zero (steady_here h) = steady_here t
Steady-set_nonspacing to t (true ∷ were_nonspacing) (c ∷ cs) (suc i) (steady_later h) =
    steady_later (Steady-set_nonspacing to t were_nonspacing cs i h)

Steady-set_bracket : (index : ℕ) (to : Class) → is_steady to ≡ true → (were_nonspacing : List Bool) (cs : List Class)
    (i : ℕ) → Steady i cs → Steady i (set_bracket index to were_nonspacing cs)
Steady-set_bracket index to t were_nonspacing [] i h = h
Steady-set_bracket zero to t were_nonspacing (c ∷ cs) zero (steady_here h) = steady_here t
Steady-set_bracket zero to t were_nonspacing (c ∷ cs) (suc i) (steady_later h) =
    steady_later (Steady-set_nonspacing to t (drop 1 were_nonspacing) cs i h)
Steady-set_bracket (suc index) to t were_nonspacing (c ∷ cs) zero (steady_here h) = steady_here h
Steady-set_bracket (suc index) to t were_nonspacing (c ∷ cs) (suc i) (steady_later h) =
    steady_later (Steady-set_bracket index to t (drop 1 were_nonspacing) cs i h)

pub steady-strong : (d : Bool) → is_steady (strong_class d) ≡ true
steady-strong true = refl
steady-strong false = refl

Steady-n0 : (own sos : Bool) (were_nonspacing : List Bool) (pairs : List (ℕ × ℕ)) (cs : List Class) (i : ℕ)
    → Steady i cs → Steady i (n0 own sos were_nonspacing pairs cs)
Steady-n0 own sos were_nonspacing [] cs i h = h
Steady-n0 own sos were_nonspacing ((first, last) ∷ pairs) cs i h =
    go (λ cs h. Steady-n0 own sos were_nonspacing pairs cs i h)
    (pair_direction own sos (drop (suc first) (take last cs)) (take first cs))
  where
    go : ((cs : List Class) → Steady i cs → Steady i (n0 own sos were_nonspacing pairs cs)) → (d : Option Bool)
        → Steady i (elim d as (λ _. List Class) [
          | None ↦ n0 own sos were_nonspacing pairs cs
          | Some d ↦
              n0 own sos were_nonspacing pairs
              (set_bracket last (strong_class d) were_nonspacing
              (set_bracket first (strong_class d) were_nonspacing cs))
        ])
    go rest None = rest cs h
    go rest (Some d) = rest
        (set_bracket last (strong_class d) were_nonspacing (set_bracket first (strong_class d) were_nonspacing cs))
        (Steady-set_bracket last (strong_class d) (steady-strong d) were_nonspacing
        (set_bracket first (strong_class d) were_nonspacing cs) i
        (Steady-set_bracket first (strong_class d) (steady-strong d) were_nonspacing cs i h))

-- after N2 the index has a direction
is_strong : Class → Bool
is_strong L = true
is_strong R = true
is_strong _ = false

strong-between : (own before after : Bool) → is_strong (between own before after) ≡ true
unfolding is_strong
strong-between true true true = refl
strong-between true true false = refl
strong-between true false true = refl
strong-between true false false = refl
strong-between false true true = refl
strong-between false true false = refl
strong-between false false true = refl
strong-between false false false = refl

strong-n1 : (own before eos : Bool) (cs : List Class) (i : ℕ) → Steady i cs
    → is_strong (get_or (n1 own before eos cs) i ON) ≡ true
unfolding is_strong
strong-n1 own before eos [] i h = elim h [ ]
strong-n1 own before eos (L ∷ cs) zero (steady_here h) = refl
strong-n1 own before eos (R ∷ cs) zero (steady_here h) = refl
strong-n1 own before eos (LRI ∷ cs) zero (steady_here h) = strong-between own before (next_direction eos cs)
strong-n1 own before eos (PDI ∷ cs) zero (steady_here h) = strong-between own before (next_direction eos cs)
strong-n1 own before eos (c ∷ cs) zero (steady_here h) = absurd (both_ways _ refl h)
strong-n1 own before eos (c ∷ cs) (suc i) (steady_later h) = go (λ b. strong-n1 own b eos cs i h) (class_direction c)
  where
    go : ((b : Bool) → is_strong (get_or (n1 own b eos cs) i ON) ≡ true) → (d : Option Bool)
        → is_strong (get_or (elim d as (λ _. List Class)
        [ None ↦ between own before (next_direction eos cs) ∷ n1 own before eos cs | Some d ↦ c ∷ n1 own d eos cs ])
        (suc i) ON) ≡ true
    go rest None = rest before
    go rest (Some d) = rest d

implicit-ge : (level : ℕ) (c : Class) → level ≤ implicit level c
implicit-ge level L =
    elim (cases_Bool (is_odd level)) [
      | inl h ↦ subst (λ n. level ≤ n) (sym (cond-true _ _ _ h)) (omega arith)
      | inr
          h ↦ subst (λ n. level ≤ n) (sym (cond-false _ _ _ h)) (omega arith)
    ]
implicit-ge level R =
    elim (cases_Bool (is_odd level)) [
      | inl h ↦ subst (λ n. level ≤ n) (sym (cond-true _ _ _ h)) (omega arith)
      | inr
          h ↦ subst (λ n. level ≤ n) (sym (cond-false _ _ _ h)) (omega arith)
    ]
implicit-ge level _ =
    elim (cases_Bool (is_odd level)) [
      | inl h ↦ subst (λ n. level ≤ n) (sym (cond-true _ _ _ h)) (omega arith)
      | inr
          h ↦ subst (λ n. level ≤ n) (sym (cond-false _ _ _ h)) (omega arith)
    ]

implicit-le : (level : ℕ) (c : Class) → is_strong c ≡ true → implicit level c ≤ level + 1
unfolding is_strong
implicit-le level L s =
    elim (cases_Bool (is_odd level)) [
      | inl h ↦ subst (λ n. n ≤ level + 1) (sym (cond-true _ _ _ h))
          (omega arith)
      | inr h ↦ subst (λ n. n ≤ level + 1) (sym (cond-false _ _ _ h)) (omega arith)
    ]
implicit-le level R s =
    elim (cases_Bool (is_odd level)) [
      | inl h ↦ subst (λ n. n ≤ level + 1) (sym (cond-true _ _ _ h))
          (omega arith)
      | inr h ↦ subst (λ n. n ≤ level + 1) (sym (cond-false _ _ _ h)) (omega arith)
    ]
implicit-le level _ s = absurd (both_ways _ refl s)

length-weak_types : (sos : Class) (cs : List Class) → length (weak_types sos cs) ≡ length cs
length-weak_types sos cs =
    length-w7 sos (map w6 (w5 ON (w4 ON (map w3 (w2 sos (w1 sos cs))))))
    ∙ length-map (w5 ON (w4 ON (map w3 (w2 sos (w1 sos cs))))) w6
    ∙ length-w5 ON (w4 ON (map w3 (w2 sos (w1 sos cs)))) ∙ length-w4 ON (map w3 (w2 sos (w1 sos cs)))
    ∙ length-map (w2 sos (w1 sos cs)) w3 ∙ length-w2 sos (w1 sos cs) ∙ length-w1 sos cs

Steady-weak_types : (sos : Class) (cs : List Class) (i : ℕ) → Steady i cs → Steady i (weak_types sos cs)
Steady-weak_types sos cs i h =
    Steady-w7 sos (map w6 (w5 ON (w4 ON (map w3 (w2 sos (w1 sos cs)))))) i
    (Steady-map w6 steady-w6 (w5 ON (w4 ON (map w3 (w2 sos (w1 sos cs))))) i
    (Steady-w5 ON (w4 ON (map w3 (w2 sos (w1 sos cs)))) i
    (Steady-w4 ON (map w3 (w2 sos (w1 sos cs))) i
    (Steady-map w3 steady-w3 (w2 sos (w1 sos cs)) i (Steady-w2 sos (w1 sos cs) i (Steady-w1 sos cs i h))))))

-- the level of each character of a sequence
pub resolve-ge : (level : ℕ) (sos eos : Class) (characters : List SequenceCharacter) (i : ℕ) → i < length characters
    → level ≤ get_or (resolve level sos eos characters) i 0
unfolding resolve
resolve-ge level sos eos characters i within =
    let given : List Class = map (λ (s : SequenceCharacter). s.class) characters in
    let weakened : List Class = weak_types sos given in
    let pairs : List (ℕ × ℕ) = pairs_in_order (bracket_pairs_from 0 [] (brackets_of weakened characters)) in
    let paired : List Class = n0 (is_odd level) (is_right_to_left sos) (map is_nonspacing given) pairs weakened in
    let done : List Class = n1 (is_odd level) (is_right_to_left sos) (is_right_to_left eos) paired in
    let long : length done ≡ length characters =
    length-n1 (is_odd level) (is_right_to_left sos) (is_right_to_left eos) paired
    ∙ length-n0 (is_odd level) (is_right_to_left sos) (map is_nonspacing given) pairs weakened
    ∙ length-weak_types sos given ∙ length-map characters (λ (s : SequenceCharacter). s.class) in
    subst (λ n. level ≤ n) (sym (get_or-map (implicit level) done i ON 0 (omega arith)))
    (implicit-ge level (get_or done i ON))

pub resolve-le : (level : ℕ) (sos eos : Class) (characters : List SequenceCharacter) (i : ℕ) → i < length characters
    → Steady i (map (λ (s : SequenceCharacter). s.class) characters)
    → get_or (resolve level sos eos characters) i 0 ≤ level + 1
unfolding resolve
resolve-le level sos eos characters i within steady =
    let given : List Class = map (λ (s : SequenceCharacter). s.class) characters in
    let weakened : List Class = weak_types sos given in
    let pairs : List (ℕ × ℕ) = pairs_in_order (bracket_pairs_from 0 [] (brackets_of weakened characters)) in
    let paired : List Class = n0 (is_odd level) (is_right_to_left sos) (map is_nonspacing given) pairs weakened in
    let done : List Class = n1 (is_odd level) (is_right_to_left sos) (is_right_to_left eos) paired in
    let long : length done ≡ length characters =
    length-n1 (is_odd level) (is_right_to_left sos) (is_right_to_left eos) paired
    ∙ length-n0 (is_odd level) (is_right_to_left sos) (map is_nonspacing given) pairs weakened
    ∙ length-weak_types sos given ∙ length-map characters (λ (s : SequenceCharacter). s.class) in
    subst (λ n. n ≤ level + 1) (sym (get_or-map (implicit level) done i ON 0 (omega arith)))
    (implicit-le level (get_or done i ON) (strong-n1 (is_odd level) (is_right_to_left sos) (is_right_to_left eos)
    paired i (Steady-n0 (is_odd level) (is_right_to_left sos) (map is_nonspacing given) pairs weakened i
    (Steady-weak_types sos given i steady))))
