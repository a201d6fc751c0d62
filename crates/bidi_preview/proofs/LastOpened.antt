-- The last of some open brackets, and directions read from the end of a list on.
use Rattle.std.proofs.Common.{◌≡◌, ℕ, ◌+◌, ◌-◌, ◌<◌, ◌≤◌, Bool, List, [], ◌∷◌, ◌++◌, reverse, take, length}
use Rattle.std.proofs.Common.{get_or}
use Rattle.std.proofs.Common.{refl, sym, ap, ◌∙◌, arith, Option, Some, None}
use Rattle.std.proofs.lemmas.List.{reverse-append, take_more}
use Rattle.bidi_class.specs.declared.class.Class.{Class}
use Rattle.bidi_order.specs.Resolve.{class_direction, last_direction}

-- the front of a list, from its end on
pub reverse-take : {A : Type 0} (xs : List A) (i : ℕ) (d : A) → i < length xs
    → reverse (take (i + 1) xs) ≡ get_or xs i d ∷ reverse (take i xs)
reverse-take xs i d h = ap reverse (take_more xs i d h) ∙ reverse-append (take i xs) (get_or xs i d ∷ [])

-- the last direction, by the last class
abbrev pub direction_or : Option Bool → Bool → Bool
direction_or None other = other
direction_or (Some direction) other = direction

last_direction-append : (before : Bool) (cs : List Class) (c : Class) → last_direction before (cs ++ c ∷ [])
    ≡ direction_or (class_direction c) (last_direction before cs)
last_direction-append before [] c = by_direction before (class_direction c)
  where
    by_direction : (before : Bool) (o : Option Bool) → elim o [ None ↦ before | Some d ↦ d ] ≡ direction_or o before
    by_direction before None = refl
    by_direction before (Some d) = refl
last_direction-append before (x ∷ cs) c = more (class_direction x)
    (λ b. last_direction-append b cs c)
  where
    more : (o : Option Bool)
        → ((b : Bool) → last_direction b (cs ++ c ∷ []) ≡ direction_or (class_direction c) (last_direction b cs))
        → elim o [ None ↦ last_direction before (cs ++ c ∷ []) | Some d ↦ last_direction d (cs ++ c ∷ []) ]
        ≡ direction_or (class_direction c) (elim o [ None ↦ last_direction before cs | Some d ↦ last_direction d cs ])
    more None h = h before
    more (Some d) h = h d

last_direction-take : (before : Bool) (cs : List Class) (i : ℕ) (d : Class) → i < length cs
    → last_direction before (take (i + 1) cs) ≡ direction_or (class_direction (get_or cs i d))
    (last_direction before (take i cs))
last_direction-take before cs i d h = ap (last_direction before) (take_more cs i d h)
    ∙ last_direction-append before (take i cs) (get_or cs i d)

pub last_direction_some : (before : Bool) (cs : List Class) (n : ℕ) (c : Class) (d : Bool) → 0 < n → n ≤ length cs
    → class_direction (get_or cs (n - 1) c) ≡ Some d → last_direction before (take n cs) ≡ d
last_direction_some before cs n c d some within is =
    let up : n ≡ (n - 1) + 1 = omega arith in
    ap (λ m. last_direction before (take m cs)) up ∙ last_direction-take before cs (n - 1) c (omega arith)
    ∙ ap (λ o. direction_or o (last_direction before (take (n - 1) cs))) is

pub last_direction_none : (before : Bool) (cs : List Class) (n : ℕ) (c : Class) → 0 < n → n ≤ length cs
    → class_direction (get_or cs (n - 1) c) ≡ None → last_direction before (take (n - 1) cs)
    ≡ last_direction before (take n cs)
last_direction_none before cs n c some within is =
    let up : n ≡ (n - 1) + 1 = omega arith in
    sym (ap (λ m. last_direction before (take m cs)) up ∙ last_direction-take before cs (n - 1) c (omega arith)
    ∙ ap (λ o. direction_or o (last_direction before (take (n - 1) cs))) is)
