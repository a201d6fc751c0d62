-- What the table of classes says of a character of which only a run of code points is known.
use Rattle.std.proofs.Common.{◌≡◌, ℕ, ◌-◌, ◌≤◌, Bool, true, false, ◌&&◌, ◌||◌, nat_lt, nat_le, List, [], ◌∷◌}
use Rattle.std.proofs.Common.{if◌then◌else◌, refl, ◌∙◌, ap, arith, inl, inr}
use Rattle.std.specs.List.{list_any, list_all}
use Rattle.std.proofs.lemmas.Bool.{cond-true, cond-false, cond_both, leb-true, ltb-true, ltb-false, le-leb, lt-leb}
use Rattle.std.proofs.lemmas.Bool.{and_from, and_parts, and_left, and_right, or_cases, or_from, or_left, or_right}
use Rattle.ucd_category.specs.GeneralCategory.{general_category}
use Rattle.bidi_class.specs.declared.class.Class.{Class}
use Rattle.bidi_class.specs.declared.class.Class.TheVariants.{ON}
use Rattle.bidi_class.specs.Class.{Characters, first_class, is_in, is_one_of}
use Rattle.bidi_class.specs.Class.Characters.{Points, Categories}

-- some range holds the whole run
abbrev pub has_all : ℕ → ℕ → List (ℕ × ℕ) → Bool
has_all low high ranges = list_any (λ range. nat_le range.0 low && nat_le high range.1) ranges

-- no range holds a code point of the run
abbrev pub has_none : ℕ → ℕ → List (ℕ × ℕ) → Bool
has_none low high ranges = list_all (λ range. nat_lt range.1 low || nat_lt high range.0) ranges

-- the class that the rows give a character of a run, where rows of code points are left out if the run decides them
abbrev pub class_in_run : ℕ → ℕ → List (Class × Characters) → ℕ → Class
class_in_run low high [] c = ON
class_in_run low high ((class, Points ranges) ∷ rows) c =
    if has_all low high ranges then class
    else if has_none low high ranges then class_in_run low high rows c
    else first_class ((class, Points ranges) ∷ rows) c
class_in_run low high ((class, Categories categories) ∷ rows) c =
    if is_one_of (general_category c) categories then class else class_in_run low high rows c

-- where a range holds the run, it holds each of its code points
is_in_all : (low high c : ℕ) (ranges : List (ℕ × ℕ)) → low ≤ c → c ≤ high → has_all low high ranges ≡ true
    → list_any (is_in c) ranges ≡ true
is_in_all low high c [] above below h = h
is_in_all low high c (range ∷ ranges) above below h =
    elim (or_cases (nat_le range.0 low && nat_le high range.1) (has_all low high ranges) h) [
      | inl here ↦
          let parts = and_parts (nat_le range.0 low) (nat_le high range.1) here in
          or_left _ _ (and_from _ _ (le-leb range.0 c (omega (arith, leb-true range.0 low parts.0)))
          (le-leb c range.1 (omega (arith, leb-true high range.1 parts.1))))
      | inr there ↦ or_right _ _ (is_in_all low high c ranges above below there)
    ]

-- where no range holds a code point of the run, none holds this one
is_in_none : (low high c : ℕ) (ranges : List (ℕ × ℕ)) → low ≤ c → c ≤ high → has_none low high ranges ≡ true
    → list_any (is_in c) ranges ≡ false
is_in_none low high c [] above below h = refl
is_in_none low high c (range ∷ ranges) above below h =
    let parts = and_parts (nat_lt range.1 low || nat_lt high range.0) (has_none low high ranges) h in
    or_from _ _
    (elim (or_cases (nat_lt range.1 low) (nat_lt high range.0) parts.0) [
      | inl before ↦ and_right _ _ (lt-leb c range.1 (omega (arith, ltb-true range.1 low before)))
      | inr after ↦ and_left _ _ (lt-leb range.0 c (omega (arith, ltb-true high range.0 after)))
    ])
    (is_in_none low high c ranges above below parts.1)

-- a choice by a test that is settled where one of two others holds
chosen : {V : Type 0} (test all none : Bool) (x y z : V) → (all ≡ true → test ≡ true) → (none ≡ true → test ≡ false)
    → y ≡ z
    → (if test then x else y) ≡ (if all then x else (if none then z else (if test then x else y)))
chosen test true none x y z is_all is_none e = cond-true _ _ _ (is_all refl)
chosen test false true x y z is_all is_none e = cond-false _ _ _ (is_none refl) ∙ e
chosen test false false x y z is_all is_none e = refl

-- a run's code points are classed as by all rows
pub first_class-class_in_run : (low high : ℕ) (rows : List (Class × Characters)) (c : ℕ) → low ≤ c → c ≤ high
    → first_class rows c ≡ class_in_run low high rows c
first_class-class_in_run low high [] c above below = refl
first_class-class_in_run low high ((class, Points ranges) ∷ rows) c above below =
    chosen (list_any (is_in c) ranges) (has_all low high ranges) (has_none low high ranges) class (first_class rows c)
    (class_in_run low high rows c)
    (is_in_all low high c ranges above below) (is_in_none low high c ranges above below)
    (first_class-class_in_run low high rows c above below)
first_class-class_in_run low high ((class, Categories categories) ∷ rows) c above below =
    ap (λ rest. if is_one_of (general_category c) categories then class else rest)
    (first_class-class_in_run low high rows c above below)

-- the class of a character, by the first of the runs that ends past it; each run begins where the one before it ends
abbrev pub class_by_runs : List (Class × Characters) → ℕ → List ℕ → ℕ → Class
class_by_runs rows low [] c = first_class rows c
class_by_runs rows low (end ∷ ends) c = if nat_lt c end then class_in_run low (end - 1) rows c
    else class_by_runs rows end ends c

pub first_class-class_by_runs : (rows : List (Class × Characters)) (low : ℕ) (ends : List ℕ) (c : ℕ) → low ≤ c
    → first_class rows c ≡ class_by_runs rows low ends c
first_class-class_by_runs rows low [] c above = refl
first_class-class_by_runs rows low (end ∷ ends) c above =
    cond_both (nat_lt c end) (class_in_run low (end - 1) rows c) (class_by_runs rows end ends c)
    (λ class. first_class rows c ≡ class)
    (λ before. first_class-class_in_run low (end - 1) rows c above (omega (arith, ltb-true c end before)))
    (λ after. first_class-class_by_runs rows end ends c (ltb-false c end after))
