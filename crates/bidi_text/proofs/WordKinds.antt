-- The kind of a word, by its first strong character.
use Rattle.std.proofs.Common.{◌≡◌, ℕ, Bool, true, false, ◌||◌, ◌⊎◌, inl, inr, List, [], ◌∷◌, Option, Some, is_some, map}
use Rattle.std.proofs.Common.{find, cond, refl, arith}
use Rattle.std.specs.List.{list_any}
use Rattle.std.specs.Option.{option_map_or}
use Rattle.std.specs.Char.{is_ascii_digit}
use Rattle.bidi_class.specs.declared.class.Class.{Class}
use Rattle.bidi_class.specs.declared.class.Class.TheVariants.{L, R, AL}
use Rattle.bidi_class.specs.Class.{bidi_class}
use Rattle.bidi_text.specs.Estimate.{first_strong, is_address, is_left_to_right, is_right_to_left, is_strong, word_kind}
use Rattle.bidi_text.specs.Estimate.WordKind.{RightToLeft, LeftToRight, Weak, Neutral}

-- a class leads to the right, to the left, or nowhere
strong_cases : (k : Class)
    → ((is_strong k ≡ true) × (is_right_to_left k ≡ true)) ⊎
    (((is_strong k ≡ true) × (is_left_to_right k ≡ true)) ⊎ ((is_strong k ≡ false) × (is_left_to_right k ≡ false)))
strong_cases L = inr (inl (refl, refl))
strong_cases R = inl (refl, refl)
strong_cases AL = inl (refl, refl)
strong_cases _ = inr (inr (refl, refl))

-- one more character before a word
left_to_right_step : (k : Class) (later : Option Class) (rest : Bool)
    → (option_map_or is_right_to_left later false ≡ false → rest ≡ is_some later)
    → option_map_or is_right_to_left (cond (is_strong k) (Some k) later) false ≡ false → (is_left_to_right k || rest)
    ≡ is_some (cond (is_strong k) (Some k) later)
left_to_right_step k later rest same h =
    elim (strong_cases k) [
      | inl rtl ↦ grind (arith, rtl.0, rtl.1, h)
      | inr others ↦ elim others [
        | inl ltr ↦ grind (arith, ltr.0, ltr.1)
        | inr neither ↦ grind (arith, neither.0, neither.1, h, same)
      ]
    ]

-- where the first strong character is not from right to left, there is one from left to right exactly where there is a
-- strong one
pub left_to_right-is_some : (word : List ℕ)
    → option_map_or is_right_to_left (find is_strong (map bidi_class word)) false ≡ false
    → list_any (λ c. is_left_to_right (bidi_class c)) word ≡ is_some (find is_strong (map bidi_class word))
left_to_right-is_some [] h = refl
left_to_right-is_some (c ∷ cs) h = left_to_right_step (bidi_class c) (find is_strong (map bidi_class cs)) _
    (left_to_right-is_some cs) h

-- without a character a word says nothing
pub kind-nothing : word_kind [] ≡ Neutral
unfolding word_kind first_strong is_address
kind-nothing = refl

-- the rules of the kinds, each where the rules before it fail
pub kind-right_to_left : (word : List ℕ) → option_map_or is_right_to_left (first_strong word) false ≡ true
    → word_kind word ≡ RightToLeft
unfolding word_kind
kind-right_to_left word rtl = grind (arith, rtl)

pub kind-address : (word : List ℕ) → option_map_or is_right_to_left (first_strong word) false ≡ false
    → is_address word ≡ true → word_kind word ≡ Weak
unfolding word_kind
kind-address word rtl address = grind (arith, rtl, address)

pub kind-left_to_right : (word : List ℕ) → option_map_or is_right_to_left (first_strong word) false ≡ false
    → is_address word ≡ false → is_some (first_strong word) ≡ true
    → word_kind word ≡ LeftToRight
unfolding word_kind first_strong
kind-left_to_right word rtl address strong = let ltr = left_to_right-is_some word rtl in
    grind (arith, rtl, address, strong, ltr)

pub kind-digit : (word : List ℕ) → option_map_or is_right_to_left (first_strong word) false ≡ false
    → is_address word ≡ false → is_some (first_strong word) ≡ false
    → list_any is_ascii_digit word ≡ true → word_kind word ≡ Weak
unfolding word_kind first_strong
kind-digit word rtl address strong digit = let ltr = left_to_right-is_some word rtl in
    grind (arith, rtl, address, strong, ltr, digit)

pub kind-neutral : (word : List ℕ) → option_map_or is_right_to_left (first_strong word) false ≡ false
    → is_address word ≡ false → is_some (first_strong word) ≡ false
    → list_any is_ascii_digit word ≡ false → word_kind word ≡ Neutral
unfolding word_kind first_strong
kind-neutral word rtl address strong digit = let ltr = left_to_right-is_some word rtl in
    grind (arith, rtl, address, strong, ltr, digit)

pub ruleset kinds = (kind-right_to_left, kind-address, kind-left_to_right, kind-digit, kind-neutral)
