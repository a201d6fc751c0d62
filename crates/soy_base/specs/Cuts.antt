-- Where a text is cut: after a prefix, around the first delimiter in it, and where its characters stop passing a test.
--
-- Example: `a*/b*/` cut around `*/` is `a` and `b*/`; the longest prefix of letters of `ab1.` is `ab`, and `1.`
-- follows.
use Rattle.std.specs.Prelude.{◌≡◌, ℕ, List, [], ◌∷◌, Bool, true, false, ◌==◌, if◌then◌else◌}
use Rattle.std.specs.Prelude.{Option, None, Some, option_map}
use Rattle.std.specs.Option.{option_or}

-- whether a text has no characters
abbrev pub is_nil : List ℕ → Bool
is_nil [] = true
is_nil (c ∷ cs) = false

-- what follows a prefix, if the text begins with it
abbrev pub after_prefix : List ℕ → List ℕ → Option (List ℕ)
after_prefix [] text = Some text
after_prefix (p ∷ ps) [] = None
after_prefix (p ∷ ps) (c ∷ cs) = if p == c then after_prefix ps cs else None

-- what stands before the first delimiter in a text and what follows it, if there is one
abbrev pub cut : List ℕ → List ℕ → Option (List ℕ × List ℕ)
cut delimiter [] = None
cut delimiter (c ∷ cs) =
    option_or
    (option_map (λ rest. ([], rest)) (after_prefix delimiter (c ∷ cs)))
    (option_map (λ parts. (c ∷ parts.0, parts.1)) (cut delimiter cs))

-- what a call answers of a character is what the test gives
abbrev pub Answers : (ℕ → Bool → Type 0) → (ℕ → Bool) → Type 0
Answers post test = (c : ℕ) (answer : Bool) → post c answer → answer ≡ test c

-- the longest prefix of characters that pass a test
abbrev pub prefix_while : (ℕ → Bool) → List ℕ → List ℕ
prefix_while passes [] = []
prefix_while passes (c ∷ cs) = if passes c then c ∷ prefix_while passes cs else []

-- and what follows it
abbrev pub after_while : (ℕ → Bool) → List ℕ → List ℕ
after_while passes [] = []
after_while passes (c ∷ cs) = if passes c then after_while passes cs else c ∷ cs
