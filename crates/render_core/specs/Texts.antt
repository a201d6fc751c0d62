-- Texts that are being gathered, one in another, the innermost first.
use Rattle.std.specs.Prelude.{◌≡◌, ℕ, Bool, true, false, List, [], ◌∷◌, ◌++◌, Option, Some, None, reverse}

-- the innermost and those around it, the outermost first
abbrev pub texts_of : Option (List ℕ) → List (List ℕ) → List (List ℕ)
texts_of None outer = []
texts_of (Some text) outer = text ∷ reverse outer

-- where there is no text, there are none around it
abbrev pub NoneAround : Option (List ℕ) → List (List ℕ) → Type 0
NoneAround None outer = outer ≡ []
NoneAround (Some text) outer = Unit {0}

abbrev pub is_none : List (List ℕ) → Bool
is_none [] = true
is_none (text ∷ texts) = false

-- what is added goes to the innermost
abbrev pub added : List (List ℕ) → List ℕ → List (List ℕ)
added [] more = []
added (text ∷ texts) more = (text ++ more) ∷ texts

abbrev pub innermost : List (List ℕ) → List ℕ
innermost [] = []
innermost (text ∷ texts) = text

abbrev pub past_innermost : List (List ℕ) → List (List ℕ)
past_innermost [] = []
past_innermost (text ∷ texts) = texts
