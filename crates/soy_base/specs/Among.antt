-- What stands among others, and what stands nowhere in a text.
--
-- Example: `<` is among the characters `<>`; the text `a>b` doesn't lack them; the part `*/` stands nowhere in `* /`.
use Rattle.std.specs.Prelude.{ℕ, List, ◌++◌, ◌==◌, ◌≢◌, Bool, not}
use Rattle.std.specs.List.{list_all, list_any}
use Rattle.std.specs.Str.{bytes_eq}

-- whether the character is one of these
abbrev pub is_one_of : List ℕ → ℕ → Bool
is_one_of these c = list_any (λ d. c == d) these

-- whether none of these characters is in the text
abbrev pub lacks : List ℕ → List ℕ → Bool
lacks these text = list_all (λ c. not (is_one_of these c)) text

-- whether the text is one of these
abbrev pub is_among : List (List ℕ) → List ℕ → Bool
is_among these text = list_any (bytes_eq text) these

-- the part stands nowhere in the text
abbrev pub HasNone : List ℕ → List ℕ → Type 0
HasNone part text = (before after : List ℕ) → text ≢ before ++ part ++ after
