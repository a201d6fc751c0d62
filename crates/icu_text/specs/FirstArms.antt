-- The arms that a plural or select keeps: the first of each key, in order.
-- Example: of `=1 {a} =01 {b} other {c}` the arm for 1 holds `a`, and the one for other `c`.
use Rattle.std.specs.Prelude.{◌≡◌, ℕ, ℤ, Bool, String, List, [], ◌∷◌, ◌++◌, map, if◌then◌else◌, bytes_eq}
use Rattle.std.specs.List.{list_any}
use Rattle.std.specs.Ordering.{int_cmp}
use Rattle.std.specs.Str.{chars}
use Rattle.std.specs.String.{string_bytes, string_cmp}
use Rattle.std.specs.BTreeSet as set
use Rattle.std.specs.BTreeSet.{BTreeSet}
use Rattle.plural_rules.specs.declared.category.Category.{Category}
use Rattle.plural_rules.specs.Category.{is_same}
use Rattle.soy_tree.specs.MessageParts.{MsgParts}
use Rattle.soy_rules.specs.IcuText.{is_int_among}

abbrev pub has_category : Category → List (Category × MsgParts) → Bool
has_category category arms = list_any (λ arm. is_same category arm.0) arms

abbrev pub has_word : List ℕ → List (List ℕ × MsgParts) → Bool
has_word word arms = list_any (λ arm. bytes_eq arm.0 word) arms

-- an arm more, if none is there for its key
abbrev pub with_exact : List (ℤ × MsgParts) → ℤ → MsgParts → List (ℤ × MsgParts)
with_exact arms n ps = if is_int_among n (map (λ arm. arm.0) arms) then arms else arms ++ (n, ps) ∷ []

abbrev pub with_named : List (Category × MsgParts) → Category → MsgParts → List (Category × MsgParts)
with_named arms category ps = if has_category category arms then arms else arms ++ (category, ps) ∷ []

abbrev pub with_select : List (List ℕ × MsgParts) → List ℕ → MsgParts → List (List ℕ × MsgParts)
with_select arms word ps = if has_word word arms then arms else arms ++ (word, ps) ∷ []

-- a set has the numbers of arms, or their words
abbrev pub HasNumbers : BTreeSet ℤ → List (ℤ × MsgParts) → Type 0
HasNumbers numbers arms = (n : ℤ) → set.contains int_cmp numbers n ≡ is_int_among n (map (λ arm. arm.0) arms)

abbrev pub HasWords : {Z : Type 0} → BTreeSet (String Z) → List (List ℕ × MsgParts) → Type 0
HasWords {Z = Z} words arms =
    (word : String Z) → set.contains string_cmp words word ≡ has_word (chars (string_bytes word)) arms
