-- How brackets and neutrals are resolved in place (UAX #9, N0 to N2): the characters of a sequence as two lists, and
-- the pairs of brackets by the index of the opening one, so that they stand in order.
--
-- Of `(`, `a`, `)` the partners are 2, none, none, and the one pair listed is (0, 2).
use Rattle.std.specs.Prelude.{◌≡◌, ◌<◌, ◌≤◌, ℕ, zero, suc, Bool, true, false, List, [], ◌∷◌, ◌++◌, drop, take}
use Rattle.std.specs.Prelude.{slice_index_or, Option, Some, None}
use Rattle.bidi_class.specs.declared.class.Class.{Class}
use Rattle.bidi_class.specs.declared.brackets.Bracket.{Bracket}
use Rattle.bidi_order.specs.Explicit.{SequenceCharacter}
use Rattle.bidi_order.specs.Resolve.{between, bracket_pairs_from, n1, neutral_bracket, next_direction, pairs_in_order}

-- a sequence, by its classes and brackets
abbrev pub characters_of : List Class → List (Option Bracket) → List SequenceCharacter
characters_of [] brackets = []
characters_of (c ∷ cs) [] = []
characters_of (c ∷ cs) (b ∷ brackets) = record { class = c; bracket = b } ∷ characters_of cs brackets

-- the brackets that count
abbrev pub counting_brackets : List Class → List (Option Bracket) → List (Option Bracket)
counting_brackets [] brackets = []
counting_brackets (c ∷ cs) [] = []
counting_brackets (c ∷ cs) (b ∷ brackets) = neutral_bracket c b ∷ counting_brackets cs brackets

-- the pairs, by the index of the closing bracket at that of the opening one
abbrev pub listed_pairs : ℕ → List (Option ℕ) → List (ℕ × ℕ)
listed_pairs i [] = []
listed_pairs i (None ∷ partners) = listed_pairs (suc i) partners
listed_pairs i (Some last ∷ partners) = (i, last) ∷ listed_pairs (suc i) partners

-- the classes from one index up to another are set
abbrev pub filled : Class → ℕ → ℕ → List Class → List Class
filled c start zero cs = cs
filled c start (suc end) [] = []
filled c zero (suc end) (x ∷ cs) = c ∷ filled c zero end cs
filled c (suc start) (suc end) (x ∷ cs) = x ∷ filled c start end cs

-- the open brackets stand in the order of their indexes, below a bound, and none has a partner
abbrev pub AreOpen : List (Option ℕ) → ℕ → List (ℕ × ℕ) → Type 0
AreOpen partners bound [] = Unit {0}
AreOpen partners bound (o ∷ opened) =
    (o.1 < bound) × ((slice_index_or partners o.1 None ≡ None) × AreOpen partners o.1 opened)

pub record PairsSoFar (brackets : List (Option Bracket)) (i : ℕ) (opened : List (ℕ × ℕ)) (partners : List (Option ℕ)) :
    Type 0 where
  pub done : List (ℕ × ℕ)
  pub found : bracket_pairs_from 0 [] brackets ≡ done ++ bracket_pairs_from i opened (drop i brackets)
  pub listed : pairs_in_order done ≡ listed_pairs 0 partners
  pub are_open : AreOpen partners i opened
  pub fresh : (k : ℕ) → i ≤ k → slice_index_or partners k None ≡ None

-- the search for pairs goes on at the next index, or has ended
abbrev pub SearchGoesOn : Bool → List (Option Bracket) → ℕ → List (ℕ × ℕ) → List (Option ℕ) → Type 0
SearchGoesOn true brackets i opened partners = PairsSoFar brackets i opened partners
SearchGoesOn false brackets i opened partners =
    listed_pairs 0 partners ≡ pairs_in_order (bracket_pairs_from 0 [] brackets)

-- N1, N2: the classes so far, where the neutrals since an index, after the last direction, take that of what follows
abbrev pub neutrals_so_far : Bool → Bool → Bool → ℕ → ℕ → List Class → List Class
neutrals_so_far own eos before start i cs =
    take i (filled (between own before (next_direction eos (drop i cs))) start i cs) ++ n1 own before eos (drop i cs)
