-- The base names of a message in order of first appearance, the contents of each, and the names of these: what the code
-- keeps, so that a name is found without a walk over the uses.
-- Example: of `{$a.name}{$b.name}{$n}` the base names are NAME with two contents, NAME_1 and NAME_2, and N with one, N.
use Rattle.std.specs.Prelude.{◌≡◌, ℕ, zero, suc, ◌+◌, not, Bool, true, false, List, [], ◌∷◌, ◌++◌, length, Option, Some}
use Rattle.std.specs.Prelude.{◌==◌, None, if◌then◌else◌, bytes_eq, slice_get}
use Rattle.std.specs.List.{position, position_or_len}
use Rattle.std.specs.Option.{option_and_then}
use Rattle.soy_base.specs.Among.{is_among}
use Rattle.soy_tree.specs.Types.{Name}
use Rattle.soy_rules.specs.Placeholders.{Content, Use, is_same_content, numbered_name, with_content}
use Rattle.msg_extract.specs.Catalogue.{with_name}
use Rattle.msg_extract.specs.Canonical.Pieces.{Piece, TextPiece, UsePiece}

-- the base names of uses, each once, in order of first appearance, after some
abbrev pub bases_after : List Name → List Use → List Name
bases_after bases [] = bases
bases_after bases (u ∷ uses) = bases_after (with_name bases u.base) uses

-- groups, with an empty one where the base name is a new one
abbrev pub with_group : Bool → List (List Content) → List (List Content)
with_group is_new groups = if is_new then groups ++ [] ∷ [] else groups

-- groups, with a content in that of a number
abbrev pub with_content_at : ℕ → Content → List (List Content) → List (List Content)
with_content_at n content [] = []
with_content_at zero content (g ∷ gs) = with_content g content ∷ gs
with_content_at (suc n) content (g ∷ gs) = g ∷ with_content_at n content gs

-- the groups of base names, with a content of a base name
abbrev pub with_use : List Name → List (List Content) → Name → Content → List (List Content)
with_use bases groups base content =
    with_content_at (position_or_len (bytes_eq base) bases) content (with_group (not (is_among bases base)) groups)

-- the contents of the base names of uses, after some
abbrev pub groups_after : List Name → List (List Content) → List Use → List (List Content)
groups_after bases groups [] = groups
groups_after bases groups (u ∷ uses) =
    groups_after (with_name bases u.base) (with_use bases groups u.base u.content) uses

-- the same piece by piece
abbrev pub bases_step : List Name → Piece → List Name
bases_step bases (TextPiece text) = bases
bases_step bases (UsePiece u) = with_name bases u.base

abbrev pub groups_step : List Name → List (List Content) → Piece → List (List Content)
groups_step bases groups (TextPiece text) = groups
groups_step bases groups (UsePiece u) = with_use bases groups u.base u.content

-- whether a piece is the use of a name
abbrev pub is_use : Piece → Bool
is_use (TextPiece text) = false
is_use (UsePiece u) = true

-- the first number from n on that makes none of these base names, after so many tries at most
abbrev pub free_among : ℕ → List Name → Name → ℕ → ℕ
free_among zero bases base n = n
free_among (suc tries) bases base n =
    if is_among bases (numbered_name base n) then free_among tries bases base (n + 1) else n

-- the names of the contents of a base name, numbered from n on
abbrev pub names_from : ℕ → List Name → Name → ℕ → List Content → List Name
names_from tries bases base n [] = []
names_from tries bases base n (content ∷ contents) =
    let free : ℕ = free_among tries bases base n in
    numbered_name base free ∷ names_from tries bases base (free + 1) contents

abbrev pub content_names : ℕ → List Name → Name → List Content → List Name
content_names tries bases base (content ∷ []) = base ∷ []
content_names tries bases base contents = names_from tries bases base 1 contents

-- the names of groups of some of the base names
abbrev pub group_names : ℕ → List Name → List Name → List (List Content) → List (List Name)
group_names tries bases [] groups = []
group_names tries bases (b ∷ bs) [] = []
group_names tries bases (b ∷ bs) (g ∷ gs) = content_names tries bases b g ∷ group_names tries bases bs gs

-- what is kept of uses
pub record AreNames (uses : List Use) (bases : List Name) (groups : List (List Content)) (names : List (List Name))
    : Type 0 where
  pub bases_are : bases ≡ bases_after [] uses
  pub groups_are : groups ≡ groups_after [] [] uses
  pub names_are : names ≡ group_names (length uses) bases bases groups

-- the contents of a base name, if it is there, and whether they are a single one
abbrev pub group_found : List Name → List (List Content) → Name → Option (List Content)
group_found bases groups base = option_and_then (λ n. slice_get groups n) (position (bytes_eq base) bases)

abbrev pub is_single : Option (List Content) → Bool
is_single None = false
is_single (Some group) = length group == 1

-- the name of a content in a group of contents and their names
abbrev pub name_in : List Content → List Name → Content → Option Name
name_in group names content = option_and_then (λ n. slice_get names n) (position (is_same_content content) group)

abbrev pub name_at : List (List Content) → List (List Name) → Content → ℕ → Option Name
name_at groups names content n =
    option_and_then (λ group. option_and_then (λ found. name_in group found content) (slice_get names n))
    (slice_get groups n)

-- the name of a content of a base name, if both are there
abbrev pub found_name : List Name → List (List Content) → List (List Name) → Name → Content → Option Name
found_name bases groups names base content =
    option_and_then (λ n. name_at groups names content n) (position (bytes_eq base) bases)
