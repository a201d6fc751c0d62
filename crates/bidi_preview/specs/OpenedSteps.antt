-- What the code keeps of the open elements: what a line in them begins with, the directions of the blocks that have
-- one, and how many elements have each name.
use Rattle.std.specs.Prelude.{◌≡◌, ℕ, Bool, List, [], ◌∷◌, ◌++◌, drop, Option, Some, None, MatchOption}
use Rattle.std.specs.List.{flat_map}
use Rattle.bidi_order.specs.Elements.{OpenElement, elements_closed, elements_left}
use Rattle.bidi_order.specs.Lines.{block_direction, element_end, line_start}
use Rattle.bidi_order.specs.WithinLimit.{line_characters}
use Rattle.bidi_preview.specs.NameCounts.{HasCounts}
use Rattle.bidi_preview.specs.PageSteps.{names_of}
use Rattle.bidi_preview.specs.declared.opened.Around.{Around}

-- a direction before others, if there is one
abbrev pub side_before : Option Bool → List Bool → List Bool
side_before None sides = sides
side_before (Some side) sides = side ∷ sides

-- directions without the first, if it was put there
abbrev pub sides_after : Option Bool → List Bool → List Bool
sides_after None sides = sides
sides_after (Some side) sides = drop 1 sides

-- the directions of the blocks that have one, innermost first
abbrev pub block_sides : List OpenElement → List Bool
block_sides [] = []
block_sides (e ∷ es) = side_before (block_direction e) (block_sides es)

-- this is kept of these elements
pub record StandsAround (es : List OpenElement) (around : Around) : Type 0 where
  pub start : around.start.items ≡ line_characters (line_start es)
  pub sides : around.sides ≡ block_sides es
  pub names : HasCounts around.names.counts (names_of es)

-- after an end tag: the elements that are left, and the line with what stands for the closes of the others
abbrev pub Closes : List ℕ → List OpenElement → List OpenElement → List ℕ → List ℕ → Type 0
Closes name before after line now = MatchOption (elements_left name before)
    ((after ≡ before) × (now ≡ line))
    (λ left. (after ≡ left)
    × (now ≡ line ++ line_characters (flat_map element_end (elements_closed name before))))
