-- The holes of a plan in the order in which the walk first meets them.
--
-- Example: in `Then (Hole ..) (Loop at (Hole ..))` the hole of the loop's body has one hole before it.
use Rattle.std.specs.Prelude.{ℕ, ◌+◌}
use Rattle.soy_meaning.specs.Paths.Plan.{Plan, Hole, Then, Either, Meet, Loop, Frame}
use Rattle.soy_meaning.specs.Walks.Points.{Address, Left, Right, Inside}

-- how many holes a plan has, those of the frames within among them
abbrev pub hole_count : Plan → ℕ
hole_count (Hole at classes) = 1
hole_count (Then p q) = hole_count p + hole_count q
hole_count (Either p q) = hole_count p + hole_count q
hole_count (Meet at p) = hole_count p
hole_count (Loop at p) = hole_count p
hole_count (Frame kind at p) = hole_count p
hole_count _ = 0

-- how many holes stand before a point, or before a frame
abbrev pub holes_before : Plan → Address → ℕ
holes_before (Then p q) (Left x) = holes_before p x
holes_before (Then p q) (Right x) = hole_count p + holes_before q x
holes_before (Either p q) (Left x) = holes_before p x
holes_before (Either p q) (Right x) = hole_count p + holes_before q x
holes_before (Meet at p) (Inside x) = holes_before p x
holes_before (Loop at p) (Inside x) = holes_before p x
holes_before (Frame kind at p) (Inside x) = holes_before p x
holes_before _ _ = 0
