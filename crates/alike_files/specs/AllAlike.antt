-- Lists of trees that are alike one by one: as many, and each differs from the one of its number in spans alone.
-- Example: a tree that prints `$x` at offset 9 is alike to one that prints it at 12, and to none that prints `$y`.
use Rattle.std.specs.Prelude.{List, [], ◌∷◌}
use Rattle.soy_tree.specs.Trees.{Tree}
use Rattle.soy_format.specs.WithoutSpans.{AreAlike}

abbrev pub AllAlike : List Tree → List Tree → Type 0
AllAlike [] [] = Unit {0}
AllAlike (tree ∷ trees) (other ∷ others) = AreAlike tree other × AllAlike trees others
AllAlike _ _ = ⊥
