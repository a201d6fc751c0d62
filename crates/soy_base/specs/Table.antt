-- A list whose items are made in order, each from those before it.
--
-- Example: the table of `λ before x. length before + x` over 5, 5 and 5 is 5, 6 and 7.
use Rattle.std.specs.Prelude.{List, [], ◌∷◌, ◌++◌}

-- one for each of the list, made from `before` and from those made so far
abbrev pub table_from : {A B : Type 0} → (List B → A → B) → List B → List A → List B
table_from f before [] = []
table_from f before (x ∷ xs) = f before x ∷ table_from f (before ++ (f before x ∷ [])) xs

abbrev pub table : {A B : Type 0} → (List B → A → B) → List A → List B
table f xs = table_from f [] xs
